-- Worked examples of what is counted along a run: a loop of main opens, and one credit is taken. And the unfolded run of
-- the run without events.
use Rattle.std.proofs.Common.{◌≡◌, refl, ℕ, zero, suc, ◌+◌, ◌≤◌, pos, ap, sym, List, [], ◌∷◌, Some, None, inl, inr, arith}
use Rattle.std.proofs.lemmas.List.Sorted.{IsPermutation-refl}
use Rattle.std.proofs.lemmas.List.Elements.{All-nil, All-cons}
use Rattle.tags.specs.declared.value.Value.TheVariants.{Int}
use Rattle.tags.specs.declared.token.Port.TheVariants.{Left}
use Rattle.tags.specs.declared.token.Cont.{Cont}
use Rattle.tags.specs.declared.token.Word.{Word}
use Rattle.tags.specs.declared.token.To.{To}
use Rattle.tags.specs.declared.token.Token.{Token}
use Rattle.tags.specs.declared.slot.SlotState.TheVariants.{Credits}
use Rattle.semantics.specs.declared.program.Op.TheVariants.{Copy, Open, Take}
use Rattle.semantics.specs.Program.{Program}
use Rattle.semantics.specs.Plan.{Plan}
use Rattle.semantics.specs.Rule.{token, signal}
use Rattle.semantics.specs.Machine.{Machine, Size, Event, Events, Run, at_start, with_slot}
use Rattle.semantics.specs.Handed.{handed, EachOnce, Tenure, NoRelease}
use Rattle.semantics.specs.Placed.{placed}
use Rattle.semantics.specs.Unfolded.{use_of, Unfolds, HasUnfolded}
use Rattle.semantics.specs.Holders.{Holder, holds}
use Rattle.semantics.specs.Credits.{granted, released}
use Rattle.semantics.proofs.Emulator.{instr, left, none, one_block}

-- The continuation is copied to an `open` and to a `take`, which has the host as the one that asks.
abbrev code : Program
code = one_block 1 1 1 (instr Copy 0 (left 2) (left 3) ∷ instr Copy 0 none none ∷ instr (Open 2) 0 none none ∷ instr (Take 2) 0 none none ∷ [])

abbrev plan : Plan
plan = record { program = code; plain = 1; marks = [] }

abbrev loop : Holder
loop = record { block = 0; number = 0 }

abbrev size : Size
size = record { elements = 1; frames = 2 }

abbrev begun : Machine
begun = at_start code (pos 4 ∷ [])

abbrev input : Token
input = token (To.Instr 0 1 Left) (Word.Val (Int (pos 4)))

abbrev asks : ℕ → Token
asks ip = token (To.Instr 0 ip Left) (Word.Back (Cont.Host 0))

abbrev copied : Machine
copied = record { store = begun.store; pool = asks 2 ∷ asks 3 ∷ input ∷ [] }

abbrev opened : Machine
opened = record { store = with_slot begun.store 0 0 (Credits 1); pool = asks 3 ∷ input ∷ [] }

abbrev taken : Machine
taken = record { store = with_slot opened.store 0 0 (Credits 0); pool = token (To.Host 0) signal ∷ input ∷ [] }

-- the continuation goes to both
copies : Event code size 0 (asks 0) begun copied
copies = record {
  made = asks 2 ∷ asks 3 ∷ [];
  rest = input ∷ [];
  addressed = refl;
  takes = IsPermutation-refl _;
  happens = (refl, refl);
  leaves =
      IsPermutation-refl _;
}

-- the loop opens, with one credit left
opens : Event code size 0 (asks 2) copied opened
opens = record { made = []; rest = asks 3 ∷ input ∷ []; addressed = refl; takes = IsPermutation-refl _; happens = (refl, refl); leaves = IsPermutation-refl _ }

-- the credit is taken, and the host gets the signal
takes_one : Event code size 0 (asks 3) opened taken
takes_one = record {
  made = token (To.Host 0) signal ∷ [];
  rest = input ∷ [];
  addressed = refl;
  takes = IsPermutation-refl _;
  happens = (refl, refl);
  leaves = IsPermutation-refl _;
}

abbrev events : Events
events = (0, asks 0) ∷ (0, asks 2) ∷ (0, asks 3) ∷ []

abbrev run : Run code size begun events taken
run = (copied, copies, (opened, opens, (taken, takes_one, (IsPermutation-refl _, refl))))

-- one credit is granted by the `open`, and one by the `take`; no iteration was released
two_granted : granted plan code 0 loop size begun events taken run ≡ 2
two_granted = refl

-- no `release` fired
none_released : released code 0 3 size begun events taken run ≡ 0
none_released = refl

-- the loop holds the slot, and no frame was handed out
held_by_loop : holds plan code 0 0 None size begun events taken run ≡ Some loop
held_by_loop = refl

-- no request was made
none_handed : handed code size begun events taken run ≡ []
none_handed = refl

-- No release was taken: so all of it is the first tenure of main's frame, and the loop has its bound of 2 and not more.
abbrev IsNone : ℕ × Token → Type 0
IsNone ev = ev.1.to ≡ To.Release 0 → ⊥

-- none of the three tokens is a release
no_release : NoRelease 0 events
no_release =
    All-cons IsNone (0, asks 0) ((0, asks 2) ∷ (0, asks 3) ∷ []) (λ e. cc) (All-cons IsNone (0, asks 2) ((0, asks 3) ∷ []) (λ e. cc)
    (All-cons IsNone (0, asks 3) [] (λ e. cc) (All-nil IsNone)))

-- it begins at the start
tenure : Tenure code size (pos 4 ∷ []) 0 taken
tenure = record { first = begun; just_out = inl (refl, refl); part = events; run = run; stays = no_release }

-- two credits, and the bound is 2
at_most_the_bound : granted plan code 0 loop size begun events taken run ≤ released code 0 3 size begun events taken run + 2
at_most_the_bound = omega arith

-- UNFOLDING. The run without events, over the slots of the plan, is its own unfolded run.
abbrev slots : List (List ℕ)
slots = (0 ∷ []) ∷ []

-- the first use of a frame has its own number
same_use : (g : ℕ) → use_of 2 (λ f. 0) g ≡ g
same_use g = omega arith

-- at the start nothing is renamed, and each slot is empty
unfolds_at_start : Unfolds 2 slots begun begun
unfolds_at_start = record {
  gen = λ g. 0;
  block = λ g. 0;
  tokens = IsPermutation-refl _;
  none_waits = refl;
  cells = λ x. refl;
  out = λ g. ap begun.store.out (same_use g);
  same = (refl, refl);
  others = λ f. inr (f, sym (same_use f));
  held = λ g s not_empty. absurd (not_empty refl);
  shown = λ g h not_empty. absurd (not_empty refl);
  alone = λ g s h k a b not_empty other. absurd (not_empty refl);
}

-- main's frame is the only one
main_once : EachOnce (0 ∷ [])
main_once zero zero f e g = refl
main_once zero (suc j) f e g = cc
main_once (suc i) j f e g = cc

-- so the run without events is unfolded
empty_run_unfolds : HasUnfolded plan slots size (pos 4 ∷ []) [] (at_start (placed plan slots) (pos 4 ∷ []))
empty_run_unfolds = record {
  frames = 2;
  unfolded = [];
  last = begun;
  run = (IsPermutation-refl _, refl);
  once = main_once;
  unfolds = unfolds_at_start;
  event_count = refl;
  requests = refl;
  credits = refl;
}
