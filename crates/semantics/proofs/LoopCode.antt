-- A worked example of compiled code: a loop of bound 2 that counts an input down to 0, event by event.
use Rattle.std.proofs.Common.{◌≡◌, refl, ℕ, zero, suc, ◌+◌, ◌-◌, true, false, pos, max, arith, List, [], ◌∷◌, Option, Some, None}
use Rattle.std.specs.Prelude.{◌==◌, ◌&&◌, Bool, if◌then◌else◌}
use Rattle.tags.specs.Addresses.{element_of}
use Rattle.tags.specs.declared.value.Value.TheVariants.{Int}
use Rattle.tags.specs.declared.token.Port.TheVariants.{Left, Right}
use Rattle.tags.specs.declared.token.Cont.{Cont}
use Rattle.tags.specs.declared.token.To.{To}
use Rattle.tags.specs.declared.token.Token.{Token}
use Rattle.tags.specs.declared.slot.SlotState.TheVariants.{Waiter}
use Rattle.operators.specs.declared.Binary.TheVariants as B
use Rattle.semantics.specs.declared.program.Dest.{Dest}
use Rattle.semantics.specs.declared.program.Op.{Op}
use Rattle.semantics.specs.declared.program.Op.TheVariants.{Apply2, Lit, Copy, Sync, Switch, Fetch, Frame, Link, Send, Return, Ask, Open, Take}
use Rattle.semantics.specs.declared.program.Op.TheVariants.{Give, Drain, Release}
use Rattle.semantics.specs.Program.{Instr, CodeBlock, Program, instr_at}
use Rattle.semantics.specs.Plan.{Plan}
use Rattle.semantics.specs.Machine.{Machine, Store, at_start}
use Rattle.semantics.specs.Orderly.{is_at, often}
use Rattle.semantics.specs.Holders.{Holder, holder_at, held_by_event}
use Rattle.semantics.specs.Credits.{granted_at, released_at, IsLoop}
use Rattle.semantics.proofs.Emulator.{event_from, come, instr}

abbrev l : ℕ → Dest
l n = record { ahead = n; port = Left }

abbrev r : ℕ → Dest
r n = record { ahead = n; port = Right }

-- main, with this instruction for the credits that are given back: the continuation, the input, `open`, `frame`, its copy, `link`, `send`, the landing, the
-- return, and the ends
abbrev main_with : Op → CodeBlock
main_with back = record {
  inputs = 1;
  outputs = 1;
  slots = 6;
  instrs =
      instr Copy 0 (l 2 ∷ l 11 ∷ l 15 ∷ []) []
      ∷ instr Copy 0 (r 5 ∷ []) []
      ∷ instr (Open 2) 0 (l 1 ∷ []) []
      ∷ instr Frame 0 (l 1 ∷ []) []
      ∷ instr Copy 0 (l 1 ∷ l 2 ∷ []) []
      ∷ instr (Link 1) 0 (l 2 ∷ []) []
      ∷ instr (Send 1 1) 1 (l 7 ∷ []) []
      ∷ instr Copy 0 (r 4 ∷ []) []
      ∷ instr back 0 (l 4 ∷ []) []
      ∷ instr (Take 2) 0 [] []
      ∷ instr (Drain 2) 0 (l 2 ∷ []) []
      ∷ instr (Return 0) 2 (r 3 ∷ []) []
      ∷ instr Copy 0 (r 1 ∷ []) []
      ∷ instr Sync 3 (l 1 ∷ []) []
      ∷ instr Sync 4 (r 1 ∷ []) []
      ∷ instr (Release 1) 5 [] []
      ∷ [];
}

-- The loop variant: one less is the flag and the next value; the switches of the continuation, the flag and the value by
-- the flag; `ask`, `frame` and the sends of the next iteration; the returns of the end; and the joins. The examples differ
-- in where `release` is, where else the next value goes, where the joined ends go, and the last instructions.
abbrev variant_with : ℕ → List Dest → Dest → List Instr → CodeBlock
variant_with release more ends last = record {
  inputs = 1;
  outputs = 2;
  slots = 13;
  instrs =
      instr Copy 0 (l 4 ∷ l release ∷ []) []
      ∷ instr Copy 0 (l 1 ∷ l 2 ∷ []) []
      ∷ instr (Lit (pos 1)) 0 (r 1 ∷ []) []
      ∷ instr (Apply2 B.Sub) 0 (r 1 ∷ l 2 ∷ r 2 ∷ l 3 ∷ r 3 ∷ more) []
      ∷ instr Switch 1 (l 3 ∷ r 6 ∷ []) (l 8 ∷ l 9 ∷ [])
      ∷ instr Switch 2 (r 2 ∷ []) (r 7 ∷ [])
      ∷ instr Switch 3 (r 5 ∷ []) (r 7 ∷ [])
      ∷ instr (Ask 2) 4 (l 1 ∷ []) []
      ∷ instr Frame 0 (l 1 ∷ []) []
      ∷ instr Copy 0 (l 1 ∷ l 2 ∷ []) []
      ∷ instr (Send 1 0) 5 (l 4 ∷ []) []
      ∷ instr (Send 1 1) 6 (r 3 ∷ []) []
      ∷ instr (Return 3) 7 (l 3 ∷ []) []
      ∷ instr (Return 0) 8 (r 2 ∷ []) []
      ∷ instr Sync 9 (l 2 ∷ []) []
      ∷ instr Sync 10 (l 1 ∷ []) []
      ∷ instr Copy 0 (ends ∷ []) []
      ∷ last;
}

abbrev code_with : Op → CodeBlock → Program
code_with back variant = record { blocks = main_with back ∷ variant ∷ []; arrays = 8 ∷ []; main = 0 }

abbrev code : Program
code = code_with (Give 2) (variant_with 17 [] (r 1) (instr (Release 1) 11 [] [] ∷ []))

-- the same, except that each iteration also fetches the cell of its value, which no store fills: so none is released
abbrev code_that_waits : Program
code_that_waits = code_with (Give 2) (variant_with 19 (l 14 ∷ []) (l 2) (instr (Fetch 0) 0 (r 1 ∷ []) [] ∷ instr Sync 12 (r 1 ∷ []) []
    ∷ instr (Release 1) 11 [] [] ∷ []))

-- the same, except that a credit is never given back: the signal of an iteration's `release` goes to a copy
abbrev code_that_keeps : Program
code_that_keeps = code_with Copy (variant_with 17 [] (r 1) (instr (Release 1) 11 [] [] ∷ []))

-- each holder has a slot of its own
abbrev plan_of : Program → Plan
plan_of p = record { program = p; plain = 1; marks = [] }

abbrev loop : Holder
loop = record { block = 0; number = 0 }

-- WATCHING the loop in frame 0, where the emulator goes: how many credits are out, how many were out at most, who holds the
-- loop's slot, and whether each event at a slot of frame 0 found it held by none or by its own holder
pub record Watch : Type 0 where
  pub granted : ℕ
  pub released : ℕ
  pub most_out : ℕ
  pub holds : Option Holder
  pub own : Bool

abbrev is_own : Option Holder → Option Holder → Bool
is_own None by = true
is_own (Some h) None = false
is_own (Some h) (Some k) = (h.block == k.block) && (h.number == k.number)

abbrev finds_own : Program → Option Holder → To → Bool
finds_own p held (To.Instr f ip q) = if (f == 0) && is_own (Some loop) (holder_at (plan_of p) ip) then is_own held (holder_at (plan_of p) ip) else true
finds_own p held to = true

abbrev watched : Program → Watch → Store → To → List Token → Store → Watch
watched p w old to made new =
    let granted = w.granted + granted_at (plan_of p) p 0 loop old to in
    let released = w.released + released_at p 0 7 to made in
    record {
      granted = granted;
      released = released;
      most_out = max w.most_out (granted - released);
      holds = held_by_event (plan_of p) p 0 0 w.holds to new;
      own = w.own && finds_own p w.holds to;
    }

abbrev watch : ℕ → Program → ℕ → Machine → Watch → Watch
watch zero p frames m w = w
watch (suc k) p frames m w =
    elim (event_from p frames m.store [] m.pool) as (λ x. Watch) [
      | None ↦ w
      | Some e
          ↦ watch k p frames e.after (watched p w m.store e.token.to e.made e.after.store)
    ]

abbrev watch_all : Program → ℕ → ℕ → Watch
watch_all p frames input = watch 200 p frames (at_start p (pos input ∷ [])) record { granted = 0; released = 0; most_out = 0; holds = None; own = true }

-- WITH THREE FRAMES, of which each iteration's is used again, the loop counts down to 0, and all is clean at the end
counts_down : (come code 3 (pos 3 ∷ [])).machine.store.outputs 0 ≡ Some (Int (pos 0))
counts_down = refl

-- no token is left
rests : (come code 3 (pos 3 ∷ [])).machine.pool ≡ []
rests = refl

-- main's frame is free again
no_frame_out : (come code 3 (pos 3 ∷ [])).machine.store.out 0 ≡ false
no_frame_out = refl

-- three credits were granted, and three iterations released; never were more than two out; and the slot is held by none
three_iterations : watch_all code 3 3 ≡ record { granted = 3; released = 3; most_out = 2; holds = None; own = true }
three_iterations = refl

-- WITH TWO FRAMES the first iteration keeps its frame until the next one has got a frame: so the request of the next one waits for ever
two_frames_want : (come code 2 (pos 3 ∷ [])).machine.store.outputs 0 ≡ None
two_frames_want = refl

-- the first iteration, in frame 1, wants a frame for the next one
one_request_waits : (come code 2 (pos 3 ∷ [])).machine.store.requests ≡ Cont.Frame 1 25 Left ∷ []
one_request_waits = refl

-- WHERE NO ITERATION IS RELEASED the second one waits for the third one's credit, and both credits are out
second_waits : (come code_that_waits 5 (pos 6 ∷ [])).machine.store.slots 0 0 ≡ Waiter (Cont.Frame 2 24 Left)
second_waits = refl

-- no token is left
second_rests : (come code_that_waits 5 (pos 6 ∷ [])).machine.pool ≡ []
second_rests = refl

-- two credits are out, as many as the bound
both_out : watch_all code_that_waits 5 6 ≡ record { granted = 2; released = 0; most_out = 2; holds = Some loop; own = true }
both_out = refl

-- the loop is one of the plan, and its landing begins at number 7
is_loop : IsLoop (plan_of code) code loop 2 0 7
is_loop = record {
  open_ip = 2;
  take_ip = 9;
  link_ip = 5;
  callee = 1;
  opens = record { instr = instr (Open 2) 0 (l 1 ∷ []) []; is_at = refl; does = refl; uses = refl; holds = refl };
  takes = record { instr = instr (Take 2) 0 [] []; is_at = refl; does = refl; uses = refl; holds = refl };
  links = record { instr = instr (Link 1) 0 (l 2 ∷ []) []; dest = l 2; is_at = refl; does = refl; lands = refl; begins = refl };
  lands = (omega arith, omega arith);
}

-- WHERE CREDITS ARE NOT GIVEN BACK the second iteration waits for the third one's credit, too, though the first one was
-- released: only one of the two credits is out, and so the promise on a loop's bound refuses this code
waits_for_ever : (come code_that_keeps 5 (pos 6 ∷ [])).machine.store.slots 0 0 ≡ Waiter (Cont.Frame 2 24 Left)
waits_for_ever = refl

-- one credit is out, and not two
one_out : watch_all code_that_keeps 5 6 ≡ record { granted = 2; released = 1; most_out = 2; holds = Some loop; own = true }
one_out = refl

-- EACH PORT ONCE. With a frame for each of two iterations, no port of main's frame gets two tokens, except those of `give`
-- and `take`
-- the tokens that are taken by element 0 of four, where main's frame is alone
abbrev taken_from : ℕ → Program → ℕ → Machine → List Token
taken_from zero p frames m = []
taken_from (suc k) p frames m = elim (event_from p frames m.store [] m.pool) as (λ x. List Token) [
  | None ↦ []
  | Some e
      ↦ if element_of 4 e.token.to == 0 then e.token ∷ taken_from k p frames e.after else taken_from k p frames e.after
]

abbrev is_there : To → List Token → Bool
is_there (To.Instr f ip q) [] = false
is_there (To.Instr f ip q) (t ∷ ts) = if is_at f ip q t.to then true else is_there (To.Instr f ip q) ts
is_there to ts = false

abbrev may_repeat : Program → To → Bool
may_repeat p (To.Instr f ip q) = often (instr_at p ip)
may_repeat p to = true

abbrev repeated : Program → List Token → List Token
repeated p [] = []
repeated p (t ∷ ts) = if may_repeat p t.to then repeated p ts else if is_there t.to ts then t ∷ repeated p ts else repeated p ts

-- none of the tokens that it takes is a second one
none_repeated : repeated code (taken_from 100 code 4 (at_start code (pos 2 ∷ []))) ≡ []
none_repeated = refl
