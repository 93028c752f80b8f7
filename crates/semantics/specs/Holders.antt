-- The holders of a plan's slots: who holds a slot of the code along a run, and that two never hold it at one moment.
use Rattle.std.specs.Prelude.{◌≡◌, ℕ, ◌+◌, ◌-◌, Bool, false, ◌&&◌, ◌⊎◌, ℤ, List, [], ◌∷◌, length, Option, Some, None, nat_lt, ◌==◌, slice_get, if◌then◌else◌}
use Rattle.tags.specs.declared.token.Port.{Port}
use Rattle.tags.specs.declared.token.To.{To}
use Rattle.tags.specs.declared.token.Token.{Token}
use Rattle.tags.specs.declared.slot.SlotState.{SlotState}
use Rattle.tags.specs.declared.slot.SlotState.TheVariants.{Empty}
use Rattle.semantics.specs.Graph.{Flow}
use Rattle.semantics.specs.Program.{CodeBlock, Program, instr_at}
use Rattle.semantics.specs.Machine.{Machine, Store, Size, Event, Events, Run, at_start, slot_used}
use Rattle.semantics.specs.Faithful.{IsRun}
use Rattle.semantics.specs.Plan.{Plan}
use Rattle.semantics.specs.Placed.{placed}

-- The holder of a plan's block that uses a slot at an instruction: the block's number, and the holder's in it
pub record Holder : Type 0 where
  pub block : ℕ
  pub number : ℕ

abbrev pub holder_of : ℕ → Option ℕ → Option Holder
holder_of b None = None
holder_of b (Some h) = Some record { block = b; number = h }

abbrev pub holder_from : ℕ → List CodeBlock → ℕ → Option Holder
holder_from b [] ip = None
holder_from b (c ∷ cs) ip = if nat_lt ip (length c.instrs) then holder_of b (slot_used (slice_get c.instrs ip)) else holder_from (b + 1) cs
    (ip - length c.instrs)

abbrev pub holder_at : Plan → ℕ → Option Holder
holder_at p ip = holder_from 0 p.program.blocks ip

abbrev pub same_holder : Holder → Option Holder → Bool
same_holder x None = false
same_holder x (Some y) = (x.block == y.block) && (x.number == y.number)

-- WHO HOLDS A SLOT: the holder whose event filled it, until it is empty again.
abbrev pub held_after : Option Holder → Option Holder → SlotState → Option Holder
held_after before by Empty = None
held_after None by s = by
held_after (Some h) by s = Some h

abbrev pub uses_slot : ℕ → Option ℕ → Bool
uses_slot s None = false
uses_slot s (Some r) = r == s

abbrev pub held_by_event : Plan → Program → ℕ → ℕ → Option Holder → To → Store → Option Holder
held_by_event p q f s before (To.Instr g ip port) new = if (g == f) && uses_slot s (slot_used (instr_at q ip)) then held_after before (holder_at p ip)
    (new.slots f s) else before
held_by_event p q f s before to new = before

-- who holds slot s of frame f after a run, if it was held so before
abbrev pub holds : (p : Plan) (q : Program) (f s : ℕ) (before : Option Holder) (z : Size) (old : Machine) (events : Events) (new : Machine)
    → Run q z old events new → Option Holder
holds p q f s before z old [] new run = before
holds p q f s before z old (ev ∷ later) new run = holds p q f s (held_by_event p q f s before ev.1.to run.0.store) z run.0 later new run.2

-- Two holders that share a slot never hold it at one moment: an event of a holder finds the slot held by none or by itself.
abbrev pub HoldsAlone : Flow → Plan → List (List ℕ) → Type 0
HoldsAlone fl p slots = (inputs : List ℤ) (z : Size) (events : Events) (m next : Machine) (e : ℕ) (t : Token) (r : IsRun fl (placed p slots) inputs z events m)
    → Event (placed p slots) z e t m next → (f ip s : ℕ) (q : Port) (h : Holder) → t.to ≡ To.Instr f ip q → holder_at p ip ≡ Some h
    → slot_used (instr_at (placed p slots) ip) ≡ Some s
    → (holds p (placed p slots) f s None z (at_start (placed p slots) inputs) events m r.run ≡ None) ⊎
    (holds p (placed p slots) f s None z (at_start (placed p slots) inputs) events m r.run ≡ Some h)
