-- Two programs with the same events, whatever the store and the token.
use Rattle.std.specs.Prelude.{◌≡◌, ℕ, ◌↔◌, ◌⊎◌, ℤ, List, Some, None}
use Rattle.tags.specs.declared.token.Port.{Port}
use Rattle.tags.specs.declared.token.Word.{Word}
use Rattle.tags.specs.declared.token.To.{To}
use Rattle.tags.specs.declared.token.Token.{Token}
use Rattle.tags.specs.declared.slot.SlotState.{SlotState}
use Rattle.semantics.specs.Graph.{Flow}
use Rattle.semantics.specs.Program.{Program, instr_at}
use Rattle.semantics.specs.Rule.{Point, rule_at}
use Rattle.semantics.specs.Machine.{Machine, Store, Size, Event, Events, Run, Happens, at_start, slot_used, stuck_rule}
use Rattle.semantics.specs.Faithful.{IsRun}
use Rattle.semantics.specs.Plan.{Plan}
use Rattle.semantics.specs.Handed.{Tenure}
use Rattle.semantics.specs.Credits.{KeepsBound}
use Rattle.semantics.specs.Holders.{Holder, holder_at, holds}

pub record HaveSameEvents (p q : Program) : Type 0 where
  pub starts : (inputs : List ℤ) → at_start p inputs ≡ at_start q inputs
  pub uses : (ip : ℕ) → slot_used (instr_at p ip) ≡ slot_used (instr_at q ip)
  pub rules : (s : Point) (ip : ℕ) (slot : SlotState) (port : Port) (w : Word)
      → rule_at p s (instr_at p ip) slot port w ≡ rule_at q s (instr_at q ip) slot port w
  pub happens : (total : ℕ) (old new : Store) (to : To) (w : Word) (made : List Token) → Happens p total old to w made new ↔ Happens q total old to w made new
  pub stuck : (s : Store) (to : To) (w : Word) → stuck_rule p s to w ≡ stuck_rule q s to w
  pub events : (z : Size) (e : ℕ) (t : Token) (old new : Machine) → Event p z e t old new ↔ Event q z e t old new
  pub runs : (z : Size) (old new : Machine) (events : Events) → Run p z old events new ↔ Run q z old events new

-- CODE q OF A PLAN p. What is promised of frames and slots that are used again, of any code of the plan.
abbrev pub KeepsBoundsAs : Flow → Plan → Program → Type 0
KeepsBoundsAs fl p q = (inputs : List ℤ) (z : Size) (events : Events) (m : Machine) (f : ℕ) → IsRun fl q inputs z events m
    → (t : Tenure q z inputs f m) → KeepsBound p q z inputs f m t

abbrev pub HoldsAloneAs : Flow → Plan → Program → Type 0
HoldsAloneAs fl p q = (inputs : List ℤ) (z : Size) (events : Events) (m next : Machine) (e : ℕ) (t : Token) (r : IsRun fl q inputs z events m)
    → Event q z e t m next → (f ip s : ℕ) (port : Port) (h : Holder) → t.to ≡ To.Instr f ip port → holder_at p ip ≡ Some h → slot_used (instr_at q ip) ≡ Some s
    → (holds p q f s None z (at_start q inputs) events m r.run ≡ None) ⊎ (holds p q f s None z (at_start q inputs) events m r.run ≡ Some h)
