-- What holds in each order of the tokens.
use Rattle.std.proofs.Common.{◌≡◌, ℕ, ◌⊎◌, inl, inr, refl, sym, subst, Bool, true, false, Option, Some, None, [], List}
use Rattle.std.specs.Prelude.{Result, IfOk}
use Rattle.tags.specs.declared.token.Token.{Token}
use Rattle.semantics.specs.Program.{Program}
use Rattle.element.specs.Holding.{Holding}
use Rattle.schedule.specs.declared.halt.Halt.{Halt}
use Rattle.schedule.specs.declared.take.Take.{Take}
use Rattle.schedule.specs.declared.take.Take.TheVariants.{Oldest, Depth}
use Rattle.schedule.specs.Setting.{Setting}
use Rattle.rounds.specs.Turns.{HaltsLane}
use Rattle.rounds.specs.ByDepth.{HaltsTaking}
use Rattle.rounds.proofs.Taking.{AnyPlace, halts_taking, halts_weaker}
use Rattle.machine.specs.ByDepth.{HasNone, HasNoReason, HaltsFreely, IsNext}

-- a result of which more is said
pub if_ok_then : {X Y : Type 0} (r : Result X Y) (P Q : X → Type 0) → ((x : X) → P x → Q x) → IfOk r P → IfOk r Q
if_ok_then (Result.Ok x) P Q more is = more x is
if_ok_then (Result.Err y) P Q more is = tt

-- a lane that takes its oldest tokens halts as in each order
first_taken : (p : Program) (steps : ℕ) (may_stop : Bool) (h : Holding) (halt : Option Halt) → HaltsLane p steps may_stop h halt
    → HaltsTaking IsNext p steps may_stop h halt
first_taken p steps may_stop h None halts = tt
first_taken p steps may_stop h (Some Halt.NoToken) halts = halts
first_taken p steps may_stop h (Some (Halt.Clash cell)) (some, few, clash) = (some, few, (0, inl refl, clash))
first_taken p steps may_stop h (Some Halt.Steps) halts = halts
first_taken p steps may_stop h (Some (Halt.Stuck rule)) (some, few, stuck) = (some, few, (0, inl refl, stuck))
first_taken p steps may_stop h (Some Halt.Memory) halts = tt
first_taken p steps may_stop h (Some Halt.Stop) halts = halts

pub halts_oldest : (order : Take) (g : Setting) (may_stop : Bool) (h : Holding) (halt : Option Halt) → HaltsFreely Oldest g may_stop h halt
    → HaltsFreely order g may_stop h halt
halts_oldest Oldest g may_stop h halt halts = halts
halts_oldest Depth g may_stop h halt halts = first_taken g.program g.steps may_stop h halt halts

-- and has no reason to halt as in each order
pub none_oldest : (order : Take) (h : Holding) → h.queue ≡ [] → HasNone order h
none_oldest Oldest h none = none
none_oldest Depth h none = inl none

pub no_reason_oldest : (order : Take) (g : Setting) (h : Holding) → HasNoReason Oldest g h → HasNoReason order g h
no_reason_oldest order g h (inl none) = inl (none_oldest order h none)
no_reason_oldest order g h (inr all) = inr all

-- memory may be refused at any time
pub memory_halts : (order : Take) (g : Setting) (may_stop : Bool) (h : Holding) (halt : Halt) → halt ≡ Halt.Memory → HaltsFreely order g may_stop h (Some halt)
memory_halts Oldest g may_stop h halt is = subst (λ (x : Halt). HaltsFreely Oldest g may_stop h (Some x)) (sym is) tt
memory_halts Depth g may_stop h halt is = subst (λ (x : Halt). HaltsFreely Depth g may_stop h (Some x)) (sym is) tt

-- one that halts with no gate halts so with any
pub any_gate : (may : Holding → ℕ → Type 0) (p : Program) (steps : ℕ) (may_stop : Bool) (h : Holding) (halt : Option Halt)
    → HaltsTaking may p steps false h halt → HaltsTaking may p steps may_stop h halt
any_gate may p steps may_stop h None halts = tt
any_gate may p steps may_stop h (Some Halt.NoToken) halts = halts
any_gate may p steps may_stop h (Some (Halt.Clash cell)) halts = halts
any_gate may p steps may_stop h (Some Halt.Steps) halts = halts
any_gate may p steps may_stop h (Some (Halt.Stuck rule)) halts = halts
any_gate may p steps may_stop h (Some Halt.Memory) halts = tt
any_gate may p steps may_stop h (Some Halt.Stop) halts = absurd (let no : ⊥ = cc in no)

-- wherever it halts
pub halts_somewhere : (order : Take) (g : Setting) (may_stop : Bool) (h : Holding) (halt : Halt) → HaltsFreely order g may_stop h (Some halt)
    → HaltsTaking AnyPlace g.program g.steps may_stop h (Some halt)
halts_somewhere Oldest g may_stop h halt halts = halts_taking g.program g.steps may_stop h (Some halt) halts
halts_somewhere Depth g may_stop h halt halts = halts_weaker IsNext AnyPlace g.program g.steps may_stop h (Some halt) (λ pick may. tt) halts
