-- How a run is asked for by numbers.
use Rattle.std.specs.Prelude.{ℕ, zero, suc, List, Option, Some, None, Result}
use Rattle.schedule.specs.declared.config.Config.{Config}
use Rattle.schedule.specs.declared.config.StartFault.{StartFault}
use Rattle.schedule.specs.declared.take.Take.{Take}
use Rattle.schedule.specs.declared.take.Take.TheVariants.{Oldest, Depth}
use Rattle.outcomes.specs.declared.refusal.Refusal.{Refusal}
use Rattle.outcomes.specs.declared.outcome.Outcome.{Outcome}
use Rattle.commands.specs.Served.{Refuses}
use Rattle.ets_core.specs.declared.taking.EtsHow.{EtsHow}

abbrev pub config_of : EtsHow → Config
config_of how = record { elements = how.elements; frames = how.frames; steps = how.steps; turn = 64 }

-- 0 is the oldest token, 1 by depth
abbrev pub take_of : ℕ → Option Take
take_of zero = Some Oldest
take_of (suc zero) = Some Depth
take_of (suc (suc n)) = None

-- what is printed of a run that takes its tokens in this order; a number that is of no order is refused
abbrev pub PrintsTaking : {E : Type 0} → (Take → Result Outcome E → Option (List ℕ) → Option (List ℕ) → Type 0) → Option Take
    → Result Outcome E → Option (List ℕ) → Option (List ℕ) → Type 0
PrintsTaking Prints (Some take) result old new = Prints take result old new
PrintsTaking Prints None result old new = Refuses result old new (Refusal.Start StartFault.BadConfig)
