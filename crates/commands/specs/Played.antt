-- A machine that is continued by the picks of an order.
use Rattle.std.specs.Prelude.{◌≡◌, ◌++◌, ℕ, true}
use Rattle.semantics.specs.Machine.{Events}
use Rattle.schedule.specs.declared.halt.Halt.{Halt}
use Rattle.schedule.specs.Runs.{SoFar, Plays, NamesCell}
use Rattle.commands.specs.Agreed.{most_picks}
use Rattle.commands.specs.Ordered.{picks_from}

-- The machine made one step for each of the first picks after this number, in order, up to its halt; if the picks were too few for it,
-- they are as many as can be drawn.
pub record PlaysDrawn (elements first : ℕ) (old new : SoFar) (halt : Halt) : Type 0 where
  pub count : ℕ
  pub made : Events
  pub plays : Plays true (picks_from elements count first) old.state new.state halt made
  pub events : new.events ≡ old.events ++ made
  pub cell : NamesCell new.state.setting.program halt
  pub enough : halt ≡ Halt.Steps → count ≡ most_picks
