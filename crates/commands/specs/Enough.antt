-- What `run` prints with enough frames: what it prints with as many of them for each element as are enough in every order.
use Rattle.std.specs.Prelude.{◌≡◌, ℕ, ℤ, ◌⊎◌, List, Option, Some, Result}
use Rattle.semantics.specs.Graph.{Graph}
use Rattle.driver.specs.declared.order.Order.{Order}
use Rattle.command_line.specs.declared.RunOptions.{RunOptions}
use Rattle.driver.specs.declared.needs.EnoughFrames.{EnoughFrames}
use Rattle.driver.specs.Needs.{AreEnough}
use Rattle.driver.specs.Refused.{IsGoodText, IsReady}
use Rattle.outcomes.specs.declared.refusal.Refusal.{Refusal}
use Rattle.outcomes.specs.declared.outcome.Outcome.{Outcome}
use Rattle.commands.specs.Feed.{IsFeed}
use Rattle.commands.specs.Served.{IsNoRunOf, PrintsRun, Refuses, config_of, order_in}

-- the options with this number of frames for each element
abbrev pub with_frames : RunOptions → ℕ → RunOptions
with_frames o n = record o { frames = n }

-- What one run of the meaning of the input's graph, on the integers that follow it, tells of the frames: it has at most as many activities as an element
-- may make steps. With one frame for each element a run is ready, in a mode and an order that there are.
pub record Tells (input : List ℕ) (o : RunOptions) (frames : EnoughFrames) : Type 0 where
  pub text : List ℕ
  pub inputs : List ℤ
  pub feed : IsFeed input text inputs
  pub ready : IsReady text inputs (config_of (with_frames o 1))
  pub order : Order
  pub named : order_in o ≡ Some order
  pub graph : Graph
  pub good : IsGoodText text graph
  pub told : AreEnough graph inputs o.steps o.elements frames

-- the refusal where there is no number for each element
abbrev pub unfit_as : EnoughFrames → Refusal → Type 0
unfit_as (EnoughFrames.Each n) f = ⊥
unfit_as (EnoughFrames.TooMany frames) f = f ≡ Refusal.TooManyFrames frames
unfit_as EnoughFrames.Untold f = f ≡ Refusal.NotAtRest

-- Why there is none: what refuses a run with one frame for each element, and then what the meaning tells.
abbrev pub HasNoEnough : List ℕ → RunOptions → Refusal → Type 0
HasNoEnough input o f = IsNoRunOf input (with_frames o 1) f ⊎ ((frames : EnoughFrames) × Tells input o frames × unfit_as frames f)

abbrev pub PrintsEnough : {E : Type 0} → Result Outcome E → Option (List ℕ) → Option (List ℕ) → List ℕ → RunOptions → Type 0
PrintsEnough result old new input o =
    ((n : ℕ) × Tells input o (EnoughFrames.Each n) × PrintsRun result old new input (with_frames o n))
    ⊎ ((f : Refusal) × HasNoEnough input o f × Refuses result old new f)
