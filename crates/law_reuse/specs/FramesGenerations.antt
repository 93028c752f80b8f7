-- How often each frame was handed out before: the uses of the frames in the unfolded run.
use Rattle.std.specs.Prelude.{◌≡◌, ℕ, ◌*◌, ◌<◌, Bool, false, ◌==◌, ℤ, List, count_by}
use Rattle.tags.specs.declared.token.To.{To}
use Rattle.tags.specs.declared.token.Token.{Token}
use Rattle.semantics.specs.Machine.{Machine, Size, Events, Run, at_start}
use Rattle.semantics.specs.Plan.{Plan}
use Rattle.semantics.specs.Sharing.{Good}
use Rattle.semantics.specs.Orderly.{Orderly, IsStart}
use Rattle.semantics.specs.Placed.{placed}
use Rattle.semantics.specs.Unfolded.{HasUnfolded}
use Rattle.semantics.specs.Wired.{IsWired}

abbrev pub is_release : ℕ → To → Bool
is_release g (To.Release f) = f == g
is_release g to = false

-- how often frame g is released: each use of a frame except its last one ends in this way
abbrev pub release_count : ℕ → Events → ℕ
release_count g events = count_by (λ (ev : ℕ × Token). is_release g ev.1.to) events

-- The unfolded run of a run, in which the present use of a frame has as its number how often the frame was released.
pub record UnfoldsByUse (p : Plan) (slots : List (List ℕ)) (z : Size) (inputs : List ℤ) (events : Events) (m : Machine) : Type 0 where
  pub has : HasUnfolded p slots z inputs events m
  pub uses : (g : ℕ) → g < z.elements * z.frames → has.unfolds.gen g ≡ release_count g events

-- Each run of the code has its unfolded run over the plan.
abbrev pub RunsUnfold : Type 0
RunsUnfold = (p : Plan) (slots : List (List ℕ)) → IsWired p → Good p slots → Orderly p → (inputs : List ℤ) (z : Size) (events : Events) (m : Machine)
    → IsStart p z inputs
    → Run (placed p slots) z (at_start (placed p slots) inputs) events m → UnfoldsByUse p slots z inputs events m
