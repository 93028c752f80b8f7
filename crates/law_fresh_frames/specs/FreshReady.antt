-- All that is required of a plan so that its code is faithful, and that a pass preserves it.
use Rattle.std.specs.Prelude.{◌≡◌, ℕ, List}
use Rattle.semantics.specs.Graph.{Flow}
use Rattle.semantics.specs.Cause.{HasBounds}
use Rattle.semantics.specs.Faithful.{Faithful}
use Rattle.semantics.specs.Plan.{Plan}
use Rattle.semantics.specs.Sharing.{Good}
use Rattle.semantics.specs.Placed.{placed}
use Rattle.semantics.specs.Orderly.{Orderly, inputs_of}
use Rattle.semantics.specs.Reuse.{UsesAgain}
use Rattle.code.specs.Sound.{IsSound}
use Rattle.law_reuse.specs.Bounds.{PlanKeepsBounds}
use Rattle.law_reuse.specs.Frames.{TakesInputs}
use Rattle.law_fresh_frames.specs.Fresh.{FaithfulOnce}
use Rattle.law_fresh_frames.specs.Bounded.{HasFewDests}
use Rattle.law_fresh_frames.specs.Alike.{LandsRightly, IsTidy, Keeps}

pub record IsReady (fl : Flow) (p : Plan) : Type 0 where
  pub sound : IsSound p
  pub tidy : IsTidy p
  pub orderly : Orderly p
  pub lands : LandsRightly p
  pub bounds : PlanKeepsBounds p
  pub takes : TakesInputs fl p
  pub faithful : FaithfulOnce fl p.program

-- A plan that keeps what p keeps is as ready as p.
abbrev pub ReadyStays : Type 0
ReadyStays = (fl : Flow) (p q : Plan) → Keeps p q → IsSound q → IsTidy q → q.program.arrays ≡ p.program.arrays → HasBounds fl q.program
    → inputs_of q ≡ inputs_of p → IsReady fl p → IsReady fl q

-- The code of a plan, over good slots: it is faithful in all runs, and keeps all promises of frames and slots that are used
-- again.
pub record IsFaithfulCode (fl : Flow) (p : Plan) (slots : List (List ℕ)) : Type 0 where
  pub faithful : Faithful fl (placed p slots)
  pub again : UsesAgain fl p slots

-- Plans that are ready have such code, where each instruction has few destinations.
abbrev pub ReadyCodeIsFaithful : Type 0
ReadyCodeIsFaithful = (fl : Flow) (p : Plan) (slots : List (List ℕ)) → IsReady fl p → HasFewDests p.program → Good p slots → IsFaithfulCode fl p slots
