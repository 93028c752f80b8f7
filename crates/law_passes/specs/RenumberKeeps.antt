-- What a plan keeps when its holders get other numbers, and so when it is folded.
use Rattle.semantics.specs.Plan.{Plan}
use Rattle.semantics.specs.Orderly.{Orderly}
use Rattle.law_reuse.specs.Bounds.{PlanKeepsBounds}
use Rattle.law_fresh_frames.specs.Alike.{RunsAlike, LandsRightly, IsTidy}
use Rattle.law_passes.specs.Renumber.{Renumbers}

-- the runs of q look like those of p, and it keeps what p keeps
pub record KeepsAll (p q : Plan) : Type 0 where
  pub alike : RunsAlike p q
  pub orderly : Orderly q
  pub lands : LandsRightly p → LandsRightly q
  pub tidy : IsTidy p → IsTidy q
  pub bounds : PlanKeepsBounds p → PlanKeepsBounds q

-- A plan keeps all that when its holders get other numbers.
abbrev pub RenumberedKeeps : Type 0
RenumberedKeeps = (p q : Plan) → Renumbers p q → Orderly p → KeepsAll p q
