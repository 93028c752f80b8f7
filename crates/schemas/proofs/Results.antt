-- The results of a call are used as other sources are.
use Rattle.std.proofs.Common.{◌≡◌, false, List, [], ◌∷◌, refl}
use Rattle.semantics.specs.declared.graph.Source.{Source}
use Rattle.schemas.specs.declared.uses.Uses.{Uses}
use Rattle.schemas.specs.UseCounts.{noted_sources, noted_results}

pub plain_results : (us : List Uses) (ss : List Source) → noted_sources us ss false ≡ noted_results us false ss
plain_results us [] = refl
plain_results us (s ∷ ss) = refl
