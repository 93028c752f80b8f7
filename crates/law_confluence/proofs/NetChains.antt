-- An event that is several moves: a store that answers readers that wait, or a release that serves a request that waits.
use Rattle.std.proofs.Common.{List}
use Rattle.law_confluence.proofs.Net.{NetConfig, NetMove}

pub data NetMoves {I F : Type 0} (takes makes : F → List I) : NetConfig I F → NetConfig I F → Type 0 where
  Still : {c : NetConfig I F} → NetMoves takes makes c c
  Then : {c mid d : NetConfig I F} → NetMove takes makes c mid → NetMoves takes makes mid d → NetMoves takes makes c d
