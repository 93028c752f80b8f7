-- The main block of a sound plan.
use Rattle.std.proofs.Common.{◌≡◌, Some, slice_get}
use Rattle.semantics.specs.Program.{CodeBlock}
use Rattle.semantics.specs.Plan.{Plan}
use Rattle.code.specs.Sound.{IsSound}
use Rattle.lemmas.proofs.SliceGet.{get_some}

pub main_block : (p : Plan) (s : IsSound p) → (c : CodeBlock) × (slice_get p.program.blocks p.program.main ≡ Some c)
main_block p s = get_some p.program.blocks p.program.main s.program.main
