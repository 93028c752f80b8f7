use Rattle.mesh.specs.Seats.{AllTo}
use Rattle.test_meshes.proofs.player.forward.Given as goal

abbrev pub invariant-loop-token : goal.invariant-loop-token
invariant-loop-token l = AllTo l.elements l.next l.made.items
