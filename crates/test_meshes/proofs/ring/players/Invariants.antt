use Rattle.std.proofs.Common.{◌≤◌, length}
use Rattle.std.specs.List.{All}
use Rattle.crossbeam_utils.specs.Padded.{padded_value}
use Rattle.mesh.specs.Seats.{AreFresh}
use Rattle.test_meshes.specs.Playing.{IsPlaying}
use Rattle.test_meshes.proofs.ring.players.Given as goal

abbrev pub invariant-loop-seat : goal.invariant-loop-seat
invariant-loop-seat l = (length l.seats.items ≤ l.elements) × AreFresh l.mesh l.seats.items × All (λ p. IsPlaying l.mesh (padded_value p)) l.all.items

abbrev pub decreases-loop-seat : goal.decreases-loop-seat
decreases-loop-seat l = length l.seats.items
