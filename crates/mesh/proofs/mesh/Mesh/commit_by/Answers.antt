use Rattle.std.proofs.Common.{ap, ◌∙◌}
use Rattle.mesh.specs.Seats.{SeatView}
use Rattle.mesh.proofs.Values.{is_of}
use Rattle.mesh.proofs.mesh.Mesh.commit_by.Goals as goal

pub commit_by_at-requires-clause-seat : goal.commit_by_at-requires-clause-seat
commit_by_at-requires-clause-seat g c = is_of c.seat.inside.element c.seat.inside.place c.seat.invariant
    (ap (λ (s : SeatView). s.joined) c.seat.view_is ∙ c.requires.mesh.1)
