use Rattle.std.proofs.Common.{ap, ◌∙◌}
use Rattle.mesh.specs.Seats.{SeatView}
use Rattle.mesh.proofs.Values.{is_of}
use Rattle.mesh.proofs.mesh.Mesh.live.Goals as goal

pub live_at-requires-clause-seat : goal.live_at-requires-clause-seat
live_at-requires-clause-seat g c = is_of c.seat.inside.element c.seat.inside.place c.seat.invariant (ap (λ (s : SeatView). s.joined) c.seat.view_is
    ∙ c.requires.mesh.1)
