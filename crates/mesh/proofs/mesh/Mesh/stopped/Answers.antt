use Rattle.std.proofs.Common.{ap, ◌∙◌}
use Rattle.mesh.specs.Seats.{SeatView}
use Rattle.mesh.proofs.Values.{is_of}
use Rattle.mesh.proofs.Deeds.{never_zero}
use Rattle.mesh.proofs.mesh.Mesh.stopped.Goals as goal

pub stopped_at-requires-clause-seat : goal.stopped_at-requires-clause-seat
stopped_at-requires-clause-seat g c = is_of c.seat.inside.element c.seat.inside.place c.seat.invariant (ap (λ (s : SeatView). s.joined) c.seat.view_is
    ∙ c.requires.mesh.1)

pub returns-clause-never : goal.returns-clause-never
returns-clause-never g c = never_zero c.stopped_at.result _ _ _ (ap (λ (s : SeatView). s.own.deeds) c.seat.view_is) c.stopped_at.ensures.one
