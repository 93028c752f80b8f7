use Rattle.std.proofs.Common.{◌≡◌, ◌<◌, ◌≤◌, ap, ◌∙◌, arith}
use Rattle.mesh.specs.Seats.{SeatView, MeshId}
use Rattle.mesh.proofs.Values.{is_of}
use Rattle.mesh.proofs.mesh.Mesh.take.Goals as goal

pub take_at-requires-clause-seat : goal.take_at-requires-clause-seat
take_at-requires-clause-seat g c =
    let few : c.self.inside.board.shared.key.elements ≤ 16 = c.self.invariant.3 in let at : c.args.from < c.args.self.now.elements = c.requires.from in
    let same : c.self.inside.board.shared.key.elements ≡ c.args.self.now.elements = ap (λ (m : MeshId). m.elements) c.self.view_is in (
      is_of c.seat.inside.element c.seat.inside.place c.seat.invariant (ap (λ (s : SeatView). s.joined) c.seat.view_is ∙ c.requires.mesh.1),
      c.seat.invariant.below,
      omega arith,
      omega arith,
    )
