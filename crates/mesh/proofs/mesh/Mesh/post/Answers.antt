use Rattle.std.proofs.Common.{◌≡◌, ◌<◌, ◌≤◌, ap, ◌∙◌, arith}
use Rattle.mesh.specs.Seats.{SeatView, MeshId}
use Rattle.mesh.proofs.Values.{is_of}
use Rattle.mesh.proofs.mesh.Mesh.post.Goals as goal

pub post_at-requires-clause-seat : goal.post_at-requires-clause-seat
post_at-requires-clause-seat g c =
    let few : c.self.inside.board.shared.key.elements ≤ 16 = c.self.invariant.3 in let at : c.args.to < c.args.self.now.elements = c.requires.to in
    let same : c.self.inside.board.shared.key.elements ≡ c.args.self.now.elements = ap (λ (m : MeshId). m.elements) c.self.view_is in (
      is_of c.seat.inside.element c.seat.inside.place c.seat.invariant (ap (λ (s : SeatView). s.joined) c.seat.view_is ∙ c.requires.mesh.1),
      c.seat.invariant.below,
      omega arith,
      omega arith,
    )
