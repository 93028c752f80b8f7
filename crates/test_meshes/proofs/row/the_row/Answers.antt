use Rattle.std.proofs.Common.{ap, sym, subst, ◌∙◌, List}
use Rattle.std.proofs.lemmas.List.{append-nil}
use Rattle.tags.specs.declared.token.Token.{Token}
use Rattle.mesh.specs.Deeds.{created}
use Rattle.mesh.specs.Seats.{SeatView}
use Rattle.test_meshes.specs.Playing.{Holds}
use Rattle.test_meshes.proofs.Held.{has_nothing}
use Rattle.test_meshes.proofs.row.the_row.Goals as goal

pub take_one-first-requires-clause-seat : goal.take_one-first-requires-clause-seat
take_one-first-requires-clause-seat g c = let is = c.both_seats-zero.ensures.one in (
  ap (λ (s : SeatView). s.own.element) is,
  ap (λ (s : SeatView). created s.own.deeds) is,
  (ap (λ (s : SeatView). s.mesh) is, ap (λ (s : SeatView). s.joined) is, has_nothing _),
)

pub post-requires-clause-holds : goal.post-requires-clause-holds
post-requires-clause-holds g c = let e = c.post_both-back.ensures in
    subst (λ (z : List Token). Holds c.args.mesh.now c.post_both-back.new.seat z) (sym e.back ∙ sym (append-nil c.post_both-back.result.items)) e.seat.1
