use Rattle.std.proofs.Common.{rules, ◌≡◌, [], ◌∷◌, ◌++◌, map, List, ap, sym, ◌∙◌, arith}
use Rattle.mesh.specs.Seats.{MeshId, SeatView, Account, accounts, mesh_id}
use Rattle.mesh.proofs.SeatSteps.{joins}
use Rattle.mesh.proofs.Values.{joins_accounts}
use Rattle.mesh.proofs.Seating.{popped, owns_more, owns_first}
use Rattle.mesh.proofs.mesh.Mesh.joined.Goals as goal

pub loop-seat-init : goal.loop-seat-init
loop-seat-init g c =
    let is : c.args.seats.items ≡ c.pop.new.self.items ++ c.in-Some.all ∷ [] = search rules in
    let p = popped c.args.self.now c.pop.new.self.items c.args.seats.items c.in-Some.all is c.requires.seats in
    (p.1, p.0, owns_first c.pop.new.self.items c.args.seats.items c.in-Some.all is p.2)

pub join_seat-requires : goal.join_seat-requires
join_seat-requires g c =
    let is : c.loop-seat.seats.items ≡ c.pop-in-loop-seat.new.self.items ++ c.in-Some-pop.seat ∷ [] = search rules in
    let inv = c.loop-seat.invariant in
    let p = popped c.args.self.now c.pop-in-loop-seat.new.self.items c.loop-seat.seats.items c.in-Some-pop.seat is inv.1 in
    let words : c.self.inside.board.shared.table_id.words ≡ 258 = c.self.invariant.0 in (
      ap (λ (m : MeshId). m.table) (ap (λ (s : SeatView). s.mesh) c.seat.view_is ∙ (p.1 ∙ sym c.self.view_is)),
      ap (λ (m : MeshId). m.table) (ap (λ (s : SeatView). s.mesh) c.all.view_is ∙ (inv.0 ∙ sym c.self.view_is)),
      c.all.invariant.seated.0,
      omega arith,
      joins g.B.Bundle.tokens _ _ _ _ _ _ c.seat.invariant.seated.1 c.all.invariant.seated.1,
    )

pub loop-seat-preserved : goal.loop-seat-preserved
loop-seat-preserved g c =
    let is : c.loop-seat.seats.items ≡ c.pop-in-loop-seat.new.self.items ++ c.in-Some-pop.seat ∷ [] = search rules in
    let inv = c.loop-seat.invariant in
    let p = popped c.args.self.now c.pop-in-loop-seat.new.self.items c.loop-seat.seats.items c.in-Some-pop.seat is inv.1 in
    let e = c.join_seat.ensures in (
      (λ i. mesh_id (e.0 i) (e.2 i).0.elements (e.2 i).0.start) ∙ (ap (λ (s : SeatView). s.mesh) c.seat.view_is ∙ p.1),
      p.0,
      inv.2 ∙ (owns_more c.pop-in-loop-seat.new.self.items c.loop-seat.seats.items c.in-Some-pop.seat (accounts c.loop-seat.all) is p.2
          ∙ ap (λ (z : List Account). map (λ (s : SeatView). s.own) c.pop-in-loop-seat.new.self.items ++ z)
          (sym (joins_accounts c.join_seat.new.seat.table_id c.seat.inside.place.table_id c.all.inside.place.table_id c.seat.inside.place.me.0
          c.all.inside.place.me.0 c.join_seat.new.seat.me.0
          c.seat.invariant.parts c.all.invariant.parts (ap (λ m. m.0.parts) e.2)
          ∙ (λ i. accounts (c.seat.view_is i) ++ accounts (c.all.view_is i))))),
    )
