use Rattle.std.proofs.Common.{◌≡◌, ◌<◌, arith, ap, sym, ◌∙◌, length, subst}
use mathlib.Core.Option.{none}
use Rattle.atomic_table.specs.Table.{step}
use Rattle.mesh.specs.Seats.{MeshId, SeatView, accounts, seat_view}
use Rattle.mesh.proofs.SeatSteps.{settles}
use Rattle.mesh.proofs.Values.{HasFirst, commits_seen, agree_seen, includes_seen, final_seen, stop_seen}
use Rattle.mesh.proofs.mesh.Mesh.join_seats.Goals as goal

pub joined-all-requires-clause-some : goal.joined-all-requires-clause-some
joined-all-requires-clause-some g c =
    let count : length c.args.seats.items ≡ c.args.self.now.elements = c.requires.0
    in let some_element : 0 < c.self.inside.board.shared.key.elements = c.self.invariant.2 in
    let same : c.self.inside.board.shared.key.elements ≡ c.args.self.now.elements = ap (λ (m : MeshId). m.elements) c.self.view_is in omega arith

pub load-requires : goal.load-requires
load-requires g c = let words : c.self.inside.board.shared.table_id.words ≡ 258 = c.self.invariant.0 in (
  ap (λ (m : MeshId). m.table) (ap (λ (s : SeatView). s.mesh) c.all.view_is ∙ (c.joined-all.ensures.mesh ∙ sym c.self.view_is)),
  omega arith,
  settles g.B.Bundle.tokens _ _ _ _ c.all.inside.place.me.0 c.all.inside.place.me.1 (step 0 0 0 0 none) c.all.invariant.seated.1,
)

pub returns-clause-commits : goal.returns-clause-commits
returns-clause-commits g c = let t = c.load.ensures.2 in
    commits_seen c.load.new.seat.table_id c.load.new.seat.me.0 (subst HasFirst (ap (λ m. m.0.parts) (sym t.1)) c.all.invariant.parts) t.4 t.7

pub returns-clause-bundles : goal.returns-clause-bundles
returns-clause-bundles g c = let t = c.load.ensures.2 in
    agree_seen c.load.new.seat.table_id c.load.new.seat.me.0 (subst HasFirst (ap (λ m. m.0.parts) (sym t.1)) c.all.invariant.parts) t.3

pub returns-clause-seen : goal.returns-clause-seen
returns-clause-seen g c = let t = c.load.ensures.2 in
    includes_seen c.load.new.seat.table_id c.load.new.seat.me.0 (subst HasFirst (ap (λ m. m.0.parts) (sym t.1)) c.all.invariant.parts) t.6

pub returns-clause-no_more : goal.returns-clause-no_more
returns-clause-no_more g c = let t = c.load.ensures.2 in
    final_seen c.load.new.seat.table_id c.load.new.seat.me.0 (subst HasFirst (ap (λ m. m.0.parts) (sym t.1)) c.all.invariant.parts) c.load.result t.2 t.6

pub returns-clause-stop : goal.returns-clause-stop
returns-clause-stop g c = let t = c.load.ensures.2 in
    stop_seen c.load.new.seat.table_id c.load.new.seat.me.0 (subst HasFirst (ap (λ m. m.0.parts) (sym t.1)) c.all.invariant.parts) c.args.self.now
    c.args.seats.items c.requires
    (sym (ap (λ m. m.0.elements) t.1 ∙ (ap (λ (s : SeatView). s.mesh.elements) c.all.view_is ∙ ap (λ (m : MeshId). m.elements) c.joined-all.ensures.mesh)))
    (ap (λ m. accounts (seat_view c.load.new.seat.table_id m.0)) t.1 ∙ (ap accounts c.all.view_is ∙ c.joined-all.ensures.accounts)) t.5
