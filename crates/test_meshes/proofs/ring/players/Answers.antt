use Rattle.std.proofs.Common.{◌≡◌, ◌+◌, ◌++◌, ◌∷◌, [], length, ap, sym, ◌∙◌, subst, rules, arith, length-append}
use Rattle.std.specs.List.{All}
use Rattle.mesh.specs.Seats.{fresh_seat}
use Rattle.std.proofs.lemmas.List.Elements.{All-push}
use Rattle.crossbeam_utils.specs.declared.cache_padded.CachePadded.{CachePadded}
use Rattle.crossbeam_utils.specs.Padded.{padded_value}
use Rattle.test_meshes.specs.declared.player.Player.{Player}
use Rattle.test_meshes.specs.Playing.{IsPlaying}
use Rattle.mesh.proofs.Seating.{popped_fresh}
use Rattle.test_meshes.proofs.ring.players.Goals as goal

pub new-requires-clause-seat : goal.new-requires-clause-seat
new-requires-clause-seat c =
    let is : c.loop-seat.seats.items ≡ c.pop.new.self.items ++ c.in-Some.seat ∷ [] = search rules in
    (popped_fresh c.args.mesh.now c.pop.new.self.items c.loop-seat.seats.items c.in-Some.seat is c.loop-seat.invariant.1).1
    ∙ ap (fresh_seat c.args.mesh.now) (search rules)

pub loop-seat-preserved : goal.loop-seat-preserved
loop-seat-preserved c =
    let is : c.loop-seat.seats.items ≡ c.pop.new.self.items ++ c.in-Some.seat ∷ [] = search rules in
    let longer : length c.loop-seat.seats.items ≡ length c.pop.new.self.items + 1 = ap length is ∙ length-append c.pop.new.self.items (c.in-Some.seat ∷ []) in
    let before = c.loop-seat.invariant.0 in
    let items : c.push.new.self.items ≡ c.loop-seat.all.items ++ c.new-in-Some.result ∷ [] = search rules in
    let P : CachePadded Player → Type 0 = λ (p : CachePadded Player). IsPlaying c.args.mesh.now (padded_value p) in (
      omega arith,
      (popped_fresh c.args.mesh.now c.pop.new.self.items c.loop-seat.seats.items c.in-Some.seat is c.loop-seat.invariant.1).0,
      subst (All P) (sym items) (All-push P c.loop-seat.all.items c.new-in-Some.result c.loop-seat.invariant.2
          (subst (IsPlaying c.args.mesh.now) (sym c.new-in-Some.ensures) c.in_ok-player.ensures)),
    )
