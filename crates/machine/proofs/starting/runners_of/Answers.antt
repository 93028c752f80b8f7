use Rattle.std.proofs.Common.{◌≡◌, sym, ◌∙◌, ap, subst, ◌<◌, ◌++◌, [], ◌∷◌, List, length, map, All, arith}
use Rattle.std.proofs.lemmas.List.{append-nil, nil_from_length}
use Rattle.std.proofs.lemmas.List.Elements.{All-nil, All-push}
use Rattle.crossbeam_utils.specs.declared.cache_padded.CachePadded.{CachePadded}
use Rattle.crossbeam_utils.specs.Padded.{padded_value}
use Rattle.element.specs.Near.{Bounds}
use Rattle.element.specs.Holding.{LaneView, held_of, fixed_of}
use Rattle.mesh.specs.Seats.{SeatView}
use Rattle.rounds.proofs.Changes.{moved_first}
use Rattle.machine.specs.declared.runner.Runner.{Runner}
use Rattle.machine.specs.Bundles.{bounds_within}
use Rattle.machine.specs.Starts.{IsNew, lane_in, lane_fixed, lanes_in, lanes_fixed, seats_in}
use Rattle.machine.proofs.Lists.{seats_more, no_seats}
use Rattle.machine.proofs.starting.runners_of.Goals as goal

pub each-init : goal.each-init
each-init g c =
    let none = c.in_ok-runners.ensures.items in
    let n = c.args.elements in
    let bounds : Bounds = bounds_within c.args.reach in
    record {
      held = ap (λ (l : List (CachePadded (Runner g.row.C.Denot g.row.A.Denot g.row.L.Denot))). lanes_in l ++ map held_of c.args.lanes.items) none;
      fixed = ap (λ (l : List (CachePadded (Runner g.row.C.Denot g.row.A.Denot g.row.L.Denot))). lanes_fixed l ++ map fixed_of c.args.lanes.items) none;
      seats = ap (λ (l : List (CachePadded (Runner g.row.C.Denot g.row.A.Denot g.row.L.Denot))). seats_in l ++ c.args.seats.items) none;
      new = subst (λ (l : List (CachePadded (Runner g.row.C.Denot g.row.A.Denot g.row.L.Denot))). All
          (λ (p : CachePadded (Runner g.row.C.Denot g.row.A.Denot g.row.L.Denot)). IsNew n bounds (padded_value p)) l) (sym none)
          (All-nil (λ (p : CachePadded (Runner g.row.C.Denot g.row.A.Denot g.row.L.Denot)). IsNew n bounds (padded_value p)));
      count = omega arith;
      seat_count = c.requires;
    }

pub each-preserved : goal.each-preserved
each-preserved g c =
    let n = c.args.elements in
    let bounds : Bounds = bounds_within c.args.reach in
    let inv = c.each.invariant in
    let ps : List (CachePadded (Runner g.row.C.Denot g.row.A.Denot g.row.L.Denot)) = c.each.runners.items in
    let p : CachePadded (Runner g.row.C.Denot g.row.A.Denot g.row.L.Denot) = c.new.result in
    let xs = c.each.lanes.items in
    let seats = c.each.seats.items in
    let end = c.len-at-end.ensures in
    let low = c.each-test.true in
    let a = inv.count in
    let b = inv.seat_count in
    let some : 0 < length xs = omega arith in
    let some_seat : 0 < length seats = omega arith in
    let made = c.runner-one.ensures in
    let value : padded_value p ≡ c.runner-one.result = c.new.ensures in
    let lane = ap (λ (r : Runner g.row.C.Denot g.row.A.Denot g.row.L.Denot). r.lane) value ∙ made.parts.0 in
    let all = c.in_ok-push.ensures.items in
    let fewer = c.remove-lane.ensures.items in
    let fewer_seats = c.remove-seat.ensures.items in
    let k = c.remove-lane.ensures.len in
    let m = c.remove-seat.ensures.len in
    record {
      held = ap (λ (l : List (CachePadded (Runner g.row.C.Denot g.row.A.Denot g.row.L.Denot))). lanes_in l
          ++ map held_of c.remove-lane.new.self.items) all ∙ ap (λ (l : List LaneView). lanes_in (ps ++ p ∷ []) ++ map held_of l) fewer
          ∙ moved_first lane_in held_of ps p xs c.remove-lane.result some c.remove-lane.ensures.value (ap (λ (l : LaneView). held_of l) lane) ∙ inv.held;
      fixed = ap (λ (l : List (CachePadded (Runner g.row.C.Denot g.row.A.Denot g.row.L.Denot))). lanes_fixed l
          ++ map fixed_of c.remove-lane.new.self.items) all ∙ ap (λ (l : List LaneView). lanes_fixed (ps ++ p ∷ []) ++ map fixed_of l) fewer
          ∙ moved_first lane_fixed fixed_of ps p xs c.remove-lane.result some c.remove-lane.ensures.value (ap (λ (l : LaneView). fixed_of l) lane) ∙ inv.fixed;
      seats = ap (λ (l : List (CachePadded (Runner g.row.C.Denot g.row.A.Denot g.row.L.Denot))). seats_in l ++ c.remove-seat.new.self.items) all
          ∙ ap (λ (l : List SeatView). seats_in (ps ++ p ∷ []) ++ l) fewer_seats
          ∙ seats_more ps p seats c.remove-seat.result c.args.seats.items some_seat c.remove-seat.ensures.value
          (ap (λ (r : Runner g.row.C.Denot g.row.A.Denot g.row.L.Denot). r.seat) value ∙ made.parts.1) inv.seats;
      new = subst (λ (l : List (CachePadded (Runner g.row.C.Denot g.row.A.Denot g.row.L.Denot))). All
          (λ (q : CachePadded (Runner g.row.C.Denot g.row.A.Denot g.row.L.Denot)). IsNew n bounds (padded_value q)) l) (sym all)
          (All-push (λ (q : CachePadded (Runner g.row.C.Denot g.row.A.Denot g.row.L.Denot)). IsNew n bounds (padded_value q)) ps p inv.new
          (subst (λ (r : Runner g.row.C.Denot g.row.A.Denot g.row.L.Denot). IsNew n bounds r) (sym value) (made.new n bounds c.in_ok-belongings.ensures)));
      count = omega arith;
      seat_count = omega arith;
    }

pub returns-clause-lanes : goal.returns-clause-lanes
returns-clause-lanes g c =
    let inv = c.each.invariant in
    let n = inv.count in
    let end = c.len-at-end.ensures in
    let past = c.each-test.false in
    let none : length c.each.lanes.items ≡ 0 = omega arith in
    sym (append-nil (lanes_in c.each.runners.items)) ∙ ap (λ (l : List LaneView). lanes_in c.each.runners.items ++ map held_of l)
    (sym (nil_from_length c.each.lanes.items none)) ∙ inv.held

pub returns-clause-fixed : goal.returns-clause-fixed
returns-clause-fixed g c =
    let inv = c.each.invariant in
    let n = inv.count in
    let end = c.len-at-end.ensures in
    let past = c.each-test.false in
    let none : length c.each.lanes.items ≡ 0 = omega arith in
    sym (append-nil (lanes_fixed c.each.runners.items)) ∙ ap (λ (l : List LaneView). lanes_fixed c.each.runners.items ++ map fixed_of l)
    (sym (nil_from_length c.each.lanes.items none)) ∙ inv.fixed

pub returns-clause-seats : goal.returns-clause-seats
returns-clause-seats g c =
    let inv = c.each.invariant in
    let n = inv.count in
    let m = inv.seat_count in
    let end = c.len-at-end.ensures in
    let past = c.each-test.false in
    let none : length c.each.seats.items ≡ 0 = omega arith in
    no_seats c.each.runners.items c.each.seats.items c.args.seats.items none inv.seats
