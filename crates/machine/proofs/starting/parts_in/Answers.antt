use Rattle.std.proofs.Common.{sym, ◌∙◌, ap, List, map}
use Rattle.std.proofs.lemmas.List.{map-id}
use Rattle.std.proofs.lemmas.Iterator.Adapters.{YieldsList-from_vec}
use Rattle.std.proofs.lemmas.Iterator.Consumers.{YieldsList-end}
use Rattle.crossbeam_utils.specs.declared.cache_padded.CachePadded.{CachePadded}
use Rattle.machine.specs.declared.runner.Runner.{Runner}
use Rattle.machine.specs.Starts.{seat_of, notes_of, lanes_in, seats_in, logs_in}
use Rattle.element.specs.Holding.{LaneView, held_of}
use Rattle.machine.proofs.Lists.{lanes_more, map_push}
use Rattle.machine.proofs.starting.parts_in.Goals as goal

pub returns-clause-lanes : goal.returns-clause-lanes
returns-clause-lanes g c =
    let a = c.into_iter-padded-iterator.ensures.into_iter_gives in
    let all = c.args.runners.items in
    let given = YieldsList-end (YieldsList-from_vec all a.0 (a.1 ∙ c.args.runners.ok.0)) c.loop-padded.yielded c.loop-padded.padded-iterator
    c.loop-padded.yielded_by c.next.result c.next.new.self c.in-None.is c.next.ensures.steps in
    c.loop-padded.invariant.0 ∙ ap (λ (l : List (CachePadded (Runner g.row.C.Denot g.row.A.Denot g.row.L.Denot))). lanes_in l)
    (sym (map-id c.loop-padded.yielded) ∙ given.0)

pub returns-clause-seats : goal.returns-clause-seats
returns-clause-seats g c =
    let a = c.into_iter-padded-iterator.ensures.into_iter_gives in
    let all = c.args.runners.items in
    let given = YieldsList-end (YieldsList-from_vec all a.0 (a.1 ∙ c.args.runners.ok.0)) c.loop-padded.yielded c.loop-padded.padded-iterator
    c.loop-padded.yielded_by c.next.result c.next.new.self c.in-None.is c.next.ensures.steps in
    c.loop-padded.invariant.1 ∙ ap (λ (l : List (CachePadded (Runner g.row.C.Denot g.row.A.Denot g.row.L.Denot))). seats_in l)
    (sym (map-id c.loop-padded.yielded) ∙ given.0)

pub returns-clause-logs : goal.returns-clause-logs
returns-clause-logs g c =
    let a = c.into_iter-padded-iterator.ensures.into_iter_gives in
    let all = c.args.runners.items in
    let given = YieldsList-end (YieldsList-from_vec all a.0 (a.1 ∙ c.args.runners.ok.0)) c.loop-padded.yielded c.loop-padded.padded-iterator
    c.loop-padded.yielded_by c.next.result c.next.new.self c.in-None.is c.next.ensures.steps in
    c.loop-padded.invariant.2 ∙ ap (λ (l : List (CachePadded (Runner g.row.C.Denot g.row.A.Denot g.row.L.Denot))). logs_in l)
    (sym (map-id c.loop-padded.yielded) ∙ given.0)

pub loop-padded-preserved : goal.loop-padded-preserved
loop-padded-preserved g c =
    let inv = c.loop-padded.invariant in
    let ps = c.loop-padded.yielded in
    let p = c.in-Some.padded in
    let value = c.into_inner-lane.ensures in (
      ap (λ (l : List LaneView). map held_of l) c.in_ok-push.ensures.items
          ∙ sym (lanes_more ps p c.loop-padded.lanes.items c.into_inner-lane.result.lane (sym inv.0)
          (ap (λ (r : Runner g.row.C.Denot g.row.A.Denot g.row.L.Denot). held_of r.lane) (sym value))),
      map_push seat_of ps p c.loop-padded.seats.items c.push-in-loop-padded.new.self.items c.into_inner-lane.result.seat inv.1
          (ap (λ (r : Runner g.row.C.Denot g.row.A.Denot g.row.L.Denot). r.seat) value) c.in_ok-push-2.ensures.items,
      map_push notes_of ps p c.loop-padded.logs.items c.push-in-loop-padded-2.new.self.items c.into_inner-lane.result.notes inv.2
          (ap (λ (r : Runner g.row.C.Denot g.row.A.Denot g.row.L.Denot). r.notes) value) c.in_ok-push-3.ensures.items,
    )
