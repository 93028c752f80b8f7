use Rattle.std.proofs.Common.{◌≡◌, ap, subst, sym, ◌∙◌, refl, false, Some, ◌+◌, ◌-◌, ◌≤◌, ◌++◌, [], length, arith, length-append}
use Rattle.std.specs.Prelude.{min}
use Rattle.element.specs.Holding.{Fixed}
use Rattle.rounds.specs.ByDepth.{MayGrant, MayTake, HaltsTaking}
use Rattle.rounds.proofs.Taking.{grown_any, turns_granted, turns_all, noted_both}
use Rattle.machine.specs.ByDepth.{besides}
use Rattle.machine.proofs.by_depth.take_turn_by_depth.Goals as goal

pub overflow_sub-events : goal.overflow_sub-events
overflow_sub-events g c =
    let mid = c.grant_all.new.lane in
    let more = c.take_others-halt.ensures.turns in
    let first = c.made-first.ensures in
    let last = c.made.ensures in
    let count = c.in-Ok.ensures.count in
    let grown = grown_any MayTake mid.program mid.steps 0 mid.held c.grant_all.new.sent.items more.0 c.take_others-halt.new.lane.held
    c.take_others-halt.new.sent.items more.1 in
    omega (arith, first, last, count, grown)

pub overflow_sub-events-in-Ok : goal.overflow_sub-events-in-Ok
overflow_sub-events-in-Ok g c =
    let mid = c.grant_all.new.lane in
    let more = c.take_others-halt.ensures.turns in
    let first = c.made-first.ensures in
    let last = c.made.ensures in
    let count = c.in-Ok.ensures.count in
    let grown = grown_any MayTake mid.program mid.steps 0 mid.held c.grant_all.new.sent.items more.0 c.take_others-halt.new.lane.held
    c.take_others-halt.new.sent.items more.1 in
    omega (arith, first, last, count, grown)

pub overflow_sub-result : goal.overflow_sub-result
overflow_sub-result g c =
    let start = c.args.lane.now in
    let granted = c.grant_all.ensures.turns in
    let first = c.made-first.ensures in
    let last = c.made-in-Err.ensures in
    let grown = grown_any (MayGrant c.args.ordinary) start.program start.steps 0 start.held c.args.sent.now.items granted.0 c.grant_all.new.lane.held
    c.grant_all.new.sent.items granted.1 in
    omega (arith, first, last, grown)

pub returns-in-Ok-clause-turns : goal.returns-in-Ok-clause-turns
unfolding turns_all
returns-in-Ok-clause-turns g c =
    let start = c.args.lane.now in
    let mid = c.grant_all.new.lane in
    let granted = c.grant_all.ensures.turns in
    let more = c.take_others-halt.ensures.turns in
    let n = c.in-Ok.granted in
    let count = c.in-Ok.ensures.count in
    let grown = grown_any (MayGrant c.args.ordinary) start.program start.steps 0 start.held c.args.sent.now.items granted.0 mid.held c.grant_all.new.sent.items
    granted.1 in
    let later = grown_any MayTake mid.program mid.steps 0 mid.held c.grant_all.new.sent.items more.0 c.take_others-halt.new.lane.held
    c.take_others-halt.new.sent.items more.1 in
    let few = c.in-Ok.ensures.few in
    let left = more.3 in
    let long = length-append granted.0 more.0 in
    let first = c.made-first.ensures in
    let last = c.made.ensures in
    let others = c.count_others-others.ensures ∙ ap (λ q. min c.args.turn (besides q)) c.queue.ensures in
    let least = c.min.ensures in (
      granted.0 ++ more.0,
      record {
        turns = turns_all start mid c.args.turn c.args.ordinary n c.take_others-halt.new.lane.held c.args.sent.now.items granted.0
            c.grant_all.new.sent.items more.0 c.take_others-halt.new.sent.items c.take_others-halt.result c.grant_all.ensures.fixed granted.1 more.1
            c.take_others-halt.ensures.halts c.take_others-halt.ensures.whole count few left c.in-Ok.ensures.none;
        spends = omega (arith, grown, later, count, first, last, others, least, left, few);
      },
      noted_both g.L.Log.KEEPS_EVENTS c.args.log.now.events.items c.grant_all.new.log.events.items c.take_others-halt.new.log.events.items
          mid.held.part.shape.element start.held.part.shape.element granted.0 more.0 granted.2 more.2
          (ap (λ (f : Fixed). f.shape.element) c.grant_all.ensures.fixed),
      omega (arith, long, left, few, grown, count),
    )

pub returns-in-Err-clause-turns : goal.returns-in-Err-clause-turns
unfolding turns_granted
returns-in-Err-clause-turns g c =
    let start = c.args.lane.now in
    let mid = c.grant_all.new.lane in
    let granted = c.grant_all.ensures.turns in
    let grown = grown_any (MayGrant c.args.ordinary) start.program start.steps 0 start.held c.args.sent.now.items granted.0 mid.held c.grant_all.new.sent.items
    granted.1 in
    let few = c.in-Err.ensures.fewer in
    let long : mid.held.made - start.held.made ≡ length granted.0 = omega (arith, grown) in
    let first = c.made-first.ensures in
    let last = c.made-in-Err.ensures in
    let halts = subst (λ k. HaltsTaking (MayGrant c.args.ordinary k) start.program start.steps false mid.held (Some c.in-Err.halt)) long c.in-Err.ensures.halts in (
      granted.0,
      record {
        turns = turns_granted start.program start.steps c.args.turn c.args.ordinary false start.held mid.held c.args.sent.now.items granted.0
            c.grant_all.new.sent.items c.in-Err.halt granted.1 halts;
        spends = omega (arith, grown, first, last);
      },
      granted.2,
      omega (arith, grown, few),
    )
