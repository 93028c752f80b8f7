use Rattle.std.proofs.Common.{◌≡◌, ap, subst, false, Some, ◌+◌, ◌-◌, ◌++◌, length, arith, length-append}
use Rattle.element.specs.Holding.{Fixed}
use Rattle.rounds.specs.ByDepth.{MayGrant, MayTake, HaltsTaking}
use Rattle.rounds.proofs.Taking.{grown_any, turns_granted, turns_all, whole_all, whole_halting, noted_both}
use Rattle.rounds.proofs.by_depth.take_turn_by_depth.Goals as goal

pub returns-in-Ok-clause-turns : goal.returns-in-Ok-clause-turns
returns-in-Ok-clause-turns g c =
    let start = c.args.lane.now in
    let mid = c.grant_all.new.lane in
    let granted = c.grant_all.ensures.turns in
    let more = c.take_others.ensures.turns in
    let n = c.in-Ok.granted in
    let count = c.in-Ok.ensures.count in
    let grown = grown_any (MayGrant c.args.ordinary) start.program start.steps 0 start.held c.args.sent.now.items granted.0 mid.held c.grant_all.new.sent.items granted.1 in
    let few = c.in-Ok.ensures.few in
    let left = more.3 in
    let long = length-append granted.0 more.0 in (
      granted.0 ++ more.0,
      turns_all start mid c.args.turn c.args.ordinary n c.take_others.new.lane.held c.args.sent.now.items granted.0 c.grant_all.new.sent.items more.0
          c.take_others.new.sent.items c.take_others.result c.grant_all.ensures.fixed granted.1 more.1 c.take_others.ensures.halts c.take_others.ensures.whole count few left
          c.in-Ok.ensures.none,
      noted_both g.L.Log.KEEPS_EVENTS c.args.log.now.events.items c.grant_all.new.log.events.items c.take_others.new.log.events.items
          mid.held.part.shape.element start.held.part.shape.element granted.0 more.0 granted.2 more.2
          (ap (λ (f : Fixed). f.shape.element) c.grant_all.ensures.fixed),
      omega (arith, long, left, few, grown, count),
    )

pub returns-in-Ok-clause-whole : goal.returns-in-Ok-clause-whole
returns-in-Ok-clause-whole g c =
    let start = c.args.lane.now in
    let mid = c.grant_all.new.lane in
    whole_all (MayTake 0) mid.program mid.steps c.args.turn c.in-Ok.granted start.held mid.held c.take_others.new.lane.held c.take_others.result c.in-Ok.ensures.count
    c.in-Ok.ensures.few c.take_others.ensures.halts c.take_others.ensures.whole

pub returns-in-Err-clause-turns : goal.returns-in-Err-clause-turns
returns-in-Err-clause-turns g c =
    let start = c.args.lane.now in
    let mid = c.grant_all.new.lane in
    let granted = c.grant_all.ensures.turns in
    let grown = grown_any (MayGrant c.args.ordinary) start.program start.steps 0 start.held c.args.sent.now.items granted.0 mid.held c.grant_all.new.sent.items granted.1 in
    let few = c.in-Err.ensures.fewer in
    let long : mid.held.made - start.held.made ≡ length granted.0 = omega (arith, grown) in
    let halts = subst (λ k. HaltsTaking (MayGrant c.args.ordinary k) start.program start.steps false mid.held (Some c.in-Err.halt)) long c.in-Err.ensures.halts in (
      granted.0,
      turns_granted start.program start.steps c.args.turn c.args.ordinary false start.held mid.held c.args.sent.now.items granted.0 c.grant_all.new.sent.items
          c.in-Err.halt granted.1 halts,
      granted.2,
      omega (arith, grown, few),
    )

pub returns-in-Err-clause-whole : goal.returns-in-Err-clause-whole
returns-in-Err-clause-whole g c =
    let start = c.args.lane.now in
    let new = c.grant_all.new.lane.held in
    whole_halting (MayGrant c.args.ordinary (new.made - start.held.made)) start.program start.steps c.args.turn start.held new c.in-Err.halt
    c.in-Err.ensures.halts c.in-Err.ensures.fewer
