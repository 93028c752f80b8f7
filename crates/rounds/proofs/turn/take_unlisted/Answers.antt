use Rattle.std.proofs.Common.{◌∙◌, arith}
use Rattle.rounds.proofs.Turning.{took_all}
use Rattle.rounds.proofs.turn.take_unlisted.Goals as goal

pub events-preserved : goal.events-preserved
events-preserved g c =
    let inv = c.events.invariant in
    let old = c.events.lane in
    let next = c.make_some.new.lane in
    record {
      sound = λ _. c.make_some.ensures.sound;
      turns = took_all c.args.lane.now old c.args.sent.now.items c.events.sent.items next.held c.make_some.new.sent.items inv.fixed inv.turns
          c.make_some.ensures.turns;
      within = omega (arith, c.make_some.ensures.within, inv.within, inv.turns.2);
      fixed = c.make_some.ensures.fixed ∙ inv.fixed;
    }

pub returns-in-Ok-false-clause-turns : goal.returns-in-Ok-false-clause-turns
returns-in-Ok-false-clause-turns g c =
    let inv = c.events.invariant in
    let old = c.events.lane in
    let next = c.make_some.new.lane in
    let took = took_all c.args.lane.now old c.args.sent.now.items c.events.sent.items next.held c.make_some.new.sent.items inv.fixed inv.turns
    c.make_some.ensures.turns in
    (took.0, took.1, omega (arith, c.make_some.ensures.within, inv.within, inv.turns.2, took.2))

pub returns-in-Err-clause-turns : goal.returns-in-Err-clause-turns
returns-in-Err-clause-turns g c =
    let inv = c.events.invariant in
    let old = c.events.lane in
    let next = c.make_some.new.lane in
    let took = took_all c.args.lane.now old c.args.sent.now.items c.events.sent.items next.held c.make_some.new.sent.items inv.fixed inv.turns
    c.make_some.ensures.turns in
    (took.0, took.1, omega (arith, c.make_some.ensures.within, inv.within, inv.turns.2, took.2))
