use Rattle.std.proofs.Common.{refl}
use Rattle.rounds.specs.Turns.{turned_of}
use Rattle.rounds.proofs.Stopping.{turn_stopped, turns_stopping}
use Rattle.rounds.proofs.turn.make_turn_by_depth.Goals as goal

pub returns-then-not-may_go_on : goal.returns-then-not-may_go_on
returns-then-not-may_go_on g c =
    let old = c.args.turner.now in
    let stops = c.may_go_on.ensures.stop c.if-not-may_go_on.true in
    let some = c.may_go_on.ensures.some c.if-not-may_go_on.true in
    record {
      takes = turn_stopped old.lane.program old.lane.steps c.args.turn c.args.ordinary g.L.Log.KEEPS_EVENTS g.G.Gate.may_stop (turned_of old) stops some;
      fixed = refl;
    }

pub returns : goal.returns
returns g c =
    let old = c.args.turner.now.lane in
    let new = c.take_turn_by_depth-turner.new in
    let turns = c.take_turn_by_depth-turner.ensures.turns in
    record {
      takes = record {
        taken = turns.0;
        turns = turns_stopping old.program old.steps c.args.turn c.args.ordinary g.G.Gate.may_stop old.held c.args.turner.now.sent.items turns.0
            new.lane.held new.sent.items c.take_turn_by_depth-turner.result turns.1;
        noted = turns.2;
        few = turns.3;
        whole = c.take_turn_by_depth-turner.ensures.whole;
      };
      fixed = c.take_turn_by_depth-turner.ensures.fixed;
    }
