use Rattle.schedule.specs.State.{setting_in}
use Rattle.machine.proofs.Passes.{waited_so}
use Rattle.machine.proofs.turns.turn.Goals as goal

pub returns-clause-departure : goal.returns-clause-departure
returns-clause-departure g c =
    waited_so {C = g.row.C.Denot} {A = g.row.A.Denot} {L = g.row.L.Denot} c.args.order (setting_in g.C.Instructions.program g.C.Instructions.width
    c.args.shape.now) g.G.Gate.may_stop c.make_turn.new.runner c.wait_or_leave.result c.wait_or_leave.ensures (c.has_none.ensures c.if-not-has_none.false)
