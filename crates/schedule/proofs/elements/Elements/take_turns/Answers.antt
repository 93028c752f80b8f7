use Rattle.std.proofs.Common.{ap}
use Rattle.schedule.specs.State.{setting_in, state_of}
use Rattle.schedule.proofs.elements.Elements.take_turns.Goals as goal

pub returns-clause-exact : goal.returns-clause-exact
returns-clause-exact g c =
    let mid = state_of g.C.Instructions.program g.C.Instructions.width c.run_by_depth.new.self in
    let run = c.run_by_depth.ensures.exact in
    let turn = c.take_turn.ensures.exact in
    (run.0, mid, run.1, c.run_by_depth.ensures.fewer, ap (λ shape. setting_in g.C.Instructions.program g.C.Instructions.width shape) c.run_by_depth.ensures.shape, turn.0, turn.1, turn.2, turn.3)
