use Rattle.std.proofs.Common.{Some}
use Rattle.schedule.specs.State.{state_of}
use Rattle.schedule.proofs.Turning.{choice_keeps}
use Rattle.schedule.proofs.elements.Elements.take_first.Goals as goal

pub returns-clause-exact : goal.returns-clause-exact
returns-clause-exact g c =
    let old = state_of g.C.Instructions.program g.C.Instructions.width c.args.self.now in
    let new = state_of g.C.Instructions.program g.C.Instructions.width c.advance-halt.new.self in
    let x = c.advance-halt.ensures.exact in
    (Some c.in-Some.pick, x.0, (x.1, choice_keeps old new c.in-Some.pick x.1.answer x.0 c.in-Some.ensures.some x.1.step), x.2)
