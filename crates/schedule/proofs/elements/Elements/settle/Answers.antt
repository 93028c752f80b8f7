use Rattle.std.proofs.Common.{map, drop}
use Rattle.element.specs.Holding.{held_of, fixed_of}
use Rattle.schedule.specs.State.{state_of}
use Rattle.schedule.proofs.Memory.{raw_at}
use Rattle.schedule.proofs.Staying.{near_for, near_arriving}
use Rattle.schedule.proofs.elements.Elements.settle.Goals as goal

pub deliver-requires-clause-at : goal.deliver-requires-clause-at
deliver-requires-clause-at g c = let m = c.args.self.now in raw_at (state_of g.C.Instructions.program g.C.Instructions.width m).setting m.lanes.items
    (drop m.arrived m.sent.items) c.requires.sound.lanes

pub deliver-requires-clause-near : goal.deliver-requires-clause-near
deliver-requires-clause-near g c =
    let m = c.args.self.now in
    let z = (state_of g.C.Instructions.program g.C.Instructions.width m).setting in
    let ts = drop m.arrived m.sent.items in
    near_for z (map fixed_of m.lanes.items) c.requires.runs ts (near_arriving z (map held_of m.lanes.items) ts c.requires.sound)
