use Rattle.std.proofs.Common.{arith}
use Rattle.element.proofs.HeldBack.{held_within}
use Rattle.schedule.proofs.turns.besides.Goals as goal

pub overflow_sub-result : goal.overflow_sub-result
overflow_sub-result g c =
    let within = held_within c.args.queue.now.items in
    let held = c.requires in
    let long = c.len.ensures in
    omega arith
