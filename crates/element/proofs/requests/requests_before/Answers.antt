use Rattle.std.proofs.Common.{arith}
use Rattle.element.proofs.HeldBack.{held_within, held_known}
use Rattle.element.proofs.requests.requests_before.Goals as goal

pub loop-at-init : goal.loop-at-init
loop-at-init g c = held_known c.args.queue.now.items c.args.known c.requires.known

pub returns-clause-exact : goal.returns-clause-exact
returns-clause-exact g c =
    let within = held_within c.args.queue.now.items in
    let so_far = c.loop-at.invariant in
    let past = c.loop-at-test.false in
    let end = c.len-at-end.ensures in
    let all = c.len.ensures in
    omega arith
