use Rattle.std.proofs.Common.{◌≡◌, ◌<◌, length, slice_get, Some, arith}
use Rattle.source_check.proofs.Places.{moves_on}
use Rattle.surface_check.proofs.bindings.Bindings.moves.Goals as goal

pub loop-self-preserved-in-Continue-1 : goal.loop-self-preserved-in-Continue-1
loop-self-preserved-in-Continue-1 g c =
    let l : c.args.start < length c.loop-self.self = omega (arith, c.loop-self-test.true, c.len.ensures) in
    let f : slice_get c.loop-self.self 0 ≡ Some c.in-Some.name = cc (c.pop.ensures.value, c.in-Some.is) in
    moves_on c.args.start c.in-Some.name c.loop-self.self c.pop.new.self c.loop-self.to c.push.new.self c.args.self.now c.args.to.now l f
    c.pop.ensures.rest c.in_ok-push.ensures.pushed c.loop-self.invariant
