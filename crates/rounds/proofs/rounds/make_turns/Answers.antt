use Rattle.std.proofs.Common.{subst, get_or}
use Rattle.rounds.specs.ByDepth.{TookTaking}
use Rattle.rounds.proofs.rounds.make_turns.Goals as goal

pub returns-clause-each : goal.returns-clause-each
returns-clause-each g c = λ i d low.
    let k = (c.for_each_mut.ensures i d low).1 in
    subst (λ t. TookTaking c.args.way.take c.args.turn c.args.ordinary g.L.Log.KEEPS_EVENTS g.G.Gate.may_stop (get_or c.args.turners.now i d) t) k.left
    (subst (λ t. TookTaking c.args.way.take c.args.turn c.args.ordinary g.L.Log.KEEPS_EVENTS g.G.Gate.may_stop t k.after_call.now) k.argument_is k.call)
