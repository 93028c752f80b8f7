use Rattle.std.proofs.Common.{◌∙◌}
use Rattle.ordering.proofs.Noting.{noted_more, noted_whole}
use Rattle.ordering.proofs.rest.note_all.Goals as goal

pub loop-token-preserved : goal.loop-token-preserved
loop-token-preserved g c =
    noted_more c.args.events.now.items c.loop-token.events.items c.push.new.self.items c.args.element c.args.tokens.now c.loop-token.token-index
    c.token-item.result c.loop-token-test.true c.token-item.is c.loop-token.invariant c.in_ok-push.ensures.items

pub returns : goal.returns
returns g c = c.loop-token.invariant ∙ noted_whole c.args.events.now.items c.args.element c.args.tokens.now c.loop-token.token-index c.loop-token-test.false
