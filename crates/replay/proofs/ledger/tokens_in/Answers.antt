use Rattle.replay.proofs.Places.{tokens_more}
use Rattle.replay.proofs.ledger.tokens_in.Goals as goal

pub loop-place-preserved : goal.loop-place-preserved
loop-place-preserved g c =
    tokens_more c.args.places.now c.loop-place.place-index c.place-item.result c.loop-place.tokens.items c.add_token.new.tokens.items
    c.loop-place-test.true c.place-item.is c.loop-place.invariant c.in_ok-add_token.ensures
