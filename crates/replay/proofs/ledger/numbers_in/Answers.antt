use Rattle.replay.proofs.Places.{numbers_more}
use Rattle.replay.proofs.ledger.numbers_in.Goals as goal

pub loop-number-preserved : goal.loop-number-preserved
loop-number-preserved g c =
    numbers_more c.args.places.now c.loop-number.number c.index-places-number.result c.loop-number.numbers.items c.add_number.new.numbers.items
    c.loop-number-test.true c.index-places-number.is c.loop-number.invariant c.in_ok-add_number.ensures
