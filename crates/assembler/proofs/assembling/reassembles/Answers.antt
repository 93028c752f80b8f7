use Rattle.assembler.proofs.Complete.{opened_back}
use Rattle.assembler.proofs.assembling.reassembles.Goals as goal

pub returns : goal.returns
returns c = opened_back c.args.bytes.now c.open-object.result c.open-object.ensures.refused c.open-object.ensures.opened c.open-object.ensures.object
