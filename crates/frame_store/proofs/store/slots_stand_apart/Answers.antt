use Rattle.frame_store.proofs.Apart.{slots_apart}
use Rattle.frame_store.proofs.store.slots_stand_apart.Goals as goal

pub returns : goal.returns
returns c = slots_apart
