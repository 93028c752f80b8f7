use Rattle.packed.proofs.Unpacked.{set_state, set_words}
use Rattle.frame_store.proofs.slot.Slot.set.Goals as goal

pub invariant_of-self : goal.invariant_of-self
invariant_of-self c = set_words c.pack-words.result c.args.state c.pack-words.ensures.words c.pack-words.ensures.there

pub returns : goal.returns
returns c = set_state c.pack-words.result c.args.state c.pack-words.ensures.words c.pack-words.ensures.there
