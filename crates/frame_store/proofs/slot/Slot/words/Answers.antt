use Rattle.std.proofs.Common.{sym, ap, ◌∙◌}
use Rattle.packed.specs.Packing.{slot_words}
use Rattle.frame_store.proofs.slot.Slot.words.Goals as goal

pub returns : goal.returns
returns c = sym c.self.invariant ∙ ap slot_words c.self.view_is
