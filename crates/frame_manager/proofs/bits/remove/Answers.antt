use Rattle.frame_manager.proofs.Words.{remove_gone, remove_others}
use Rattle.frame_manager.proofs.bits.remove.Goals as goal

pub returns-clause-gone : goal.returns-clause-gone
returns-clause-gone c = remove_gone c.args.words.now c.args.number c.requires

pub returns-clause-others : goal.returns-clause-others
returns-clause-others c = remove_others c.args.words.now c.args.number c.requires
