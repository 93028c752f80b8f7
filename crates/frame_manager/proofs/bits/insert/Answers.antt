use Rattle.frame_manager.proofs.Words.{insert_there, insert_others}
use Rattle.frame_manager.proofs.bits.insert.Goals as goal

pub returns-clause-there : goal.returns-clause-there
returns-clause-there c = insert_there c.args.words.now c.args.number c.requires

pub returns-clause-others : goal.returns-clause-others
returns-clause-others c = insert_others c.args.words.now c.args.number c.requires
