use Rattle.law_language.proofs.MeansTheorem.{lowering_keeps_meaning, texts_keep_meaning, machines_show_programs}
use Rattle.law_language.proofs.MeansTexts.{tokens_rise, spellings_differ}
use Rattle.law_language.proofs.meaning.lowering_keeps_meaning.Goals as goal

pub returns-clause-meaning : goal.returns-clause-meaning
returns-clause-meaning c = lowering_keeps_meaning

pub returns-clause-texts : goal.returns-clause-texts
returns-clause-texts c = texts_keep_meaning

pub returns-clause-machines : goal.returns-clause-machines
returns-clause-machines c = machines_show_programs

pub returns-clause-tokens : goal.returns-clause-tokens
returns-clause-tokens c = tokens_rise

pub returns-clause-places : goal.returns-clause-places
returns-clause-places c = spellings_differ
