use Rattle.source_tokens.proofs.Parts.{program_begins}
use Rattle.source_tokens.proofs.parting.split.Goals as goal

pub returns-clause-program : goal.returns-clause-program
returns-clause-program c = rw c.program_len-len.ensures.exact (program_begins c.args.text.now)
