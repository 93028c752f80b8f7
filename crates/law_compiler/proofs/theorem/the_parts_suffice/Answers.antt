use Rattle.law_compiler.proofs.WholeTidy.{wired_leads}
use Rattle.law_compiler.proofs.Whole.{parts_suffice}
use Rattle.law_compiler.proofs.theorem.the_parts_suffice.Goals as goal

pub returns-clause-tidy : goal.returns-clause-tidy
returns-clause-tidy c = wired_leads

pub returns-clause-suffice : goal.returns-clause-suffice
returns-clause-suffice c = parts_suffice
