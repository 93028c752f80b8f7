use Rattle.law_wiring.proofs.CodeFits.{blocks_fit}
use Rattle.law_wiring.proofs.CodeLaid.{plain_code_is_written, turn_code_is_written}
use Rattle.law_wiring.proofs.Fed.{written_is_fed}
use Rattle.law_wiring.proofs.WrittenArms.{written_follows_arms}
use Rattle.law_wiring.proofs.WrittenLeads.{written_leads_on}
use Rattle.law_wiring.proofs.WholeStatic.{code_suffices}
use Rattle.law_wiring.proofs.Whole.{every_is_static, every_is_wired}
use Rattle.law_wiring.proofs.wires.wires_are_written.Goals as goal

pub returns-clause-fit : goal.returns-clause-fit
returns-clause-fit c = blocks_fit

pub returns-clause-code : goal.returns-clause-code
returns-clause-code c = plain_code_is_written

pub returns-clause-turns : goal.returns-clause-turns
returns-clause-turns c = turn_code_is_written

pub returns-clause-fed : goal.returns-clause-fed
returns-clause-fed c = written_is_fed

pub returns-clause-arms : goal.returns-clause-arms
returns-clause-arms c = written_follows_arms

pub returns-clause-leads : goal.returns-clause-leads
returns-clause-leads c = written_leads_on

pub returns-clause-suffice : goal.returns-clause-suffice
returns-clause-suffice c = code_suffices

pub returns-clause-all : goal.returns-clause-all
returns-clause-all c = every_is_static

pub returns-clause-wired : goal.returns-clause-wired
returns-clause-wired c = every_is_wired
