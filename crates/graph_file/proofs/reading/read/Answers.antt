use Rattle.std.proofs.Common.{sym, ap, subst, ◌∙◌}
use Rattle.graph_file.specs.declared.fault.ReadFault.{ReadFault}
use Rattle.graph_file.specs.Reading.{text_from, IsFirstFault}
use Rattle.graph_file.proofs.reading.read.Goals as goal

pub returns-in-Ok-clause-only : goal.returns-in-Ok-clause-only
returns-in-Ok-clause-only g c = c.in-Ok.ensures.only

pub returns-in-Err-clause-only : goal.returns-in-Err-clause-only
returns-in-Err-clause-only g c = λ h is. ap (λ (f : ReadFault). f.kind) c.fault.ensures ∙ c.in-Err.ensures.only h is

pub returns-in-Err-clause-exact : goal.returns-in-Err-clause-exact
returns-in-Err-clause-exact g c = subst (λ (f : ReadFault). IsFirstFault f (text_from c.args.text.now)) (sym c.fault.ensures) c.in-Err.ensures.exact
