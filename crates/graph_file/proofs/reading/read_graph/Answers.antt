use Rattle.std.proofs.Common.{Ok, Err, sym, subst, ◌∙◌}
use Rattle.semantics.specs.Text.{IsText}
use Rattle.graph_file.specs.Causes.{fault_of}
use Rattle.graph_file.proofs.Sound.{text_takes}
use Rattle.graph_file.proofs.Ends.{is_only}
use Rattle.graph_file.proofs.reading.read_graph.Goals as goal

pub graph-requires : goal.graph-requires
graph-requires g c = record { limits = (text_takes c.args.text.now c.in-Ok.whole c.in-Ok.ensures).1 }

pub returns-in-Ok-clause-found : goal.returns-in-Ok-clause-found
returns-in-Ok-clause-found g c = subst (IsText c.args.text.now) (sym c.graph.ensures) (text_takes c.args.text.now c.in-Ok.whole c.in-Ok.ensures)

pub returns-in-Ok-clause-only : goal.returns-in-Ok-clause-only
returns-in-Ok-clause-only g c = λ h is. c.graph.ensures ∙ is_only c.args.text.now (Ok c.in-Ok.whole) c.in-Ok.ensures h is

pub returns-in-Err-clause-only : goal.returns-in-Err-clause-only
returns-in-Err-clause-only g c = λ h is. is_only c.args.text.now (Err (fault_of c.in-Err.refusal)) c.in-Err.ensures h is
