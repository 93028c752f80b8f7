use Rattle.html_text.proofs.Panes.{panes_inert, owners_whole}
use Rattle.html_text.proofs.pane.panes_are_inert.Goals as goal

pub returns-clause-inert : goal.returns-clause-inert
returns-clause-inert c = panes_inert

pub returns-clause-owners : goal.returns-clause-owners
returns-clause-owners c = owners_whole
