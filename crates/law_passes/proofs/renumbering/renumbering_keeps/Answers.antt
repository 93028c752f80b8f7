use Rattle.law_passes.proofs.RenumberKeeping.{renumbered_keeps}
use Rattle.law_passes.proofs.RenumberFolding.{folded_renumbers}
use Rattle.law_passes.proofs.RenumberTwice.{folding_keeps}
use Rattle.law_passes.proofs.renumbering.renumbering_keeps.Goals as goal

pub returns-clause-keeps : goal.returns-clause-keeps
returns-clause-keeps c = renumbered_keeps

pub returns-clause-folding : goal.returns-clause-folding
returns-clause-folding c = folded_renumbers

pub returns-clause-folding_keeps : goal.returns-clause-folding_keeps
returns-clause-folding_keeps c = folding_keeps
