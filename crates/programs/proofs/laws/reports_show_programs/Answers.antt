use Rattle.programs.proofs.Shown.{report_shows, mode_shows, quiet_shows}
use Rattle.programs.proofs.Refusals.{refused_as_text}
use Rattle.programs.proofs.laws.reports_show_programs.Goals as goal

pub returns-clause-programs : goal.returns-clause-programs
returns-clause-programs c = report_shows

pub returns-clause-modes : goal.returns-clause-modes
returns-clause-modes c = mode_shows

pub returns-clause-quiet : goal.returns-clause-quiet
returns-clause-quiet c = quiet_shows

pub returns-clause-refusals : goal.returns-clause-refusals
returns-clause-refusals c = refused_as_text
