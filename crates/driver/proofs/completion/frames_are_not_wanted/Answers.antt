use Rattle.driver.proofs.FramesUnwanted.{frames_are_not_wanted, frames_are_not_wanted_in_modes, frames_are_not_wanted_quietly}
use Rattle.driver.proofs.completion.frames_are_not_wanted.Goals as goal

pub returns-clause-reports : goal.returns-clause-reports
returns-clause-reports c = frames_are_not_wanted

pub returns-clause-modes : goal.returns-clause-modes
returns-clause-modes c = frames_are_not_wanted_in_modes

pub returns-clause-quiet : goal.returns-clause-quiet
returns-clause-quiet c = frames_are_not_wanted_quietly
