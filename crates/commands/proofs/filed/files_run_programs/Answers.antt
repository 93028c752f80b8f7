use Rattle.commands.proofs.FileRuns.{files_run_programs}
use Rattle.commands.proofs.filed.files_run_programs.Goals as goal

pub returns : goal.returns
returns c = files_run_programs
