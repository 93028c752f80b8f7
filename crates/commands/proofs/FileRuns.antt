-- A run of the program that a file has.
use Rattle.std.proofs.Common.{◌≡◌, inl, inr, refl, subst}
use Rattle.command_line.specs.Words.{no_inputs}
use Rattle.files.specs.declared.content.Content.{Content}
use Rattle.files.specs.declared.content.Reads.{Reads}
use Rattle.commands.specs.FileInputs.{FilesRunPrograms, IsInput}
use Rattle.commands.proofs.PipedRuns.{pipe_runs_program}

pub files_run_programs : FilesRunPrograms
files_run_programs text o result old new is (inl (input, of, prints)) =
    let made = subst (λ (c : Content). IsInput c Reads.Inputs no_inputs text input) is of in
    let ran = pipe_runs_program text input (inl (made.0, made.1, made.2, (refl, made.3))) in
    inl (ran.0, ran.1, ran.2, ran.3 o result old new prints)
files_run_programs text o result old new is (inr refused) = inr refused
