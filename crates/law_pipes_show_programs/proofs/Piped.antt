-- What is printed of a program's graph shows the program.
use Rattle.std.proofs.Common.{◌⊎◌, inl, inr, ℕ, false, List, Option, Result}
use Rattle.std.specs.declared.io.Error.{Error}
use Rattle.semantics.specs.Graph.{Graph}
use Rattle.semantics.specs.Report.{Report}
use Rattle.semantics.specs.Text.{text_of}
use Rattle.command_line.specs.declared.RunOptions.{RunOptions}
use Rattle.outcomes.specs.declared.outcome.Outcome.{Outcome}
use Rattle.source.specs.Tree.{Program}
use Rattle.lowered_text.specs.Lowers.{Lowers}
use Rattle.driver.proofs.Completed.{never_stopped, quiet_completes}
use Rattle.commands.specs.declared.input.InputFault.{InputFault}
use Rattle.commands.specs.Refusals.{unread_as}
use Rattle.commands.specs.Served.{Refuses, config_of}
use Rattle.commands.specs.Piped.{IsProgramRun, PrintsProgramRun}
use Rattle.commands.proofs.PipedRuns.{commands_run_program}
use Rattle.law_ordered_runs.specs.InOrderCompletes.{ProgramsComeToRest}
use Rattle.programs.proofs.InOrder.{quiet_arrives}
use Rattle.programs.proofs.Shown.{quiet_shows}
use Rattle.law_pipes_show_programs.specs.Pipes.{ReportsProgramRun, PrintsProgram, CommandsShowPrograms}

module _ (come : ProgramsComeToRest) (text : List ℕ) (p : Program) (g : Graph) (lowers : Lowers text p g) (o : RunOptions) where
  reports : (r : Report) → IsProgramRun text g o r → ReportsProgramRun text p g o r
  reports r run = record {
    run = run;
    shows = quiet_shows text p g lowers run.order run.inputs (config_of o) false r run.truth;
    completes = λ d t needs large granted.
        quiet_completes run.order (text_of g) g run.inputs (config_of o) false r run.truth d t needs large
        record { memory = granted; gate = never_stopped run.order (text_of g) g run.inputs (config_of o) r run.truth; list = λ e. absurd (cc) };
    arrives = λ k space granted.
        quiet_arrives come text p g lowers run.order run.inputs (config_of o) false r run.truth k space
        record { memory = granted; gate = never_stopped run.order (text_of g) g run.inputs (config_of o) r run.truth; list = λ e. absurd (cc) };
  }

  prints : (result : Result Outcome Error) (old new : Option (List ℕ)) → PrintsProgramRun result old new text g o → PrintsProgram result old new text p g o
  prints result old new (inl (r, run, printed)) = inl (r, reports r run, printed)
  prints result old new (inr none) = inr none

  answers : (result : Result Outcome Error) (old new : Option (List ℕ))
      → PrintsProgramRun result old new text g o ⊎ ((fault : InputFault) × Refuses result old new (unread_as fault))
      → PrintsProgram result old new text p g o ⊎ ((fault : InputFault) × Refuses result old new (unread_as fault))
  answers result old new (inl printed) = inl (prints result old new printed)
  answers result old new (inr refused) = inr refused

pub commands_show_programs : ProgramsComeToRest → CommandsShowPrograms
commands_show_programs come lowering running o lowers_asked run_asked text piped lowered =
    let pipe = commands_run_program lowering running o lowers_asked run_asked text piped lowered in (
      pipe.0,
      pipe.1,
      pipe.2,
      λ result old new served. answers come text pipe.0 pipe.1 pipe.2 o result old new (pipe.3 result old new served),
    )
