-- ONE LAW FOR THE PIPE: what `run` prints of what `lower` printed shows the program.
use Rattle.std.specs.Prelude.{◌≡◌, ◌≢◌, ◌⊎◌, ◌↔◌, ℕ, List, [], map, Option, Some, Result, Ok, Contains}
use Rattle.std.specs.declared.io.Error.{Error}
use Rattle.tags.specs.declared.value.Value.{Value}
use Rattle.semantics.specs.declared.report.End.TheVariants.{Rest, Memory}
use Rattle.semantics.specs.Graph.{Graph}
use Rattle.semantics.specs.Report.{Report}
use Rattle.report_text.specs.ReportText.{report_text}
use Rattle.command_line.specs.Words.{asked}
use Rattle.command_line.specs.declared.Asked.{Asked}
use Rattle.command_line.specs.declared.Lowering.{Lowering}
use Rattle.command_line.specs.declared.Request.{Request}
use Rattle.command_line.specs.declared.RunOptions.{RunOptions}
use Rattle.outcomes.specs.declared.refusal.Refusal.{Refusal}
use Rattle.outcomes.specs.declared.outcome.Outcome.{Outcome}
use Rattle.outcomes.specs.Outcomes.{ending_of}
use Rattle.source.specs.Tree.{Program}
use Rattle.source.specs.Lowered.{origin_of}
use Rattle.lowered_text.specs.Lowers.{Lowers}
use Rattle.law_compiler.specs.Objects.{plan_of}
use Rattle.law_completion.specs.Total.{Completes}
use Rattle.law_completion.specs.TotalGraph.{NeedsAtMost, IsLargeEnough}
use Rattle.law_loops_complete.specs.LoopsComplete.{HasSpace}
use Rattle.law_ordered_runs.specs.InOrderCompletes.{EvaluatesInOrder, calls_and_turns}
use Rattle.driver.specs.Orders.{size_of}
use Rattle.commands.specs.declared.input.InputFault.{InputFault}
use Rattle.commands.specs.Refusals.{unread_as}
use Rattle.commands.specs.Served.{Prints, Refuses, config_of}
use Rattle.commands.specs.Answered.{ServesWords}
use Rattle.commands.specs.Piped.{IsProgramRun, IsNoProgramRun}
use Rattle.programs.specs.Promise.{ShowsProgram, some_value}

-- The report is of a run of the program's graph, on the integers of the text. Where it ends at rest with no deferred reader, it shows the program.
-- It does so on a machine that is large enough for what the graph's meaning calls for, unless memory was refused. And where the program has an evaluation
-- on these integers that reads each cell behind the store that fills it, it does so on a machine that has a frame for main, for each call and for each
-- iteration of that evaluation, and steps for these, whatever the bounds of the loops are, with just what the evaluation computes.
pub record ReportsProgramRun (text : List ℕ) (p : Program) (g : Graph) (o : RunOptions) (r : Report) : Type 0 where
  pub run : IsProgramRun text g o r
  pub shows : r.end ≡ Rest → r.deferred ≡ 0 → ShowsProgram p run.inputs r
  pub completes : (d t : ℕ) → NeedsAtMost g run.inputs d t → IsLargeEnough g (plan_of g).program (size_of (config_of o)) o.steps d t → r.end ≢ Memory
      → Completes r
  pub arrives : (k : EvaluatesInOrder p (origin_of p) run.inputs) → HasSpace (plan_of g).program (size_of (config_of o)) o.steps (calls_and_turns k)
      → r.end ≢ Memory
      → Completes r × (r.outputs ≡ map some_value k.computes.outputs) × ((x : ℕ) (v : Value) → Contains r.cells (x, v) ↔ Contains k.computes.stores (x, v))

-- its text was printed, or why there is none
abbrev pub PrintsProgram : Result Outcome Error → Option (List ℕ) → Option (List ℕ) → List ℕ → Program → Graph → RunOptions → Type 0
PrintsProgram result old new text p g o =
    ((r : Report) × ReportsProgramRun text p g o r × Prints result old new (report_text g.arrays r) (Outcome.Reported (ending_of r)))
    ⊎ ((f : Refusal) × IsNoProgramRun text g o f × Refuses result old new f)

-- Of the words of two command lines, where the second one's input is what the first one printed, and the first one printed all of it. The second
-- one may be refused its input: a read failed, or the input is too long.
abbrev pub CommandsShowPrograms : Type 0
CommandsShowPrograms = (lowering running : List (List ℕ)) (o : RunOptions) → asked lowering ≡ Asked.Request (Request.Lower Lowering.Graph)
    → asked running ≡ Asked.Request (Request.Run o)
    → (text piped : List ℕ) → ServesWords {E = Error} lowering (Some text) (Ok Outcome.Done) (Some []) (Some piped)
    → (p : Program) × (g : Graph) × Lowers text p g
    × ((result : Result Outcome Error) (old new : Option (List ℕ)) → ServesWords running (Some piped) result old new
    → PrintsProgram result old new text p g o ⊎ ((fault : InputFault) × Refuses result old new (unread_as fault)))
