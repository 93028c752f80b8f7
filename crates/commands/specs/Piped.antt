-- THE PIPE: what `run` makes of what `lower` prints. `run` divides its input where the text of the graph ends. So what it reads is the text of the
-- graph that the program is lowered to, and what follows the line `inputs` of the program.
use Rattle.std.specs.Prelude.{◌≡◌, ◌⊎◌, ℕ, ℤ, false, List, [], ◌++◌, flat_map, length, All, FitsSigned, Option, Some, Result, Ok}
use Rattle.std.specs.Int.{w64}
use Rattle.std.specs.declared.io.Error.{Error}
use Rattle.semantics.specs.Graph.{Graph}
use Rattle.semantics.specs.Report.{Report}
use Rattle.semantics.specs.Text.{HasText, line, literal, text_of}
use Rattle.report_text.specs.ReportText.{report_text}
use Rattle.command_line.specs.Words.{asked}
use Rattle.command_line.specs.declared.Asked.{Asked}
use Rattle.command_line.specs.declared.Lowering.{Lowering}
use Rattle.driver.specs.declared.order.Order.{Order}
use Rattle.command_line.specs.declared.Request.{Request}
use Rattle.command_line.specs.declared.RunOptions.{RunOptions}
use Rattle.driver.specs.Headline.{ReportsQuietly}
use Rattle.outcomes.specs.declared.refusal.Refusal.{Refusal}
use Rattle.outcomes.specs.declared.outcome.Outcome.{Outcome}
use Rattle.outcomes.specs.Outcomes.{ending_of}
use Rattle.source.specs.Tokens.{inputs_of}
use Rattle.source.specs.Tree.{Program}
use Rattle.lowered_text.specs.Lowers.{Lowers}
use Rattle.lowered_text.specs.Texts.{graph_and_inputs}
use Rattle.commands.specs.declared.input.InputFault.{InputFault}
use Rattle.commands.specs.Input.{graph_length, integers_of}
use Rattle.commands.specs.Refusals.{unread_as}
use Rattle.commands.specs.Lowered.{PrintsLowered}
use Rattle.commands.specs.Served.{Parts, Prints, Refuses, PrintsRun, WhyNoRun, config_of, order_in}
use Rattle.commands.specs.Answered.{ServesWords}

-- WHERE THE TEXT OF A GRAPH ENDS: whatever follows it, its last line is the first one that begins with `main `.
abbrev pub TextsEndAtMain : Type 0
TextsEndAtMain = (g : Graph) (rest : List ℕ) → HasText g → graph_length (text_of g ++ rest) ≡ length (text_of g)

-- So an input that begins with it has these two parts.
abbrev pub InputsAreDivided : Type 0
InputsAreDivided = (g : Graph) (rest : List ℕ) → HasText g → (parts : Parts (text_of g ++ rest)) → (parts.text ≡ text_of g) × (parts.lines ≡ rest)

-- INTEGERS, one a line, each written like a literal: they are read again.
abbrev pub integer_lines : List ℤ → List ℕ
integer_lines zs = flat_map (λ (z : ℤ). line (literal z)) zs

abbrev pub IntegersAreRead : Type 0
IntegersAreRead = (zs : List ℤ) → All (FitsSigned w64) zs → integers_of (integer_lines zs) ≡ Ok zs

-- THE GRAPH OF A PROGRAM has a text.
abbrev pub LoweredGraphsHaveTexts : Type 0
LoweredGraphsHaveTexts = (text : List ℕ) (p : Program) (g : Graph) → Lowers text p g → HasText g

-- A RUN OF A PROGRAM'S GRAPH: of its text, on the integers of the lines that follow the line `inputs`. This is what the promise of a program's report
-- says of a run (`truth` of `ReportsProgram`, in `programs`).
pub record IsProgramRun (text : List ℕ) (g : Graph) (o : RunOptions) (r : Report) : Type 0 where
  pub inputs : List ℤ
  pub integers : integers_of (inputs_of text) ≡ Ok inputs
  pub order : Order
  pub named : order_in o ≡ Some order
  pub truth : ReportsQuietly order (text_of g) g inputs (config_of o) false r

-- why there is none
abbrev pub IsNoProgramRun : List ℕ → Graph → RunOptions → Refusal → Type 0
IsNoProgramRun text g o f = (f ≡ Refusal.Memory) ⊎ WhyNoRun (integers_of (inputs_of text)) (text_of g) o f

-- its report, or why there is none
abbrev pub PrintsProgramRun : Result Outcome Error → Option (List ℕ) → Option (List ℕ) → List ℕ → Graph → RunOptions → Type 0
PrintsProgramRun result old new text g o =
    ((r : Report) × IsProgramRun text g o r × Prints result old new (report_text g.arrays r) (Outcome.Reported (ending_of r)))
    ⊎ ((f : Refusal) × IsNoProgramRun text g o f × Refuses result old new f)

-- THE PIPE: where `lower` printed of a text all that it prints, and `run` has that as its input, it runs the graph that the text's program is lowered to.
abbrev pub PipesRunPrograms : Type 0
PipesRunPrograms = (text piped : List ℕ) → PrintsLowered {E = Error} graph_and_inputs (Ok Outcome.Done) (Some []) (Some piped) text
    → (p : Program) × (g : Graph) × Lowers text p g
    × ((o : RunOptions) (result : Result Outcome Error) (old new : Option (List ℕ)) → PrintsRun result old new piped o
    → PrintsProgramRun result old new text g o)

-- The same of the words of two command lines. The second one may be refused its input, too: a read failed, or the input is too long.
abbrev pub CommandsRunPrograms : Type 0
CommandsRunPrograms = (lowering running : List (List ℕ)) (o : RunOptions) → asked lowering ≡ Asked.Request (Request.Lower Lowering.Graph)
    → asked running ≡ Asked.Request (Request.Run o)
    → (text piped : List ℕ) → ServesWords {E = Error} lowering (Some text) (Ok Outcome.Done) (Some []) (Some piped)
    → (p : Program) × (g : Graph) × Lowers text p g
    × ((result : Result Outcome Error) (old new : Option (List ℕ)) → ServesWords running (Some piped) result old new
    → PrintsProgramRun result old new text g o ⊎ ((fault : InputFault) × Refuses result old new (unread_as fault)))
