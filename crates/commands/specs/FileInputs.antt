-- WHAT A COMMAND READS OF A FILE that the words name, and what it prints of it. Inputs among the words are in place of those in the file.
use Rattle.std.specs.Prelude.{◌≡◌, ◌⊎◌, ℕ, Bool, true, false, List, ◌++◌, take, Option, Result, if◌then◌else◌}
use Rattle.std.specs.declared.io.Error.{Error}
use Rattle.semantics.specs.Graph.{Graph}
use Rattle.semantics.specs.Text.{text_of}
use Rattle.command_line.specs.Words.{no_inputs}
use Rattle.command_line.specs.declared.Request.{Request}
use Rattle.command_line.specs.declared.RunOptions.{RunOptions}
use Rattle.command_line.specs.declared.inputs.Inputs.{Inputs}
use Rattle.source.specs.Tokens.{inputs_of}
use Rattle.source.specs.Tree.{Program}
use Rattle.lowered_text.specs.Lowers.{Lowers, IsRefusedProgram}
use Rattle.lowered_text.specs.Texts.{graph_and_inputs}
use Rattle.lowered_text.specs.declared.fault.LowerFault.{LowerFault}
use Rattle.outcomes.specs.declared.outcome.Outcome.{Outcome}
use Rattle.outcomes.specs.declared.refusal.Refusal.{Refusal}
use Rattle.files.specs.Files.{are_given, content_of, inputs_lines, reads_of}
use Rattle.files.specs.declared.content.Content.{Content}
use Rattle.files.specs.declared.content.Reads.{Reads}
use Rattle.commands.specs.Input.{graph_length}
use Rattle.commands.specs.Refusals.{unlowered_as}
use Rattle.commands.specs.Served.{Refuses}
use Rattle.commands.specs.Answered.{Answers}
use Rattle.commands.specs.Piped.{PrintsProgramRun}

-- the text of the graph with which these bytes begin
abbrev pub graph_part : List ℕ → List ℕ
graph_part bytes = take (graph_length bytes) bytes

-- the graph of these bytes, followed by the inputs of the words, if there are any
abbrev pub followed : Inputs → List ℕ → List ℕ
followed ins bytes = if are_given ins then graph_part bytes ++ inputs_lines ins else bytes

-- what `lower` prints of a text
abbrev pub IsLowered : List ℕ → List ℕ → Type 0
IsLowered text bytes = (p : Program) × (g : Graph) × Lowers text p g × (bytes ≡ graph_and_inputs text p g)

-- OF A PROGRAM: the text of the graph that it is lowered to, followed by the inputs of the words, or else by those that follow the program
abbrev pub inputs_after : Inputs → List ℕ → List ℕ
inputs_after ins text = if are_given ins then inputs_lines ins else inputs_of text

abbrev pub IsOfProgram : Reads → Inputs → List ℕ → List ℕ → Type 0
IsOfProgram Reads.Inputs ins text input = (p : Program) × (g : Graph) × Lowers text p g × (input ≡ text_of g ++ inputs_after ins text)
IsOfProgram Reads.Graph ins text input = (p : Program) × (g : Graph) × Lowers text p g × (input ≡ text_of g)
IsOfProgram Reads.Bytes ins text input = input ≡ text

-- OF A GRAPH: it, followed by the inputs of the words, if there are any
abbrev pub IsOfGraph : Reads → Inputs → List ℕ → List ℕ → Type 0
IsOfGraph Reads.Inputs ins bytes input = input ≡ followed ins bytes
IsOfGraph Reads.Graph ins bytes input = input ≡ bytes
IsOfGraph Reads.Bytes ins bytes input = input ≡ bytes

-- OF A FILE; of an object the bytes as they are
abbrev pub IsInput : Content → Reads → Inputs → List ℕ → List ℕ → Type 0
IsInput Content.Program reads ins bytes input = IsOfProgram reads ins bytes input
IsInput Content.Graph reads ins bytes input = IsOfGraph reads ins bytes input
IsInput Content.Object reads ins bytes input = input ≡ bytes

-- what the command of this request reads of a file with these bytes
abbrev pub IsInputOf : Request → Inputs → List ℕ → List ℕ → Type 0
IsInputOf request ins bytes input = IsInput (content_of bytes) (reads_of request) ins bytes input

-- WHY THERE IS NOTHING TO READ: where the command works on the graph of a program, that is refused as `lower` refuses it; else memory is refused
abbrev pub is_lowered : Content → Reads → Bool
is_lowered Content.Program Reads.Inputs = true
is_lowered Content.Program Reads.Graph = true
is_lowered content reads = false

abbrev pub IsNoInput : Content → Reads → List ℕ → Refusal → Type 0
IsNoInput content reads bytes f =
    (f ≡ Refusal.Memory) ⊎ ((is_lowered content reads ≡ true) × ((fault : LowerFault) × IsRefusedProgram bytes fault × (f ≡ unlowered_as fault)))

abbrev pub IsNoInputOf : Request → List ℕ → Refusal → Type 0
IsNoInputOf request bytes f = IsNoInput (content_of bytes) (reads_of request) bytes f

-- WHAT IS PRINTED: of what the command reads exactly what it prints of such an input, or the refusal
abbrev pub AnswersFile : {E : Type 0} → Result Outcome E → Option (List ℕ) → Option (List ℕ) → List ℕ → Request → Inputs → Type 0
AnswersFile result old new bytes request ins =
    ((input : List ℕ) × IsInputOf request ins bytes input × Answers result old new input request)
    ⊎ ((f : Refusal) × IsNoInputOf request bytes f × Refuses result old new f)

-- RUNS OF A PROGRAM that a file has, without inputs among the words: what is printed is the report, or the refusal, of a run of the graph that the program
-- is lowered to, on the inputs that follow it. That is the run of which the promise of a program's report speaks (`ReportsProgram`, in `programs`).
abbrev pub FilesRunPrograms : Type 0
FilesRunPrograms = (text : List ℕ) (o : RunOptions) (result : Result Outcome Error) (old new : Option (List ℕ)) → content_of text ≡ Content.Program
    → AnswersFile result old new text (Request.Run o) no_inputs
    → ((p : Program) × (g : Graph) × Lowers text p g × PrintsProgramRun result old new text g o)
    ⊎ ((f : Refusal) × IsNoInputOf (Request.Run o) text f × Refuses result old new f)
