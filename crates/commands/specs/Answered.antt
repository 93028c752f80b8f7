-- What the whole program prints, for each list of words.
use Rattle.std.specs.Prelude.{◌≡◌, ◌≤◌, ℕ, ◌⊎◌, List, length, Option, Result, Ok, Err, IfSome}
use Rattle.std.specs.declared.io.Error.{Error}
use Rattle.command_line.specs.Words.{asked, version_line}
use Rattle.command_line.specs.declared.Asked.{Asked}
use Rattle.command_line.specs.declared.Literals.{Literals}
use Rattle.command_line.specs.declared.Lowering.{Lowering}
use Rattle.command_line.specs.declared.Request.{Request}
use Rattle.driver.specs.Disassembled.{listing_of, listing_with_literals_of, upgrade_of}
use Rattle.commands.specs.declared.input.InputFault.{InputFault}
use Rattle.outcomes.specs.declared.refusal.Refusal.{Refusal}
use Rattle.outcomes.specs.declared.outcome.Outcome.{Outcome}
use Rattle.outcomes.specs.Outcomes.{outcome_status}
use Rattle.lowered_text.specs.Texts.{graph_and_inputs, map_of}
use Rattle.commands.specs.Assembled.{PrintsAssembled}
use Rattle.commands.specs.Lowered.{PrintsLowered}
use Rattle.commands.specs.Agreed.{PrintsOrders}
use Rattle.commands.specs.Enough.{PrintsEnough}
use Rattle.commands.specs.Traced.{PrintsTrace}
use Rattle.commands.specs.Profiled.{format_of, PrintsProfile}
use Rattle.commands.specs.Refusals.{unread_as}
use Rattle.commands.specs.Served.{Prints, Refuses, PrintsCheck, PrintsObject, PrintsRun, PrintsOf, PrintsMeaning, PrintsDot, PrintsExec}

-- ALL COMMANDS
abbrev pub Answers : {E : Type 0} → Result Outcome E → Option (List ℕ) → Option (List ℕ) → List ℕ → Request → Type 0
Answers result old new input Request.Check = PrintsCheck result old new input
Answers result old new input Request.Compile = PrintsObject result old new input
Answers result old new input (Request.Run o) = PrintsRun result old new input o
Answers result old new input (Request.RunEnough o) = PrintsEnough result old new input o
Answers result old new input (Request.Dis Literals.Omitted) = PrintsOf listing_of result old new input
Answers result old new input (Request.Dis Literals.Included) = PrintsOf listing_with_literals_of result old new input
Answers result old new input Request.Upgrade = PrintsOf upgrade_of result old new input
Answers result old new input (Request.Mean steps) = PrintsMeaning result old new input steps
Answers result old new input (Request.Dot code) = PrintsDot result old new input code
Answers result old new input (Request.Exec o ins) = PrintsExec result old new input o ins
Answers result old new input Request.Asm = PrintsAssembled result old new input
Answers result old new input (Request.Orders o count seed) = PrintsOrders result old new input o count seed
Answers result old new input (Request.Trace o last format) = PrintsTrace result old new input o last format
Answers result old new input (Request.Profile o sizes svg) = PrintsProfile result old new input o sizes (format_of svg)
Answers result old new input (Request.Lower Lowering.Graph) = PrintsLowered graph_and_inputs result old new input
Answers result old new input (Request.Lower Lowering.Map) = PrintsLowered map_of result old new input

-- the input is all that the reader has, at most 64 MiB
abbrev pub ServesRequest : {E : Type 0} → Option (List ℕ) → Result Outcome E → Option (List ℕ) → Option (List ℕ) → Request → Type 0
ServesRequest remaining result old new request =
    ((input : List ℕ) × IfSome remaining (λ xs. input ≡ xs) × (length input ≤ 67108864) × Answers result old new input request)
    ⊎ ((fault : InputFault) × Refuses result old new (unread_as fault))

-- ALL COMMAND LINES
-- a text of the command line, of which nothing is said here, with this outcome; or memory was refused
abbrev pub Says : {E : Type 0} → Result Outcome E → Option (List ℕ) → Option (List ℕ) → Outcome → Type 0
Says result old new outcome = ((text : List ℕ) × Prints result old new text outcome) ⊎ Refuses result old new Refusal.Memory

abbrev pub ServesAsked : {E : Type 0} → Option (List ℕ) → Result Outcome E → Option (List ℕ) → Option (List ℕ) → Asked → Type 0
ServesAsked remaining result old new (Asked.Request request) = ServesRequest remaining result old new request
ServesAsked remaining result old new (Asked.Help topic) = Says result old new Outcome.Done
ServesAsked remaining result old new Asked.Version = Prints result old new version_line Outcome.Done
ServesAsked remaining result old new Asked.Mistake = Says result old new Outcome.Mistake

-- the words are those after the program's name
abbrev pub ServesWords : {E : Type 0} → List (List ℕ) → Option (List ℕ) → Result Outcome E → Option (List ℕ) → Option (List ℕ) → Type 0
ServesWords words remaining result old new = ServesAsked remaining result old new (asked words)

-- the status of the process: that of the outcome, and 1 after a failed write
abbrev pub status_of : {E : Type 0} → Result Outcome E → ℕ
status_of (Ok outcome) = outcome_status outcome
status_of (Err e) = 1

abbrev pub Serves : List (List ℕ) → Option (List ℕ) → Option (List ℕ) → Option (List ℕ) → ℕ → Type 0
Serves words remaining old new status =
    (served : Result Outcome Error) × ServesWords words remaining served old new × (status ≡ status_of served)
