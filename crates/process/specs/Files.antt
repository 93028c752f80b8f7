-- What a process writes, and its exit status, where its words name a file.
use Rattle.std.specs.Prelude.{◌≡◌, ◌≤◌, ◌⊎◌, ◌||◌, ◌&&◌, ℕ, Bool, true, false, List, [], ◌∷◌, length, Option, Some, None, Result, Ok, Err, IfSome, MatchResult, Vec, ⊤, codes}
use Rattle.std.specs.Str.{bytes_eq}
use Rattle.std.specs.declared.io.Error.{Error}
use Rattle.command_line.specs.Files.{command_word, is_json, option_value}
use Rattle.command_line.specs.declared.Command.{Command}
use Rattle.command_line.specs.declared.Format.{Format}
use Rattle.command_line.specs.declared.Request.{Request}
use Rattle.command_line.specs.declared.RunOptions.{RunOptions}
use Rattle.command_line.specs.declared.given.FileOptions.{FileOptions}
use Rattle.command_line.specs.declared.given.FileRequest.{FileRequest}
use Rattle.command_line.specs.declared.given.Given.{Given}
use Rattle.sink.specs.Sends.{Sends}
use Rattle.chosen_cells.specs.Chosen.{chosen}
use Rattle.json_text.specs.Json.{json_of}
use Rattle.files.specs.Files.{unread_line}
use Rattle.files.specs.declared.unread.Unread.{Unread}
use Rattle.outcomes.specs.declared.outcome.Outcome.{Outcome}
use Rattle.outcomes.specs.declared.refusal.Refusal.{Refusal}
use Rattle.commands.specs.Answered.{Answers as Prints}
use Rattle.commands.specs.Refusals.{refusal_line}
use Rattle.commands.specs.Served.{Refuses}
use Rattle.commands.specs.FileInputs.{IsInputOf, IsNoInputOf}
use Rattle.mapped.specs.Mapped.{PrintsCodeMap}
use Rattle.mapped.specs.Paned.{PrintsFilePage}
use Rattle.process.specs.declared.sending.HintSent.{HintSent}
use Rattle.process.specs.HintSent.{Account, Speaks}
use Rattle.process.specs.Process.{Ends, Flushes, exits}

-- THE FILE: whether the file of a name has these bytes, as far as that is known. The file `-` is standard input, which had `remaining`.
abbrev pub Folder : Type 1
Folder = List ℕ → List ℕ → Type 0

abbrev pub HasIf : Folder → Option (List ℕ) → List ℕ → List ℕ → Bool → Type 0
HasIf has remaining name bytes true = IfSome remaining (λ xs. bytes ≡ xs)
HasIf has remaining name bytes false = has name bytes

abbrev pub Has : Folder → Option (List ℕ) → List ℕ → List ℕ → Type 0
Has has remaining name bytes = HasIf has remaining name bytes (bytes_eq name (codes "-"))

-- CELLS THAT ARE CHOSEN: where P is what is printed otherwise, what is chosen of its text; or memory is refused.
abbrev pub Printing : Type 1
Printing = Result Outcome Error → Option (List ℕ) → Option (List ℕ) → Type 0

abbrev pub done : Result ⊤ Error → Outcome → Result Outcome Error
done (Ok sent) printed = Ok printed
done (Err e) printed = Err e

abbrev pub Chosen : Printing → Option (List ℕ) → Option (List ℕ) → Printing
Chosen P cells grid served old all =
    ((text : List ℕ) × (printed : Outcome) × (sent : Result ⊤ Error) × P (Ok printed) (Some []) (Some text) × Sends sent old all (chosen cells grid text)
    × (served ≡ done sent printed))
    ⊎ Refuses served old all Refusal.Memory

abbrev pub ChosenIf : Bool → Printing → List (List ℕ) → Printing
ChosenIf false P words served old all = P served old all
ChosenIf true P words served old all = Chosen P (option_value (codes "cells") words) (option_value (codes "grid") words) served old all

-- JSON, if it is asked for: where P is what is printed otherwise, the JSON of its text; or, where memory for that is refused, of the refusal's line
abbrev pub Json : Printing → Printing
Json P served old all =
    ((text : List ℕ) × (printed : Outcome) × (sent : Result ⊤ Error) × P (Ok printed) (Some []) (Some text) × Sends sent old all (json_of text)
    × (served ≡ done sent printed))
    ⊎ ((sent : Result ⊤ Error) × Sends sent old all (json_of (refusal_line Refusal.Memory)) × (served ≡ done sent (Outcome.Refused Refusal.Memory)))

abbrev pub JsonIf : Bool → Printing → Printing
JsonIf false P served old all = P served old all
JsonIf true P served old all = Json P served old all

abbrev pub asks_json : FileOptions → List (List ℕ) → Bool
asks_json options words = options.format && is_json (option_value (codes "format") words)

-- what is printed with these words, which give these options: first cells are chosen
abbrev pub Picked : FileOptions → List (List ℕ) → Printing → Printing
Picked options words P served old all = ChosenIf (options.cells || options.grid) P words served old all

abbrev pub Shown : FileOptions → List (List ℕ) → Printing → Printing
Shown options words P served old all = JsonIf (asks_json options words) (λ s o a. Picked options words P s o a) served old all

-- THE MAP of the code of a file with these bytes, if it is asked for: else P is what is printed
abbrev pub Mapped : Bool → List ℕ → Printing → Printing
Mapped false bytes P served old all = P served old all
Mapped true bytes P served old all = PrintsCodeMap served old all bytes

-- WHAT IS PRINTED of an input that was read of a file with these bytes: what the command prints of it, but a page has the file's source, too
abbrev pub page_asked : Request → Option (RunOptions × Option ℕ)
page_asked (Request.Trace o last Format.Html) = Some (o, last)
page_asked request = None

abbrev pub PrintsAsked : Option (RunOptions × Option ℕ) → List ℕ → List ℕ → Request → Printing
PrintsAsked (Some page) bytes input request served old all = PrintsFilePage served old all bytes input page.0 page.1
PrintsAsked None bytes input request served old all = Prints served old all input request

abbrev pub PrintsOver : List ℕ → List ℕ → Request → Printing
PrintsOver bytes input request served old all = PrintsAsked (page_asked request) bytes input request served old all

-- of this input, or the refusal, and whether it was written out
abbrev pub PrintsInput : {A : Type 0} → List ℕ → Request → Result (Vec ℕ A) Refusal → Printing
PrintsInput bytes request input served old all = MatchResult input (λ v. PrintsOver bytes v.items request served old all) (Refuses served old all)

abbrev pub AnswersInput : {A : Type 0} → FileOptions → List (List ℕ) → List ℕ → Request → Result (Vec ℕ A) Refusal → Option (List ℕ) → Option (List ℕ)
    → Option Outcome → Type 0
AnswersInput options words bytes request input old new outcome =
    (all : Option (List ℕ)) × (served : Result Outcome Error)
    × Mapped options.map bytes (λ s o a. Shown options words (λ s o a. PrintsInput bytes request input s o a) s o a) served old all
    × Flushes all new served outcome

-- STANDARD OUTPUT held `old`, and holds `new`: what it held before, followed by what is printed of the file with these bytes.
abbrev pub PrintsFile : List ℕ → FileRequest → Printing
PrintsFile bytes file served old all =
    ((input : List ℕ) × IsInputOf file.request file.inputs bytes input × PrintsOver bytes input file.request served old all)
    ⊎ ((f : Refusal) × IsNoInputOf file.request bytes f × Refuses served old all f)

abbrev pub AnswersRead : List (List ℕ) → List ℕ → FileRequest → Option (List ℕ) → Option (List ℕ) → Option Outcome → Type 0
AnswersRead words bytes file old new outcome =
    (all : Option (List ℕ)) × (served : Result Outcome Error)
    × Mapped file.options.map bytes (λ s o a. Shown file.options words (λ s o a. PrintsFile bytes file s o a) s o a) served old all
    × Flushes all new served outcome

-- STANDARD ERROR: the explanation of a run is of the words, of what the command read of the file, or where that is nothing of the file, and of the outcome.
abbrev pub ExplainsRead : Account → List (List ℕ) → List ℕ → FileRequest → Option Outcome → Option (List ℕ) → Type 0
ExplainsRead accounts words bytes file outcome text =
    (input : List ℕ) × ((input ≡ bytes) ⊎ IsInputOf file.request file.inputs bytes input) × accounts words (Some input) outcome text

-- WARNINGS on standard error: some lines, or a beginning of them; with `--quiet` none
abbrev pub Warns : Bool → Option (List ℕ) → Option (List ℕ) → Type 0
Warns true silent warned = warned ≡ silent
Warns false silent warned = (lines : List ℕ) × (sent : Result ⊤ Error) × Sends sent silent warned lines

-- THE PROCESS over the bytes of a file. `old` and `new` are what standard output holds before and after, and `silent` and `spoken` what standard error holds:
-- the warnings, and then the explanation.
pub record EndsOver (accounts : Account) (words : List (List ℕ)) (file : FileRequest) (bytes : List ℕ) (old new silent spoken : Option (List ℕ))
    (outcome : Option Outcome) (status : ℕ) (hint_sent : HintSent) : Type 0 where
  pub answers : AnswersRead words bytes file old new outcome
  pub exit : status ≡ exits outcome
  pub warned : Option (List ℕ)
  pub warns : Warns file.options.quiet silent warned
  pub explains : Speaks (ExplainsRead accounts words bytes file outcome) warned spoken hint_sent

-- THE PROCESS, where the file was read
pub record EndsRead (accounts : Account) (has : Folder) (words : List (List ℕ)) (file : FileRequest) (remaining old new silent spoken : Option (List ℕ))
    (outcome : Option Outcome) (status : ℕ) (hint_sent : HintSent) : Type 0 where
  pub bytes : List ℕ
  pub named : Has has remaining file.name bytes
  pub few : length bytes ≤ 67108864
  pub over : EndsOver accounts words file bytes old new silent spoken outcome status hint_sent

-- It cannot be read: standard error has a line that names it and says why, or a beginning of that line, and nothing is on standard output.
pub record EndsUnread (file : FileRequest) (old new silent spoken : Option (List ℕ)) (outcome : Option Outcome) (status : ℕ) : Type 0 where
  pub unread : Unread
  pub sent : Result ⊤ Error
  pub told : Sends sent silent spoken (unread_line file.name unread)
  pub nothing : new ≡ old
  pub unserved : outcome ≡ None
  pub exit : status ≡ 1

-- ALL WORDS: those that name no file are served as ever; those that ask for help too are served as `help` and the command
abbrev pub help_words : Command → List (List ℕ)
help_words c = codes "help" ∷ command_word c ∷ []

abbrev pub EndsGiven : Account → Folder → List (List ℕ) → Option (List ℕ) → Option (List ℕ) → Option (List ℕ) → Option (List ℕ) → Option (List ℕ)
    → Option (List ℕ) → Option Outcome → ℕ → HintSent → Given → Type 0
EndsGiven accounts has words remaining left old new silent spoken outcome status hint_sent Given.Words =
    Ends accounts words remaining left old new silent spoken outcome status hint_sent
EndsGiven accounts has words remaining left old new silent spoken outcome status hint_sent (Given.Help command) =
    Ends accounts (help_words command) remaining left old new silent spoken outcome status hint_sent
EndsGiven accounts has words remaining left old new silent spoken outcome status hint_sent (Given.File file) =
    EndsRead accounts has words file remaining old new silent spoken outcome status hint_sent ⊎ EndsUnread file old new silent spoken outcome status
