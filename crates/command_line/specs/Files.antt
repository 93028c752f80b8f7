-- Which file the words of a command line name, and what is asked for with it. The words are the arguments after the program's name, each a list of bytes.
use Rattle.std.specs.Prelude.{ℕ, zero, suc, ◌==◌, ◌&&◌, ◌||◌, Bool, true, false, is_some, not, List, [], ◌∷◌, if◌then◌else◌, slice_get}
use Rattle.std.specs.Prelude.{Option, Some, None, option_and_then, unwrap_or, codes}
use Rattle.std.specs.Option.{option_map_or}
use Rattle.std.specs.Str.{bytes_eq}
use Rattle.graph_file.specs.Fields.{literal_of}
use Rattle.command_line.specs.declared.Command.{Command}
use Rattle.command_line.specs.declared.Take.{Take}
use Rattle.command_line.specs.declared.given.FileOption.{FileOption}
use Rattle.command_line.specs.declared.given.FileOptions.{FileOptions}
use Rattle.command_line.specs.declared.given.Given.{Given}
use Rattle.command_line.specs.declared.given.Walk.{Walk}
use Rattle.command_line.specs.declared.given.Walked.{Walked}
use Rattle.command_line.specs.declared.inputs.Inputs.{Inputs}
use Rattle.command_line.specs.declared.options.Collected.{Collected}
use Rattle.command_line.specs.declared.options.Frames.{Frames}
use Rattle.command_line.specs.declared.options.OptionName.{OptionName}
use Rattle.command_line.specs.declared.options.Step.{Step}
use Rattle.command_line.specs.Words.{Text, command_named, is_flag, long_of, no_inputs, nothing, number_of, parts_at, request_of, takes_inputs}
use Rattle.command_line.specs.Words.{with_input, with_inputs, word_met}

-- THE WORD of a command
abbrev pub command_word : Command → Text
command_word Command.Run = codes "run"
command_word Command.Mean = codes "mean"
command_word Command.Check = codes "check"
command_word Command.Compile = codes "compile"
command_word Command.Dis = codes "dis"
command_word Command.Upgrade = codes "upgrade"
command_word Command.Dot = codes "dot"
command_word Command.Exec = codes "exec"
command_word Command.Asm = codes "asm"
command_word Command.Trace = codes "trace"
command_word Command.Profile = codes "profile"
command_word Command.Orders = codes "orders"
command_word Command.Lower = codes "lower"

-- A PLAIN WORD: no option waits for it as its value, and it is no flag
abbrev pub is_plain : Option OptionName → Text → Bool
is_plain None word = not (is_flag word)
is_plain (Some option) word = false

-- The first plain word names a file; but `exec` takes inputs without a file, too, so there a word that is written like an integer is one of those.
abbrev pub is_file : Command → Text → Bool
is_file c word = not (takes_inputs c && is_some (literal_of word))

-- which command takes inputs after a file
abbrev pub takes_inputs_after : Command → Bool
takes_inputs_after Command.Run = true
takes_inputs_after Command.Mean = true
takes_inputs_after Command.Exec = true
takes_inputs_after Command.Trace = true
takes_inputs_after Command.Profile = true
takes_inputs_after Command.Orders = true
takes_inputs_after c = false

-- DEFAULTS WITH A FILE: a run is not cut short. By depth, but for a run in a random order, which takes any token.
abbrev pub file_take : Command → Take
file_take Command.Orders = Take.Oldest
file_take c = Take.Depth

abbrev pub with_file_defaults : Command → Collected → Collected
with_file_defaults c g = record g {
  frames = Some (unwrap_or g.frames (Frames.Number 1024));
  steps = Some (unwrap_or g.steps 4294967296);
  take = Some (unwrap_or g.take (Some (file_take c)));
}

-- OPTIONS THAT A FILE HAS, and no command without one
abbrev pub file_option_named : Text → Option FileOption
file_option_named name =
    if bytes_eq name (codes "cells") then Some FileOption.Cells
    else (if bytes_eq name (codes "grid") then Some FileOption.Grid
    else (if bytes_eq name (codes "quiet") then Some FileOption.Quiet
    else (if bytes_eq name (codes "map") then Some FileOption.Map
    else (if bytes_eq name (codes "format") then Some FileOption.Format
    else None))))

-- `cells` and `grid` are of commands that print a report alone; `quiet` is of those that work on a program, if only with `map`, which is of those that print code
abbrev pub prints_report : Command → Bool
prints_report Command.Run = true
prints_report Command.Mean = true
prints_report Command.Orders = true
prints_report c = false

abbrev pub reads_program : Command → Bool
reads_program Command.Exec = false
reads_program Command.Upgrade = false
reads_program Command.Asm = false
reads_program c = true

abbrev pub prints_code : Command → Bool
prints_code Command.Compile = true
prints_code Command.Dis = true
prints_code c = false

-- `format` is of commands that print lines alone, of which JSON can be made, and of `trace`, whose other formats are no matter of a file
abbrev pub prints_lines : Command → Bool
prints_lines Command.Run = true
prints_lines Command.Mean = true
prints_lines Command.Check = true
prints_lines Command.Profile = true
prints_lines Command.Orders = true
prints_lines Command.Lower = true
prints_lines c = false

abbrev pub is_json : Option Text → Bool
is_json None = false
is_json (Some value) = bytes_eq value (codes "json")

abbrev pub takes_format : Command → Option Text → Bool
takes_format Command.Trace value = is_json value
takes_format c value = prints_lines c

-- where this would be its value
abbrev pub takes_file_option : Command → FileOption → Option Text → Bool
takes_file_option c FileOption.Quiet value = reads_program c
takes_file_option c FileOption.Map value = prints_code c
takes_file_option c FileOption.Format value = takes_format c value
takes_file_option c o value = prints_report c

-- THE VALUE of an option: what follows `=`, or the next word
abbrev pub value_or_next : Option Text → List Text → Option Text
value_or_next (Some value) rest = Some value
value_or_next None rest = slice_get rest 0

-- the option that a word names, with its value, if `=` follows the name; none where an option waits for the word as its value
abbrev pub file_option_in : Command → Option (Text × Option Text) → List Text → Option (FileOption × Option Text)
file_option_in c None rest = None
file_option_in c (Some p) rest =
    option_and_then (λ o. if takes_file_option c o (value_or_next p.1 rest) then Some (o, p.1) else None) (file_option_named p.0)

abbrev pub file_option_at : Command → Option OptionName → Text → List Text → Option (FileOption × Option Text)
file_option_at c (Some option) word rest = None
file_option_at c None word rest = file_option_in c (long_of word) rest

-- VALUES. Of `grid`: arrays with how many cells a row has, as `A=8` or `A=8,B=4`. A row has at least one.
abbrev pub row_length : Option Text → Option ℕ
row_length None = None
row_length (Some digits) = option_and_then (λ n. if n == 0 then None else Some n) (number_of digits)

abbrev pub is_row : Text → Bool
is_row part = is_some (row_length (parts_at 61 part).1)

abbrev pub more_rows : Option Text → (Text → Bool) → Bool
more_rows None go = true
more_rows (Some text) go = go text

-- at most so many parts
unfoldable pub are_rows : ℕ → Text → Bool
are_rows zero text = false
are_rows (suc room) text = is_row (parts_at 44 text).0 && more_rows (parts_at 44 text).1 (λ more. are_rows room more)

abbrev pub is_grid : Text → Bool
is_grid text = are_rows 64 text

-- any text is a list of names
abbrev pub is_value : FileOption → Text → Bool
is_value FileOption.Cells text = true
is_value FileOption.Grid text = is_grid text
is_value FileOption.Quiet text = false
is_value FileOption.Map text = false
is_value FileOption.Format text = bytes_eq text (codes "json") || bytes_eq text (codes "text")

abbrev pub no_options : FileOptions
no_options = record { cells = false; grid = false; quiet = false; map = false; format = false }

-- each may be given once
abbrev pub with_file_option : FileOptions → FileOption → Option FileOptions
with_file_option g FileOption.Cells = if g.cells then None else Some (record g { cells = true })
with_file_option g FileOption.Grid = if g.grid then None else Some (record g { grid = true })
with_file_option g FileOption.Quiet = if g.quiet then None else Some (record g { quiet = true })
with_file_option g FileOption.Map = if g.map then None else Some (record g { map = true })
with_file_option g FileOption.Format = if g.format then None else Some (record g { format = true })

-- THE VALUE OF AN OPTION among words that have a file. After `--` there are no options.
abbrev pub value_of : Text → Option (Text × Option Text) → List Text → Option (Option Text)
value_of name None rest = None
value_of name (Some p) rest = if bytes_eq p.0 name then Some (value_or_next p.1 rest) else None

-- where this word settles it
abbrev pub value_found : Text → Text → List Text → Option (Option Text)
value_found name word rest = if bytes_eq word (codes "--") then Some None else value_of name (long_of word) rest

abbrev pub found_or : Option (Option Text) → Option Text → Option Text
found_or None later = later
found_or (Some value) later = value

unfoldable pub option_value : Text → List Text → Option Text
option_value name [] = None
option_value name (word ∷ rest) = found_or (value_found name word rest) (option_value name rest)

-- For the map of code there is one request.
abbrev pub asked_of : Command → FileOptions → Command
asked_of Command.Dis options = if options.map then Command.Compile else Command.Dis
asked_of c options = c

-- What is to be done with the file of this name. The inputs of `exec` are those of its request. Of two formats neither is one.
abbrev pub file_request : Command → Collected → FileOptions → Text → Inputs → Given
file_request c g options name ins =
    if options.format && is_some g.format then Given.Words
    else (if takes_inputs c then Given.File (record { name = name; request = request_of c (with_file_defaults c g) ins; inputs = no_inputs; options = options })
    else Given.File (record { name = name; request = request_of (asked_of c options) (with_file_defaults c g) no_inputs; inputs = ins; options = options }))

-- ONE WORD, where this was given before it
-- a plain word: the file, or an input after it; without a file all is as it is read without one
abbrev pub plain_given : Command → Walk → Option Text → Text → Walked
plain_given c walk None word = if is_file c word then Walked.On (record walk { file = Some word }) else Walked.Done Given.Words
plain_given c walk (Some name) word =
    if takes_inputs_after c then Walked.On (record walk { inputs = with_input walk.inputs word }) else Walked.Done Given.Words

-- whether one of a file's options was given
abbrev pub are_some : FileOptions → Bool
are_some g = g.cells || g.grid || g.quiet || g.map || g.format

abbrev pub help_given : Command → FileOptions → Option Text → Given
help_given c options None = if are_some options then Given.Help c else Given.Words
help_given c options (Some name) = Given.Help c

-- after `--` there are only plain words
abbrev pub alone_given : Command → Collected → FileOptions → Text → Inputs → List Text → Given
alone_given c g options name ins [] = file_request c g options name ins
alone_given c g options name ins (word ∷ rest) = Given.Words

abbrev pub inputs_given : Command → Collected → FileOptions → Text → Inputs → List Text → Given
inputs_given c g options name ins words =
    if takes_inputs_after c then file_request c g options name (with_inputs ins words) else alone_given c g options name ins words

abbrev pub first_given : Command → Collected → FileOptions → Inputs → List Text → Given
first_given c g options ins [] = Given.Words
first_given c g options ins (word ∷ rest) = if is_file c word then inputs_given c g options word ins rest else Given.Words

abbrev pub end_given : Command → Walk → Option Text → List Text → Given
end_given c walk None rest = first_given c walk.collected walk.options walk.inputs rest
end_given c walk (Some name) rest = inputs_given c walk.collected walk.options name walk.inputs rest

abbrev pub step_given : Command → Walk → Step → List Text → Walked
step_given c walk (Step.Next more waits) rest = Walked.On (record walk { collected = more; waiting = waits })
step_given c walk Step.Input rest = Walked.Done Given.Words
step_given c walk Step.Help rest = Walked.Done (help_given c walk.options walk.file)
step_given c walk Step.End rest = Walked.Done (end_given c walk walk.file rest)
step_given c walk Step.Mistake rest = Walked.Done Given.Words

-- an option of a file with its value
abbrev pub option_given : Walk → Option FileOptions → Walked
option_given walk None = Walked.Done Given.Words
option_given walk (Some options) = Walked.On (record walk { options = options; wanted = None })

abbrev pub value_given : Walk → FileOption → Text → Walked
value_given walk o value = if is_value o value then option_given walk (with_file_option walk.options o) else Walked.Done Given.Words

-- `quiet` and `map` have no value, and each other one waits for it
abbrev pub without_value_given : Walk → FileOption → Walked
without_value_given walk FileOption.Quiet = option_given walk (with_file_option walk.options FileOption.Quiet)
without_value_given walk FileOption.Map = option_given walk (with_file_option walk.options FileOption.Map)
without_value_given walk o = Walked.On (record walk { wanted = Some o })

abbrev pub file_option_given : Walk → FileOption → Option Text → Walked
file_option_given walk o (Some value) = value_given walk o value
file_option_given walk o None = without_value_given walk o

abbrev pub flag_given : Command → Walk → Option (FileOption × Option Text) → Text → List Text → Walked
flag_given c walk (Some p) word rest = file_option_given walk p.0 p.1
flag_given c walk None word rest = step_given c walk (word_met c walk.collected walk.waiting word) rest

abbrev pub unwanted_given : Command → Walk → Text → List Text → Walked
unwanted_given c walk word rest =
    if is_plain walk.waiting word then plain_given c walk walk.file word
    else flag_given c walk (file_option_at c walk.waiting word rest) word rest

-- the value of an option that waits is no flag
abbrev pub wanted_given : Command → Walk → Option FileOption → Text → List Text → Walked
wanted_given c walk None word rest = unwanted_given c walk word rest
wanted_given c walk (Some o) word rest = if is_flag word then Walked.Done Given.Words else value_given walk o word

abbrev pub word_given : Command → Walk → Text → List Text → Walked
word_given c walk word rest = wanted_given c walk walk.wanted word rest

-- ALL WORDS AFTER A COMMAND
-- no word is left
abbrev pub ended_given : Command → Walk → Text → Option FileOption → Given
ended_given c walk name None = file_request c walk.collected walk.options name walk.inputs
ended_given c walk name (Some o) = Given.Words

abbrev pub named_given : Command → Walk → Text → Option OptionName → Given
named_given c walk name None = ended_given c walk name walk.wanted
named_given c walk name (Some option) = Given.Words

abbrev pub all_given : Command → Walk → Option Text → Given
all_given c walk None = Given.Words
all_given c walk (Some name) = named_given c walk name walk.waiting

abbrev pub after_word : Walked → (Walk → Given) → Given
after_word (Walked.On walk) go = go walk
after_word (Walked.Done given) go = given

unfoldable pub given_of : Command → Walk → List Text → Given
given_of c walk [] = all_given c walk walk.file
given_of c walk (word ∷ rest) = after_word (word_given c walk word rest) (λ on. given_of c on rest)

-- ALL WORDS
abbrev pub no_words : Walk
no_words = record {
  collected = nothing;
  options = no_options;
  file = None;
  inputs = no_inputs;
  waiting = None;
  wanted = None;
}

abbrev pub given : List Text → Given
given [] = Given.Words
given (word ∷ rest) = option_map_or (λ c. given_of c no_words rest) (command_named word) Given.Words
