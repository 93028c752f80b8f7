-- Which request the words of a command line are. The words are the arguments after the program's name, each a list of bytes.
use Rattle.std.specs.Prelude.{ℕ, zero, suc, ◌/◌, ◌%◌, min, ◌==◌, ◌+◌, ◌&&◌, ◌||◌, ◌^◌, Bool, true, false, is_some, nat_lt, List, [], ◌∷◌, ◌++◌}
use Rattle.std.specs.Prelude.{length, if◌then◌else◌, Option, Some, None, option_map, option_and_then, unwrap_or, codes}
use Rattle.std.specs.Option.{option_map_or}
use Rattle.std.specs.Char.{digit_value}
use Rattle.std.specs.List.{list_all, list_any, before_first, after_first}
use Rattle.std.specs.Str.{bytes_eq}
use Rattle.std.specs.Str.Parse.{digits_value, without_leading_plus}
use Rattle.graph_file.specs.Fields.{literal_of}
use Rattle.command_line.specs.declared.Asked.{Asked}
use Rattle.command_line.specs.declared.Command.{Command}
use Rattle.command_line.specs.declared.Format.{Format}
use Rattle.command_line.specs.declared.EventFormat.{EventFormat}
use Rattle.command_line.specs.declared.Literals.{Literals}
use Rattle.command_line.specs.declared.Lowering.{Lowering}
use Rattle.mode.specs.declared.Mode.{Mode}
use Rattle.command_line.specs.declared.Request.{Request}
use Rattle.command_line.specs.declared.RunOptions.{RunOptions}
use Rattle.command_line.specs.declared.Take.{Take}
use Rattle.command_line.specs.declared.Topic.{Topic}
use Rattle.command_line.specs.declared.inputs.Inputs.{Inputs}
use Rattle.command_line.specs.declared.options.Collected.{Collected}
use Rattle.command_line.specs.declared.options.Frames.{Frames}
use Rattle.command_line.specs.declared.options.OptionName.{OptionName}
use Rattle.command_line.specs.declared.options.Step.{Step}
use Rattle.command_line.specs.declared.sizes.Sizes.{Sizes}
use Rattle.std.specs.Int.Bits.{bit_or}

abbrev pub Text : Type 0
Text = List ℕ

-- THE TABLE: the commands, the options, and which command takes which
abbrev pub command_named : Text → Option Command
command_named word =
    if bytes_eq word (codes "run") then Some Command.Run
    else (if bytes_eq word (codes "mean") then Some Command.Mean
    else (if bytes_eq word (codes "check") then Some Command.Check
    else (if bytes_eq word (codes "compile") then Some Command.Compile
    else (if bytes_eq word (codes "dis") then Some Command.Dis
    else (if bytes_eq word (codes "upgrade") then Some Command.Upgrade
    else (if bytes_eq word (codes "dot") then Some Command.Dot
    else (if bytes_eq word (codes "exec") then Some Command.Exec
    else (if bytes_eq word (codes "asm") then Some Command.Asm
    else (if bytes_eq word (codes "trace") then Some Command.Trace
    else (if bytes_eq word (codes "profile") then Some Command.Profile
    else (if bytes_eq word (codes "orders") then Some Command.Orders
    else (if bytes_eq word (codes "lower") then Some Command.Lower
    else None))))))))))))

abbrev pub option_named : Text → Option OptionName
option_named name =
    if bytes_eq name (codes "elements") then Some OptionName.Elements
    else (if bytes_eq name (codes "frames") then Some OptionName.Frames
    else (if bytes_eq name (codes "steps") then Some OptionName.Steps
    else (if bytes_eq name (codes "mode") then Some OptionName.Mode
    else (if bytes_eq name (codes "turn") then Some OptionName.Turn
    else (if bytes_eq name (codes "literals") then Some OptionName.Literals
    else (if bytes_eq name (codes "code") then Some OptionName.Code
    else (if bytes_eq name (codes "last") then Some OptionName.Last
    else (if bytes_eq name (codes "format") then Some OptionName.Format
    else (if bytes_eq name (codes "count") then Some OptionName.Count
    else (if bytes_eq name (codes "seed") then Some OptionName.Seed
    else (if bytes_eq name (codes "svg") then Some OptionName.Svg
    else (if bytes_eq name (codes "map") then Some OptionName.Map
    else (if bytes_eq name (codes "take") then Some OptionName.Take
    else None)))))))))))))

abbrev pub says_how_to_run : OptionName → Bool
says_how_to_run OptionName.Elements = true
says_how_to_run OptionName.Frames = true
says_how_to_run OptionName.Steps = true
says_how_to_run OptionName.Mode = true
says_how_to_run OptionName.Turn = true
says_how_to_run OptionName.Take = true
says_how_to_run o = false

-- `profile` has a list of numbers of elements, and the frames of `run` may be `enough`
abbrev pub option_of : Command → OptionName → OptionName
option_of Command.Profile OptionName.Elements = OptionName.Sizes
option_of Command.Run OptionName.Frames = OptionName.FramesOrEnough
option_of c o = o

abbrev pub takes : Command → OptionName → Bool
takes Command.Run OptionName.FramesOrEnough = true
takes Command.Run o = says_how_to_run o
takes Command.Exec o = says_how_to_run o
takes Command.Trace OptionName.Last = true
takes Command.Trace OptionName.Format = true
takes Command.Trace o = says_how_to_run o
takes Command.Mean OptionName.Steps = true
takes Command.Dis OptionName.Literals = true
takes Command.Dot OptionName.Code = true
takes Command.Profile OptionName.Sizes = true
takes Command.Profile OptionName.Frames = true
takes Command.Profile OptionName.Steps = true
takes Command.Profile OptionName.Svg = true
takes Command.Profile OptionName.Take = true
takes Command.Orders OptionName.Elements = true
takes Command.Orders OptionName.Frames = true
takes Command.Orders OptionName.Steps = true
takes Command.Orders OptionName.Count = true
takes Command.Orders OptionName.Seed = true
takes Command.Orders OptionName.Take = true
takes Command.Lower OptionName.Map = true
takes c o = false

-- and which command takes inputs
abbrev pub takes_inputs : Command → Bool
takes_inputs Command.Exec = true
takes_inputs c = false

-- the frames that were given as a number
abbrev pub frames_given : Option Frames → Option ℕ
frames_given (Some (Frames.Number n)) = Some n
frames_given (Some Frames.Enough) = None
frames_given None = None

-- how to run: what was not given has its default
abbrev pub run_options : Collected → RunOptions
run_options g = record {
  elements = unwrap_or g.elements 1;
  frames = unwrap_or (frames_given g.frames) 256;
  steps = unwrap_or g.steps 1000000;
  mode = unwrap_or g.mode (Some Mode.One);
  turn = g.turn;
  take = unwrap_or g.take (Some Take.Oldest);
}

-- a run with these frames: with `enough` of them the number in the options says nothing
abbrev pub run_request : RunOptions → Option Frames → Request
run_request options None = Request.Run options
run_request options (Some (Frames.Number n)) = Request.Run options
run_request options (Some Frames.Enough) = Request.RunEnough options

-- 1, 2, 4, 8 and 16 elements
abbrev pub usual_sizes : Sizes
usual_sizes = record { bits = 65814 }

-- the request of a command with these options and inputs
abbrev pub request_of : Command → Collected → Inputs → Request
request_of Command.Run g ins = run_request (run_options g) g.frames
request_of Command.Mean g ins = Request.Mean (unwrap_or g.steps 1000000)
request_of Command.Check g ins = Request.Check
request_of Command.Compile g ins = Request.Compile
request_of Command.Dis g ins = Request.Dis g.literals
request_of Command.Upgrade g ins = Request.Upgrade
request_of Command.Dot g ins = Request.Dot g.code
request_of Command.Exec g ins = Request.Exec (run_options g) ins
request_of Command.Asm g ins = Request.Asm
request_of Command.Trace g ins = Request.Trace (run_options g) g.last (unwrap_or g.format (Format.Events EventFormat.Lines))
request_of Command.Profile g ins = Request.Profile (run_options g) (unwrap_or g.sizes usual_sizes) g.svg
request_of Command.Orders g ins = Request.Orders (run_options g) (unwrap_or g.count 100) (unwrap_or g.seed 1)
request_of Command.Lower g ins = Request.Lower g.lowering

-- what is before the first c, and what is after it, if there is one
abbrev pub parts_at : ℕ → Text → Text × Option Text
parts_at c text = (
  before_first (λ x. x == c) text,
  if list_any (λ x. x == c) text then Some (after_first (λ x. x == c) text) else None,
)

-- VALUES: a number is one decimal digit or more, below 2 ^ 64; a `+` (43) may be first
abbrev pub is_numeral : Text → Bool
is_numeral ds = nat_lt 0 (length ds) && list_all (λ d. nat_lt (digit_value d) 10) ds

abbrev pub number_of : Text → Option ℕ
number_of text =
    let ds = without_leading_plus text in
    if is_numeral ds && nat_lt (digits_value 10 ds) (2 ^ 64) then Some (digits_value 10 ds) else None

-- each word is a mode's or that of no mode
abbrev pub mode_named : Text → Option Mode
mode_named word =
    if bytes_eq word (codes "one") then Some Mode.One
    else (if bytes_eq word (codes "rounds") then Some Mode.Rounds
    else (if bytes_eq word (codes "free") then Some Mode.Free
    else None))

-- what was given, with this option too: none where the value is no value of it, or it was given before
abbrev pub first_number : Option ℕ → Text → Option ℕ
first_number (Some before) value = None
first_number None value = number_of value

abbrev pub first_mode : Option (Option Mode) → Text → Option (Option Mode)
first_mode (Some before) value = None
first_mode None value = Some (mode_named value)

-- each word is an order's or that of no order
abbrev pub take_named : Text → Option Take
take_named word =
    if bytes_eq word (codes "oldest") then Some Take.Oldest
    else (if bytes_eq word (codes "depth") then Some Take.Depth
    else None)

abbrev pub first_take : Option (Option Take) → Text → Option (Option Take)
first_take (Some before) value = None
first_take None value = Some (take_named value)

abbrev pub first_frames : Option Frames → Text → Option Frames
first_frames (Some before) value = None
first_frames None value = option_map (λ n. Frames.Number n) (number_of value)

abbrev pub first_frames_or_enough : Option Frames → Text → Option Frames
first_frames_or_enough (Some before) value = None
first_frames_or_enough None value =
    if bytes_eq value (codes "enough") then Some Frames.Enough else option_map (λ n. Frames.Number n) (number_of value)

abbrev pub format_named : Text → Option Format
format_named word =
    if bytes_eq word (codes "text") then Some (Format.Events EventFormat.Lines)
    else (if bytes_eq word (codes "chrome") then Some (Format.Events EventFormat.Chrome)
    else (if bytes_eq word (codes "html") then Some Format.Html
    else None))

abbrev pub first_format : Option Format → Text → Option Format
first_format (Some before) value = None
first_format None value = format_named value

-- Numbers of elements as a set: bit n stands for n, and bit 63 for each number above 62.
abbrev pub with_size : Sizes → ℕ → Sizes
with_size z n = record { bits = bit_or z.bits (2 ^ min n 63) }

-- whether n, below 64, is among them
abbrev pub has_size : Sizes → ℕ → Bool
has_size z n = z.bits / 2 ^ n % 2 == 1

-- one number, or a number, a comma (44) and more
abbrev pub more_sizes : Sizes → Option Text → (Sizes → Text → Option Sizes) → Option Sizes
more_sizes z None go = Some z
more_sizes z (Some text) go = go z text

unfoldable pub sizes_from : Sizes → ℕ → Text → Option Sizes
sizes_from z zero text = None
sizes_from z (suc room) text =
    option_and_then (λ n. more_sizes (with_size z n) (parts_at 44 text).1 (λ y more. sizes_from y room more)) (number_of (parts_at 44 text).0)

abbrev pub first_sizes : Option Sizes → Text → Option Sizes
first_sizes (Some before) value = None
first_sizes None value = sizes_from (record { bits = 0 }) 64 value

abbrev pub with_option : Collected → OptionName → Text → Option Collected
with_option g OptionName.Elements value = option_map (λ n. record g { elements = Some n }) (first_number g.elements value)
with_option g OptionName.Frames value = option_map (λ f. record g { frames = Some f }) (first_frames g.frames value)
with_option g OptionName.FramesOrEnough value = option_map (λ f. record g { frames = Some f }) (first_frames_or_enough g.frames value)
with_option g OptionName.Steps value = option_map (λ n. record g { steps = Some n }) (first_number g.steps value)
with_option g OptionName.Mode value = option_map (λ m. record g { mode = Some m }) (first_mode g.mode value)
with_option g OptionName.Turn value = option_map (λ n. record g { turn = Some n }) (first_number g.turn value)
with_option g OptionName.Take value = option_map (λ t. record g { take = Some t }) (first_take g.take value)
with_option g OptionName.Last value = option_map (λ n. record g { last = Some n }) (first_number g.last value)
with_option g OptionName.Count value = option_map (λ n. record g { count = Some n }) (first_number g.count value)
with_option g OptionName.Seed value = option_map (λ n. record g { seed = Some n }) (first_number g.seed value)
with_option g OptionName.Format value = option_map (λ f. record g { format = Some f }) (first_format g.format value)
with_option g OptionName.Sizes value = option_map (λ z. record g { sizes = Some z }) (first_sizes g.sizes value)
with_option g OptionName.Literals value = None
with_option g OptionName.Code value = None
with_option g OptionName.Svg value = None
with_option g OptionName.Map value = None

-- INPUTS: each is written like a literal of a graph's text. They are at most 16, and the first fault stays.
abbrev pub no_inputs : Inputs
no_inputs = Inputs.Integers (record { items = [] })

abbrev pub with_input : Inputs → Text → Inputs
with_input (Inputs.Integers zs) word =
    if length zs.items == 16 then Inputs.TooMany
    else option_map_or (λ z. Inputs.Integers (record { items = zs.items ++ z ∷ [] })) (literal_of word) (Inputs.NoInteger (length zs.items + 1))
with_input (Inputs.NoInteger n) word = Inputs.NoInteger n
with_input Inputs.TooMany word = Inputs.TooMany

-- FORMS OF A WORD
-- what follows a first byte c
abbrev pub after : ℕ → Text → Option Text
after c [] = None
after c (x ∷ xs) = if x == c then Some xs else None

-- `-` (45) and at least one byte more
abbrev pub is_flag : Text → Bool
is_flag word = option_map_or (λ rest. nat_lt 0 (length rest)) (after 45 word) false

-- `-c`, and whatever follows it
abbrev pub is_short : ℕ → Text → Bool
is_short c word = is_some (option_and_then (after c) (after 45 word))

-- `--help` or `-h` (104); `--version` or `-V` (86)
abbrev pub asks_help : Text → Bool
asks_help word = bytes_eq word (codes "--help") || is_short 104 word

abbrev pub asks_version : Text → Bool
asks_version word = bytes_eq word (codes "--version") || is_short 86 word

-- `--NAME`, or `--NAME=VALUE` with the first `=` (61) between
abbrev pub long_of : Text → Option (Text × Option Text)
long_of word = option_map (parts_at 61) (option_and_then (after 45) (after 45 word))

-- ONE WORD AFTER A COMMAND, where this was given before it
abbrev pub valued : Collected → OptionName → Text → Step
valued g o value = option_map_or (λ more. Step.Next more None) (with_option g o value) Step.Mistake

-- `literals`, `code`, `svg` and `map` have no value, and may be given once; each other option waits for the next word
abbrev pub literals_included : Collected → Literals → Step
literals_included g Literals.Included = Step.Mistake
literals_included g Literals.Omitted = Step.Next (record g { literals = Literals.Included }) None

abbrev pub map_asked : Collected → Lowering → Step
map_asked g Lowering.Map = Step.Mistake
map_asked g Lowering.Graph = Step.Next (record g { lowering = Lowering.Map }) None

abbrev pub without_value : Collected → OptionName → Step
without_value g OptionName.Literals = literals_included g g.literals
without_value g OptionName.Code = if g.code then Step.Mistake else Step.Next (record g { code = true }) None
without_value g OptionName.Svg = if g.svg then Step.Mistake else Step.Next (record g { svg = true }) None
without_value g OptionName.Map = map_asked g g.lowering
without_value g o = Step.Next g (Some o)

-- the option has its value after `=`, or none there
abbrev pub named : Collected → OptionName → Option Text → Step
named g o (Some value) = valued g o value
named g o None = without_value g o

abbrev pub option_met : Command → Collected → Text → Option Text → Step
option_met c g name value =
    option_map_or (λ o. if takes c (option_of c o) then named g (option_of c o) value else Step.Mistake) (option_named name) Step.Mistake

-- a word that is none of `--NAME`
abbrev pub plain_met : Command → Text → Step
plain_met c word = if is_flag word then Step.Mistake else (if takes_inputs c then Step.Input else Step.Mistake)

abbrev pub flag_met : Command → Collected → Text → Step
flag_met c g word =
    if bytes_eq word (codes "--") then Step.End
    else (if asks_help word then Step.Help
    else option_map_or (λ p. option_met c g p.0 p.1) (long_of word) (plain_met c word))

-- the value of an option that waits is no flag
abbrev pub word_met : Command → Collected → Option OptionName → Text → Step
word_met c g None word = flag_met c g word
word_met c g (Some o) word = if is_flag word then Step.Mistake else valued g o word

-- ALL WORDS AFTER A COMMAND
-- no word is left: a request, unless an option waits
abbrev pub ended : Command → Collected → Inputs → Option OptionName → Asked
ended c g ins None = Asked.Request (request_of c g ins)
ended c g ins (Some o) = Asked.Mistake

-- all of these words are inputs
unfoldable pub with_inputs : Inputs → List Text → Inputs
with_inputs ins [] = ins
with_inputs ins (word ∷ rest) = with_inputs (with_input ins word) rest

-- after `--` there are only inputs
abbrev pub after_end : Command → Collected → Inputs → List Text → Asked
after_end c g ins [] = Asked.Request (request_of c g ins)
after_end c g ins (word ∷ rest) = if takes_inputs c then Asked.Request (request_of c g (with_inputs ins (word ∷ rest))) else Asked.Mistake

abbrev pub after_step : Command → Collected → Inputs → Step → Text → List Text → (Collected → Inputs → Option OptionName → Asked) → Asked
after_step c g ins (Step.Next more waiting) word rest go = go more ins waiting
after_step c g ins Step.Input word rest go = go g (with_input ins word) None
after_step c g ins Step.Help word rest go = Asked.Help (Topic.Of c)
after_step c g ins Step.End word rest go = after_end c g ins rest
after_step c g ins Step.Mistake word rest go = Asked.Mistake

-- the options and the inputs so far, and the option that waits for its value
unfoldable pub asked_of : Command → Collected → Inputs → Option OptionName → List Text → Asked
asked_of c g ins waiting [] = ended c g ins waiting
asked_of c g ins waiting (word ∷ rest) =
    after_step c g ins (word_met c g waiting word) word rest (λ more all waits. asked_of c more all waits rest)

abbrev pub nothing : Collected
nothing = record {
  elements = None;
  frames = None;
  steps = None;
  mode = None;
  turn = None;
  take = None;
  literals = Literals.Omitted;
  code = false;
  last = None;
  format = None;
  count = None;
  seed = None;
  sizes = None;
  svg = false;
  lowering = Lowering.Graph;
}

-- ALL WORDS
-- `help`, `help COMMAND` and `help help`
abbrev pub topic_named : Text → Asked
topic_named word =
    if bytes_eq word (codes "help") then Asked.Help Topic.Help
    else option_map_or (λ c. Asked.Help (Topic.Of c)) (command_named word) Asked.Mistake

abbrev pub help_asked : List Text → Asked
help_asked [] = Asked.Help Topic.Program
help_asked (word ∷ []) = topic_named word
help_asked (word ∷ more ∷ rest) = Asked.Mistake

abbrev pub no_command_asked : Text → List Text → Asked
no_command_asked word rest =
    if bytes_eq word (codes "help") then help_asked rest
    else (if asks_help word then Asked.Help Topic.Program
    else (if asks_version word then Asked.Version
    else Asked.Mistake))

abbrev pub asked : List Text → Asked
asked [] = Asked.Mistake
asked (word ∷ rest) =
    option_map_or (λ c. asked_of c nothing no_inputs None rest) (command_named word) (no_command_asked word rest)

-- what `--version` prints: the version, and the kit that the program is made with
abbrev pub version_line : Text
version_line = codes "ets 0.3.6 (rattle-kit-13f)" ++ 10 ∷ []
