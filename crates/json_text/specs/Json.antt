-- THE JSON OF A TEXT THAT A COMMAND PRINTS: one object, made from its lines. A graph and a picture are one string.
use Rattle.std.specs.Prelude.{ℕ, zero, suc, ◌+◌, ◌-◌, ◌/◌, ◌%◌, ◌==◌, ◌&&◌, ◌||◌, Bool, true, false, not, nat_le, nat_lt, ℤ, pos, int_lt, List, [], ◌∷◌, ◌++◌, length, take, drop}
use Rattle.std.specs.Prelude.{if◌then◌else◌, Option, Some, None, codes, flat_map}
use Rattle.std.specs.List.{position}
use Rattle.std.specs.Str.{bytes_eq}
use Rattle.graph_file.specs.Fields.{literal_of}
use Rattle.graph_file.specs.Lines.{parts}
use Rattle.json_text.specs.declared.form.Form.{Form}
use Rattle.json_text.specs.declared.slot.Slot.{Slot}

abbrev pub Text : Type 0
Text = List ℕ

-- STRINGS. The bytes 32 to 126 stand for themselves, but for `"` (34) and `\` (92), which have a `\` before them; a line feed (10) is `\n`, and any other
-- byte is `\u00` and its two digits.
abbrev pub is_plain : ℕ → Bool
is_plain b = nat_le 32 b && nat_le b 126 && not (b == 34) && not (b == 92)

abbrev pub hex_digit : ℕ → ℕ
hex_digit n = if nat_lt n 10 then n + 48 else n + 87

abbrev pub numbered_byte : ℕ → Text
numbered_byte b = codes "\\u00" ++ (hex_digit (b / 16) ∷ hex_digit (b % 16) ∷ [])

abbrev pub escaped_byte : ℕ → Text
escaped_byte b =
    if is_plain b then b ∷ []
    else (if b == 34 || b == 92 then 92 ∷ b ∷ []
    else (if b == 10 then codes "\\n"
    else numbered_byte b))

abbrev pub escaped : Text → Text
escaped text = flat_map escaped_byte text

abbrev pub string : Text → Text
string text = codes "\"" ++ (escaped text ++ codes "\"")

-- WORDS of a line: what is before its first space (32), and what is after that
abbrev pub head_at : Text → Option ℕ → Text
head_at text None = text
head_at text (Some at) = take at text

abbrev pub tail_at : Text → Option ℕ → Text
tail_at text None = []
tail_at text (Some at) = drop (at + 1) text

abbrev pub first_space : Text → Option ℕ
first_space text = position (λ b. b == 32) text

abbrev pub head : Text → Text
head text = head_at text (first_space text)

abbrev pub tail : Text → Text
tail text = tail_at text (first_space text)

-- what a `-` stands for, and a word that is not there
abbrev pub is_nothing : Text → Bool
is_nothing word = length word == 0 || bytes_eq word (codes "-")

-- 0 to 2 ^ 53 - 1: what every reader has as a number, to the unit
abbrev pub is_count : Option ℤ → Bool
is_count None = false
is_count (Some z) = not (int_lt z (pos 0)) && int_lt z (pos 9007199254740992)

abbrev pub word_text : Text → Text
word_text word = if is_nothing word then codes "null" else string word

-- a number that a reader would lose is a string
abbrev pub number_text : Text → Text
number_text word = if is_nothing word then codes "null" else (if is_count (literal_of word) then word else string word)

-- whether it is said, by no more words
abbrev pub truth_text : Text → Text
truth_text words = if length words == 0 then codes "true" else string words

-- VALUES: an integer is a string; a fault `KIND` or `KIND at BLOCK NODE` an object
abbrev pub fault_text : Text → Text → Text → Text
fault_text kind block node =
    codes "{\"fault\":" ++ (word_text kind ++ (codes ",\"block\":" ++ (number_text block ++ (codes ",\"node\":" ++ (number_text node ++ codes "}")))))

abbrev pub is_fault : Text → Bool
is_fault words = bytes_eq (take 6 words) (codes "fault ")

-- the words of a fault after its kind and `at`
abbrev pub origin : Text → Text
origin words = tail (tail words)

abbrev pub value_text : Text → Text
value_text words =
    if is_fault words then fault_text (head (drop 6 words)) (head (origin (drop 6 words))) (tail (origin (drop 6 words))) else word_text words

-- A ROW OF VALUES: the first one, and the words after it
abbrev pub is_placed : Text → Bool
is_placed words = bytes_eq (head words) (codes "at")

abbrev pub first_fault : Text → Text
first_fault words =
    if is_placed (tail words) then fault_text (head words) (head (origin words)) (head (tail (origin words))) else fault_text (head words) [] []

abbrev pub first_value : Text → Text
first_value words = if is_fault words then first_fault (drop 6 words) else word_text (head words)

abbrev pub after_fault : Text → Text
after_fault words = if is_placed words then tail (tail (tail words)) else words

abbrev pub after_value : Text → Text
after_value words = if is_fault words then after_fault (tail (drop 6 words)) else tail words

abbrev pub separator : Text → Text
separator words = if length words == 0 then [] else codes ","

abbrev pub separated : Text → Text
separated words = first_value words ++ separator (after_value words)

abbrev pub next_value : Text → Text
next_value words = if length words == 0 then [] else separated words

-- a row has no more values than bytes
unfoldable pub values_text : ℕ → Text → Text
values_text zero words = []
values_text (suc n) words = next_value words ++ values_text n (after_value words)

abbrev pub row_text : Text → Text
row_text words = codes "[" ++ (values_text (length words) words ++ codes "]")

-- SLOTS of a template: what is put in place of the first word, or of all words that are left
abbrev pub slot_of : ℕ → Slot
slot_of c =
    if c == 46 then Slot.Nothing
    else (if c == 45 then Slot.Skipped
    else (if c == 119 then Slot.Word
    else (if c == 110 then Slot.Number
    else (if c == 98 then Slot.Bound
    else (if c == 87 then Slot.LastWord
    else (if c == 78 then Slot.LastNumber
    else (if c == 118 then Slot.LastValue
    else (if c == 114 then Slot.LastRow
    else (if c == 63 then Slot.Truth
    else Slot.LastText)))))))))

abbrev pub slot_text : Slot → Text → Text
slot_text Slot.Nothing words = []
slot_text Slot.Skipped words = []
slot_text Slot.Word words = word_text (head words)
slot_text Slot.Number words = number_text (head words)
slot_text Slot.Bound words = number_text (take (length (head words) - 1) (head words))
slot_text Slot.LastWord words = word_text words
slot_text Slot.LastNumber words = number_text words
slot_text Slot.LastValue words = value_text words
slot_text Slot.LastRow words = row_text words
slot_text Slot.Truth words = truth_text words
slot_text Slot.LastText words = string words

abbrev pub words_after : Slot → Text → Text
words_after Slot.Nothing words = words
words_after slot words = tail words

-- a piece of a template is the letter of a slot and the text that follows it
abbrev pub piece_slot : Text → Slot
piece_slot [] = Slot.Nothing
piece_slot (c ∷ text) = slot_of c

abbrev pub piece_rest : Text → Text
piece_rest [] = []
piece_rest (c ∷ text) = text

abbrev pub piece_text : Text → Text → Text
piece_text piece words = slot_text (piece_slot piece) words ++ piece_rest piece

abbrev pub after_piece : Text → Text → Text
after_piece piece words = words_after (piece_slot piece) words

unfoldable pub pieces_text : List Text → Text → Text
pieces_text [] words = []
pieces_text (piece ∷ more) words = piece_text piece words ++ pieces_text more (after_piece piece words)

-- `|` (124) is between the pieces
abbrev pub filled : Text → Text → Text
filled template words = pieces_text (parts 124 template) words

-- FORMS OF LINES: the words that a line of this form begins with
abbrev pub start : Form → Text
start Form.Output = codes "output"
start Form.Cell = codes "cell"
start Form.Row = codes "cells"
start Form.Deferred = codes "deferred"
start Form.Waiting = codes "waiting"
start Form.FramesSuffice = codes "frames that suffice in every order:"
start Form.StepsSuffice = codes "steps that suffice in every order:"
start Form.FramesBounded = codes "frames that suffice in every order where each loop's bound is at least"
start Form.StepsBounded = codes "steps that suffice in every order where each loop's bound is at least"
start Form.Frames = codes "frames"
start Form.Clash = codes "end Clash"
start Form.Stuck = codes "end Stuck"
start Form.End = codes "end"
start Form.Event = codes "event"
start Form.Work = codes "work"
start Form.Span = codes "span"
start Form.Parallelism = codes "parallelism"
start Form.Wave = codes "wave"
start Form.Machine = codes "elements"
start Form.Differ = codes "orders differ"
start Form.Orders = codes "orders"
start Form.Order = codes "order"
start Form.Place = codes "at"
start Form.Well = codes "ok"
start Form.RefusedProgram = codes "refused: program"
start Form.RefusedRead = codes "refused: read"
start Form.RefusedCheck = codes "refused: check"
start Form.RefusedSlots = codes "refused: slots"
start Form.RefusedCode = codes "refused: emit"
start Form.RefusedInput = codes "refused: input"
start Form.RefusedEnough = codes "refused: enough"
start Form.Refused = codes "refused:"
start Form.Other = []

-- the key of the list whose items lines of this form are; none where a line has keys of the object itself
abbrev pub list_of : Form → Text
list_of Form.Output = codes "outputs"
list_of Form.Cell = codes "cells"
list_of Form.Row = codes "rows"
list_of Form.Event = codes "events"
list_of Form.Wave = codes "waves"
list_of Form.Machine = codes "machines"
list_of Form.Place = codes "places"
list_of Form.Other = codes "lines"
list_of f = []

-- what a line of this form becomes, with slots for the words after those that it begins with
abbrev pub template : Form → Text
template Form.Output = codes "-|v"
template Form.Cell = codes ".{\"array\":|w,\"index\":|n,\"value\":|v}"
template Form.Row = codes ".{\"array\":|w,\"index\":|n,\"values\":|r}"
template Form.Deferred = codes ".\"deferred\":|N"
template Form.Waiting = codes ".\"waiting\":{\"frames\":|n,\"credits\":|N}"
template Form.FramesSuffice = codes ".\"frames_that_suffice\":|N"
template Form.StepsSuffice = codes ".\"steps_that_suffice\":|N"
template Form.FramesBounded = codes ".\"where_bounds_are_at_least\":|b,\"frames_that_suffice\":|N"
template Form.StepsBounded = codes "-\"steps_that_suffice\":|N"
template Form.Frames = codes ".\"frames\":|N"
template Form.Clash = codes ".\"end\":\"Clash\",\"array\":|w,\"index\":|N"
template Form.Stuck = codes ".\"end\":\"Stuck\",\"rule\":|W"
template Form.End = codes ".\"end\":|W"
template Form.Event = codes ".{\"event\":|n,\"element\":|n,\"frame\":|n,\"at\":|w,\"name\":|w,\"port\":|w,\"deed\":|w,\"word\":|W}"
template Form.Work = codes ".\"work\":|N"
template Form.Span = codes ".\"span\":|N"
template Form.Parallelism = codes ".\"parallelism\":|W"
template Form.Wave = codes "-|N"
template Form.Machine = codes ".{\"elements\":|n,\"rounds\":|-|n,\"tokens\":|-|n,\"slots\":|-|n,\"frames\":|-|n,\"end\":|-|w,\"array\":|w,\"index\":|N}"
template Form.Differ = codes ".\"differ\":|?"
template Form.Orders = codes ".\"orders\":|n,\"differ\":false|-"
template Form.Order = codes ".\"order\":|N"
template Form.Place = codes ".{\"block\":|n,\"node\":|n,\"line\":|-|n,\"column\":|-|N}"
template Form.Well = codes ".\"ok\":|?"
template Form.RefusedProgram = codes ".\"refused\":{\"stage\":\"program\",\"kind\":|w,\"line\":|-|n,\"column\":|-|N}"
template Form.RefusedRead = codes ".\"refused\":{\"stage\":\"read\",\"kind\":|w,\"line\":|-|N}"
template Form.RefusedCheck = codes ".\"refused\":{\"stage\":\"check\",\"kind\":|w,\"block\":|-|n,\"node\":|-|N}"
template Form.RefusedSlots = codes ".\"refused\":{\"stage\":\"slots\",\"kind\":|w,\"block\":|-|N}"
template Form.RefusedCode = codes ".\"refused\":{\"stage\":\"emit\",\"kind\":|w,\"block\":|-|N}"
template Form.RefusedInput = codes ".\"refused\":{\"stage\":\"input\",\"line\":|-|N}"
template Form.RefusedEnough = codes ".\"refused\":{\"stage\":\"enough\",\"kind\":|w,\"frames\":|N}"
template Form.Refused = codes ".\"refused\":{\"stage\":|w,\"kind\":|W}"
template Form.Other = codes "t"

-- in the order in which they are tried
abbrev pub forms : List Form
forms =
    Form.Event ∷ Form.Cell ∷ Form.Wave ∷ Form.Place ∷ Form.Output ∷ Form.Row ∷ Form.Deferred ∷ Form.Waiting ∷ Form.FramesSuffice ∷ Form.StepsSuffice
    ∷ Form.FramesBounded ∷ Form.StepsBounded ∷ Form.Frames ∷ Form.Clash ∷ Form.Stuck ∷ Form.End ∷ Form.Work ∷ Form.Span ∷ Form.Parallelism
    ∷ Form.Machine ∷ Form.Differ ∷ Form.Orders ∷ Form.Order ∷ Form.Well ∷ Form.RefusedProgram ∷ Form.RefusedRead ∷ Form.RefusedCheck
    ∷ Form.RefusedSlots ∷ Form.RefusedCode ∷ Form.RefusedInput ∷ Form.RefusedEnough ∷ Form.Refused ∷ []

-- the words of a line after those that it begins with, if it does; a space is between
abbrev pub rest_after : Text → Option Text
rest_after [] = Some []
rest_after (c ∷ words) = if c == 32 then Some words else None

abbrev pub words_behind : Text → Text → Option Text
words_behind begun text = if bytes_eq (take (length begun) text) begun then rest_after (drop (length begun) text) else None

abbrev pub or_read : Form → Option Text → Form × Text → Form × Text
or_read form None later = later
or_read form (Some words) later = (form, words)

-- the first form that the line has, and its words; else all of the line
abbrev pub first_read : List Form → Text → Form × Text
first_read [] text = (Form.Other, text)
first_read (form ∷ more) text = or_read form (words_behind (start form) text) (first_read more text)

abbrev pub read_line : Text → Form × Text
read_line text = first_read forms text

-- THE OBJECT, so far: the key of the list that is open, or none; whether the object is empty; whether it is a report in a list of reports
pub record Object : Type 0 where
  pub list : Text
  pub is_empty : Bool
  pub is_nested : Bool

abbrev pub nothing_open : Object
nothing_open = record { list = []; is_empty = true; is_nested = false }

-- what is there where there is a key
abbrev pub with_key : Text → Text → Text
with_key [] text = []
with_key (c ∷ key) text = text

abbrev pub list_begin : Text → Text
list_begin [] = []
list_begin (c ∷ key) = codes "\"" ++ ((c ∷ key) ++ codes "\":[")

abbrev pub comma : Bool → Text
comma true = []
comma false = codes ","

abbrev pub goes_on : Text → Text → Bool
goes_on before list = not (length list == 0) && bytes_eq before list

-- what stands before a line: the lines of one list that follow one another are items of it; an order begins a report of its own
abbrev pub list_close : Object → Text
list_close object = with_key object.list (codes "]") ++ comma object.is_empty

abbrev pub first_joint : Object → Text → Text
first_joint object list = list_close object ++ list_begin list

abbrev pub item_joint : Object → Text → Text
item_joint object list = if goes_on object.list list then codes "," else first_joint object list

abbrev pub report_end : Bool → Text
report_end is_nested = if is_nested then codes "}" else []

abbrev pub report_begin : Bool → Text
report_begin is_nested = if is_nested then codes "{" else codes "\"reports\":[{"

abbrev pub order_joint : Object → Text
order_joint object =
    with_key object.list (codes "]") ++ (report_end object.is_nested ++ (comma object.is_empty ++ report_begin object.is_nested))

abbrev pub is_order : Form → Bool
is_order Form.Order = true
is_order form = false

abbrev pub joint : Object → Form → Text
joint object form = if is_order form then order_joint object else item_joint object (list_of form)

abbrev pub open_after : Object → Form → Object
open_after object form = record { list = list_of form; is_empty = false; is_nested = object.is_nested || is_order form }

abbrev pub read_text : Object → Form × Text → Text
read_text object p = joint object p.0 ++ filled (template p.0) p.1

abbrev pub whole_end : Bool → Text
whole_end is_nested = if is_nested then codes "}]}\n" else codes "}\n"

abbrev pub object_end : Object → Text
object_end object = with_key object.list (codes "]") ++ whole_end object.is_nested

-- ALL LINES; after the last line feed nothing is left
abbrev pub is_last : Text → List Text → Bool
is_last text more = length text == 0 && length more == 0

unfoldable pub lines_text : Object → List Text → Text
lines_text object [] = object_end object
lines_text object (text ∷ more) =
    if is_last text more then object_end object else read_text object (read_line text) ++ lines_text (open_after object (read_line text).0) more

-- a graph begins with `etsgraph `, a picture with `<`
abbrev pub is_whole : Text → Bool
is_whole text = bytes_eq (take 9 text) (codes "etsgraph ") || bytes_eq (take 1 text) (codes "<")

abbrev pub whole_text : Text → Text
whole_text text = codes "{\"text\":" ++ (string text ++ codes "}\n")

abbrev pub object_text : Text → Text
object_text text = codes "{" ++ lines_text nothing_open (parts 10 text)

abbrev pub json_of : Text → Text
json_of text = if is_whole text then whole_text text else object_text text
