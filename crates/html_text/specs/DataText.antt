-- The data of a page that shows a run, as a text: one JSON object with what there is before the first event and an entry for each
-- event, each on a line. An entry is a string: letters and numbers stand in it side by side, and ; : and , between its parts.
use Rattle.std.specs.Prelude.{ℕ, zero, suc, ◌+◌, pos, ◌-ℤ◌, List, [], ◌++◌, codes, decimal}
use Rattle.tags.specs.declared.token.Word.{Word}
use Rattle.tags.specs.declared.token.Word.TheVariants as word
use Rattle.tags.specs.declared.token.To.{To}
use Rattle.tags.specs.declared.token.To.TheVariants as to
use Rattle.tags.specs.declared.token.Token.{Token}
use Rattle.tags.specs.declared.slot.SlotState.{SlotState}
use Rattle.tags.specs.declared.slot.SlotState.TheVariants.{Empty, Left, Right, Credits, Waiter, Draining}
use Rattle.disassembler.specs.Listing.{port_letter}
use Rattle.semantics.specs.Machine.{Events}
use Rattle.semantics.specs.Text.{literal}
use Rattle.sink.specs.Numbered.{numbered}
use Rattle.trace_text.specs.TraceText.{word_text, paired}
use Rattle.replay.specs.declared.moment.Deed.{Deed}
use Rattle.replay.specs.declared.moment.Deed.TheVariants as deed
use Rattle.replay.specs.declared.entry.Change.{Change}
use Rattle.replay.specs.declared.entry.Change.TheVariants as change
use Rattle.replay.specs.Views.{EntryView, BooksView}

-- PIECES: a letter or more, and a number; the same and a word.
abbrev pub number_text : List ℕ → ℕ → List ℕ
number_text tag n = tag ++ decimal n

abbrev pub tagged_word : List ℕ → Word → List ℕ
tagged_word tag w = tag ++ word_text w

abbrev pub number_word_text : List ℕ → ℕ → Word → List ℕ
number_word_text tag n w = number_text tag n ++ tagged_word (codes ":") w

-- two numbers, as of a frame and an instruction, or a frame and a slot
abbrev pub numbers_text : List ℕ → ℕ → ℕ → List ℕ
numbers_text tag n m = number_text tag n ++ number_text (codes ",") m

-- TOKENS: to an instruction, which is numbered through all blocks, with the letter of its port; a fetch; a store; a request for a frame; a frame
-- that is handed back; to the host.
abbrev pub token_text : To → Word → List ℕ
token_text (to.Instr f ip port) w = numbers_text (port_letter port) f ip ++ tagged_word (codes ":") w
token_text (to.Fetch x) w = number_word_text (codes "f") x w
token_text (to.Store x v) w = number_word_text (codes "s") x (word.Val v) ++ tagged_word (codes ":") w
token_text to.Manager w = tagged_word (codes "q:") w
token_text (to.Release f) w = number_text (codes "b") f
token_text (to.Host j) w = number_word_text (codes "h") j w

-- a semicolon between the tokens of a list
abbrev pub semicolon : ℕ → List ℕ
semicolon zero = []
semicolon (suc n) = codes ";"

abbrev pub listed_token : ℕ → Token → List ℕ
listed_token n t = semicolon n ++ token_text t.to t.word

abbrev pub tokens_text : List Token → List ℕ
tokens_text ts = numbered listed_token 0 ts

-- STATES of a slot: empty, which is no text; a word that came on the left or on the right port; credits; a request for a credit; a drain
abbrev pub state_text : SlotState → List ℕ
state_text Empty = []
state_text (Left w) = tagged_word (codes "l:") w
state_text (Right w) = tagged_word (codes "r:") w
state_text (Credits n) = number_text (codes "c") n
state_text (Waiter c) = tagged_word (codes "w:") (word.Back c)
state_text (Draining n) = number_text (codes "d") n

-- CHANGES: what is so after the event; none is no text
abbrev pub change_text : Change → List ℕ
change_text change.Nothing = []
change_text (change.Slot f r v) = numbers_text (codes "s") f r ++ state_text v
change_text (change.Reader x c) = number_word_text (codes "+") x (word.Back c)
change_text (change.Filled x v) = number_word_text (codes "v") x (word.Val v)
change_text (change.Out f) = number_text (codes "o") f
change_text (change.Free f) = number_text (codes "f") f
change_text (change.Queued c) = tagged_word (codes "q:") (word.Back c)
change_text (change.Handed f) = number_text (codes "h") f
change_text (change.Output j v) = number_word_text (codes "p") j (word.Val v)
change_text (change.Done j w) = number_word_text (codes "p") j w

-- DEEDS: a letter for each
abbrev pub deed_letter : Deed → List ℕ
deed_letter deed.Waited = codes "w"
deed_letter deed.Fired = codes "f"
deed_letter deed.Answered = codes "a"
deed_letter deed.Deferred = codes "d"
deed_letter deed.Stored = codes "s"
deed_letter deed.Served = codes "v"
deed_letter deed.Given = codes "g"
deed_letter deed.Queued = codes "q"
deed_letter deed.Freed = codes "b"
deed_letter deed.HandedOn = codes "h"
deed_letter deed.Arrived = codes "o"

-- THE TOKEN TAKEN: how far its number is beyond the number of the event. Where tokens are taken in the order in which they were made, it is 0.
abbrev pub beyond_text : List ℕ → ℕ → ℕ → List ℕ
beyond_text tag number event = tag ++ literal (pos number -ℤ pos event)

-- EVENTS, of which the one at place 0 has the number `first`: a line with the element, the deed and the token taken; the change; the tokens made
abbrev pub line_lead : ℕ → List ℕ
line_lead zero = codes "\n\""
line_lead (suc n) = codes ",\n\""

abbrev pub event_head : ℕ → ℕ → ℕ → ℕ → Deed → List ℕ
event_head first n e number d = number_text (line_lead n) e ++ beyond_text (deed_letter d) number (first + n)

abbrev pub event_text : ℕ → ℕ → ℕ × Token → EntryView → List ℕ
event_text first n ev x = event_head first n ev.0 x.number x.deed ++ codes ";" ++ change_text x.change ++ codes ";" ++ tokens_text x.made
    ++ codes "\""

-- BEFORE THE FIRST EVENT that is shown: what the earlier events changed, each change on a line; and the tokens that are on their way then.
abbrev pub listed_change : ℕ → Change → List ℕ
listed_change n c = line_lead n ++ change_text c ++ codes "\""

abbrev pub changes_text : List Change → List ℕ
changes_text cs = numbered listed_change 0 cs

-- a comma between the numbers of a list
abbrev pub comma : ℕ → List ℕ
comma zero = []
comma (suc n) = codes ","

abbrev pub listed_number : ℕ → ℕ → List ℕ
listed_number place n = number_text (comma place) n

abbrev pub listed_numbers : List ℕ → List ℕ
listed_numbers ns = numbered listed_number 0 ns

-- THE DATA of a run on so many elements, which have so many frames in all, of which frame 0 is out at the start: of its events from number
-- `first` on
abbrev pub size_text : ℕ → ℕ → ℕ → List ℕ
size_text elements frames first = number_text (codes "{\"format\":2,\"elements\":") elements ++ number_text (codes ",\"frames\":") frames
    ++ number_text (codes ",\"first\":") first

abbrev pub before_text : BooksView → List ℕ
before_text books = codes ",\"out\":[0],\"changes\":[" ++ changes_text books.changes ++ number_text (codes "],\"next\":") books.next

abbrev pub start_text : BooksView → List ℕ
start_text books = codes ",\"numbers\":[" ++ listed_numbers books.numbers ++ codes "],\"start\":\"" ++ tokens_text books.tokens

abbrev pub data_text : ℕ → ℕ → ℕ → Events → BooksView → List ℕ
data_text elements frames first events books = size_text elements frames first ++ before_text books ++ start_text books ++ codes "\",\"events\":["
    ++ paired (event_text first) 0 events books.entries ++ codes "\n]}"
