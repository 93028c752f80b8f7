-- Words, data, listings and graphs have no byte that a page would have to escape.
use Rattle.std.proofs.Common.{◌≡◌, refl, sym, ap, ◌∙◌, subst, ℕ, zero, suc, ◌+◌, ◌-◌, ◌≤◌, true, false, ℤ, pos, List, [], ◌∷◌, ◌++◌, length, Option}
use Rattle.std.proofs.Common.{Some, None}
use Rattle.std.specs.Prelude.{decimal, codes, flat_map, ◌-ℤ◌}
use Rattle.std.specs.Prelude.{All}
use Rattle.std.specs.List.{list_all}
use Rattle.std.proofs.lemmas.List.{append_assoc}
use Rattle.tags.specs.declared.value.FaultKind.{FaultKind}
use Rattle.tags.specs.declared.value.Origin.{Origin}
use Rattle.tags.specs.declared.value.Value.{Value}
use Rattle.tags.specs.declared.token.Port.{Port}
use Rattle.tags.specs.declared.token.Cont.{Cont}
use Rattle.tags.specs.declared.token.Word.{Word}
use Rattle.tags.specs.declared.token.To.{To}
use Rattle.tags.specs.declared.token.Token.{Token}
use Rattle.tags.specs.declared.slot.SlotState.{SlotState}
use Rattle.operators.specs.declared.Unary.{Unary}
use Rattle.operators.specs.declared.Binary.{Binary}
use Rattle.operators.proofs.Every.{all_binary}
use Rattle.semantics.specs.declared.program.Dest.{Dest}
use Rattle.semantics.specs.declared.program.Op.{Op}
use Rattle.semantics.specs.declared.graph.Region.{Region}
use Rattle.semantics.specs.declared.graph.Source.{Source}
use Rattle.semantics.specs.declared.graph.Kind.{Kind}
use Rattle.semantics.specs.Graph.{Graph, Node, Block}
use Rattle.semantics.specs.Program.{Instr, CodeBlock, Program}
use Rattle.semantics.specs.Rule.{slot_of}
use Rattle.sink.specs.Numbered.{numbered}
use Rattle.semantics.specs.Machine.{Events}
use Rattle.semantics.specs.Opcodes.{op_word}
use Rattle.semantics.specs.Text as text
use Rattle.semantics.specs.Text.{field, line, literal, unary_word, binary_word, region_text, kind_text, sources_text, node_line, block_text, text_of}
use Rattle.semantics.specs.Text.{IsName, HasLine, HasNodeLine, HasBlockText, HasText}
use Rattle.disassembler.specs.Listing as list
use Rattle.disassembler.specs.Listing.{spaces, gap, right_in, left_in, slot_text, port_letter, dest_text, operand_text, instr_line, block_line}
use Rattle.disassembler.specs.Listing.{block_lines, head_line}
use Rattle.trace_text.specs.TraceText as trace
use Rattle.trace_text.specs.TraceText.{kind_word, value_text, cont_text, word_text, paired}
use Rattle.replay.specs.declared.moment.Deed.{Deed}
use Rattle.replay.specs.declared.entry.Change.{Change}
use Rattle.replay.specs.Views.{EntryView, BooksView}
use Rattle.html_text.specs.DataText.{number_text, tagged_word, number_word_text, numbers_text, beyond_text, token_text, semicolon, listed_token}
use Rattle.html_text.specs.DataText.{tokens_text, deed_letter}
use Rattle.html_text.specs.DataText.{state_text, change_text, line_lead, event_head, event_text, listed_change, changes_text, comma, listed_number, listed_numbers}
use Rattle.html_text.specs.DataText.{size_text, before_text, start_text, data_text}
use Rattle.html_text.specs.Plain.{IsPlain, IsInert, IsQuotable, IsInPart, IsInWord, WordsAreWhole, PartsAreWhole, StringsAreQuotable, DataIsInert}
use Rattle.html_text.specs.Plain.{ListingsArePlain, GraphsArePlain}
use Rattle.html_text.proofs.Bytes.{plain, inert, quotable, in_part, in_word, Passing, joined, join_all, all_from, all_numbered, all_paired, all_each, lift, plain_means}
use Rattle.html_text.proofs.Bytes.{inert_means, quotable_means, in_part_means, in_word_means}
use Rattle.html_text.proofs.Bytes.{word_part, part_quotable, word_plain, quotable_inert, name_plain, number, integer}

abbrev pub Quotable : List ℕ → Type 0
Quotable xs = list_all quotable xs ≡ true

abbrev pub InPart : List ℕ → Type 0
InPart xs = list_all in_part xs ≡ true

abbrev pub InWord : List ℕ → Type 0
InWord xs = list_all in_word xs ≡ true

abbrev pub Plain : List ℕ → Type 0
Plain xs = list_all plain xs ≡ true

abbrev pub Inert : List ℕ → Type 0
Inert xs = list_all inert xs ≡ true

-- WORDS
in_words : (first : Passing in_word) (pieces : List (Passing in_word)) → InWord (joined in_word first.0 pieces)
in_words = join_all in_word

port_word : (p : Port) → InWord (port_letter p)
port_word Port.Left = refl
port_word Port.Right = refl

kind_is_word : (k : FaultKind) → InWord (kind_word k)
kind_is_word FaultKind.Zero = refl
kind_is_word FaultKind.Range = refl

origin_word : (o : Origin) → InWord (trace.origin_text o)
origin_word Origin.Untold = refl
origin_word (Origin.At b n) = in_words (codes " at", refl) ((field (decimal b), number b) ∷ (field (decimal n), number n) ∷ [])

value_word : (v : Value) → InWord (value_text v)
value_word (Value.Int z) = integer z
value_word (Value.Fault k o) = in_words (codes "fault", refl) ((field (kind_word k), kind_is_word k) ∷ (trace.origin_text o, origin_word o) ∷ [])

cont_word : (c : Cont) → InWord (cont_text c)
cont_word (Cont.Frame f ip p) = in_words (codes "to", refl) ((field (decimal f), number f) ∷ (field (decimal ip), number ip) ∷
    (field (port_letter p), port_word p) ∷ [])
cont_word (Cont.Host j) = in_words (codes "to host", refl) ((field (decimal j), number j) ∷ [])

word_is_word : (w : Word) → InWord (word_text w)
word_is_word (Word.Val v) = value_word v
word_is_word (Word.Frame f) = in_words (codes "frame", refl) ((field (decimal f), number f) ∷ [])
word_is_word (Word.Back c) = cont_word c

pub words : WordsAreWhole
words w = all_from in_word IsInWord in_word_means (word_text w) (word_is_word w)

-- DATA. The parts of its strings
in_parts : (first : Passing in_part) (pieces : List (Passing in_part)) → InPart (joined in_part first.0 pieces)
in_parts = join_all in_part

of_word : (xs : List ℕ) → InWord xs → InPart xs
of_word xs q = lift in_word in_part word_part xs q

letter_part : (d : Deed) → InPart (deed_letter d)
letter_part Deed.Waited = refl
letter_part Deed.Fired = refl
letter_part Deed.Answered = refl
letter_part Deed.Deferred = refl
letter_part Deed.Stored = refl
letter_part Deed.Served = refl
letter_part Deed.Given = refl
letter_part Deed.Queued = refl
letter_part Deed.Freed = refl
letter_part Deed.HandedOn = refl
letter_part Deed.Arrived = refl

number_part : (tag : List ℕ) (n : ℕ) → InPart tag → InPart (number_text tag n)
number_part tag n t = in_parts (tag, t) ((decimal n, of_word (decimal n) (number n)) ∷ [])

tagged_part : (tag : List ℕ) (w : Word) → InPart tag → InPart (tagged_word tag w)
tagged_part tag w t = in_parts (tag, t) ((word_text w, of_word (word_text w) (word_is_word w)) ∷ [])

number_word_part : (tag : List ℕ) (n : ℕ) (w : Word) → InPart tag → InPart (number_word_text tag n w)
number_word_part tag n w t = in_parts (number_text tag n, number_part tag n t)
    ((tagged_word (codes ":") w, tagged_part (codes ":") w refl) ∷ [])

numbers_part : (tag : List ℕ) (n m : ℕ) → InPart tag → InPart (numbers_text tag n m)
numbers_part tag n m t = in_parts (number_text tag n, number_part tag n t)
    ((number_text (codes ",") m, number_part (codes ",") m refl) ∷ [])

token_part : (t : To) (w : Word) → InPart (token_text t w)
token_part (To.Instr f ip port) w = in_parts (numbers_text (port_letter port) f ip, numbers_part (port_letter port) f ip (of_word (port_letter port) (port_word port)))
    ((tagged_word (codes ":") w, tagged_part (codes ":") w refl) ∷ [])
token_part (To.Fetch x) w = number_word_part (codes "f") x w refl
token_part (To.Store x v) w = in_parts (number_word_text (codes "s") x (Word.Val v), number_word_part (codes "s") x (Word.Val v) refl)
    ((tagged_word (codes ":") w, tagged_part (codes ":") w refl) ∷ [])
token_part To.Manager w = tagged_part (codes "q:") w refl
token_part (To.Release f) w = number_part (codes "b") f refl
token_part (To.Host j) w = number_word_part (codes "h") j w refl

state_part : (s : SlotState) → InPart (state_text s)
state_part SlotState.Empty = refl
state_part (SlotState.Left w) = tagged_part (codes "l:") w refl
state_part (SlotState.Right w) = tagged_part (codes "r:") w refl
state_part (SlotState.Credits n) = number_part (codes "c") n refl
state_part (SlotState.Waiter c) = tagged_part (codes "w:") (Word.Back c) refl
state_part (SlotState.Draining n) = number_part (codes "d") n refl

change_part : (c : Change) → InPart (change_text c)
change_part Change.Nothing = refl
change_part (Change.Slot f r v) = in_parts (numbers_text (codes "s") f r, numbers_part (codes "s") f r refl) ((state_text v, state_part v) ∷ [])
change_part (Change.Reader x c) = number_word_part (codes "+") x (Word.Back c) refl
change_part (Change.Filled x v) = number_word_part (codes "v") x (Word.Val v) refl
change_part (Change.Out f) = number_part (codes "o") f refl
change_part (Change.Free f) = number_part (codes "f") f refl
change_part (Change.Queued c) = tagged_part (codes "q:") (Word.Back c) refl
change_part (Change.Handed f) = number_part (codes "h") f refl
change_part (Change.Output j v) = number_word_part (codes "p") j (Word.Val v) refl
change_part (Change.Done j w) = number_word_part (codes "p") j w refl

beyond_part : (d : Deed) (k m : ℕ) → InPart (beyond_text (deed_letter d) k m)
beyond_part d k m = in_parts (deed_letter d, letter_part d) ((literal (pos k -ℤ pos m), of_word (literal (pos k -ℤ pos m)) (integer (pos k -ℤ pos m))) ∷ [])

head_part : (e : ℕ) (d : Deed) (k m : ℕ) → InPart (decimal e ++ beyond_text (deed_letter d) k m)
head_part e d k m = in_parts (decimal e, of_word (decimal e) (number e)) ((beyond_text (deed_letter d) k m, beyond_part d k m) ∷ [])

pub parts : PartsAreWhole
parts = (
  λ e d k m. all_from in_part IsInPart in_part_means (decimal e ++ beyond_text (deed_letter d) k m) (head_part e d k m),
  λ c. all_from in_part IsInPart in_part_means (change_text c) (change_part c),
  λ t. all_from in_part IsInPart in_part_means (token_text t.to t.word) (token_part t.to t.word),
)

-- what stands between the quotation marks
quotables : (first : Passing quotable) (pieces : List (Passing quotable)) → Quotable (joined quotable first.0 pieces)
quotables = join_all quotable

of_part : (xs : List ℕ) → InPart xs → Quotable xs
of_part xs q = lift in_part quotable part_quotable xs q

semicolon_quotable : (n : ℕ) → Quotable (semicolon n)
semicolon_quotable zero = refl
semicolon_quotable (suc n) = refl

tokens_quotable : (ts : List Token) → Quotable (tokens_text ts)
tokens_quotable ts = all_numbered quotable listed_token (λ n t. quotables (semicolon n, semicolon_quotable n)
    ((token_text t.to t.word, of_part (token_text t.to t.word) (token_part t.to t.word)) ∷ [])) 0 ts

change_quotable : (c : Change) → Quotable (change_text c)
change_quotable c = of_part (change_text c) (change_part c)

-- of an event, after the element's number
abbrev rest_of : ℕ → EntryView → List (Passing quotable)
rest_of event x = (beyond_text (deed_letter x.deed) x.number event, of_part (beyond_text (deed_letter x.deed) x.number event) (beyond_part x.deed x.number event)) ∷
    (codes ";", refl) ∷ (change_text x.change, change_quotable x.change) ∷ (codes ";", refl) ∷ (tokens_text x.made, tokens_quotable x.made) ∷ []

-- a text before pieces that are joined
apart : (lead first : List ℕ) (pieces : List (Passing quotable)) → joined quotable (lead ++ first) pieces ≡ lead ++ joined quotable first pieces
apart lead first [] = refl
apart lead first (piece ∷ pieces) = ap (λ (bs : List ℕ). joined quotable bs pieces) (append_assoc lead first piece.0) ∙ apart lead (first ++ piece.0) pieces

event_string : (first n : ℕ) (ev : ℕ × Token) (x : EntryView) → (string : List ℕ) × (event_text first n ev x ≡ line_lead n ++ string ++ codes "\"")
    × All IsQuotable string
event_string first n ev x =
    let string : List ℕ = joined quotable (decimal ev.0) (rest_of (first + n) x) in
    let all : Quotable string = quotables (decimal ev.0, of_part (decimal ev.0) (of_word (decimal ev.0) (number ev.0))) (rest_of (first + n) x) in (
      string,
      ap (λ (bs : List ℕ). bs ++ codes "\"") (apart (line_lead n) (decimal ev.0) (rest_of (first + n) x)),
      all_from quotable IsQuotable quotable_means string all,
    )

pub strings : StringsAreQuotable
strings = (
  event_string,
  λ c. all_from quotable IsQuotable quotable_means (change_text c) (change_quotable c),
  λ ts. all_from quotable IsQuotable quotable_means (tokens_text ts) (tokens_quotable ts),
)

-- and all of it, with the quotation marks
pub inerts : (first : Passing inert) (pieces : List (Passing inert)) → Inert (joined inert first.0 pieces)
inerts = join_all inert

of : (xs : List ℕ) → Quotable xs → Inert xs
of xs q = lift quotable inert quotable_inert xs q

pub number_inert : (tag : List ℕ) (n : ℕ) → Inert tag → Inert (number_text tag n)
number_inert tag n t = inerts (tag, t) ((decimal n, of (decimal n) (of_part (decimal n) (of_word (decimal n) (number n)))) ∷ [])

lead_inert : (n : ℕ) → Inert (line_lead n)
lead_inert zero = refl
lead_inert (suc n) = refl

comma_inert : (n : ℕ) → Inert (comma n)
comma_inert zero = refl
comma_inert (suc n) = refl

event_inert : (first n : ℕ) (ev : ℕ × Token) (x : EntryView) → Inert (event_text first n ev x)
event_inert first n ev x =
    let taken : List ℕ = beyond_text (deed_letter x.deed) x.number (first + n) in
    let head : Inert (event_head first n ev.0 x.number x.deed) = inerts (number_text (line_lead n) ev.0, number_inert (line_lead n) ev.0 (lead_inert n))
    ((taken, of taken (of_part taken (beyond_part x.deed x.number (first + n)))) ∷ []) in
    inerts (event_head first n ev.0 x.number x.deed, head) ((codes ";", refl) ∷ (change_text x.change, of (change_text x.change) (change_quotable x.change)) ∷
    (codes ";", refl) ∷ (tokens_text x.made, of (tokens_text x.made) (tokens_quotable x.made)) ∷ (codes "\"", refl) ∷ [])

changes_inert : (cs : List Change) → Inert (changes_text cs)
changes_inert cs = all_numbered inert listed_change (λ n c. inerts (line_lead n, lead_inert n)
    ((change_text c, of (change_text c) (change_quotable c)) ∷ (codes "\"", refl) ∷ [])) 0 cs

listed_inert : (ns : List ℕ) → Inert (listed_numbers ns)
listed_inert ns = all_numbered inert listed_number (λ n k. number_inert (comma n) k (comma_inert n)) 0 ns

size_inert : (elements frames first : ℕ) → Inert (size_text elements frames first)
size_inert elements frames first =
    inerts (number_text (codes "{\"format\":2,\"elements\":") elements, number_inert (codes "{\"format\":2,\"elements\":") elements refl)
    ((number_text (codes ",\"frames\":") frames, number_inert (codes ",\"frames\":") frames refl) ∷
    (number_text (codes ",\"first\":") first, number_inert (codes ",\"first\":") first refl) ∷ [])

before_inert : (b : BooksView) → Inert (before_text b)
before_inert b = inerts (codes ",\"out\":[0],\"changes\":[", refl) ((changes_text b.changes, changes_inert b.changes) ∷
    (number_text (codes "],\"next\":") b.next, number_inert (codes "],\"next\":") b.next refl) ∷ [])

start_inert : (b : BooksView) → Inert (start_text b)
start_inert b = inerts (codes ",\"numbers\":[", refl) ((listed_numbers b.numbers, listed_inert b.numbers) ∷ (codes "],\"start\":\"", refl) ∷
    (tokens_text b.tokens, of (tokens_text b.tokens) (tokens_quotable b.tokens)) ∷ [])

all_inert : (elements frames first : ℕ) (events : Events) (b : BooksView) → Inert (data_text elements frames first events b)
all_inert elements frames first events b = inerts (size_text elements frames first, size_inert elements frames first)
    ((before_text b, before_inert b) ∷ (start_text b, start_inert b) ∷ (codes "\",\"events\":[", refl) ∷
    (paired (event_text first) 0 events b.entries, all_paired inert (event_text first) (event_inert first) 0 events b.entries) ∷ (codes "\n]}", refl) ∷ [])

pub data_inert : DataIsInert
data_inert elements frames first events books = all_from inert IsInert inert_means (data_text elements frames first events books)
    (all_inert elements frames first events books)

-- LISTINGS
pub plains : (first : Passing plain) (pieces : List (Passing plain)) → Plain (joined plain first.0 pieces)
plains = join_all plain

pub dec : (n : ℕ) → Plain (decimal n)
dec n = lift in_word plain word_plain (decimal n) (number n)

pub int : (z : ℤ) → Plain (literal z)
int z = lift in_word plain word_plain (literal z) (integer z)

pub ended : (xs : List ℕ) → Plain xs → Plain (line xs)
ended xs a = plains (xs, a) ((10 ∷ [], refl) ∷ [])

spaces_plain : (n : ℕ) → Plain (spaces n)
spaces_plain zero = refl
spaces_plain (suc n) = spaces_plain n

right_plain : (width : ℕ) (xs : List ℕ) → Plain xs → Plain (right_in width xs)
right_plain width xs a = plains (gap width (length xs), spaces_plain (width - length xs)) ((xs, a) ∷ [])

left_plain : (width : ℕ) (xs : List ℕ) → Plain xs → Plain (left_in width xs)
left_plain width xs a = plains (xs, a) ((gap width (length xs), spaces_plain (width - length xs)) ∷ [])

unary_plain : (op : Unary) → Plain (unary_word op)
unary_plain Unary.Neg = refl
unary_plain Unary.Not = refl

binary_plain : (op : Binary) → Plain (binary_word op)
binary_plain = all_binary (λ op. list_all plain (binary_word op)) refl

op_plain : (op : Op) → Plain (op_word op)
op_plain (Op.Apply1 u) = unary_plain u
op_plain (Op.Apply2 b) = binary_plain b
op_plain (Op.Apply2Right b z) = binary_plain b
op_plain (Op.Apply2Left b z) = binary_plain b
op_plain (Op.Lit z) = refl
op_plain Op.Copy = refl
op_plain Op.Sync = refl
op_plain Op.Switch = refl
op_plain (Op.Fetch a) = refl
op_plain (Op.Store a) = refl
op_plain Op.Frame = refl
op_plain (Op.Link b) = refl
op_plain (Op.Send b e) = refl
op_plain (Op.Return o) = refl
op_plain (Op.Ask o) = refl
op_plain (Op.Open k) = refl
op_plain (Op.Take k) = refl
op_plain (Op.Give k) = refl
op_plain (Op.Drain k) = refl
op_plain (Op.Release o) = refl

slot_plain : (o : Option ℕ) → Plain (slot_text o)
slot_plain None = refl
slot_plain (Some r) = dec r

letter_plain : (p : Port) → Plain (port_letter p)
letter_plain Port.Left = refl
letter_plain Port.Right = refl

dest_plain : (ds : List Dest) → Plain (dest_text ds)
dest_plain [] = refl
dest_plain (d ∷ ds) = plains (codes "+", refl) ((decimal d.ahead, dec d.ahead) ∷ (port_letter d.port, letter_plain d.port) ∷ [])

operand_plain : (op : Op) → Plain (operand_text op)
operand_plain (Op.Apply1 u) = refl
operand_plain (Op.Apply2 b) = refl
operand_plain (Op.Apply2Right b z) = plains (codes "r#", refl) ((literal z, int z) ∷ [])
operand_plain (Op.Apply2Left b z) = plains (codes "l#", refl) ((literal z, int z) ∷ [])
operand_plain (Op.Lit z) = plains (codes "#", refl) ((literal z, int z) ∷ [])
operand_plain Op.Copy = refl
operand_plain Op.Sync = refl
operand_plain Op.Switch = refl
operand_plain (Op.Fetch a) = plains (codes "a", refl) ((decimal a, dec a) ∷ [])
operand_plain (Op.Store a) = plains (codes "a", refl) ((decimal a, dec a) ∷ [])
operand_plain Op.Frame = refl
operand_plain (Op.Link b) = plains (codes "b", refl) ((decimal b, dec b) ∷ [])
operand_plain (Op.Send b e) = plains (codes "b", refl) ((decimal b, dec b) ∷ (codes ".", refl) ∷ (decimal e, dec e) ∷ [])
operand_plain (Op.Return o) = plains (codes "o", refl) ((decimal o, dec o) ∷ [])
operand_plain (Op.Ask o) = plains (codes "o", refl) ((decimal o, dec o) ∷ [])
operand_plain (Op.Open k) = plains (codes "k", refl) ((decimal k, dec k) ∷ [])
operand_plain (Op.Take k) = plains (codes "k", refl) ((decimal k, dec k) ∷ [])
operand_plain (Op.Give k) = plains (codes "k", refl) ((decimal k, dec k) ∷ [])
operand_plain (Op.Drain k) = plains (codes "k", refl) ((decimal k, dec k) ∷ [])
operand_plain (Op.Release o) = plains (codes "o", refl) ((decimal o, dec o) ∷ [])

made_at_plain : (o : Origin) → Plain (list.origin_text o)
made_at_plain Origin.Untold = refl
made_at_plain (Origin.At b n) = plains (codes " @", refl) ((decimal b, dec b) ∷ (codes ".", refl) ∷ (decimal n, dec n) ∷ [])

instr_plain : (n : ℕ) (x : Instr) → Plain (instr_line n x)
instr_plain n x =
    let slot : List ℕ = right_in 4 (slot_text (slot_of x x.op)) in
    let one : List ℕ = right_in 7 (dest_text x.firsts) in
    let two : List ℕ = right_in 7 (dest_text x.seconds) in
    let op : List ℕ = operand_text x.op in
    let from : List ℕ = list.origin_text x.origin in
    ended (right_in 5 (decimal n) ++ field (left_in 8 (op_word x.op)) ++ field slot ++ field one ++ field two ++ field op ++ from)
    (plains (right_in 5 (decimal n), right_plain 5 (decimal n) (dec n)) ((field (left_in 8 (op_word x.op)), left_plain 8 (op_word x.op) (op_plain x.op)) ∷
    (field slot, right_plain 4 (slot_text (slot_of x x.op)) (slot_plain (slot_of x x.op))) ∷
    (field one, right_plain 7 (dest_text x.firsts) (dest_plain x.firsts)) ∷ (field two, right_plain 7 (dest_text x.seconds) (dest_plain x.seconds)) ∷
    (field op, operand_plain x.op) ∷ (from, made_at_plain x.origin) ∷ []))

block_line_plain : (n ins outs slots : ℕ) → Plain (block_line n ins outs slots)
block_line_plain n ins outs slots =
    ended (codes "block " ++ decimal n ++ codes " inputs " ++ decimal ins ++ codes " outputs " ++ decimal outs ++ codes " slots " ++ decimal slots)
    (plains (codes "block ", refl) ((decimal n, dec n) ∷ (codes " inputs ", refl) ∷ (decimal ins, dec ins) ∷ (codes " outputs ", refl) ∷
    (decimal outs, dec outs) ∷ (codes " slots ", refl) ∷ (decimal slots, dec slots) ∷ []))

listed_block_plain : (n : ℕ) (b : CodeBlock) → Plain (block_lines n b)
listed_block_plain n b = plains (block_line n b.inputs b.outputs b.slots, block_line_plain n b.inputs b.outputs b.slots)
    ((numbered instr_line 0 b.instrs, all_numbered plain instr_line instr_plain 0 b.instrs) ∷ [])

listed_array_plain : (n len : ℕ) → Plain (list.array_line n len)
listed_array_plain n len = ended (codes "array " ++ decimal n ++ codes " " ++ decimal len)
    (plains (codes "array ", refl) ((decimal n, dec n) ∷ (codes " ", refl) ∷ (decimal len, dec len) ∷ []))

head_line_plain : (version main : ℕ) → Plain (head_line version main)
head_line_plain version main = ended (codes "ets " ++ decimal version ++ codes " main " ++ decimal main)
    (plains (codes "ets ", refl) ((decimal version, dec version) ∷ (codes " main ", refl) ∷ (decimal main, dec main) ∷ []))

listing_is_plain : (version : ℕ) (p : Program) → Plain (list.listing version p)
listing_is_plain version p = plains (head_line version p.main, head_line_plain version p.main)
    ((numbered block_lines 0 p.blocks, all_numbered plain block_lines listed_block_plain 0 p.blocks) ∷
    (numbered list.array_line 0 p.arrays, all_numbered plain list.array_line listed_array_plain 0 p.arrays) ∷ [])

pub listings : ListingsArePlain
listings version p = all_from plain IsPlain plain_means (list.listing version p) (listing_is_plain version p)

-- GRAPHS
region_plain : (r : Region) → Plain (region_text r)
region_plain Region.Root = refl
region_plain (Region.Arm k true) = plains (decimal k, dec k) ((codes "+", refl) ∷ [])
region_plain (Region.Arm k false) = plains (decimal k, dec k) ((codes "-", refl) ∷ [])

kind_plain : (v n : ℕ) (k : Kind (List ℕ)) → HasLine v k n → Plain (kind_text k)
kind_plain v n (Kind.Lit z) h = plains (codes "lit", refl) ((field (literal z), int z) ∷ [])
kind_plain v n (Kind.Apply1 op) h = unary_plain op
kind_plain v n (Kind.Apply2 op) h = binary_plain op
kind_plain v n Kind.Cond h = refl
kind_plain v n Kind.Enter h = refl
kind_plain v n (Kind.Merge k) h = plains (codes "merge", refl) ((field (decimal k), dec k) ∷ [])
kind_plain v n (Kind.Fetch a) h = plains (codes "fetch", refl) ((field a, name_plain a h.0) ∷ [])
kind_plain v n (Kind.Store a) h = plains (codes "store", refl) ((field a, name_plain a h.0) ∷ [])
kind_plain v n (Kind.Call f) h = plains (codes "call", refl) ((field f, name_plain f h.0) ∷ [])
kind_plain v n (Kind.StrictCall f) h = plains (codes "scall", refl) ((field f, name_plain f h.1) ∷ [])
kind_plain v n (Kind.Loop f k) h = plains (codes "loop", refl) ((field f, name_plain f h.0) ∷ (field (decimal k), dec k) ∷ [])

source_plain : (s : Source) → Plain (field (decimal s.node ++ codes "." ++ decimal s.port))
source_plain s = plains (field (decimal s.node), dec s.node) ((codes ".", refl) ∷ (decimal s.port, dec s.port) ∷ [])

sources_plain : (ss : List Source) → Plain (sources_text ss)
sources_plain [] = refl
sources_plain (s ∷ ss) = plains (field (decimal s.node ++ codes "." ++ decimal s.port), source_plain s) ((sources_text ss, sources_plain ss) ∷ [])

node_plain : (v : ℕ) (n : Node (List ℕ)) → HasNodeLine v n → Plain (node_line n)
node_plain v n h = ended (region_text n.region ++ field (kind_text n.kind) ++ sources_text n.sources)
    (plains (region_text n.region, region_plain n.region) ((field (kind_text n.kind), kind_plain v (length n.sources) n.kind h.1) ∷
    (sources_text n.sources, sources_plain n.sources) ∷ []))

block_plain : (v : ℕ) (b : List ℕ × Block (List ℕ)) → HasBlockText v b → Plain (block_text b)
block_plain v (name, b) h =
    let first : List ℕ = codes "block" ++ field name ++ field (decimal b.inputs) ++ field (decimal b.outputs) in
    let head : Plain first =
    plains (codes "block", refl)
    ((field name, name_plain name h.name) ∷ (field (decimal b.inputs), dec b.inputs) ∷ (field (decimal b.outputs), dec b.outputs) ∷ []) in
    let results : List ℕ = codes "out" ++ sources_text b.results in
    plains (line first, ended first head)
    ((flat_map node_line b.nodes, all_each plain (HasNodeLine v) node_line (node_plain v) b.nodes h.nodes) ∷
    (line results, ended results (sources_plain b.results)) ∷ (line (codes "end"), refl) ∷ [])

abbrev IsWrittenArray : List ℕ × ℕ → Type 0
IsWrittenArray a = IsName a.0 × (1 ≤ a.1) × (a.1 ≤ 65536)

array_plain : (a : List ℕ × ℕ) → IsWrittenArray a → Plain (text.array_line a)
array_plain a h = ended (codes "array" ++ field a.0 ++ field (decimal a.1))
    (plains (codes "array", refl) ((field a.0, name_plain a.0 h.0) ∷ (field (decimal a.1), dec a.1) ∷ []))

pub graph_plain : (g : Graph) → HasText g → Plain (text_of g)
graph_plain g h =
    let head : List ℕ = codes "etsgraph" ++ field (decimal g.version) in
    let main : List ℕ = codes "main" ++ field g.main in
    plains (line head, ended head (plains (codes "etsgraph", refl) ((field (decimal g.version), dec g.version) ∷ [])))
    ((flat_map text.array_line g.arrays, all_each plain IsWrittenArray text.array_line array_plain g.arrays h.arrays) ∷
    (flat_map block_text g.blocks, all_each plain (HasBlockText g.version) block_text (block_plain g.version) g.blocks h.blocks) ∷
    (line main, ended main (plains (codes "main", refl) ((field g.main, name_plain g.main h.main) ∷ []))) ∷ [])

pub graphs : GraphsArePlain
graphs bytes g is = all_from plain IsPlain plain_means bytes (subst (λ (bs : List ℕ). list_all plain bs ≡ true) (sym is.0) (graph_plain g is.1))
