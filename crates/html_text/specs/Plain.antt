-- The texts in a page need no escape.
use Rattle.std.specs.Prelude.{◌≡◌, ℕ, ◌≤◌, ◌==◌, ◌||◌, Bool, false, All, List, ◌++◌, codes, decimal}
use Rattle.tags.specs.declared.token.Word.{Word}
use Rattle.tags.specs.declared.token.Token.{Token}
use Rattle.semantics.specs.Graph.{Graph}
use Rattle.semantics.specs.Program.{Program}
use Rattle.semantics.specs.Machine.{Events}
use Rattle.semantics.specs.Text.{IsText}
use Rattle.disassembler.specs.Listing.{listing}
use Rattle.trace_text.specs.TraceText.{word_text}
use Rattle.replay.specs.declared.moment.Deed.{Deed}
use Rattle.replay.specs.declared.entry.Change.{Change}
use Rattle.replay.specs.Views.{EntryView, BooksView}
use Rattle.html_text.specs.DataText.{beyond_text, deed_letter, change_text, token_text, tokens_text, line_lead, event_text, data_text}

-- one of < > & ' ` and \, by which a text in a page could end, or something else begin
abbrev pub is_markup : ℕ → Bool
is_markup c = (c == 60) || (c == 62) || (c == 38) || (c == 39) || (c == 96) || (c == 92)

-- or a quotation mark
abbrev pub is_special : ℕ → Bool
is_special c = (c == 34) || is_markup c

-- it is in a page's text as it is
abbrev pub IsPlain : ℕ → Type 0
IsPlain c = is_special c ≡ false

-- it is in the page's data as it is, which has quotation marks of its own
abbrev pub IsInert : ℕ → Type 0
IsInert c = is_markup c ≡ false

-- it is between the quotation marks of a JSON string as it is
abbrev pub IsQuotable : ℕ → Type 0
IsQuotable c = (32 ≤ c) × IsPlain c

-- it is so, and no semicolon, which is between the parts of a string of the data
abbrev pub IsInPart : ℕ → Type 0
IsInPart c = IsQuotable c × ((c == 59) ≡ false)

-- it is so, and no colon, which is before a word
abbrev pub IsInWord : ℕ → Type 0
IsInWord c = IsInPart c × ((c == 58) ≡ false)

-- THE LAWS. A word begins after a colon, and goes on to the next colon or semicolon, or to the end of the string.
abbrev pub WordsAreWhole : Type 0
WordsAreWhole = (w : Word) → All IsInWord (word_text w)

-- So is a part of a string: what an event did, what it changed, and each token.
abbrev pub PartsAreWhole : Type 0
PartsAreWhole = ((e : ℕ) (d : Deed) (number event : ℕ) → All IsInPart (decimal e ++ beyond_text (deed_letter d) number event))
    × ((c : Change) → All IsInPart (change_text c)) × ((t : Token) → All IsInPart (token_text t.to t.word))

-- The strings of the data: of an event its parts, with semicolons between them; a change; the tokens of the start.
abbrev pub StringsAreQuotable : Type 0
StringsAreQuotable = ((first n : ℕ) (ev : ℕ × Token) (x : EntryView) → (string : List ℕ) × (event_text first n ev x ≡ line_lead n ++ string ++ codes "\"")
    × All IsQuotable string) × ((c : Change) → All IsQuotable (change_text c)) × ((ts : List Token) → All IsQuotable (tokens_text ts))

abbrev pub DataIsInert : Type 0
DataIsInert = (elements frames first : ℕ) (events : Events) (books : BooksView) → All IsInert (data_text elements frames first events books)

abbrev pub ListingsArePlain : Type 0
ListingsArePlain = (version : ℕ) (p : Program) → All IsPlain (listing version p)

abbrev pub GraphsArePlain : Type 0
GraphsArePlain = (text : List ℕ) (g : Graph) → IsText text g → All IsPlain text
