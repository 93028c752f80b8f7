-- THE TABLE OF NAMES of the core program: those of the text, and after them the hidden ones.
use Rattle.std.specs.Prelude.{◌≡◌, ℕ, zero, suc, ◌+◌, ◌<◌, ◌≤◌, ◌^◌, true, false, max, List, [], ◌∷◌, ◌++◌, length, map, filter_map, All}
use Rattle.std.specs.List.{list_any}
use Rattle.source.specs.declared.word.Word.{Word}
use Rattle.source.specs.Tree as core
use Rattle.source.specs.Tree.{Name}
use Rattle.source.specs.Tokens.{begins, IsSpelledName}
use Rattle.source.specs.Outside.{is_in}
use Rattle.source.specs.Words as core_words
use Rattle.source.specs.Words.{name_of, numbers_of}
use Rattle.surface.specs.declared.word.Word.{Word as SurfaceWord}
use Rattle.surface.specs.declared.token.Token.{Token}
use Rattle.surface.specs.Tree.{Program}
use Rattle.surface.specs.Spelled.{lexeme, program_tokens, AreSpelled}
use Rattle.surface.specs.Words.{AreWords}
use Rattle.surface.specs.Making.{hidden}
use Rattle.surface.specs.Instances.{name_said, text_names, hidden_prefix}
use Rattle.desugar.specs.Renamed.{core_renamed}
use Rattle.desugar.specs.NumbersDesugar.{name_with}

-- the first hidden names of a function
abbrev pub hidden_names : Name → ℕ → List Name
hidden_names prefix zero = []
hidden_names prefix (suc n) = hidden_names prefix n ++ hidden prefix n ∷ []

abbrev pub with_hidden : List Name → Name → ℕ → List Name
with_hidden names prefix count = names ++ hidden_names prefix count

-- how long a table is that has these numbers, and is so long at least
abbrev pub reached : ℕ → List ℕ → ℕ
reached n [] = n
reached n (k ∷ ks) = reached (max n (suc k)) ks

abbrev pub all_reached : ℕ → List (Word ℕ) → ℕ
all_reached n [] = n
all_reached n (w ∷ ws) = all_reached (reached n (numbers_of w)) ws

-- each number in the words is below this
abbrev pub AreBelow : ℕ → List (Word ℕ) → Type 0
AreBelow n ws = All (λ w. All (λ k. k < n) (numbers_of w)) ws

abbrev pub AllAreReached : Type 0
AllAreReached = (n : ℕ) (ws : List (Word ℕ)) → (n ≤ all_reached n ws) × AreBelow (all_reached n ws) ws

-- no name is twice in a table
abbrev pub IsDistinct : List Name → Type 0
IsDistinct names = (i j : ℕ) → i < length names → j < length names → name_of names i ≡ name_of names j → i ≡ j

-- none of these is a hidden name
abbrev pub NoneIsHidden : Name → List Name → Type 0
NoneIsHidden prefix names = (i n : ℕ) → i < length names → name_of names i ≡ hidden prefix n → ⊥

-- as if none of them begins with the prefix
abbrev pub FreeIsNotHidden : Type 0
FreeIsNotHidden = (names : List Name) (prefix : Name) → list_any (begins prefix) names ≡ false → NoneIsHidden prefix names

-- Words that name the core's are its words under the table with as many hidden names as they have.
abbrev pub HiddenNamesAreNew : Type 0
HiddenNamesAreNew = (names : List Name) (prefix : Name) (count : ℕ) (ws : List (Word ℕ)) (q : core.Program) → IsDistinct names → count < 2 ^ 64
    → NoneIsHidden prefix names → AreBelow (length names + count) ws
    → map (core_renamed (name_with names prefix)) ws ≡ core_words.program_words q → core_words.AreWords (with_hidden names prefix count) ws q

-- A hidden name is as texts have names, where it is not too long.
abbrev pub HiddenNamesAreSpelled : Type 0
HiddenNamesAreSpelled = (names : List Name) (n : ℕ) → length names < 2 ^ 64 → n + 1 < 2 ^ 64 → length (hidden (hidden_prefix names) n) ≤ 24 → IsSpelledName (hidden (hidden_prefix names) n)

-- A TEXT'S NAMES AND A TABLE'S. The table of a text that was read has those of the text, and no others.
pub record IsTableOf (names : List Name) (p : Program) : Type 0 where
  pub said : All (λ x. is_in x (text_names p) ≡ true) names
  pub all : All (λ x. is_in x names ≡ true) (text_names p)

-- the names that the tokens of a text say: those of the program whose tokens they are
abbrev pub names_said : List ℕ → List Token → List Name
names_said text ts = filter_map (λ (t : Token). name_said (lexeme text t)) ts

abbrev pub TextNamesAreSaid : Type 0
TextNamesAreSaid = (text : List ℕ) (ts : List Token) (p : Program) → AreSpelled text (program_tokens p) ts → text_names p ≡ names_said text ts

-- Each name of the text is in it, since each is in a word.
abbrev pub WordsHaveAllNames : Type 0
WordsHaveAllNames = (names : List Name) (ws : List (SurfaceWord ℕ)) (p : Program) → AreWords names ws p → All (λ x. is_in x names ≡ true) (text_names p)

-- and the text has no more names than there are words.
abbrev pub NamesAreFew : Type 0
NamesAreFew = (names : List Name) (ws : List (SurfaceWord ℕ)) (p : Program) → AreWords names ws p → length (text_names p) ≤ length ws

-- no name of the table begins so, where none of the text does
abbrev pub TablesAreFree : Type 0
TablesAreFree = (names : List Name) (p : Program) (prefix : Name) → All (λ x. is_in x (text_names p) ≡ true) names → list_any (begins prefix) (text_names p) ≡ false
    → list_any (begins prefix) names ≡ false

-- The prefix of the table is that of the text, where neither has a name that begins with its own.
abbrev pub PrefixIsFound : Type 0
PrefixIsFound = (names : List Name) (p : Program) → IsTableOf names p → list_any (begins (hidden_prefix names)) names ≡ false
    → list_any (begins (hidden_prefix (text_names p))) (text_names p) ≡ false → hidden_prefix names ≡ hidden_prefix (text_names p)
