-- READING, token by token, and its result. The parser gives a name by its number; whatever names a longer table has,
-- what was read so far is the same.
use Rattle.std.specs.Prelude.{false, ◌≡◌, ◌⊎◌, ℕ, ◌<◌, List, [], ◌∷◌, map, drop, length, All, Ok, Err}
use Rattle.std.specs.BTreeMap.{BTreeMap}
use Rattle.surface.specs.declared.fault.Fault.{Fault}
use Rattle.surface.specs.declared.fault.ProgramFault.{ProgramFault}
use Rattle.source.specs.declared.fault.FaultKind.{FaultKind as CoreFaultKind}
use Rattle.surface.specs.declared.fault.FaultKind.TheVariants.{Core}
use Rattle.source.specs.declared.fault.FaultKind.TheVariants.{Memory}
use Rattle.surface.specs.declared.token.Token.{Token}
use Rattle.surface.specs.declared.word.Word.{Word}
use Rattle.source.specs.Tokens.{program_of, inputs_of, position, IsSpelledName}
use Rattle.source.specs.Tree.{Name}
use Rattle.surface.specs.Tree.{Program}
use Rattle.surface.specs.Tokens.{lexed}
use Rattle.surface.specs.Spelled.{Lexeme, lexeme}
use Rattle.surface.specs.Words.{named, numbers_of, AreWords}
use Rattle.surface.specs.Parses.{Parses, Refuses}
use Rattle.law_surface_text.specs.declared.symbol.Symbol.{Symbol}
use Rattle.law_surface_text.specs.declared.symbol.Symbol.TheVariants.{Items}
use Rattle.law_surface_text.specs.Automaton.{words_after, run, placed, parsed}
use Rattle.surface_text.specs.Outcomes.{IsShallow}
use Rattle.surface_text.specs.Naming.{IsDistinct, IsTable, Extends, IsWellSpelled}
use Rattle.law_surface_text.specs.Named.{named_stack}
use Rattle.surface_text.specs.Running.{words_named, state, onward, IsBlamed}
use denote.Ref.{Bor}

-- the names that tokens say are as texts have them
abbrev pub AreWellSpelled : List ℕ → List Token → Type 0
AreWellSpelled text ts = All (λ t. IsWellSpelled (lexeme text t)) ts

-- nothing was read
pub record IsStart (numbers : BTreeMap (Bor (List ℕ)) ℕ) (table : List Name) (stack : List (Symbol ℕ)) (words : List (Word ℕ)) : Type 0 where
  pub indexed : IsTable numbers table
  pub no_names : table ≡ []
  pub only_items : stack ≡ Items ∷ []
  pub no_words : words ≡ []

-- a token was taken
pub record IsAdvanced (at : ℕ) (l : Lexeme) (old : List Name) (s : List (Symbol ℕ)) (w : List (Word ℕ))
    (numbers : BTreeMap (Bor (List ℕ)) ℕ) (table : List Name) (stack : List (Symbol ℕ)) (words : List (Word ℕ)) : Type 0 where
  pub indexed : IsTable numbers table
  pub extends : Extends old table
  pub spelled : All IsSpelledName old → IsWellSpelled l → All IsSpelledName table
  pub shallow : All IsShallow stack
  pub moved : (names : List Name) → Extends table names → onward false at l (state names s w) ≡ Ok (state names stack words)

-- it was not
pub record IsStopped (at : ℕ) (l : Lexeme) (old : List Name) (s : List (Symbol ℕ)) (w : List (Word ℕ)) (kind : CoreFaultKind) : Type 0 where
  pub names : List Name
  pub extends : Extends old names
  pub cause : IsBlamed names s l kind (onward false at l (state names s w))

-- so many tokens were read
pub record IsReading (text : List ℕ) (ts : List Token) (n : ℕ) (numbers : BTreeMap (Bor (List ℕ)) ℕ) (table : List Name) (stack : List (Symbol ℕ))
    (words : List (Word ℕ)) : Type 0 where
  pub indexed : IsTable numbers table
  pub spelled : AreWellSpelled text ts → All IsSpelledName table
  pub shallow : All IsShallow stack
  pub so_far : (names : List Name) → Extends table names
      → parsed text ts ≡ words_after (words_named names words) (run 200 (length text) (named_stack names stack) (map (placed text) (drop n ts)))

-- what the automaton makes of the tokens, with numbers for names
pub record AreParsed (text : List ℕ) (ts : List Token) (names : List Name) (words : List (Word ℕ)) : Type 0 where
  pub said : parsed text ts ≡ Ok (map (named names) words)
  pub known : All (λ w. All (λ n. n < length names) (numbers_of w)) words
  pub distinct : IsDistinct names
  pub spelled : AreWellSpelled text ts → All IsSpelledName names

-- names and words are those of each program whose tokens these are, and there is one
pub record AreRead (text : List ℕ) (ts : List Token) (names : List Name) (words : List (Word ℕ)) : Type 0 where
  pub program : (p : Program) × Parses text ts p
  pub only : (p : Program) → Parses text ts p → AreWords names words p
  pub spelled : AreWellSpelled text ts → All IsSpelledName names

-- the first token at which no program goes on, or a refused growth
abbrev pub IsParseFault : List ℕ → List Token → Fault → Type 0
IsParseFault text ts fault = (fault.kind ≡ Core Memory) ⊎ Refuses text ts fault

-- A TEXT, with its tokens. Names and words are those of the one program that it has.
pub record HasProgram (text : List ℕ) (names : List Name) (words : List (Word ℕ)) : Type 0 where
  pub tokens : List Token
  pub lexed : lexed text ≡ Ok tokens
  pub are : AreRead text tokens names words

-- its first fault: where its bytes are no tokens, else where its tokens are no program
pub data IsFirst (text : List ℕ) (fault : Fault) : Type 0 where
  of_bytes : lexed text ≡ Err fault → IsFirst text fault
  of_tokens : (ts : List Token) → lexed text ≡ Ok ts → Refuses text ts fault → IsFirst text fault

-- or a refused growth
abbrev pub HasFault : List ℕ → Fault → Type 0
HasFault text fault = (fault.kind ≡ Core Memory) ⊎ IsFirst text fault

-- A WHOLE TEXT: the program's text, its program, and the inputs.
pub record IsRead (text program : List ℕ) (names : List Name) (words : List (Word ℕ)) (inputs : List ℕ) : Type 0 where
  pub text_is : program ≡ program_of text
  pub inputs_are : inputs ≡ inputs_of text
  pub has : HasProgram (program_of text) names words

-- a fault of the program, with its line and its column in the text
pub record IsReported (text : List ℕ) (reported : ProgramFault) : Type 0 where
  pub fault : Fault
  pub has : HasFault (program_of text) fault
  pub is : reported ≡ record { kind = fault.kind; line = (position (program_of text) fault.at).line; column = (position (program_of text) fault.at).column }
