-- THE THEOREM OF THE PARSER: it reads exactly the programs that fit the grammar and are not too deep, and otherwise reports the first
-- token at which none goes on.
use Rattle.std.specs.Prelude.{◌≡◌, ℕ, List, Ok, Err}
use Rattle.surface.specs.declared.fault.Fault.{Fault}
use Rattle.surface.specs.declared.token.Token.{Token}
use Rattle.surface.specs.Tree.{Program}
use Rattle.surface.specs.Fits.{FitsProgram}
use Rattle.surface.specs.Words.{Words, program_words}
use Rattle.surface.specs.Parses.{Parses, Refuses}
use Rattle.law_surface_text.specs.Automaton.{parsed}

-- What is read is such a program.
abbrev pub Sound : Type 0
Sound = (text : List ℕ) (ts : List Token) (ws : Words) → parsed text ts ≡ Ok ws → (p : Program) × Parses text ts p × (ws ≡ program_words p)

-- Each such program is read.
abbrev pub Complete : Type 0
Complete = (text : List ℕ) (ts : List Token) (p : Program) → Parses text ts p → parsed text ts ≡ Ok (program_words p)

-- No text has two.
abbrev pub Once : Type 0
Once = (text : List ℕ) (ts : List Token) (p q : Program) → Parses text ts p → Parses text ts q → p ≡ q

-- A fault is the first one, and its kind is right.
abbrev pub FirstFault : Type 0
FirstFault = (text : List ℕ) (ts : List Token) (fault : Fault) → parsed text ts ≡ Err fault → Refuses text ts fault

-- Programs whose words are the same are the same.
abbrev pub WordsDetermine : Type 0
WordsDetermine = (p q : Program) → FitsProgram p → FitsProgram q → program_words p ≡ program_words q → p ≡ q
