-- FORMS OF THE CORE, AS WORDS: those that derived forms are made of.
use Rattle.std.specs.Prelude.{ℕ, zero, suc, nat_lt, Bool, true, List, [], ◌∷◌, ◌++◌, replicate, Option, None, Some, if◌then◌else◌}
use Rattle.operators.specs.declared.Unary.{Unary}
use Rattle.operators.specs.declared.Unary.TheVariants.{Neg}
use Rattle.operators.specs.declared.Binary.{Binary}
use Rattle.operators.specs.declared.Binary.TheVariants.{Lt}
use Rattle.source.specs.declared.word.InfixSign.TheVariants.{Direct}
use Rattle.source.specs.declared.word.Word.{Word}
use Rattle.source.specs.declared.word.Word.TheVariants as word
use Rattle.source.specs.Fits.{sign_level, left_level}
use Rattle.desugar.specs.declared.frame.Atom.{Atom}
use Rattle.desugar.specs.declared.frame.Atom.TheVariants as atom
use Rattle.desugar.specs.declared.frame.Given.{Given}

-- ATOMS
abbrev pub atom_words : {N : Type 0} → Atom N → List (Word N)
atom_words (atom.Number at n k) = word.Number at n ∷ replicate k word.Bracket
atom_words (atom.Negative sign_at at n k) = word.Number at n ∷ word.Prefix sign_at Neg ∷ replicate k word.Bracket
atom_words (atom.Name at x) = word.Name at x ∷ []

-- 9 in brackets, without them as it is
abbrev pub level_in : ℕ → ℕ → ℕ
level_in zero level = level
level_in (suc k) level = 9

abbrev pub atom_level : {N : Type 0} → Atom N → ℕ
atom_level (atom.Number at n k) = level_in k 9
atom_level (atom.Negative sign_at at n k) = level_in k 8
atom_level (atom.Name at x) = 9

-- with one more bracket; a name in brackets does not stand for itself
abbrev pub bracketed : {N : Type 0} → Option (Atom N) → Option (Atom N)
bracketed None = None
bracketed (Some (atom.Number at n k)) = Some (atom.Number at n (suc k))
bracketed (Some (atom.Negative sign_at at n k)) = Some (atom.Negative sign_at at n (suc k))
bracketed (Some (atom.Name at x)) = None

-- a `-` before a number as it is written
abbrev pub negated : {N : Type 0} → ℕ → Unary → Bool → Option (Atom N) → Option (Atom N)
negated at Neg true (Some (atom.Number number_at n k)) = Some (atom.Negative at number_at n 0)
negated at op literal a = None

-- BRACKETS where the grammar wants a level that an expression does not have
abbrev pub brackets : {N : Type 0} → ℕ → ℕ → List (Word N)
brackets wanted level = if nat_lt level wanted then word.Bracket ∷ [] else []

-- what is after the left operand and after the right one
abbrev pub left_end : {N : Type 0} → Binary → ℕ → List (Word N)
left_end op level = brackets (left_level (Direct op)) level ++ word.Left ∷ []

abbrev pub right_end : {N : Type 0} → ℕ → Binary → ℕ → List (Word N)
right_end at op level = brackets (suc (sign_level (Direct op))) level ++ word.Infix at (Direct op) ∷ []

-- STATEMENTS
abbrev pub let_words : {N : Type 0} → ℕ → N → List (Word N) → List (Word N)
let_words at x value = word.Let at ∷ word.Bind at x ∷ word.List ∷ value ++ word.Part ∷ word.EndLet at ∷ []

-- the end of a body that gives one value, and a body that gives this
abbrev pub given_end : {N : Type 0} → List (Word N)
given_end = word.Part ∷ word.Give ∷ []

abbrev pub giving : {N : Type 0} → List (Word N) → List (Word N)
giving value = word.List ∷ value ++ given_end

-- the parts of an `if` after its first arm
abbrev pub or_else : {N : Type 0} → ℕ → List (Word N) → List (Word N)
or_else at value = word.Else ∷ giving value ++ word.EndIf at ∷ []

-- COUNTING
-- whether the counter is before the end
abbrev pub goes_on : {N : Type 0} → ℕ → N → Atom N → List (Word N)
goes_on at i end = word.Name at i ∷ word.Left ∷ atom_words end ++ right_end at Lt (atom_level end)

-- the names that are carried, with their first values, each
abbrev pub carried_firsts : {N : Type 0} → List (Given N) → List (Atom N) → List (Word N)
carried_firsts [] firsts = []
carried_firsts (x ∷ xs) [] = []
carried_firsts (x ∷ xs) (a ∷ firsts) = word.Start x.at x.name ∷ atom_words a ++ word.First ∷ carried_firsts xs firsts

abbrev pub all_bound : {N : Type 0} → ℕ → List (Given N) → List (Word N)
all_bound at [] = []
all_bound at (x ∷ xs) = word.Bind at x.name ∷ all_bound at xs

-- each as a part of a list
abbrev pub all_named : {N : Type 0} → ℕ → List (Given N) → List (Word N)
all_named at [] = []
all_named at (x ∷ xs) = word.Name at x.name ∷ word.Part ∷ all_named at xs

abbrev pub all_given : {N : Type 0} → List (Atom N) → List (Word N)
all_given [] = []
all_given (a ∷ firsts) = atom_words a ++ word.Part ∷ all_given firsts
