-- WHAT MAY FOLLOW AN EXPRESSION, and how what is on the stack then passes it.
use Rattle.std.proofs.Common.{◌≡◌, ℕ, zero, ◌+◌, ◌<◌, ◌≤◌, Bool, true, false, List, [], ◌∷◌, Option, None, Some, refl, ap, ◌∙◌, subst, arith, if◌then◌else◌}
use Rattle.std.specs.Prelude.{◌&&◌, nat_le}
use Rattle.std.proofs.lemmas.Bool.{le-leb, lt-leb}
use Rattle.std.proofs.Math.Nat.{le-max_right}
use Rattle.operators.specs.declared.Binary.TheVariants as binary
use Rattle.source.specs.declared.token.Sign.TheVariants as core_sign
use Rattle.source.specs.declared.word.InfixSign.TheVariants.{Direct}
use Rattle.source.specs.declared.word.Word.TheVariants as core_word
use Rattle.source.specs.Fits as core
use Rattle.source.specs.Tree.{Name}
use Rattle.surface.specs.declared.token.Sign.TheVariants as sign
use Rattle.surface.specs.Spelled.{Lexeme, TheSign}
use Rattle.surface.specs.Words.{of_core}
use Rattle.law_language.proofs.GrammarFollowed.{least_left}
use Rattle.law_surface_text.specs.declared.symbol.Symbol.TheVariants.{Emit, Operand, After, AfterName, AfterIndexes}
use Rattle.law_surface_text.specs.Automaton.{Stack, Takes, Passes, appending, Operator, Joins, AndAlso, OrElse, operator_level, operand_level, between, joined}
use Rattle.law_surface_text.specs.Automaton.{operator_of, after_operator, after, after_name, after_indexes, further, indexes, starts, ended_then, advance}
use Rattle.law_surface_text.specs.Automaton.{Placed, advance_by}
use Rattle.law_surface_text.proofs.ExplainOperands.{operator_lexeme}
use Rattle.law_surface_text.proofs.Reading.{reading, read_on, Starting, read_on_after, appending_is, symbol_passes}

-- No name of a function or of an array is before it, and no cell.
abbrev pub is_plain : Lexeme → Bool
is_plain (TheSign (sign.Core core_sign.OpenParen)) = false
is_plain (TheSign (sign.Core core_sign.OpenBracket)) = false
is_plain (TheSign (sign.Core core_sign.Becomes)) = false
is_plain l = true

abbrev pub is_comma : Lexeme → Bool
is_comma (TheSign (sign.Core core_sign.Comma)) = true
is_comma l = false

-- after an operand of this level: what is no operator, or one that takes it to its left
pub record Stops (k : ℕ) (l : Lexeme) : Type 0 where
  pub plain : is_plain l ≡ true
  pub takes : (o : Operator) → operator_of l ≡ Some o → operand_level o ≤ k

-- what closes an expression, or a list
pub record Closes (l : Lexeme) : Type 0 where
  pub plain : is_plain l ≡ true
  pub none : operator_of l ≡ None

pub record Ends (l : Lexeme) : Type 0 where
  pub closes : Closes l
  pub other : is_comma l ≡ false

pub stops : (k : ℕ) (l : Lexeme) → Closes l → Stops k l
stops k l c = record { plain = c.plain; takes = λ o e. absurd (let n = c.none in cc) }

pub stops_more : (j k : ℕ) (l : Lexeme) → j ≤ k → Stops j l → Stops k l
stops_more j k l h s = record { plain = s.plain; takes = λ o e. (let g = s.takes o e in omega arith) }

pub starting_map : (P Q : Lexeme → Type 0) → ((l : Lexeme) → P l → Q l) → (r : List Placed) → Starting P r → Starting Q r
starting_map P Q f [] h = absurd h
starting_map P Q f (p ∷ r) h = f p.lexeme h

-- OPERATORS
pub is_operator : (o : Operator) → operator_of (operator_lexeme o) ≡ Some o
is_operator (Joins (Direct binary.Add)) = refl
is_operator (Joins (Direct op)) = refl
is_operator (Joins s) = refl
is_operator AndAlso = refl
is_operator OrElse = refl

plain_operator : (o : Operator) → is_plain (operator_lexeme o) ≡ true
plain_operator (Joins (Direct binary.Add)) = refl
plain_operator (Joins (Direct op)) = refl
plain_operator (Joins s) = refl
plain_operator AndAlso = refl
plain_operator OrElse = refl

pub operator_stops : (k : ℕ) (o : Operator) → operand_level o ≤ k → Stops k (operator_lexeme o)
operator_stops k o h = record {
  plain = plain_operator o;
  takes = λ q e. (let f = is_operator o in let same : o ≡ q = cc in subst (λ p. operand_level p ≤ k) same h);
}

pub level_below : (o : Operator) → operator_level o ≤ operand_level o
level_below (Joins s) = let g = le-max_right 2 (core.sign_level s) in omega arith
level_below AndAlso = omega arith
level_below OrElse = omega arith

pub least_level : (o : Operator) → 1 ≤ operand_level o
least_level (Joins s) = let g = least_left s in omega arith
least_level AndAlso = omega arith
least_level OrElse = omega arith

-- no operator takes what begins with `not`, and has its level
pub none_at_three : (o : Operator) → operand_level o ≤ 3 → operator_level o < 3
none_at_three (Joins s) h = absurd (let g = least_left s in omega arith)
none_at_three AndAlso h = omega arith
none_at_three OrElse h = omega arith

-- AFTER AN OPERAND
after_stays : (m k d at : ℕ) (l : Lexeme) → ((o : Operator) → operator_of l ≡ Some o → operator_level o < m) → after m k d at l ≡ Passes []
after_stays m k d at l f = go (operator_of l) refl
  where
    stays : (o : Operator) → operator_level o < m → after_operator m k d at (Some o) ≡ Passes []
    stays o h = ap (λ b. if b && nat_le (operand_level o) k then Takes 0 (between o ∷ [])
        (Operand (operator_level o + 1) d ∷ Emit (joined o at) ∷ After m (operator_level o) d ∷ []) else Passes []) (lt-leb m (operator_level o) h)

    go : (o : Option Operator) → operator_of l ≡ o → after_operator m k d at o ≡ Passes []
    go None e = refl
    go (Some o) e = stays o (f o e)

pub after_takes : (m k d at : ℕ) (o : Operator) → m ≤ operator_level o → operand_level o ≤ k
    → after m k d at (operator_lexeme o)
    ≡ Takes 0 (between o ∷ []) (Operand (operator_level o + 1) d ∷ Emit (joined o at) ∷ After m (operator_level o) d ∷ [])
after_takes m k d at o low high =
    ap (after_operator m k d at) (is_operator o) ∙ rw (le-leb m (operator_level o) low, le-leb (operand_level o) k high) refl

name_is : (named : ℕ) (x : Name) (m d at : ℕ) (l : Lexeme) → is_plain l ≡ true
    → after_name named x m d at l ≡ appending (of_core (core_word.Name named x) ∷ []) (after m 12 d at l)
name_is named x m d at (TheSign (sign.Core core_sign.OpenParen)) h = absurd cc
name_is named x m d at (TheSign (sign.Core core_sign.OpenBracket)) h = absurd cc
name_is named x m d at l h = refl

indexes_are : (cell : ℕ) (a : Name) (m d at : ℕ) (l : Lexeme) → is_plain l ≡ true
    → after_indexes cell a m d at l ≡ appending (of_core (core_word.Fetch cell a) ∷ []) (after m 12 d at l)
indexes_are cell a zero d at (TheSign (sign.Core core_sign.Becomes)) h = absurd cc
indexes_are cell a m d at l h = refl

module _ (limit : ℕ) (S : Stack) where
  -- where no operator that follows is taken
  pub pass_after : (m k d j : ℕ) → ((o : Operator) → operand_level o ≤ j → operator_level o < m) → (r : List Placed) → Starting (Stops j) r
      → reading limit (After m k d ∷ S) r ≡ ended_then (Some []) (reading limit S r)
  pass_after m k d j f r h =
      symbol_passes limit (After m k d) S [] r
      (starting_map (Stops j) (λ l. (at : ℕ) → after m k d at l ≡ Passes []) (λ l s at. after_stays m k d at l (λ o e. f o (s.takes o e))) r h)

  pub pass_end : (k d : ℕ) (r : List Placed) → Starting (Stops 0) r → reading limit (After 0 k d ∷ S) r ≡ ended_then (Some []) (reading limit S r)
  pass_end k d r h = pass_after 0 k d 0 (λ o g. absurd (let i = least_level o in omega arith)) r h

  pub pass_name : (named : ℕ) (x : Name) (m d k : ℕ) (r : List Placed) → Starting (Stops k) r
      → reading limit (AfterName named x m d ∷ S) r ≡ ended_then (Some (of_core (core_word.Name named x) ∷ [])) (reading limit (After m 12 d ∷ S) r)
  pass_name named x m d k [] h = absurd h
  pass_name named x m d k (p ∷ r) h =
      ap (λ o. read_on (advance_by limit o S (λ b. advance limit S b p.at p.lexeme)) (λ T. reading limit T r)) (name_is named x m d p.at p.lexeme h.plain)
      ∙ ap (λ o. read_on o (λ T. reading limit T r))
      (appending_is limit (of_core (core_word.Name named x) ∷ []) (after m 12 d p.at p.lexeme) S (λ b. advance limit S b p.at p.lexeme))
      ∙ read_on_after (of_core (core_word.Name named x) ∷ []) (advance limit (After m 12 d ∷ S) false p.at p.lexeme) (λ T. reading limit T r)

  pub pass_indexes : (cell : ℕ) (a : Name) (m d k : ℕ) (r : List Placed) → Starting (Stops k) r
      → reading limit (AfterIndexes cell a m d ∷ S) r ≡ ended_then (Some (of_core (core_word.Fetch cell a) ∷ [])) (reading limit (After m 12 d ∷ S) r)
  pass_indexes cell a m d k [] h = absurd h
  pass_indexes cell a m d k (p ∷ r) h =
      ap (λ o. read_on (advance_by limit o S (λ b. advance limit S b p.at p.lexeme)) (λ T. reading limit T r)) (indexes_are cell a m d p.at p.lexeme h.plain)
      ∙ ap (λ o. read_on o (λ T. reading limit T r))
      (appending_is limit (of_core (core_word.Fetch cell a) ∷ []) (after m 12 d p.at p.lexeme) S (λ b. advance limit S b p.at p.lexeme))
      ∙ read_on_after (of_core (core_word.Fetch cell a) ∷ []) (advance limit (After m 12 d ∷ S) false p.at p.lexeme) (λ T. reading limit T r)

-- AFTER A LIST
pub further_passes : (d : ℕ) (l : Lexeme) → is_comma l ≡ false → further d l ≡ Passes (of_core core_word.Part ∷ [])
further_passes d (TheSign (sign.Core core_sign.Comma)) h = absurd cc
further_passes d l h = refl

pub indexes_pass : (d : ℕ) (l : Lexeme) → is_comma l ≡ false → indexes d l ≡ Passes []
indexes_pass d (TheSign (sign.Core core_sign.Comma)) h = absurd cc
indexes_pass d l h = refl

pub starts_pass : (d : ℕ) (l : Lexeme) → is_comma l ≡ false → starts d l ≡ Passes (of_core core_word.First ∷ [])
starts_pass d (TheSign (sign.Core core_sign.Comma)) h = absurd cc
starts_pass d l h = refl
