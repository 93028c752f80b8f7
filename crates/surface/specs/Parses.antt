-- WHAT A PARSER HAS TO ANSWER: the fitting program whose tokens the text has, or the first token at which no fitting
-- program goes on.
use Rattle.std.specs.Prelude.{◌≡◌, ℕ, ◌^◌, ◌≤◌, ◌++◌, List, [], ◌∷◌, map, length}
use Rattle.surface.specs.declared.fault.Fault.{Fault}
use Rattle.surface.specs.declared.fault.FaultKind.{FaultKind}
use Rattle.surface.specs.declared.fault.FaultKind.TheVariants.{Core}
use Rattle.source.specs.declared.fault.FaultKind.TheVariants.{Unexpected, Unended, TooDeep, NotACell, BadNumber}
use Rattle.source.specs.declared.token.Sign.TheVariants.{Becomes, Plus}
use Rattle.surface.specs.declared.token.Sign.TheVariants as sign
use Rattle.surface.specs.declared.token.Token.{Token}
use Rattle.surface.specs.Tree.{Program}
use Rattle.surface.specs.Spelled.{Lexeme, TheSign, TheNumber, lexeme, Spelling, program_tokens, AreSpelled}
use Rattle.surface.specs.Fits.{FitsProgram, program_depth}

-- The tokens of a text are those of a program that fits and is at most 200 deep.
pub record Parses (text : List ℕ) (ts : List Token) (p : Program) : Type 0 where
  pub fits : FitsProgram p
  pub depth : program_depth p ≤ 200
  pub spelled : AreSpelled text (program_tokens p) ts

-- FAULTS speak of what tokens say, not of where they are.
abbrev pub says : Program → List Lexeme
says p = map (λ (s : Spelling). s.lexeme) (program_tokens p)

abbrev pub lexemes : List ℕ → List Token → List Lexeme
lexemes text ts = map (lexeme text) ts

-- the tokens of some fitting program begin so, however deep it is
pub record GoesOnDeeply (ls : List Lexeme) : Type 0 where
  pub program : Program
  pub rest : List Lexeme
  pub fits : FitsProgram program
  pub says_so : says program ≡ ls ++ rest

-- and of one that is at most 200 deep
pub record GoesOn (ls : List Lexeme) : Type 0 where
  pub program : Program
  pub rest : List Lexeme
  pub fits : FitsProgram program
  pub depth : program_depth program ≤ 200
  pub says_so : says program ≡ ls ++ rest

-- they are all that some fitting program has
pub record IsWhole (ls : List Lexeme) : Type 0 where
  pub program : Program
  pub fits : FitsProgram program
  pub depth : program_depth program ≤ 200
  pub says_so : says program ≡ ls

-- a `:=` where an operand ends, and so an operator could be
abbrev pub IsNoCell : List Lexeme → Lexeme → Type 0
IsNoCell ls l = (l ≡ TheSign (sign.Core Becomes)) × GoesOn (ls ++ TheSign (sign.Core Plus) ∷ [])

-- 2 ^ 63 where a number could be, but not this one
abbrev pub IsTooLarge : List Lexeme → Lexeme → Type 0
IsTooLarge ls l = (l ≡ TheNumber (2 ^ 63)) × GoesOn (ls ++ TheNumber 0 ∷ [])

-- The kind of a fault at a token after tokens with which some program goes on, where none goes on with this token.
abbrev pub IsKindAt : List Lexeme → Lexeme → FaultKind → Type 0
IsKindAt ls l (Core TooDeep) = GoesOnDeeply (ls ++ l ∷ [])
IsKindAt ls l (Core NotACell) = (GoesOnDeeply (ls ++ l ∷ []) → ⊥) × IsNoCell ls l
IsKindAt ls l (Core BadNumber) = (GoesOnDeeply (ls ++ l ∷ []) → ⊥) × IsTooLarge ls l
IsKindAt ls l (Core Unexpected) = (GoesOnDeeply (ls ++ l ∷ []) → ⊥) × (IsNoCell ls l → ⊥) × (IsTooLarge ls l → ⊥)
IsKindAt ls l kind = ⊥

-- the fault at a token
pub record IsRefusedAt (text : List ℕ) (ts : List Token) (fault : Fault) : Type 0 where
  pub before : List Token
  pub token : Token
  pub after : List Token
  pub tokens : ts ≡ before ++ token ∷ after
  pub went_on : GoesOn (lexemes text before)
  pub goes_on : GoesOn (lexemes text before ++ lexeme text token ∷ []) → ⊥
  pub kind : IsKindAt (lexemes text before) (lexeme text token) fault.kind
  pub place : fault.at ≡ token.at

-- the fault after the last token
pub record IsUnended (text : List ℕ) (ts : List Token) (fault : Fault) : Type 0 where
  pub went_on : GoesOn (lexemes text ts)
  pub not_whole : IsWhole (lexemes text ts) → ⊥
  pub kind : fault.kind ≡ Core Unended
  pub place : fault.at ≡ length text

pub data Refuses (text : List ℕ) (ts : List Token) (fault : Fault) : Type 0 where
  at_token : IsRefusedAt text ts fault → Refuses text ts fault
  at_end : IsUnended text ts fault → Refuses text ts fault
