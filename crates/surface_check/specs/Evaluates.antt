-- CONSTANTS, WORD BY WORD. The words of an expression are gone over once, of whatever kind it is, and in the end it is known
-- whether it is a constant, and which. No word is refused on the way: of a part that is no constant only its place counts.
use Rattle.std.specs.Prelude.{ℕ, zero, suc, ◌+◌, ◌-◌, ◌==◌, nat_le, Bool, false, ℤ, pos, neg_ℤ, List, [], ◌∷◌, ◌++◌, Option, None, Some, Result, Ok}
use Rattle.std.specs.Prelude.{if◌then◌else◌}
use Rattle.operators.specs.declared.Unary.{Unary}
use Rattle.operators.specs.declared.Unary.TheVariants as unary
use Rattle.source.specs.declared.fault.FaultKind.TheVariants.{NoSuchName}
use Rattle.source.specs.declared.word.InfixSign.{InfixSign}
use Rattle.source.specs.declared.word.Word.{Word as CoreWord}
use Rattle.source.specs.declared.word.Word.TheVariants as core_word
use Rattle.surface.specs.declared.fault.Fault.{Fault}
use Rattle.surface.specs.declared.fault.FaultKind.TheVariants.{Core, BadConst}
use Rattle.surface.specs.declared.word.Word.{Word}
use Rattle.surface.specs.declared.word.Word.TheVariants as word
use Rattle.surface.specs.First.{◌>>=◌, refused}
use Rattle.surface.specs.Constants.{combined, inverted, in_64_bits}
use Rattle.surface_check.specs.declared.entry.Entry.{Entry}
use Rattle.surface_check.specs.declared.entry.Entry.TheVariants as entry
use Rattle.surface_check.specs.declared.evaluation.Part.{Part}

pub record Evaluation : Type 0 where
  -- the left operands of the operators that are open, the innermost first
  pub lefts : List (Result ℤ Fault)
  -- the parts of the outermost list so far
  pub parts : List Part
  -- how many lists are open
  pub depth : ℕ
  -- the last expression
  pub last : Part
  -- and its number, where it is no more than that
  pub number : Option ℕ

abbrev pub fresh : ℕ → Evaluation
fresh depth = record { lefts = []; parts = []; depth = depth; last = record { value = Ok (pos 0); at = 0 }; number = None }

abbrev pub part_at : ℕ → Result ℤ Fault → Part
part_at at value = record { value = value; at = at }

abbrev pub evaluated : Evaluation → ℕ → Result ℤ Fault → Option ℕ → Evaluation
evaluated c at value number = record c { last = part_at at value; number = number }

-- an expression ends that is no constant
abbrev pub no_constant : Evaluation → ℕ → Evaluation
no_constant c at = evaluated c at (refused BadConst at) None

abbrev pub written : ℕ → ℕ → Result ℤ Fault
written at n = if nat_le n 9223372036854775807 then Ok (pos n) else refused BadConst at

abbrev pub prefixed_value : ℕ → Unary → Result ℤ Fault → Option ℕ → Result ℤ Fault
prefixed_value at unary.Neg value (Some n) = in_64_bits at (neg_ℤ (pos n))
prefixed_value at op value number = do
  z ← value
  inverted at op z

abbrev pub combined_value : ℕ → InfixSign → Result ℤ Fault → Result ℤ Fault → Result ℤ Fault
combined_value at sign left right = do
  x ← left
  y ← right
  combined at sign x y

abbrev pub infixed : Evaluation → ℕ → InfixSign → List (Result ℤ Fault) → Evaluation
infixed c at sign [] = c
infixed c at sign (left ∷ lefts) = evaluated (record c { lefts = lefts }) at (combined_value at sign left c.last.value) None

abbrev pub part_ends : Evaluation → Evaluation
part_ends c = if c.depth == 1 then record c { parts = c.parts ++ c.last ∷ [] } else c

abbrev pub list_begins : Evaluation → Evaluation
list_begins c = record c { depth = c.depth + 1 }

abbrev pub list_ends : Evaluation → Evaluation
list_ends c = record c { depth = c.depth - 1 }

-- One word, where `constant` has the constant of each name.
abbrev pub core_evaluates : {N : Type 0} → (ℕ → N → Result ℤ Fault) → Evaluation → CoreWord N → Evaluation
core_evaluates constant c (core_word.Number at n) = evaluated c at (written at n) (Some n)
core_evaluates constant c (core_word.Name at x) = evaluated c at (constant at x) None
core_evaluates constant c core_word.Bracket = record c { number = None }
core_evaluates constant c (core_word.Prefix at op) = evaluated c at (prefixed_value at op c.last.value c.number) None
core_evaluates constant c core_word.Left = record c { lefts = c.last.value ∷ c.lefts }
core_evaluates constant c (core_word.Infix at sign) = infixed c at sign c.lefts
core_evaluates constant c (core_word.Fetch at x) = no_constant c at
core_evaluates constant c (core_word.Store at x) = no_constant c at
core_evaluates constant c (core_word.Call at strict f) = no_constant (list_ends c) at
core_evaluates constant c (core_word.EndIf at) = no_constant c at
core_evaluates constant c (core_word.EndLoop at n) = no_constant c at
core_evaluates constant c core_word.List = list_begins c
core_evaluates constant c core_word.Part = part_ends c
core_evaluates constant c (core_word.EndLet at) = list_ends c
core_evaluates constant c core_word.Do = list_ends c
core_evaluates constant c core_word.Give = list_ends c
core_evaluates constant c w = c

abbrev pub evaluates : {N : Type 0} → (ℕ → N → Result ℤ Fault) → Evaluation → Word N → Evaluation
evaluates constant c (word.Core w) = core_evaluates constant c w
evaluates constant c (word.EndAnd at) = no_constant c at
evaluates constant c (word.EndOr at) = no_constant c at
evaluates constant c (word.Not at) = no_constant c at
evaluates constant c (word.EndConstantLoop at x) = no_constant c at
evaluates constant c (word.EndFor at) = no_constant c at
evaluates constant c word.When = list_ends c
evaluates constant c w = c

abbrev pub evaluate : {N : Type 0} → (ℕ → N → Result ℤ Fault) → Evaluation → List (Word N) → Evaluation
evaluate constant c [] = c
evaluate constant c (w ∷ ws) = evaluate constant (evaluates constant c w) ws

-- a name's constant, by its item
abbrev pub constant_of : Option Entry → ℕ → Result ℤ Fault
constant_of (Some (entry.Constant z)) at = Ok z
constant_of (Some e) at = refused BadConst at
constant_of None at = refused (Core NoSuchName) at

abbrev pub constants : {N : Type 0} → (N → Option Entry) → ℕ → N → Result ℤ Fault
constants item at x = constant_of (item x) at

-- LOOKING AHEAD: whether the call is strict whose function's name is just before these words, so many calls deeper
abbrev pub ends_call : Bool → ℕ → (ℕ → Bool) → Bool
ends_call strict zero later = strict
ends_call strict (suc depth) later = later depth

abbrev pub core_ahead : {N : Type 0} → CoreWord N → ℕ → (ℕ → Bool) → Bool
core_ahead (core_word.Callee at f) depth later = later (suc depth)
core_ahead (core_word.Call at strict f) depth later = ends_call strict depth later
core_ahead w depth later = later depth

abbrev pub word_ahead : {N : Type 0} → Word N → ℕ → (ℕ → Bool) → Bool
word_ahead (word.Core w) depth later = core_ahead w depth later
word_ahead w depth later = later depth

abbrev pub strict_ahead : {N : Type 0} → List (Word N) → ℕ → Bool
strict_ahead [] depth = false
strict_ahead (w ∷ ws) depth = word_ahead w depth (strict_ahead ws)
