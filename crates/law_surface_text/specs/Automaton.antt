-- THE PARSER AS AN AUTOMATON. Its state is a stack of symbols; what is on top decides by the next token alone. A token is
-- taken by the first symbol from the top that does not let it pass. As it is taken, words are appended to those of the program.
--
-- A step that begins with `if` is an expression where its last `else` is there, and else a statement, which ends with `;`. So
-- what is above says to what is below whether an `if` ended without its `else` (`Lacks`).
use Rattle.std.specs.Prelude.{ℕ, zero, ◌+◌, ◌^◌, ◌==◌, ◌&&◌, nat_le, nat_lt, Bool, true, false, List, [], ◌∷◌, ◌++◌, map, length, Option, None, Some, Result}
use Rattle.std.specs.Prelude.{Ok, Err, if◌then◌else◌}
use Rattle.operators.specs.declared.Unary.TheVariants as unary
use Rattle.source.specs.declared.fault.FaultKind.{FaultKind as CoreFaultKind}
use Rattle.source.specs.declared.fault.FaultKind.TheVariants.{Unexpected, Unended, TooDeep, NotACell, BadNumber}
use Rattle.source.specs.declared.token.Keyword.{Keyword as CoreKeyword}
use Rattle.source.specs.declared.token.Keyword.TheVariants as core_keyword
use Rattle.source.specs.declared.token.Sign.TheVariants as core_sign
use Rattle.source.specs.declared.word.InfixSign.{InfixSign}
use Rattle.source.specs.declared.word.Word.TheVariants as core_word
use Rattle.source.specs.Tree.{Name}
use Rattle.law_language.specs.GrammarAutomaton as core
use Rattle.law_language.specs.GrammarAutomaton.{infix_of}
use Rattle.surface.specs.declared.fault.Fault.{Fault}
use Rattle.surface.specs.declared.fault.FaultKind.TheVariants.{Core}
use Rattle.surface.specs.declared.token.Keyword.{Keyword}
use Rattle.surface.specs.declared.token.Keyword.TheVariants as keyword
use Rattle.surface.specs.declared.token.Sign.{Sign}
use Rattle.surface.specs.declared.token.Sign.TheVariants as sign
use Rattle.surface.specs.declared.token.Token.{Token}
use Rattle.surface.specs.declared.word.Word.{Word}
use Rattle.surface.specs.declared.word.Word.TheVariants as word
use Rattle.surface.specs.Spelled.{Lexeme, TheWord, TheSign, TheNumber, TheName, lexeme}
use Rattle.surface.specs.Fits.{sign_level, left_level}
use Rattle.surface.specs.Words.{Words, of_core}
use Rattle.law_surface_text.specs.declared.symbol.NameWord.{NameWord}
use Rattle.law_surface_text.specs.declared.symbol.NameWord.TheVariants as naming
use Rattle.law_surface_text.specs.declared.symbol.Symbol.{Symbol}
use Rattle.law_surface_text.specs.declared.symbol.Symbol.TheVariants.{Sign as OneSign, Keyword as OneWord, Emit, Name as OneName, Items, Parameter}
use Rattle.law_surface_text.specs.declared.symbol.Symbol.TheVariants.{AfterParameter, Rank, Parameters, Results, ResultCount, FunctionBody, Steps, ArmEnd}
use Rattle.law_surface_text.specs.declared.symbol.Symbol.TheVariants.{StepOtherwise, ChainEnd, Target, Targets, StepEnd, Operand, Negated, After, AfterName}
use Rattle.law_surface_text.specs.declared.symbol.Symbol.TheVariants.{AfterIndexes, Callee, Further, Indexes, Otherwise, Bound, Starts, Turn, ForBound}
use Rattle.law_surface_text.specs.declared.symbol.Symbol.TheVariants.{AfterForName, Range, Carried}

-- from the top down
abbrev pub Stack : Type 0
Stack = List (Symbol Name)

-- WHAT A SYMBOL DOES WITH A TOKEN
pub data Outcome : Type 0 where
  -- The token is taken, where so many may be open at once: these words are appended, and these symbols replace the symbol.
  Takes : (needed : ℕ) (appended : Words) (symbols : Stack) → Outcome
  -- The token is for what is below: these words are appended, and the symbol goes.
  Passes : (appended : Words) → Outcome
  -- So it is, and what ended is an `if` without its last `else`.
  Lacks : (appended : Words) → Outcome
  Refuses : Outcome

-- the same, with words before those that it appends
abbrev pub appending : Words → Outcome → Outcome
appending ws (Takes needed vs symbols) = Takes needed (ws ++ vs) symbols
appending ws (Passes vs) = Passes (ws ++ vs)
appending ws (Lacks vs) = Lacks (ws ++ vs)
appending ws Refuses = Refuses

-- the same, with symbols below those that are put there
abbrev pub above : Stack → Outcome → Outcome
above below (Takes needed vs symbols) = Takes needed vs (symbols ++ below)
above below (Passes vs) = Passes vs
above below (Lacks vs) = Lacks vs
above below Refuses = Refuses

-- what takes a number that is below 2 ^ 63
abbrev pub small : ℕ → Outcome → Outcome
small n outcome = if nat_lt n (2 ^ 63) then outcome else Refuses

-- SIGNS AND WORDS
abbrev pub is_sign : Sign → Lexeme → Bool
is_sign (sign.Core s) (TheSign (sign.Core t)) = core.sign_number t == core.sign_number s
is_sign sign.Range (TheSign sign.Range) = true
is_sign s l = false

abbrev pub is_word : CoreKeyword → Lexeme → Bool
is_word k (TheWord (keyword.Core j)) = core.keyword_number j == core.keyword_number k
is_word k l = false

-- the sign as it is
abbrev pub open_paren : Symbol Name
open_paren = OneSign (sign.Core core_sign.OpenParen)

abbrev pub close_paren : Symbol Name
close_paren = OneSign (sign.Core core_sign.CloseParen)

abbrev pub open_bracket : Symbol Name
open_bracket = OneSign (sign.Core core_sign.OpenBracket)

abbrev pub close_bracket : Symbol Name
close_bracket = OneSign (sign.Core core_sign.CloseBracket)

abbrev pub open_brace : Symbol Name
open_brace = OneSign (sign.Core core_sign.OpenBrace)

abbrev pub semicolon : Symbol Name
semicolon = OneSign (sign.Core core_sign.Semicolon)

abbrev pub equals : Symbol Name
equals = OneSign (sign.Core core_sign.Equals)

abbrev pub name_word : NameWord → ℕ → Name → Word Name
name_word naming.Array at x = of_core (core_word.Array at x)
name_word naming.Constant at x = word.Constant at x
name_word naming.Function at x = of_core (core_word.Function at x)
name_word naming.Counter at x = word.Counter at x
name_word naming.Start at x = of_core (core_word.Start at x)

abbrev pub one_name : NameWord → ℕ → Lexeme → Outcome
one_name w at (TheName x) = Takes 0 (name_word w at x ∷ []) []
one_name w at l = Refuses

-- OPERATORS between two operands
pub data Operator : Type 0 where
  Joins : (sign : InfixSign) → Operator
  AndAlso : Operator
  OrElse : Operator

abbrev pub operator_level : Operator → ℕ
operator_level (Joins s) = sign_level s
operator_level AndAlso = 2
operator_level OrElse = 1

-- the least level of the operand on the left
abbrev pub operand_level : Operator → ℕ
operand_level (Joins s) = left_level s
operand_level AndAlso = 2
operand_level OrElse = 1

-- the word between the operands, and the one after them
abbrev pub between : Operator → Word Name
between (Joins s) = of_core core_word.Left
between AndAlso = word.AndThen
between OrElse = word.OrElse

abbrev pub joined : Operator → ℕ → Word Name
joined (Joins s) at = of_core (core_word.Infix at s)
joined AndAlso at = word.EndAnd at
joined OrElse at = word.EndOr at

abbrev pub infix_operator : Option InfixSign → Option Operator
infix_operator None = None
infix_operator (Some s) = Some (Joins s)

abbrev pub operator_of : Lexeme → Option Operator
operator_of (TheSign (sign.Core s)) = infix_operator (infix_of s)
operator_of (TheWord keyword.And) = Some AndAlso
operator_of (TheWord keyword.Or) = Some OrElse
operator_of l = None

-- AFTER AN OPERAND. An operator goes on with an operand of level `left` if it may be to the right of that operand, and if the
-- result has the level that is wanted.
abbrev pub goes_on : ℕ → ℕ → Operator → Bool
goes_on level left o = nat_le level (operator_level o) && nat_le (operand_level o) left

abbrev pub after_operator : ℕ → ℕ → ℕ → ℕ → Option Operator → Outcome
after_operator level left depth at None = Passes []
after_operator level left depth at (Some o) =
    if goes_on level left o then Takes 0 (between o ∷ [])
    (Operand (operator_level o + 1) depth ∷ Emit (joined o at) ∷ After level (operator_level o) depth ∷ [])
    else Passes []

abbrev pub after : ℕ → ℕ → ℕ → ℕ → Lexeme → Outcome
after level left depth at l = after_operator level left depth at (operator_of l)

-- A name is that of a function before `(`, of an array before `[`, and otherwise of a value.
abbrev pub after_name : ℕ → Name → ℕ → ℕ → ℕ → Lexeme → Outcome
after_name named x level depth at (TheSign (sign.Core core_sign.OpenParen)) =
    Takes (depth + 1) (of_core (core_word.Callee named x) ∷ of_core core_word.List ∷ [])
    (Operand 0 (depth + 1) ∷ Further depth ∷ close_paren ∷ Emit (of_core (core_word.Call named false x)) ∷ After level 12 depth ∷ [])
after_name named x level depth at (TheSign (sign.Core core_sign.OpenBracket)) =
    Takes (depth + 1) (of_core (core_word.Cell named x) ∷ [])
    (Operand 0 (depth + 1) ∷ Indexes depth ∷ close_bracket ∷ AfterIndexes named x level depth ∷ [])
after_name named x level depth at l = appending (of_core (core_word.Name named x) ∷ []) (after level 12 depth at l)

-- A store is any expression, and no operand.
abbrev pub after_indexes : ℕ → Name → ℕ → ℕ → ℕ → Lexeme → Outcome
after_indexes cell a zero depth at (TheSign (sign.Core core_sign.Becomes)) =
    Takes 0 (of_core core_word.Index ∷ []) (Operand 0 (depth + 1) ∷ Emit (of_core (core_word.Store cell a)) ∷ [])
after_indexes cell a level depth at l = appending (of_core (core_word.Fetch cell a) ∷ []) (after level 12 depth at l)

-- AN OPERAND
-- what follows an `if`, up to the end of its first arm
abbrev pub tested : ℕ → Stack → Stack
tested depth rest = Operand 0 (depth + 2) ∷ Emit (of_core core_word.Then) ∷ open_brace ∷ Steps (depth + 1) ∷ rest

-- what follows an `if` that has an `else`
abbrev pub conditional : ℕ → ℕ → Stack → Stack
conditional at depth rest =
    tested depth
    (Emit (of_core core_word.Else) ∷ OneWord core_keyword.Else ∷ Otherwise (depth + 1) ∷ Emit (of_core (core_word.EndIf at)) ∷ rest)

abbrev pub operand_word : ℕ → ℕ → ℕ → Keyword → Outcome
operand_word level depth at (keyword.Core core_keyword.Strict) = Takes (depth + 1) [] (Callee depth ∷ After level 12 depth ∷ [])
operand_word level depth at (keyword.Core core_keyword.If) = Takes (depth + 2) [] (conditional at depth (After level 12 depth ∷ []))
operand_word level depth at (keyword.Core core_keyword.Loop) =
    Takes (depth + 1) (of_core (core_word.Loop at) ∷ []) (Bound at depth ∷ After level 12 depth ∷ [])
operand_word level depth at keyword.For = Takes (depth + 1) (word.For at ∷ []) (ForBound depth ∷ Emit (word.EndFor at) ∷ After level 12 depth ∷ [])
operand_word level depth at keyword.Not =
    if nat_le level 3 then Takes (depth + 1) [] (Operand 3 (depth + 1) ∷ Emit (word.Not at) ∷ After level 3 depth ∷ []) else Refuses
operand_word level depth at k = Refuses

abbrev pub operand_sign : ℕ → ℕ → ℕ → Sign → Outcome
operand_sign level depth at (sign.Core core_sign.OpenParen) =
    Takes (depth + 1) [] (Operand 0 (depth + 1) ∷ close_paren ∷ Emit (of_core core_word.Bracket) ∷ After level 12 depth ∷ [])
operand_sign level depth at (sign.Core core_sign.Minus) =
    Takes depth [] (Negated depth ∷ Emit (of_core (core_word.Prefix at unary.Neg)) ∷ After level 11 depth ∷ [])
operand_sign level depth at (sign.Core core_sign.Tilde) =
    Takes (depth + 1) [] (Operand 11 (depth + 1) ∷ Emit (of_core (core_word.Prefix at unary.Not)) ∷ After level 11 depth ∷ [])
operand_sign level depth at s = Refuses

abbrev pub operand : ℕ → ℕ → ℕ → Lexeme → Outcome
operand level depth at (TheNumber n) = small n (Takes depth (of_core (core_word.Number at n) ∷ []) (After level 12 depth ∷ []))
operand level depth at (TheName x) = Takes depth [] (AfterName at x level depth ∷ [])
operand level depth at (TheSign s) = operand_sign level depth at s
operand level depth at (TheWord k) = operand_word level depth at k

-- Directly under `-` a number may be 2 ^ 63, and is not deeper.
abbrev pub negated : ℕ → ℕ → Lexeme → Outcome
negated depth at (TheNumber n) = if nat_le n (2 ^ 63) then Takes 0 (of_core (core_word.Number at n) ∷ []) [] else Refuses
negated depth at l = operand 11 (depth + 1) at l

abbrev pub callee : ℕ → ℕ → Lexeme → Outcome
callee depth at (TheName f) = Takes 0 (of_core (core_word.Callee at f) ∷ of_core core_word.List ∷ [])
    (open_paren ∷ Operand 0 (depth + 1) ∷ Further depth ∷ close_paren ∷ Emit (of_core (core_word.Call at true f)) ∷ [])
callee depth at l = Refuses

-- LISTS
abbrev pub further : ℕ → Lexeme → Outcome
further depth (TheSign (sign.Core core_sign.Comma)) = Takes 0 (of_core core_word.Part ∷ []) (Operand 0 (depth + 1) ∷ Further depth ∷ [])
further depth l = Passes (of_core core_word.Part ∷ [])

abbrev pub indexes : ℕ → Lexeme → Outcome
indexes depth (TheSign (sign.Core core_sign.Comma)) = Takes 0 (word.NextIndex ∷ []) (Operand 0 (depth + 1) ∷ Indexes depth ∷ [])
indexes depth l = Passes []

-- names with first values
abbrev pub first_of : ℕ → Stack → Stack
first_of depth rest = OneName naming.Start ∷ equals ∷ Operand 0 (depth + 1) ∷ Starts depth ∷ rest

abbrev pub starts : ℕ → Lexeme → Outcome
starts depth (TheSign (sign.Core core_sign.Comma)) = Takes 0 (of_core core_word.First ∷ []) (first_of depth [])
starts depth l = Passes (of_core core_word.First ∷ [])

-- After an `else` there is an `if` or a block.
abbrev pub otherwise : ℕ → ℕ → Lexeme → Outcome
otherwise depth at (TheSign (sign.Core core_sign.OpenBrace)) = Takes 0 [] (Steps depth ∷ [])
otherwise depth at (TheWord (keyword.Core core_keyword.If)) = Takes (depth + 2) [] (conditional at depth (Emit (of_core core_word.Chain) ∷ []))
otherwise depth at l = Refuses

-- LOOPS
-- what follows the bound
abbrev pub loop_rest : ℕ → Word Name → Stack
loop_rest depth last = open_paren ∷ first_of depth (close_paren ∷ Turn depth ∷ Emit last ∷ [])

abbrev pub bound : ℕ → ℕ → ℕ → Lexeme → Outcome
bound loop depth at (TheNumber n) = small n (Takes 0 (of_core (core_word.Bound at n) ∷ []) (loop_rest depth (of_core (core_word.EndLoop loop n))))
bound loop depth at (TheName x) = Takes 0 (word.ConstantBound at x ∷ []) (loop_rest depth (word.EndConstantLoop loop x))
bound loop depth at l = Refuses

abbrev pub turn : ℕ → Lexeme → Outcome
turn depth (TheWord (keyword.Core core_keyword.While)) =
    Takes 0 (of_core core_word.TestFirst ∷ []) (Operand 0 (depth + 1) ∷ Emit (of_core core_word.While) ∷ open_brace ∷ Steps depth ∷ [])
turn depth (TheSign (sign.Core core_sign.OpenBrace)) = Takes 0 (of_core core_word.BodyFirst ∷ [])
    (Steps depth ∷ Emit (of_core core_word.Until) ∷ OneWord core_keyword.While ∷ open_paren ∷ Operand 0 (depth + 1) ∷ close_paren ∷ [])
turn depth l = Refuses

-- A `for`: what follows its `in`.
abbrev pub range_rest : ℕ → Stack
range_rest depth = Operand 0 (depth + 1) ∷ Emit word.Range ∷ OneSign sign.Range ∷ Operand 0 (depth + 1) ∷ Emit word.EndRange ∷ Carried depth ∷
    Emit word.Turns ∷ open_brace ∷ Steps depth ∷ []

abbrev pub for_bound : ℕ → ℕ → Lexeme → Outcome
for_bound depth at (TheNumber n) = small n (Takes 0 (of_core (core_word.Bound at n) ∷ []) (OneName naming.Counter ∷ Range depth ∷ []))
for_bound depth at (TheName x) = Takes 0 [] (AfterForName at x depth ∷ [])
for_bound depth at l = Refuses

-- The first name is the counter's before `in`, and the bound's before another name.
abbrev pub after_for_name : ℕ → Name → ℕ → ℕ → Lexeme → Outcome
after_for_name named x depth at (TheName i) = Takes 0 (word.ConstantBound named x ∷ word.Counter at i ∷ []) (Range depth ∷ [])
after_for_name named x depth at (TheWord keyword.In) = Takes 0 (word.Counter named x ∷ []) (range_rest depth)
after_for_name named x depth at l = Refuses

abbrev pub range : ℕ → Lexeme → Outcome
range depth (TheWord keyword.In) = Takes 0 [] (range_rest depth)
range depth l = Refuses

abbrev pub carried : ℕ → Lexeme → Outcome
carried depth (TheWord keyword.With) = Takes 0 [] (first_of depth [])
carried depth l = Passes []

-- BODIES
abbrev pub steps : ℕ → ℕ → Lexeme → Outcome
steps depth at (TheWord (keyword.Core core_keyword.Let)) = Takes 0 (of_core (core_word.Let at) ∷ [])
    (Target ∷ Targets ∷ equals ∷ Emit (of_core core_word.List) ∷ Operand 0 (depth + 1) ∷ Further depth ∷ semicolon
    ∷ Emit (of_core (core_word.EndLet at)) ∷ Steps depth ∷ [])
steps depth at (TheWord (keyword.Core core_keyword.If)) = Takes (depth + 3) (of_core core_word.List ∷ [])
    (tested (depth + 1) (ArmEnd at (depth + 1) ∷ After 0 12 (depth + 1) ∷ Further depth ∷ StepEnd depth ∷ []))
steps depth at l = appending (of_core core_word.List ∷ []) (above (Further depth ∷ StepEnd depth ∷ []) (operand 0 (depth + 1) at l))

-- After an arm, an `else` goes on; anything else ends an `if` without one.
abbrev pub arm_end : ℕ → ℕ → Lexeme → Outcome
arm_end begun depth (TheWord (keyword.Core core_keyword.Else)) = Takes 0 (of_core core_word.Else ∷ []) (StepOtherwise begun depth ∷ [])
arm_end begun depth l = Lacks (word.EndWhen begun ∷ [])

abbrev pub step_otherwise : ℕ → ℕ → ℕ → Lexeme → Outcome
step_otherwise begun depth at (TheSign (sign.Core core_sign.OpenBrace)) =
    Takes 0 [] (Steps (depth + 1) ∷ Emit (of_core (core_word.EndIf begun)) ∷ [])
step_otherwise begun depth at (TheWord (keyword.Core core_keyword.If)) =
    Takes (depth + 3) [] (tested (depth + 1) (ArmEnd at (depth + 1) ∷ ChainEnd begun ∷ []))
step_otherwise begun depth at l = Refuses

abbrev pub target : ℕ → Lexeme → Outcome
target at (TheName x) = Takes 0 (of_core (core_word.Bind at x) ∷ []) []
target at (TheSign (sign.Core core_sign.Underscore)) = Takes 0 (of_core core_word.Drop ∷ []) []
target at l = Refuses

abbrev pub targets : Lexeme → Outcome
targets (TheSign (sign.Core core_sign.Comma)) = Takes 0 [] (Target ∷ Targets ∷ [])
targets l = Passes []

abbrev pub step_end : ℕ → Lexeme → Outcome
step_end depth (TheSign (sign.Core core_sign.Semicolon)) = Takes 0 (of_core core_word.Do ∷ []) (Steps depth ∷ [])
step_end depth (TheSign (sign.Core core_sign.CloseBrace)) = Takes 0 (of_core core_word.Give ∷ []) []
step_end depth l = Refuses

-- ITEMS
abbrev pub items : Lexeme → Outcome
items (TheWord (keyword.Core core_keyword.Array)) = Takes 0 []
    (OneName naming.Array ∷ open_bracket ∷ Emit (of_core core_word.List) ∷ Operand 0 1 ∷ Further 0 ∷ close_bracket ∷ Emit word.EndArray ∷ semicolon
    ∷ Items ∷ [])
items (TheWord keyword.Const) = Takes 0 [] (OneName naming.Constant ∷ equals ∷ Operand 0 1 ∷ Emit word.EndConstant ∷ semicolon ∷ Items ∷ [])
items (TheWord (keyword.Core core_keyword.Fn)) = Takes 0 []
    (OneName naming.Function ∷ open_paren ∷ Parameter ∷ Parameters ∷ close_paren ∷ Results ∷ FunctionBody ∷ Emit (of_core core_word.EndFunction)
    ∷ Items ∷ [])
items l = Refuses

abbrev pub parameter : ℕ → Lexeme → Outcome
parameter at (TheName x) = Takes 0 [] (AfterParameter at x ∷ [])
parameter at l = Refuses

abbrev pub after_parameter : ℕ → Name → Lexeme → Outcome
after_parameter named x (TheSign (sign.Core core_sign.OpenBracket)) = Takes 0 [] (Rank named x 1 ∷ [])
after_parameter named x l = Passes (of_core (core_word.Parameter named x) ∷ [])

abbrev pub rank : ℕ → Name → ℕ → Lexeme → Outcome
rank named x n (TheSign (sign.Core core_sign.Comma)) = Takes 0 [] (Rank named x (n + 1) ∷ [])
rank named x n (TheSign (sign.Core core_sign.CloseBracket)) = Takes 0 (word.ArrayParameter named x n ∷ []) []
rank named x n l = Refuses

abbrev pub parameters : Lexeme → Outcome
parameters (TheSign (sign.Core core_sign.Comma)) = Takes 0 [] (Parameter ∷ Parameters ∷ [])
parameters l = Passes []

abbrev pub results : Lexeme → Outcome
results (TheSign (sign.Core core_sign.Arrow)) = Takes 0 [] (ResultCount ∷ [])
results l = Passes []

abbrev pub result_count : ℕ → Lexeme → Outcome
result_count at (TheNumber n) = small n (Takes 0 (of_core (core_word.Results at n) ∷ []) [])
result_count at (TheName x) = Takes 0 (word.ConstantResults at x ∷ []) []
result_count at l = Refuses

abbrev pub function_body : ℕ → Lexeme → Outcome
function_body at (TheSign (sign.Core core_sign.OpenBrace)) = Takes 0 (of_core (core_word.Body at) ∷ []) (Steps 0 ∷ [])
function_body at l = Refuses

-- EACH SYMBOL
abbrev pub step : Symbol Name → ℕ → Lexeme → Outcome
step (OneSign s) at l = if is_sign s l then Takes 0 [] [] else Refuses
step (OneWord k) at l = if is_word k l then Takes 0 [] [] else Refuses
step (Emit w) at l = Passes (w ∷ [])
step (OneName w) at l = one_name w at l
step Items at l = items l
step Parameter at l = parameter at l
step (AfterParameter named x) at l = after_parameter named x l
step (Rank named x n) at l = rank named x n l
step Parameters at l = parameters l
step Results at l = results l
step ResultCount at l = result_count at l
step FunctionBody at l = function_body at l
step (Steps depth) at l = steps depth at l
step (ArmEnd begun depth) at l = arm_end begun depth l
step (StepOtherwise begun depth) at l = step_otherwise begun depth at l
step (ChainEnd begun) at l = Passes (of_core core_word.Chain ∷ of_core (core_word.EndIf begun) ∷ [])
step Target at l = target at l
step Targets at l = targets l
step (StepEnd depth) at l = step_end depth l
step (Operand level depth) at l = operand level depth at l
step (Negated depth) at l = negated depth at l
step (After level left depth) at l = after level left depth at l
step (AfterName named x level depth) at l = after_name named x level depth at l
step (AfterIndexes cell a level depth) at l = after_indexes cell a level depth at l
step (Callee depth) at l = callee depth at l
step (Further depth) at l = further depth l
step (Indexes depth) at l = indexes depth l
step (Otherwise depth) at l = otherwise depth at l
step (Bound loop depth) at l = bound loop depth at l
step (Starts depth) at l = starts depth l
step (Turn depth) at l = turn depth l
step (ForBound depth) at l = for_bound depth at l
step (AfterForName named x depth) at l = after_for_name named x depth at l
step (Range depth) at l = range depth l
step (Carried depth) at l = carried depth l

-- Where what is above is an `if` that ended without its `else`: the chain that it is in ends so, too, and is a statement, after
-- which there is a `;`.
abbrev pub when_end : ℕ → Lexeme → Outcome
when_end depth (TheSign (sign.Core core_sign.Semicolon)) = Takes 0 (word.When ∷ []) (Steps depth ∷ [])
when_end depth l = Refuses

abbrev pub lacking_step : Symbol Name → Lexeme → Outcome
lacking_step (ChainEnd begun) l = Lacks (word.EndWhen begun ∷ [])
lacking_step (After level left depth) l = Lacks []
lacking_step (Further depth) l = Lacks []
lacking_step (StepEnd depth) l = when_end depth l
lacking_step s l = Refuses

abbrev pub step_below : Bool → Symbol Name → ℕ → Lexeme → Outcome
step_below true s at l = lacking_step s l
step_below false s at l = step s at l

-- THE AUTOMATON
-- what a token says, and its place
pub record Placed : Type 0 where
  pub at : ℕ
  pub lexeme : Lexeme

abbrev pub placed : List ℕ → Token → Placed
placed text t = record { at = t.at; lexeme = lexeme text t }

-- what was appended as a token was taken, and the stack then
pub record Moved : Type 0 where
  pub appended : Words
  pub stack : Stack

abbrev pub moved_after : Words → Result Moved CoreFaultKind → Result Moved CoreFaultKind
moved_after ws (Ok m) = Ok (record { appended = ws ++ m.appended; stack = m.stack })
moved_after ws (Err kind) = Err kind

-- where `passed` says what is below does, after an `if` without its `else` or not, and at most `limit` may be open at once
abbrev pub advance_by : ℕ → Outcome → Stack → (Bool → Result Moved CoreFaultKind) → Result Moved CoreFaultKind
advance_by limit (Takes needed ws symbols) below passed =
    if nat_le needed limit then Ok (record { appended = ws; stack = symbols ++ below }) else Err TooDeep
advance_by limit (Passes ws) below passed = moved_after ws (passed false)
advance_by limit (Lacks ws) below passed = moved_after ws (passed true)
advance_by limit Refuses below passed = Err Unexpected

-- one token
abbrev pub advance : ℕ → Stack → Bool → ℕ → Lexeme → Result Moved CoreFaultKind
advance limit [] lacking at l = Err Unexpected
advance limit (s ∷ below) lacking at l = advance_by limit (step_below lacking s at l) below (λ lacks. advance limit below lacks at l)

-- WHERE A FAULT HAS A KIND OF ITS OWN: at a `:=` where `+` would be taken, and at 2 ^ 63 where 0 would be.
abbrev pub is_taken : Result Moved CoreFaultKind → Bool
is_taken (Ok m) = true
is_taken (Err kind) = false

abbrev pub would_take : ℕ → Stack → Lexeme → Bool
would_take limit stack l = is_taken (advance limit stack false 0 l)

abbrev pub unexpected : ℕ → Stack → Lexeme → CoreFaultKind
unexpected limit stack (TheSign (sign.Core core_sign.Becomes)) =
    if would_take limit stack (TheSign (sign.Core core_sign.Plus)) then NotACell else Unexpected
unexpected limit stack (TheNumber n) = if n == 2 ^ 63 && would_take limit stack (TheNumber 0) then BadNumber else Unexpected
unexpected limit stack l = Unexpected

abbrev pub blamed : ℕ → Stack → Lexeme → CoreFaultKind → CoreFaultKind
blamed limit stack l Unexpected = unexpected limit stack l
blamed limit stack l kind = kind

-- The end: what is left may only be words, and no further item.
abbrev pub ended : Symbol Name → Option Words
ended (Emit w) = Some (w ∷ [])
ended Items = Some []
ended s = None

abbrev pub ended_then : Option Words → Option Words → Option Words
ended_then (Some ws) (Some vs) = Some (ws ++ vs)
ended_then ws vs = None

abbrev pub finish : Stack → Option Words
finish [] = Some []
finish (s ∷ below) = ended_then (ended s) (finish below)

abbrev pub words_after : Words → Result Words Fault → Result Words Fault
words_after ws (Ok vs) = Ok (ws ++ vs)
words_after ws (Err fault) = Err fault

abbrev pub finished : ℕ → Option Words → Result Words Fault
finished end (Some ws) = Ok ws
finished end None = Err (record { kind = Core Unended; at = end })

abbrev pub run_on : ℕ → Stack → ℕ → Lexeme → Result Moved CoreFaultKind → (Stack → Result Words Fault) → Result Words Fault
run_on limit stack at l (Ok m) continued = words_after m.appended (continued m.stack)
run_on limit stack at l (Err kind) continued = Err (record { kind = Core (blamed limit stack l kind); at = at })

-- the tokens that are left, of a text that is so long
abbrev pub run : ℕ → ℕ → Stack → List Placed → Result Words Fault
run limit end stack [] = finished end (finish stack)
run limit end stack (t ∷ ts) = run_on limit stack t.at t.lexeme (advance limit stack false t.at t.lexeme) (λ moved. run limit end moved ts)

-- THE WORDS OF THE PROGRAM whose tokens a text has, or the first fault
abbrev pub parsed : List ℕ → List Token → Result Words Fault
parsed text ts = run 200 (length text) (Items ∷ []) (map (placed text) ts)
