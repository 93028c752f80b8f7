-- THE PARSER AS AN AUTOMATON. Its state is a stack of symbols; what is on top decides by the next token alone. A token is
-- taken by the first symbol from the top that does not let it pass. As it is taken, words are appended to those of the program.
use Rattle.std.specs.Prelude.{ℕ, zero, ◌+◌, ◌^◌, ◌==◌, ◌&&◌, nat_le, nat_lt, Bool, true, false, List, [], ◌∷◌, ◌++◌, map, length, Option, None, Some, Result}
use Rattle.std.specs.Prelude.{Ok, Err, if◌then◌else◌}
use Rattle.operators.specs.declared.Unary.TheVariants.{Neg, Not}
use Rattle.operators.specs.declared.Binary.TheVariants.{Add, Sub, Mul, Div, Rem, And, Or, Xor, Shl, Shr, Eq, Ne, Lt, Le}
use Rattle.source.specs.declared.fault.Fault.{Fault}
use Rattle.source.specs.declared.fault.FaultKind.{FaultKind}
use Rattle.source.specs.declared.fault.FaultKind.TheVariants.{Unexpected, Unended, TooDeep, NotACell, BadNumber}
use Rattle.source.specs.declared.token.Keyword.{Keyword}
use Rattle.source.specs.declared.token.Keyword.TheVariants as keyword
use Rattle.source.specs.declared.token.Sign.{Sign}
use Rattle.source.specs.declared.token.Sign.TheVariants as sign
use Rattle.source.specs.declared.token.Token.{Token}
use Rattle.source.specs.declared.word.InfixSign.{InfixSign}
use Rattle.source.specs.declared.word.InfixSign.TheVariants.{Direct, Greater, AtLeast}
use Rattle.source.specs.declared.word.Word.TheVariants as word
use Rattle.source.specs.Tree.{Name}
use Rattle.source.specs.Spelled.{Lexeme, TheWord, TheSign, TheNumber, TheName, lexeme}
use Rattle.source.specs.Fits.{sign_level, left_level}
use Rattle.source.specs.Words.{Words}
use Rattle.law_language.specs.declared.symbol.Symbol.{Symbol}
use Rattle.law_language.specs.declared.symbol.Symbol.TheVariants.{Sign as OneSign, Keyword as OneWord, Emit, Items, ArrayName, ArrayLength, FunctionName}
use Rattle.law_language.specs.declared.symbol.Symbol.TheVariants.{Parameter, Parameters, Results, ResultCount, FunctionBody, Steps, Target, Targets, LetEnd}
use Rattle.law_language.specs.declared.symbol.Symbol.TheVariants.{StepEnd, Operand, Negated, After, AfterName, AfterIndex, Callee, CallEnd, Otherwise, Bound}
use Rattle.law_language.specs.declared.symbol.Symbol.TheVariants.{Start, Starts, Turn}

-- from the top down
abbrev pub Stack : Type 0
Stack = List (Symbol Name)

-- WHAT A SYMBOL DOES WITH A TOKEN
pub data Outcome : Type 0 where
  -- The token is taken: these words are appended, and these symbols replace the symbol.
  Takes : (appended : Words) (symbols : Stack) → Outcome
  -- The token is for what is below: these words are appended, and the symbol goes.
  Passes : (appended : Words) → Outcome
  Refuses : (kind : FaultKind) → Outcome

-- the same, with words before those that it appends
abbrev pub appending : Words → Outcome → Outcome
appending ws (Takes vs symbols) = Takes (ws ++ vs) symbols
appending ws (Passes vs) = Passes (ws ++ vs)
appending ws (Refuses kind) = Refuses kind

-- the same, with symbols below those that are put there
abbrev pub above : Stack → Outcome → Outcome
above below (Takes vs symbols) = Takes vs (symbols ++ below)
above below (Passes vs) = Passes vs
above below (Refuses kind) = Refuses kind

-- what needs so many open, where at most `limit` may be
abbrev pub within : ℕ → ℕ → Outcome → Outcome
within limit depth outcome = if nat_le depth limit then outcome else Refuses TooDeep

-- what takes a number that is below 2 ^ 63
abbrev pub small : ℕ → Outcome → Outcome
small n outcome = if nat_lt n (2 ^ 63) then outcome else if n == 2 ^ 63 then Refuses BadNumber else Refuses Unexpected

-- SIGNS AND WORDS
abbrev pub sign_number : Sign → ℕ
sign_number sign.Arrow = 0
sign_number sign.Becomes = 1
sign_number sign.ShiftLeft = 2
sign_number sign.ShiftRight = 3
sign_number sign.EqualTo = 4
sign_number sign.NotEqualTo = 5
sign_number sign.AtMost = 6
sign_number sign.AtLeast = 7
sign_number sign.Less = 8
sign_number sign.Greater = 9
sign_number sign.Equals = 10
sign_number sign.Plus = 11
sign_number sign.Minus = 12
sign_number sign.Star = 13
sign_number sign.Slash = 14
sign_number sign.Percent = 15
sign_number sign.Ampersand = 16
sign_number sign.Caret = 17
sign_number sign.Bar = 18
sign_number sign.Tilde = 19
sign_number sign.OpenParen = 20
sign_number sign.CloseParen = 21
sign_number sign.OpenBracket = 22
sign_number sign.CloseBracket = 23
sign_number sign.OpenBrace = 24
sign_number sign.CloseBrace = 25
sign_number sign.Comma = 26
sign_number sign.Semicolon = 27
sign_number sign.Underscore = 28

abbrev pub keyword_number : Keyword → ℕ
keyword_number keyword.Array = 0
keyword_number keyword.Fn = 1
keyword_number keyword.Let = 2
keyword_number keyword.If = 3
keyword_number keyword.Else = 4
keyword_number keyword.Loop = 5
keyword_number keyword.While = 6
keyword_number keyword.Strict = 7
keyword_number keyword.Inputs = 8

abbrev pub is_sign : Sign → Lexeme → Bool
is_sign s (TheSign t) = sign_number t == sign_number s
is_sign s l = false

abbrev pub is_word : Keyword → Lexeme → Bool
is_word k (TheWord j) = keyword_number j == keyword_number k
is_word k l = false

-- the operator that a sign between two operands is
abbrev pub infix_of : Sign → Option InfixSign
infix_of sign.ShiftLeft = Some (Direct Shl)
infix_of sign.ShiftRight = Some (Direct Shr)
infix_of sign.EqualTo = Some (Direct Eq)
infix_of sign.NotEqualTo = Some (Direct Ne)
infix_of sign.AtMost = Some (Direct Le)
infix_of sign.AtLeast = Some AtLeast
infix_of sign.Less = Some (Direct Lt)
infix_of sign.Greater = Some Greater
infix_of sign.Plus = Some (Direct Add)
infix_of sign.Minus = Some (Direct Sub)
infix_of sign.Star = Some (Direct Mul)
infix_of sign.Slash = Some (Direct Div)
infix_of sign.Percent = Some (Direct Rem)
infix_of sign.Ampersand = Some (Direct And)
infix_of sign.Caret = Some (Direct Xor)
infix_of sign.Bar = Some (Direct Or)
infix_of s = None

-- AFTER AN OPERAND. An operator goes on with an operand of level `left` if it may be to the right of that operand, and if the
-- result has the level that is wanted.
abbrev pub goes_on : ℕ → ℕ → InfixSign → Bool
goes_on level left s = nat_le level (sign_level s) && nat_le (left_level s) left

abbrev pub after_infix : ℕ → ℕ → ℕ → ℕ → InfixSign → Outcome
after_infix level left depth at s =
    if goes_on level left s then Takes (word.Left ∷ []) (Operand (sign_level s + 1) depth ∷ Emit (word.Infix at s) ∷ After level (sign_level s) depth ∷ [])
    else Passes []

abbrev pub after_sign : ℕ → ℕ → ℕ → ℕ → Option InfixSign → Outcome
after_sign level left depth at None = Passes []
after_sign level left depth at (Some s) = after_infix level left depth at s

-- A `:=` has no cell before it where an operator is possible.
abbrev pub after_cell : ℕ → ℕ → Outcome
after_cell level left = if goes_on level left (Direct Add) then Refuses NotACell else Passes []

abbrev pub after : ℕ → ℕ → ℕ → ℕ → Lexeme → Outcome
after level left depth at (TheSign sign.Becomes) = after_cell level left
after level left depth at (TheSign s) = after_sign level left depth at (infix_of s)
after level left depth at l = Passes []

-- A name is that of a function before `(`, of an array before `[`, and otherwise of a value.
abbrev pub after_name : ℕ → ℕ → Name → ℕ → ℕ → ℕ → Lexeme → Outcome
after_name limit named x level depth at (TheSign sign.OpenParen) = within limit (depth + 1) (Takes (word.Callee named x ∷ word.List ∷ [])
    (Operand 0 (depth + 1) ∷ CallEnd named false x depth ∷ After level 9 depth ∷ []))
after_name limit named x level depth at (TheSign sign.OpenBracket) = within limit (depth + 1) (Takes (word.Cell named x ∷ [])
    (Operand 0 (depth + 1) ∷ OneSign sign.CloseBracket ∷ AfterIndex named x level depth ∷ []))
after_name limit named x level depth at l = appending (word.Name named x ∷ []) (after level 9 depth at l)

-- A store is any expression, and no operand.
abbrev pub after_index : ℕ → Name → ℕ → ℕ → ℕ → Lexeme → Outcome
after_index cell a zero depth at (TheSign sign.Becomes) = Takes (word.Index ∷ []) (Operand 0 (depth + 1) ∷ Emit (word.Store cell a) ∷ [])
after_index cell a level depth at l = appending (word.Fetch cell a ∷ []) (after level 9 depth at l)

-- AN OPERAND
-- what follows an `if`
abbrev pub conditional : ℕ → ℕ → Stack
conditional at depth = Operand 0 (depth + 2) ∷ Emit word.Then ∷ OneSign sign.OpenBrace ∷ Steps (depth + 1) ∷ Emit word.Else ∷ OneWord keyword.Else
    ∷ Otherwise (depth + 1) ∷ Emit (word.EndIf at) ∷ []

abbrev pub operand_word : ℕ → ℕ → ℕ → ℕ → Keyword → Outcome
operand_word limit level depth at keyword.Strict = within limit (depth + 1) (Takes [] (Callee depth ∷ After level 9 depth ∷ []))
operand_word limit level depth at keyword.If = within limit (depth + 2) (Takes [] (conditional at depth ++ After level 9 depth ∷ []))
operand_word limit level depth at keyword.Loop = within limit (depth + 1) (Takes (word.Loop at ∷ []) (Bound at depth ∷ After level 9 depth ∷ []))
operand_word limit level depth at k = Refuses Unexpected

abbrev pub operand_sign : ℕ → ℕ → ℕ → ℕ → Sign → Outcome
operand_sign limit level depth at sign.OpenParen = within limit (depth + 1) (Takes []
    (Operand 0 (depth + 1) ∷ OneSign sign.CloseParen ∷ Emit word.Bracket ∷ After level 9 depth ∷ []))
operand_sign limit level depth at sign.Minus = within limit depth (Takes [] (Negated depth ∷ Emit (word.Prefix at Neg) ∷ After level 8 depth ∷ []))
operand_sign limit level depth at sign.Tilde =
    within limit (depth + 1) (Takes [] (Operand 8 (depth + 1) ∷ Emit (word.Prefix at Not) ∷ After level 8 depth ∷ []))
operand_sign limit level depth at s = Refuses Unexpected

abbrev pub operand : ℕ → ℕ → ℕ → ℕ → Lexeme → Outcome
operand limit level depth at (TheNumber n) = small n (within limit depth (Takes (word.Number at n ∷ []) (After level 9 depth ∷ [])))
operand limit level depth at (TheName x) = within limit depth (Takes [] (AfterName at x level depth ∷ []))
operand limit level depth at (TheSign s) = operand_sign limit level depth at s
operand limit level depth at (TheWord k) = operand_word limit level depth at k

-- Directly under `-` a number may be 2 ^ 63, and is not deeper.
abbrev pub negated : ℕ → ℕ → ℕ → Lexeme → Outcome
negated limit depth at (TheNumber n) = if nat_le n (2 ^ 63) then Takes (word.Number at n ∷ []) [] else Refuses Unexpected
negated limit depth at l = operand limit 8 (depth + 1) at l

abbrev pub callee : ℕ → ℕ → Lexeme → Outcome
callee depth at (TheName f) = Takes (word.Callee at f ∷ word.List ∷ []) (OneSign sign.OpenParen ∷ Operand 0 (depth + 1) ∷ CallEnd at true f depth ∷ [])
callee depth at l = Refuses Unexpected

abbrev pub call_end : ℕ → Bool → Name → ℕ → Lexeme → Outcome
call_end called strict f depth (TheSign sign.Comma) = Takes (word.Part ∷ []) (Operand 0 (depth + 1) ∷ CallEnd called strict f depth ∷ [])
call_end called strict f depth (TheSign sign.CloseParen) = Takes (word.Part ∷ word.Call called strict f ∷ []) []
call_end called strict f depth l = Refuses Unexpected

-- After an `else` there is an `if` or a block.
abbrev pub otherwise : ℕ → ℕ → ℕ → Lexeme → Outcome
otherwise limit depth at (TheSign sign.OpenBrace) = Takes [] (Steps depth ∷ [])
otherwise limit depth at (TheWord keyword.If) = within limit (depth + 2) (Takes [] (conditional at depth ++ Emit word.Chain ∷ []))
otherwise limit depth at l = Refuses Unexpected

abbrev pub bound : ℕ → ℕ → ℕ → Lexeme → Outcome
bound loop depth at (TheNumber n) =
    small n (Takes (word.Bound at n ∷ []) (OneSign sign.OpenParen ∷ Start depth ∷ Starts depth ∷ Turn depth ∷ Emit (word.EndLoop loop n) ∷ []))
bound loop depth at l = Refuses Unexpected

abbrev pub start : ℕ → ℕ → Lexeme → Outcome
start depth at (TheName x) = Takes (word.Start at x ∷ []) (OneSign sign.Equals ∷ Operand 0 (depth + 1) ∷ [])
start depth at l = Refuses Unexpected

abbrev pub starts : ℕ → Lexeme → Outcome
starts depth (TheSign sign.Comma) = Takes (word.First ∷ []) (Start depth ∷ Starts depth ∷ [])
starts depth (TheSign sign.CloseParen) = Takes (word.First ∷ []) []
starts depth l = Refuses Unexpected

abbrev pub turn : ℕ → Lexeme → Outcome
turn depth (TheWord keyword.While) = Takes (word.TestFirst ∷ []) (Operand 0 (depth + 1) ∷ Emit word.While ∷ OneSign sign.OpenBrace ∷ Steps depth ∷ [])
turn depth (TheSign sign.OpenBrace) = Takes (word.BodyFirst ∷ [])
    (Steps depth ∷ Emit word.Until ∷ OneWord keyword.While ∷ OneSign sign.OpenParen ∷ Operand 0 (depth + 1) ∷ OneSign sign.CloseParen ∷ [])
turn depth l = Refuses Unexpected

-- BODIES
abbrev pub steps : ℕ → ℕ → ℕ → Lexeme → Outcome
steps limit depth at (TheWord keyword.Let) = Takes (word.Let at ∷ []) (Target ∷ Targets at depth ∷ [])
steps limit depth at l = appending (word.List ∷ []) (above (StepEnd depth ∷ []) (operand limit 0 (depth + 1) at l))

abbrev pub target : ℕ → Lexeme → Outcome
target at (TheName x) = Takes (word.Bind at x ∷ []) []
target at (TheSign sign.Underscore) = Takes (word.Drop ∷ []) []
target at l = Refuses Unexpected

abbrev pub targets : ℕ → ℕ → Lexeme → Outcome
targets bound depth (TheSign sign.Comma) = Takes [] (Target ∷ Targets bound depth ∷ [])
targets bound depth (TheSign sign.Equals) = Takes (word.List ∷ []) (Operand 0 (depth + 1) ∷ LetEnd bound depth ∷ [])
targets bound depth l = Refuses Unexpected

abbrev pub let_end : ℕ → ℕ → Lexeme → Outcome
let_end bound depth (TheSign sign.Comma) = Takes (word.Part ∷ []) (Operand 0 (depth + 1) ∷ LetEnd bound depth ∷ [])
let_end bound depth (TheSign sign.Semicolon) = Takes (word.Part ∷ word.EndLet bound ∷ []) (Steps depth ∷ [])
let_end bound depth l = Refuses Unexpected

abbrev pub step_end : ℕ → Lexeme → Outcome
step_end depth (TheSign sign.Comma) = Takes (word.Part ∷ []) (Operand 0 (depth + 1) ∷ StepEnd depth ∷ [])
step_end depth (TheSign sign.Semicolon) = Takes (word.Part ∷ word.Do ∷ []) (Steps depth ∷ [])
step_end depth (TheSign sign.CloseBrace) = Takes (word.Part ∷ word.Give ∷ []) []
step_end depth l = Refuses Unexpected

-- ITEMS
abbrev pub items : Lexeme → Outcome
items (TheWord keyword.Array) = Takes [] (ArrayName ∷ OneSign sign.OpenBracket ∷ ArrayLength ∷ OneSign sign.CloseBracket ∷ OneSign sign.Semicolon ∷ Items ∷ [])
items (TheWord keyword.Fn) = Takes [] (FunctionName ∷ OneSign sign.OpenParen ∷ Parameter ∷ Parameters ∷ Results ∷ Emit word.EndFunction ∷ Items ∷ [])
items l = Refuses Unexpected

abbrev pub array_name : ℕ → Lexeme → Outcome
array_name at (TheName x) = Takes (word.Array at x ∷ []) []
array_name at l = Refuses Unexpected

abbrev pub array_length : ℕ → Lexeme → Outcome
array_length at (TheNumber n) = small n (Takes (word.Length at n ∷ []) [])
array_length at l = Refuses Unexpected

abbrev pub function_name : ℕ → Lexeme → Outcome
function_name at (TheName x) = Takes (word.Function at x ∷ []) []
function_name at l = Refuses Unexpected

abbrev pub parameter : ℕ → Lexeme → Outcome
parameter at (TheName x) = Takes (word.Parameter at x ∷ []) []
parameter at l = Refuses Unexpected

abbrev pub parameters : Lexeme → Outcome
parameters (TheSign sign.Comma) = Takes [] (Parameter ∷ Parameters ∷ [])
parameters (TheSign sign.CloseParen) = Takes [] []
parameters l = Refuses Unexpected

abbrev pub function_body : ℕ → Lexeme → Outcome
function_body at (TheSign sign.OpenBrace) = Takes (word.Body at ∷ []) (Steps 0 ∷ [])
function_body at l = Refuses Unexpected

abbrev pub results : ℕ → Lexeme → Outcome
results at (TheSign sign.Arrow) = Takes [] (ResultCount ∷ FunctionBody ∷ [])
results at l = function_body at l

abbrev pub result_count : ℕ → Lexeme → Outcome
result_count at (TheNumber n) = small n (Takes (word.Results at n ∷ []) [])
result_count at l = Refuses Unexpected

-- EACH SYMBOL, where at most `limit` may be open at once
abbrev pub step : ℕ → Symbol Name → ℕ → Lexeme → Outcome
step limit (OneSign s) at l = if is_sign s l then Takes [] [] else Refuses Unexpected
step limit (OneWord k) at l = if is_word k l then Takes [] [] else Refuses Unexpected
step limit (Emit w) at l = Passes (w ∷ [])
step limit Items at l = items l
step limit ArrayName at l = array_name at l
step limit ArrayLength at l = array_length at l
step limit FunctionName at l = function_name at l
step limit Parameter at l = parameter at l
step limit Parameters at l = parameters l
step limit Results at l = results at l
step limit ResultCount at l = result_count at l
step limit FunctionBody at l = function_body at l
step limit (Steps depth) at l = steps limit depth at l
step limit Target at l = target at l
step limit (Targets bound depth) at l = targets bound depth l
step limit (LetEnd bound depth) at l = let_end bound depth l
step limit (StepEnd depth) at l = step_end depth l
step limit (Operand level depth) at l = operand limit level depth at l
step limit (Negated depth) at l = negated limit depth at l
step limit (After level left depth) at l = after level left depth at l
step limit (AfterName named x level depth) at l = after_name limit named x level depth at l
step limit (AfterIndex cell a level depth) at l = after_index cell a level depth at l
step limit (Callee depth) at l = callee depth at l
step limit (CallEnd called strict f depth) at l = call_end called strict f depth l
step limit (Otherwise depth) at l = otherwise limit depth at l
step limit (Bound loop depth) at l = bound loop depth at l
step limit (Start depth) at l = start depth at l
step limit (Starts depth) at l = starts depth l
step limit (Turn depth) at l = turn depth l

-- THE AUTOMATON
-- what a token says, and its place
pub record Placed : Type 0 where
  pub at : ℕ
  pub lexeme : Lexeme

abbrev pub placed : List ℕ → Token → Placed
placed text t = record { at = t.at; lexeme = lexeme text t }

-- what was appended as a token was taken, and the stack then
pub record Moved : Type 0 where
  pub appended : Words
  pub stack : Stack

abbrev pub moved_after : Words → Result Moved FaultKind → Result Moved FaultKind
moved_after ws (Ok m) = Ok (record { appended = ws ++ m.appended; stack = m.stack })
moved_after ws (Err kind) = Err kind

abbrev pub advance_by : Outcome → Stack → Result Moved FaultKind → Result Moved FaultKind
advance_by (Takes ws symbols) below passed = Ok (record { appended = ws; stack = symbols ++ below })
advance_by (Passes ws) below passed = moved_after ws passed
advance_by (Refuses kind) below passed = Err kind

-- one token
abbrev pub advance : ℕ → Stack → ℕ → Lexeme → Result Moved FaultKind
advance limit [] at l = Err Unexpected
advance limit (s ∷ below) at l = advance_by (step limit s at l) below (advance limit below at l)

-- The end: what is left may only be words, and no further item.
abbrev pub ended : Symbol Name → Option Words
ended (Emit w) = Some (w ∷ [])
ended Items = Some []
ended s = None

abbrev pub ended_then : Option Words → Option Words → Option Words
ended_then (Some ws) (Some vs) = Some (ws ++ vs)
ended_then ws vs = None

abbrev pub finish : Stack → Option Words
finish [] = Some []
finish (s ∷ below) = ended_then (ended s) (finish below)

abbrev pub words_after : Words → Result Words Fault → Result Words Fault
words_after ws (Ok vs) = Ok (ws ++ vs)
words_after ws (Err fault) = Err fault

abbrev pub finished : ℕ → Option Words → Result Words Fault
finished end (Some ws) = Ok ws
finished end None = Err (record { kind = Unended; at = end })

abbrev pub run_on : ℕ → Result Moved FaultKind → (Stack → Result Words Fault) → Result Words Fault
run_on at (Ok m) continued = words_after m.appended (continued m.stack)
run_on at (Err kind) continued = Err (record { kind = kind; at = at })

-- the tokens that are left, of a text that is so long
abbrev pub run : ℕ → ℕ → Stack → List Placed → Result Words Fault
run limit end stack [] = finished end (finish stack)
run limit end stack (t ∷ ts) = run_on t.at (advance limit stack t.at t.lexeme) (λ moved. run limit end moved ts)

-- THE WORDS OF THE PROGRAM whose tokens a text has, or the first fault
abbrev pub parsed : List ℕ → List Token → Result Words Fault
parsed text ts = run 200 (length text) (Items ∷ []) (map (placed text) ts)
