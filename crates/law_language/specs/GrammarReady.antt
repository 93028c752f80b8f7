-- WHAT IS ON A STACK can be read to its end, with at most so many open. The automaton keeps that; and so no symbol's depth
-- is above the limit.
use Rattle.std.specs.Prelude.{◌≡◌, ℕ, ◌+◌, ◌≤◌, [], ◌∷◌, None, ⊤}
use Rattle.source.specs.Tree.{Name}
use Rattle.law_language.specs.declared.symbol.Symbol.{Symbol}
use Rattle.law_language.specs.declared.symbol.Symbol.TheVariants.{Sign as OneSign, Keyword as OneWord, Emit, Items, ArrayName, ArrayLength, FunctionName}
use Rattle.law_language.specs.declared.symbol.Symbol.TheVariants.{Parameter, Parameters, Results, ResultCount, FunctionBody, Steps, Target as OneTarget}
use Rattle.law_language.specs.declared.symbol.Symbol.TheVariants.{Targets, LetEnd, StepEnd, Operand, Negated, After, AfterName, AfterIndex, Callee, CallEnd}
use Rattle.law_language.specs.declared.symbol.Symbol.TheVariants.{Otherwise, Bound, Start, Starts, Turn as OneTurn}
use Rattle.law_language.specs.GrammarAutomaton.{Stack, infix_of}

abbrev pub Ready : ℕ → Symbol Name → Type 0
Ready limit (OneSign s) = infix_of s ≡ None
Ready limit (OneWord k) = ⊤
Ready limit (Emit w) = ⊤
Ready limit Items = 1 ≤ limit
Ready limit ArrayName = ⊤
Ready limit ArrayLength = ⊤
Ready limit FunctionName = ⊤
Ready limit Parameter = ⊤
Ready limit Parameters = ⊤
Ready limit Results = 1 ≤ limit
Ready limit ResultCount = ⊤
Ready limit FunctionBody = 1 ≤ limit
Ready limit (Steps d) = d + 1 ≤ limit
Ready limit OneTarget = ⊤
Ready limit (Targets bound d) = d + 1 ≤ limit
Ready limit (LetEnd bound d) = d + 1 ≤ limit
Ready limit (StepEnd d) = d + 1 ≤ limit
Ready limit (Operand m d) = (m ≤ 8) × (d ≤ limit)
Ready limit (Negated d) = d ≤ limit
Ready limit (After m k d) = (m ≤ k) × (d ≤ limit)
Ready limit (AfterName named x m d) = (m ≤ 8) × (d ≤ limit)
Ready limit (AfterIndex cell a m d) = (m ≤ 8) × (d + 1 ≤ limit)
Ready limit (Callee d) = d + 1 ≤ limit
Ready limit (CallEnd called strict f d) = d + 1 ≤ limit
Ready limit (Otherwise d) = d + 1 ≤ limit
Ready limit (Bound loop d) = d + 1 ≤ limit
Ready limit (Start d) = d + 1 ≤ limit
Ready limit (Starts d) = d + 1 ≤ limit
Ready limit (OneTurn d) = d + 1 ≤ limit

abbrev pub AllReady : ℕ → Stack → Type 0
AllReady limit [] = ⊤
AllReady limit (s ∷ S) = Ready limit s × AllReady limit S
