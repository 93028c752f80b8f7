-- WHAT IS ON A STACK can be read to its end, with at most so many open. The automaton keeps that.
use Rattle.std.specs.Prelude.{ℕ, ◌+◌, ◌≤◌, [], ◌∷◌, ⊤}
use Rattle.source.specs.Tree.{Name}
use Rattle.law_surface_text.specs.declared.symbol.Symbol.{Symbol}
use Rattle.law_surface_text.specs.declared.symbol.Symbol.TheVariants.{Items, FunctionBody, Steps, ArmEnd, StepOtherwise, StepEnd, Operand, Negated, After}
use Rattle.law_surface_text.specs.declared.symbol.Symbol.TheVariants.{AfterName, AfterIndexes, Callee, Further, Indexes, Otherwise, Bound, Starts, Turn}
use Rattle.law_surface_text.specs.declared.symbol.Symbol.TheVariants.{ForBound, AfterForName, Range, Carried}
use Rattle.law_surface_text.specs.Automaton.{Stack}

abbrev pub Ready : ℕ → Symbol Name → Type 0
Ready limit Items = 1 ≤ limit
Ready limit FunctionBody = 1 ≤ limit
Ready limit (Steps d) = d + 1 ≤ limit
Ready limit (ArmEnd begun d) = d + 2 ≤ limit
Ready limit (StepOtherwise begun d) = d + 2 ≤ limit
Ready limit (StepEnd d) = d + 1 ≤ limit
Ready limit (Operand m d) = (m ≤ 11) × (d ≤ limit)
Ready limit (Negated d) = d ≤ limit
Ready limit (After m k d) = d ≤ limit
Ready limit (AfterName named x m d) = (m ≤ 11) × (d ≤ limit)
Ready limit (AfterIndexes cell a m d) = (m ≤ 11) × (d + 1 ≤ limit)
Ready limit (Callee d) = d + 1 ≤ limit
Ready limit (Further d) = d + 1 ≤ limit
Ready limit (Indexes d) = d + 1 ≤ limit
Ready limit (Otherwise d) = d + 1 ≤ limit
Ready limit (Bound loop d) = d + 1 ≤ limit
Ready limit (Starts d) = d + 1 ≤ limit
Ready limit (Turn d) = d + 1 ≤ limit
Ready limit (ForBound d) = d + 1 ≤ limit
Ready limit (AfterForName named x d) = d + 1 ≤ limit
Ready limit (Range d) = d + 1 ≤ limit
Ready limit (Carried d) = d + 1 ≤ limit
Ready limit s = ⊤

abbrev pub AllReady : ℕ → Stack → Type 0
AllReady limit [] = ⊤
AllReady limit (s ∷ S) = Ready limit s × AllReady limit S
