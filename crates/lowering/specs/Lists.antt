-- LISTS, CALLS AND STATEMENTS in the machine: what a list keeps of the values, and what its end does with them.
use Rattle.std.specs.Prelude.{ℕ, List, [], ◌∷◌, ◌++◌, Option, None, Some}
use Rattle.semantics.specs.declared.graph.Source.{Source}
use Rattle.semantics.specs.declared.graph.Kind.{Kind}
use Rattle.source.specs.Tree.{Name, Target}
use Rattle.source.specs.Lowered.{let_scoped}
use Rattle.lowering.specs.State.{popped, after, State, Frame, InList, Targets}
use Rattle.lowering.specs.Innermost.{list_in, targets_in}
use Rattle.lowering.specs.Operators.{one_node}

abbrev pub list_begun : State → State
list_begun s = record s { frames = InList s.sources ∷ s.frames; sources = [] }

-- What a word does where the innermost frame was of a list or of a `let`, and where it was not
abbrev pub called_of : State → ℕ → Kind Name → ℕ → Option (List Source) → State
called_of s at kind results None = s
called_of s at kind results (Some outer) = after (record s { sources = outer }) (one_node s.site s.spot at kind s.sources results)

abbrev pub called : State → ℕ → Kind Name → ℕ → List Frame → State
called s at kind results fs = called_of (popped s fs) at kind results (list_in fs)

abbrev pub dropped_of : State → Option (List Source) → State
dropped_of s None = s
dropped_of s (Some outer) = record s { sources = outer }

abbrev pub dropped : State → List Frame → State
dropped s fs = dropped_of (popped s fs) (list_in fs)

abbrev pub given_of : State → Option (List Source) → State
given_of s None = s
given_of s (Some outer) = record s { sources = outer ++ s.sources }

abbrev pub given : State → List Frame → State
given s fs = given_of (popped s fs) (list_in fs)

abbrev pub let_begun : State → State
let_begun s = record s { frames = Targets [] ∷ s.frames }

abbrev pub targeted_of : State → Target → Option (List Target) → State
targeted_of s t None = s
targeted_of s t (Some ts) = record s { frames = Targets (ts ++ t ∷ []) ∷ s.frames }

abbrev pub targeted : State → Target → List Frame → State
targeted s t fs = targeted_of (popped s fs) t (targets_in fs)

-- the targets of a `let` stand for these values
abbrev pub values_bound : State → List Source → Option (List Target) → State
values_bound s values None = s
values_bound s values (Some ts) = record s { scope = let_scoped ts values s.scope }

abbrev pub let_ended_of : State → Option (List Source) → State
let_ended_of s None = s
let_ended_of s (Some outer) = values_bound (popped (record s { sources = outer }) s.frames) s.sources (targets_in s.frames)

abbrev pub let_ended : State → List Frame → State
let_ended s fs = let_ended_of (popped s fs) (list_in fs)
