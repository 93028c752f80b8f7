-- Worked examples of the meaning: calls, strict calls, and faults that a call returns.
use Rattle.std.proofs.Common.{refl, pos, negsuc, [], ◌∷◌, Some, None}
use Rattle.std.specs.Prelude.{ℕ}
use Rattle.tags.specs.declared.value.Value.TheVariants.{Int, Fault}
use Rattle.tags.specs.declared.value.FaultKind.TheVariants.{Zero}
use Rattle.tags.specs.declared.value.Origin.TheVariants.{Untold, At}
use Rattle.operators.specs.declared.Binary.TheVariants as B
use Rattle.operators.specs.declared.Unary.TheVariants as U
use Rattle.semantics.specs.declared.graph.Kind.{Kind}
use Rattle.semantics.specs.declared.graph.Kind.TheVariants.{Lit, Apply1, Apply2, Cond, Enter, Merge, Fetch, Store, Call, StrictCall, Loop}
use Rattle.semantics.specs.Graph.{Flow}
use Rattle.semantics.proofs.Interpreter.{ComesTo, seen, one, two, root, yes, no, block, flow, src}

-- a factorial, by this kind of call
abbrev factorial : ℕ → Kind ℕ → Flow
factorial version calls = flow version [] (block 1 1 (root Cond (one 0) ∷ yes 1 Enter (one 0) ∷ yes 1 (Lit (pos 1)) (one 2)
    ∷ yes 1 (Apply2 B.Sub) (two 2 3) ∷ yes 1 calls (one 4)
    ∷ yes 1 (Apply2 B.Mul) (two 2 5) ∷ no 1 Enter (one 0) ∷ no 1 (Lit (pos 1)) (one 7) ∷ root (Merge 1) (two 6 8) ∷ []) (one 9) ∷ []) 0

-- each invocation has its own context
recursion : ComesTo (factorial 1 (Call 0)) (pos 3 ∷ []) (seen (Some (Int (pos 6)) ∷ []) [] 0)
recursion = (refl, refl)

-- strict calls give the same
strict_recursion : ComesTo (factorial 2 (StrictCall 0)) (pos 3 ∷ []) (seen (Some (Int (pos 6)) ∷ []) [] 0)
strict_recursion = (refl, refl)

-- the first argument's result is used for the cell that the second argument is fetched from
abbrev uses_early : ℕ → Kind ℕ → Flow
uses_early version calls = flow version (1 ∷ []) (block 2 1 [] (one 0) ∷ block 2 2 (root (Lit (pos 0)) (one 0) ∷ root (Fetch 0) (one 2)
    ∷ root calls (two 0 3) ∷ root (Apply2 B.Add) (two 4 1) ∷ root (Store 0) (two 2 5) ∷ [])
    (two 4 6) ∷ []) 1

-- a call returns a result before its other argument can arrive
call_is_not_strict : ComesTo (uses_early 1 (Call 0)) (pos 4 ∷ pos 3 ∷ []) (seen (Some (Int (pos 4)) ∷ Some (Int (pos 7)) ∷ []) (Some (Int (pos 7)) ∷ []) 0)
call_is_not_strict = (refl, refl)

-- a strict call waits for all arguments: the tokens of one argument, of the fetch, the operator and the store are left
strict_call_waits : ComesTo (uses_early 2 (StrictCall 0)) (pos 4 ∷ pos 3 ∷ []) (seen (None ∷ None ∷ []) (None ∷ []) 4)
strict_call_waits = (refl, refl)

abbrev negates_twice : Flow
negates_twice = flow 2 [] (block 1 1 (root (Apply1 U.Neg) (one 0) ∷ []) (one 1) ∷ block 1 1 (root (StrictCall 0) (one 0) ∷ root (StrictCall 0) (one 1)
    ∷ []) (one 2) ∷ []) 1

-- the result of one strict call is the argument of the next
one_call_after_the_other : ComesTo negates_twice (pos 4 ∷ []) (seen (Some (Int (pos 4)) ∷ []) [] 0)
one_call_after_the_other = (refl, refl)

abbrev fails_inside : ℕ → Flow
fails_inside version = flow version [] (block 2 1 (root (Apply2 B.Rem) (two 0 1) ∷ []) (one 2)
    ∷ block 2 1 (root (Call 0) (two 0 1) ∷ root (Apply2 B.Add) (two 2 0) ∷ []) (one 3) ∷ []) 1

-- a fault names the block and the node that made it, not those that pass it on
origin_inside : ComesTo (fails_inside 2) (pos 7 ∷ pos 0 ∷ []) (seen (Some (Fault Zero (At 0 2)) ∷ []) [] 0)
origin_inside = (refl, refl)

-- in version 1 a fault has no origin
no_origin : ComesTo (fails_inside 1) (pos 7 ∷ pos 0 ∷ []) (seen (Some (Fault Zero Untold) ∷ []) [] 0)
no_origin = (refl, refl)

-- a loop, a call that swaps its values, and a conditional inside the arm of another
abbrev all_kinds : Flow
all_kinds = flow 1 [] (block 2 3 (root (Lit (pos 0)) (one 0) ∷ []) (src 2 0 ∷ src 0 0 ∷ src 1 0 ∷ []) ∷ block 2 2 [] (two 1 0)
    ∷ block 2 4 (root (Loop 0 2) (two 0 1) ∷ root Cond (one 0) ∷ yes 3 Enter (one 1) ∷ yes 3 (Call 1) (two 4 4) ∷ yes 3 Cond (src 5 1 ∷ [])
    ∷ yes 6 Enter (one 5) ∷ no 6 Enter (one 4) ∷ no 6 (Apply1 U.Neg) (one 8)
    ∷ yes 3 (Merge 6) (two 7 9) ∷ no 3 Enter (src 2 0 ∷ []) ∷ root (Merge 3) (two 10 11) ∷ root (Apply2 B.Add) (two 12 12) ∷ []) (src 2 0 ∷ src 2 1
    ∷ src 13 0 ∷ src 0 0 ∷ []) ∷ []) 2

-- the loop runs once, and the call swaps its values
all_kinds_true : ComesTo all_kinds (pos 5 ∷ negsuc 2 ∷ []) (seen (Some (Int (pos 5)) ∷ Some (Int (negsuc 2)) ∷ Some (Int (negsuc 5))
    ∷ Some (Int (pos 5)) ∷ []) [] 0)
all_kinds_true = (refl, refl)

-- the outer conditional takes the false side
all_kinds_false : ComesTo all_kinds (pos 0 ∷ negsuc 2 ∷ []) (seen (Some (Int (pos 0)) ∷ Some (Int (negsuc 2)) ∷ Some (Int (pos 0))
    ∷ Some (Int (pos 0)) ∷ []) [] 0)
all_kinds_false = (refl, refl)
