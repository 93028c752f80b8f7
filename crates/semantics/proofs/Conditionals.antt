-- Worked examples of the meaning: operators, conditionals, and faults with their origins.
use Rattle.std.proofs.Common.{refl, pos, negsuc, [], ◌∷◌, Some}
use Rattle.tags.specs.declared.value.Value.TheVariants.{Int, Fault}
use Rattle.tags.specs.declared.value.FaultKind.TheVariants.{Zero}
use Rattle.tags.specs.declared.value.Origin.TheVariants.{Untold, At}
use Rattle.operators.specs.declared.Binary.TheVariants as B
use Rattle.semantics.specs.declared.graph.Kind.TheVariants.{Lit, Apply2, Cond, Enter, Merge}
use Rattle.semantics.specs.Graph.{Flow}
use Rattle.std.specs.Prelude.{ℕ}
use Rattle.semantics.proofs.Interpreter.{ComesTo, seen, one, two, root, yes, no, block, flow}

abbrev adds : Flow
adds = flow 1 [] (block 2 1 (root (Apply2 B.Add) (two 0 1) ∷ []) (one 2) ∷ []) 0

-- 2 and 3 are 5, and no token is left
adding : ComesTo adds (pos 2 ∷ pos 3 ∷ []) (seen (Some (Int (pos 5)) ∷ []) [] 0)
adding = (refl, refl)

-- a quotient, and one of the inputs by whether the quotient is true
abbrev chooses : ℕ → Flow
chooses version = flow version [] (block 2 2 (root (Apply2 B.Div) (two 0 1) ∷ root Cond (one 2) ∷ yes 3 Enter (one 0) ∷ no 3 Enter (one 1)
    ∷ root (Merge 3) (two 4 5) ∷ []) (two 2 6) ∷ []) 0

-- a true predicate takes the true side
true_side : ComesTo (chooses 1) (pos 7 ∷ pos 2 ∷ []) (seen (Some (Int (pos 3)) ∷ Some (Int (pos 7)) ∷ []) [] 0)
true_side = (refl, refl)

-- a faulty predicate takes the false side, and only the false side
faulty_predicate : ComesTo (chooses 1) (pos 7 ∷ pos 0 ∷ []) (seen (Some (Fault Zero Untold) ∷ Some (Int (pos 0)) ∷ []) [] 0)
faulty_predicate = (refl, refl)

-- in version 2 the fault names its block and its node
faulty_predicate_with_origin : ComesTo (chooses 2) (pos 7 ∷ pos 0 ∷ []) (seen (Some (Fault Zero (At 0 2)) ∷ Some (Int (pos 0)) ∷ []) [] 0)
faulty_predicate_with_origin = (refl, refl)

abbrev absorbs : Flow
absorbs = flow 1 [] (block 2 1 (root Cond (one 0) ∷ yes 2 Enter (one 0) ∷ yes 2 (Apply2 B.Add) (two 3 3) ∷ []) (one 0) ∷ []) 0

-- an `enter` absorbs a value whose side is not taken
absorbed : ComesTo absorbs (pos 0 ∷ pos 9 ∷ []) (seen (Some (Int (pos 0)) ∷ []) [] 0)
absorbed = (refl, refl)

-- the sign of a number, by a conditional in the arm of another
abbrev sign : Flow
sign = flow 1 [] (block 1 1 (root (Lit (pos 0)) (one 0) ∷ root (Apply2 B.Lt) (two 0 1) ∷ root Cond (one 2) ∷ yes 3 Enter (one 0)
    ∷ yes 3 (Lit (negsuc 0)) (one 4) ∷ no 3 Enter (one 0) ∷ no 3 Cond (one 6)
    ∷ yes 7 Enter (one 6) ∷ yes 7 (Lit (pos 1)) (one 8) ∷ no 7 Enter (one 6) ∷ no 3 (Merge 7) (two 9 10) ∷ root (Merge 3) (two 5 11) ∷ []) (one 12) ∷ []) 0

-- the true side of the outer conditional
sign_of_minus_7 : ComesTo sign (negsuc 6 ∷ []) (seen (Some (Int (negsuc 0)) ∷ []) [] 0)
sign_of_minus_7 = (refl, refl)

-- the false sides of both
sign_of_0 : ComesTo sign (pos 0 ∷ []) (seen (Some (Int (pos 0)) ∷ []) [] 0)
sign_of_0 = (refl, refl)

-- the true side of the inner one
sign_of_9 : ComesTo sign (pos 9 ∷ []) (seen (Some (Int (pos 1)) ∷ []) [] 0)
sign_of_9 = (refl, refl)
