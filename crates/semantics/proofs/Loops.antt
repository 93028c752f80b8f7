-- Worked examples of the meaning: loops.
use Rattle.std.proofs.Common.{refl, pos, [], ◌∷◌, Some}
use Rattle.tags.specs.declared.value.Value.TheVariants.{Int}
use Rattle.operators.specs.declared.Binary.TheVariants as B
use Rattle.semantics.specs.declared.graph.Kind.TheVariants.{Lit, Apply2, Fetch, Store, Loop}
use Rattle.semantics.specs.Graph.{Flow, Node}
use Rattle.std.specs.Prelude.{ℕ}
use Rattle.semantics.proofs.Interpreter.{ComesTo, seen, one, two, root, block, flow, src}

-- 1 + 2 + .. + n; the flag is this node
abbrev sums : Node ℕ → Flow
sums flag = flow 1 [] (block 3 4 (root (Lit (pos 1)) (one 0) ∷ root (Apply2 B.Add) (two 0 3) ∷ root (Apply2 B.Add) (two 1 0) ∷ flag ∷ []) (src 6 0
    ∷ src 4 0 ∷ src 5 0 ∷ src 2 0 ∷ [])
    ∷ block 1 1 (root (Lit (pos 1)) (one 0) ∷ root (Lit (pos 0)) (one 0) ∷ root (Loop 0 2) (src 1 0 ∷ src 2 0 ∷ src 0 0 ∷ []) ∷ []) (src 3 1 ∷ []) ∷ []) 1

-- the loop goes on while its flag is true
four_iterations : ComesTo (sums (root (Apply2 B.Le) (two 4 2))) (pos 4 ∷ []) (seen (Some (Int (pos 10)) ∷ []) [] 0)
four_iterations = (refl, refl)

-- there is at least one iteration
one_iteration : ComesTo (sums (root (Apply2 B.Le) (two 4 2))) (pos 1 ∷ []) (seen (Some (Int (pos 1)) ∷ []) [] 0)
one_iteration = (refl, refl)

-- a faulty flag ends the loop, as a false one
faulty_flag : ComesTo (sums (root (Apply2 B.Div) (two 0 1))) (pos 4 ∷ []) (seen (Some (Int (pos 1)) ∷ []) [] 0)
faulty_flag = (refl, refl)

-- each iteration stores its number, and fetches what the one three later stores; main stores the last three
abbrev pipeline : Flow
pipeline = flow 1 (8 ∷ []) (block 2 3 (root (Lit (pos 1)) (one 0) ∷ root (Lit (pos 3)) (one 0) ∷ root (Lit (pos 5)) (one 0)
    ∷ root (Apply2 B.Add) (two 0 2) ∷ root (Apply2 B.Add) (two 0 3) ∷ root (Store 0) (two 0 0)
    ∷ root (Fetch 0) (one 6) ∷ root (Apply2 B.Add) (two 1 8) ∷ root (Apply2 B.Lt) (two 5 4) ∷ []) (src 10 0 ∷ src 5 0 ∷ src 9 0 ∷ [])
    ∷ block 1 1 (root (Lit (pos 0)) (one 0) ∷ root (Lit (pos 5)) (one 0) ∷ root (Lit (pos 6)) (one 0) ∷ root (Lit (pos 7)) (one 0)
    ∷ root (Store 0) (two 2 2) ∷ root (Store 0) (two 3 3) ∷ root (Store 0) (two 4 4)
    ∷ root (Loop 0 4) (two 1 1) ∷ []) (src 8 1 ∷ []) ∷ []) 1

-- 25 is the sum of the five values that were fetched
pipeline_fills : ComesTo pipeline (pos 9 ∷ [])
    (seen (Some (Int (pos 25)) ∷ [])
    (Some (Int (pos 0)) ∷ Some (Int (pos 1)) ∷ Some (Int (pos 2)) ∷ Some (Int (pos 3)) ∷ Some (Int (pos 4)) ∷ Some (Int (pos 5)) ∷ Some (Int (pos 6))
    ∷ Some (Int (pos 7)) ∷ []) 0)
pipeline_fills = (refl, refl)
