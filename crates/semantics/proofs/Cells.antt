-- Worked examples of the meaning: cells that are fetched and stored, and a second store.
use Rattle.std.proofs.Common.{◌≡◌, refl, pos, negsuc, [], ◌∷◌, Some, None}
use Rattle.std.specs.Prelude.{ℕ}
use Rattle.tags.specs.declared.value.Value.TheVariants.{Int, Fault}
use Rattle.tags.specs.declared.value.FaultKind.TheVariants.{Zero, Range}
use Rattle.tags.specs.declared.value.Origin.TheVariants.{Untold, At}
use Rattle.operators.specs.declared.Binary.TheVariants as B
use Rattle.semantics.specs.declared.graph.Kind.TheVariants.{Lit, Apply2, Fetch, Store}
use Rattle.semantics.specs.Graph.{Flow}
use Rattle.semantics.specs.Meaning.{start, fetch_count}
use Rattle.semantics.proofs.Interpreter.{ComesTo, seen, seen_in, first_first, last_first, one, two, root, block, flow, src}

abbrev answers_two : Flow
answers_two = flow 1 (2 ∷ []) (block 1 3 (root (Lit (pos 0)) (one 0) ∷ root (Fetch 0) (one 1) ∷ root (Fetch 0) (one 1) ∷ root (Store 0) (two 1 0)
    ∷ []) (src 2 0 ∷ src 3 0 ∷ src 4 0 ∷ []) ∷ []) 0

-- a store answers all fetches of its cell, and gives its value back
store_answers : ComesTo answers_two (pos 8 ∷ []) (seen (Some (Int (pos 8)) ∷ Some (Int (pos 8)) ∷ Some (Int (pos 8)) ∷ []) (Some (Int (pos 8)) ∷ None ∷ []) 0)
store_answers = (refl, refl)

abbrev waits : Flow
waits = flow 1 (2 ∷ []) (block 1 2 (root (Lit (pos 1)) (one 0) ∷ root (Fetch 0) (one 1) ∷ []) (src 2 0 ∷ src 0 0 ∷ []) ∷ []) 0

-- a fetch of an empty cell waits: its token is left
fetch_waits : ComesTo waits (pos 8 ∷ []) (seen (None ∷ Some (Int (pos 8)) ∷ []) (None ∷ None ∷ []) 1)
fetch_waits = (refl, refl)

-- and is counted as a reader of that cell, and of no other
waiting_reader : fetch_count waits 1 (first_first 400 waits (start (pos 8 ∷ []))).tokens ≡ 1
waiting_reader = refl

-- the other cell has none
no_reader : fetch_count waits 0 (first_first 400 waits (start (pos 8 ∷ []))).tokens ≡ 0
no_reader = refl

abbrev stores_twice : Flow
stores_twice = flow 1 (1 ∷ []) (block 2 2 (root (Lit (pos 0)) (one 0) ∷ root (Store 0) (two 2 0) ∷ root (Store 0) (two 2 1) ∷ []) (src 3 0 ∷ src 4 0
    ∷ []) ∷ []) 0

-- no activity takes a second store: its two tokens are left. Which store is the second one depends on the order
second_store : seen_in stores_twice (first_first 400 stores_twice (start (pos 5 ∷ pos 6 ∷ [])))
    ≡ seen (Some (Int (pos 5)) ∷ None ∷ []) (Some (Int (pos 5)) ∷ []) 2
second_store = refl

-- in the other order the other store is the second one
other_second_store : seen_in stores_twice (last_first 400 stores_twice (start (pos 5 ∷ pos 6 ∷ [])))
    ≡ seen (None ∷ Some (Int (pos 6)) ∷ []) (Some (Int (pos 6)) ∷ []) 2
other_second_store = refl

abbrev bad_indexes : ℕ → Flow
bad_indexes version = flow version (2 ∷ []) (block 2 2 (root (Fetch 0) (one 0) ∷ root (Store 0) (two 1 0) ∷ []) (src 2 0 ∷ src 3 0 ∷ []) ∷ []) 0

-- an index outside the array is a fault, and no cell is touched; in version 2 the fault names the node
outside : ComesTo (bad_indexes 1) (pos 2 ∷ negsuc 0 ∷ []) (seen (Some (Fault Range Untold) ∷ Some (Fault Range Untold) ∷ []) (None ∷ None ∷ []) 0)
outside = (refl, refl)

-- nodes 2 and 3 of block 0
outside_with_origin : ComesTo (bad_indexes 2) (pos 2 ∷ negsuc 0 ∷ []) (seen (Some (Fault Range (At 0 2)) ∷ Some (Fault Range (At 0 3)) ∷ [])
    (None ∷ None ∷ []) 0)
outside_with_origin = (refl, refl)

abbrev faulty_index : Flow
faulty_index = flow 2 (2 ∷ []) (block 2 2 (root (Apply2 B.Div) (two 0 1) ∷ root (Fetch 0) (one 2) ∷ root (Store 0) (two 1 2) ∷ []) (src 3 0 ∷ src 4 0
    ∷ []) ∷ []) 0

-- a faulty index gives that fault, with its own origin; a fault is stored as any value
fault_passes : ComesTo faulty_index (pos 3 ∷ pos 0 ∷ []) (seen (Some (Fault Zero (At 0 2)) ∷ Some (Fault Zero (At 0 2)) ∷ [])
    (Some (Fault Zero (At 0 2)) ∷ None ∷ []) 0)
fault_passes = (refl, refl)
