-- Looking up in a graph with names, and in the graph with places.
use Rattle.std.proofs.Common.{◌≡◌, ℕ, zero, suc, ◌+◌, ◌-◌, Bool, false, List, [], ◌∷◌, map, sum, take, None, nat_lt, slice_get, slice_index_or}
use Rattle.std.proofs.Common.{if◌then◌else◌, ◌≤◌, refl, sym, ap, ◌∙◌, arith}
use Rattle.std.specs.Prelude.{option_map}
use Rattle.std.proofs.lemmas.Option.{slice_get-map}
use Rattle.std.proofs.lemmas.List.Sums.{sum_by-cons}
use Rattle.semantics.specs.Graph.{Block, Graph, flow_of, node_at}
use Rattle.semantics.specs.Text.{HasText}
use Rattle.oracle.specs.Lines.{first_of, len_of, total_of}
use Rattle.oracle.specs.Agreeing.{block_in, row_in}

pub block_same : (g : Graph) (k : ℕ) → slice_get (flow_of g).blocks k ≡ option_map (block_in g) (slice_get g.blocks k)
block_same g k = slice_get-map (block_in g) g.blocks k

pub rows_same : (g : Graph) (b : List ℕ × Block (List ℕ)) (n : ℕ) → nat_lt n b.1.inputs ≡ false → node_at (block_in g b) n
    ≡ option_map (row_in g) (slice_get b.1.nodes (n - b.1.inputs))
rows_same g b n h = ap (λ (t : Bool). if t then None else slice_get (block_in g b).nodes (n - b.1.inputs)) h
    ∙ slice_get-map (row_in g) b.1.nodes (n - b.1.inputs)

-- CELLS
pub firsts_same : (arrays : List (List ℕ × ℕ)) (a : ℕ) → first_of arrays a ≡ sum (take a (map (λ (x : List ℕ × ℕ). x.1) arrays))
firsts_same [] zero = refl
firsts_same [] (suc a) = refl
firsts_same (x ∷ xs) zero = refl
firsts_same (x ∷ xs) (suc a) = ap (λ n. x.1 + n) (firsts_same xs a) ∙ sym (sum_by-cons (λ (n : ℕ). n) x.1 (take a (map (λ (x : List ℕ × ℕ). x.1) xs)))

pub lens_same : (arrays : List (List ℕ × ℕ)) (a : ℕ) → len_of arrays a ≡ slice_index_or (map (λ (x : List ℕ × ℕ). x.1) arrays) a 0
lens_same [] a = refl
lens_same (x ∷ xs) zero = refl
lens_same (x ∷ xs) (suc a) = lens_same xs a

totals_same : (arrays : List (List ℕ × ℕ)) → total_of arrays ≡ sum (map (λ (x : List ℕ × ℕ). x.1) arrays)
totals_same [] = refl
totals_same (x ∷ xs) = ap (λ n. x.1 + n) (totals_same xs) ∙ sym (sum_by-cons (λ (n : ℕ). n) x.1 (map (λ (x : List ℕ × ℕ). x.1) xs))

-- a graph that has a text has few cells
pub few_cells : (g : Graph) → HasText g → total_of g.arrays ≤ 65536
few_cells g text = let few = text.cells in omega (arith, few, totals_same g.arrays)
