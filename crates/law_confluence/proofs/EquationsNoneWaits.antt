-- Where no fetch is counted at the cells of the arrays, none waits at all.
use Rattle.std.proofs.Common.{◌≡◌, ℕ, zero, suc, ◌+◌, ◌<◌, ◌≤◌, Bool, true, false, pos, negsuc, List, [], ◌∷◌, Option, Some, None, refl, sym, ◌∙◌, ap, arith}
use Rattle.std.proofs.Common.{nat_lt, if◌then◌else◌}
use Rattle.std.specs.Prelude.{sum, take, slice_index_or, cond}
use Rattle.std.proofs.lemmas.List.Sums.{sum_by-cons}
use Rattle.std.proofs.lemmas.Bool.{ltb-true, ltb-false, eqb-true}
use Rattle.tags.specs.declared.value.Value.{Value}
use Rattle.tags.specs.declared.value.Value.TheVariants.{Int, Fault}
use Rattle.tags.specs.declared.value.FaultKind.TheVariants.{Range}
use Rattle.tags.specs.declared.value.Origin.{Origin}
use Rattle.operators.specs.Values.{Place, Outside, index_in}
use Rattle.semantics.specs.declared.graph.Kind.{Kind}
use Rattle.semantics.specs.declared.graph.Kind.TheVariants.{Lit, Apply1, Apply2, Cond, Enter, Merge, Fetch, Store, Call, StrictCall, Loop}
use Rattle.semantics.specs.Graph.{Flow, Node, first_cell, array_len}
use Rattle.semantics.specs.Meaning.{Tagged, Context, Statement, AtNode, cell_in, node_of, fetch_cell, cell_is, fetches, waits_for, fetch_count}
use Rattle.semantics.specs.Report.{sum_below}
use Rattle.semantics.proofs.Sums.{sum_zero}

-- the cells of an array lie below the number of all cells
array_within : (a : ℕ) (ls : List ℕ) → sum (take a ls) + slice_index_or ls a 0 ≤ sum ls
array_within zero [] = omega arith
array_within (suc a) [] = omega arith
array_within zero (l ∷ ls) = let n : slice_index_or (l ∷ ls) 0 0 ≡ l = refl in let s = sum_by-cons (λ (x : ℕ). x) l ls in omega (arith, n, s)
array_within (suc a) (l ∷ ls) = let s = sum_by-cons (λ (x : ℕ). x) l ls in let t = sum_by-cons (λ (x : ℕ). x) l (take a ls) in
    let same : take (suc a) (l ∷ ls) ≡ l ∷ take a ls = refl in let h = array_within a ls in
    let n : slice_index_or (l ∷ ls) (suc a) 0 ≡ slice_index_or ls a 0 = refl in
    let u : sum (take (suc a) (l ∷ ls)) ≡ sum (l ∷ take a ls) = ap sum same in omega (arith, s, t, u, n, h)

-- no cell that an operand names lies above them all
named_within : (len : ℕ) (v : Value) (o : Origin) (base x : ℕ) → cell_in base (index_in len v o) ≡ Some x → x < base + len
named_within len (Int (pos n)) o base x e = by_test (nat_lt n len) refl e where
  by_test : (b : Bool) → nat_lt n len ≡ b → cell_in base (if b then Place n else Outside (Fault Range o)) ≡ Some x → x < base + len
  by_test true t e = let same : base + n ≡ x = cc in omega (arith, ltb-true n len t, same)
  by_test false t e = cc
named_within len (Int (negsuc n)) o base x e = cc
named_within len (Fault k p) o base x e = cc

fetched_within : (fl : Flow) (v : Value) (k : Kind ℕ) (x : ℕ) → fetch_cell fl v k ≡ Some x → x < sum fl.arrays
fetched_within fl v (Fetch a) x e = omega (arith, array_within a fl.arrays, named_within (array_len fl a) v _ (first_cell fl a) x e)
fetched_within fl v (Lit w) x e = cc
fetched_within fl v (Apply1 op) x e = cc
fetched_within fl v (Apply2 op) x e = cc
fetched_within fl v Cond x e = cc
fetched_within fl v Enter x e = cc
fetched_within fl v (Merge n) x e = cc
fetched_within fl v (Store a) x e = cc
fetched_within fl v (Call f) x e = cc
fetched_within fl v (StrictCall f) x e = cc
fetched_within fl v (Loop f n) x e = cc

names_within : (fl : Flow) (v : Value) (line : Option (Node ℕ)) (x : ℕ) → fetches fl v line ≡ Some x → x < sum fl.arrays
names_within fl v None x e = cc
names_within fl v (Some line) x e = fetched_within fl v line.kind x e

is_named : (x : ℕ) (o : Option ℕ) → cell_is x o ≡ true → o ≡ Some x
is_named x None e = cc
is_named x (Some y) e = ap (λ k. Some k) (sym (eqb-true x y e))

waits_within : (fl : Flow) (x : ℕ) (c : Context) (s : Statement) (v : Value) → waits_for fl x c s v ≡ true → x < sum fl.arrays
waits_within fl x c (AtNode n) v e = names_within fl v (node_of fl c n) x (is_named x (fetches fl v (node_of fl c n)) e)
waits_within fl x c s v e = cc

-- no fetch waits for a cell that is in no array
none_beyond : (fl : Flow) (x : ℕ) (ts : List Tagged) → sum fl.arrays ≤ x → fetch_count fl x ts ≡ 0
none_beyond fl x [] past = refl
none_beyond fl x (t ∷ ts) past =
    let h = none_beyond fl x ts past in
    let cons = sum_by-cons (λ (t : Tagged). cond (waits_for fl x t.context t.statement t.value) 1 0) t ts in
    cons ∙ by_test (waits_for fl x t.context t.statement t.value) refl h where
      by_test : (b : Bool) → waits_for fl x t.context t.statement t.value ≡ b → fetch_count fl x ts ≡ 0 → cond b 1 0 + fetch_count fl x ts ≡ 0
      by_test true e h = let k = waits_within fl x t.context t.statement t.value e in omega (arith, k, past)
      by_test false e h = omega (arith, h)

-- where none is counted, none waits anywhere
pub none_waits : (fl : Flow) (ts : List Tagged) → sum_below (sum fl.arrays) (λ x. fetch_count fl x ts) ≡ 0 → (x : ℕ) → fetch_count fl x ts ≡ 0
none_waits fl ts e x = by_place (nat_lt x (sum fl.arrays)) refl where
  by_place : (b : Bool) → nat_lt x (sum fl.arrays) ≡ b → fetch_count fl x ts ≡ 0
  by_place true t = sum_zero (sum fl.arrays) (λ y. fetch_count fl y ts) e x (ltb-true x (sum fl.arrays) t)
  by_place false t = none_beyond fl x ts (ltb-false x (sum fl.arrays) t)
