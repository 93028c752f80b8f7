-- The map's own counts of uses are those of the schemas.
use Rattle.std.proofs.Common.{◌≡◌, ℕ, zero, suc, ◌+◌, ◌<◌, ◌≤◌, List, [], ◌∷◌, length, replicate, refl, sym, ap, ◌∙◌, arith, Some, None, drop}
use Rattle.std.specs.Prelude.{slice_get, slice_set, slice_index_or}
use Rattle.std.proofs.lemmas.List.{length-map}
use Rattle.semantics.specs.declared.graph.Region.TheVariants.{Root}
use Rattle.semantics.specs.declared.graph.Source.{Source}
use Rattle.semantics.specs.Graph.{Graph, node_count}
use Rattle.schemas.specs.Flows.{NamedBlock, resolved_node, resolved_named}
use Rattle.schemas.specs.declared.uses.Uses as Declared
use Rattle.schemas.specs.UseCounts.{more, uses_at}
use Rattle.code_map.specs.declared.uses.Use.{Use}
use Rattle.code_map.specs.declared.uses.Use.TheVariants.{Never, Once, Often}
use Rattle.code_map.specs.declared.part.Part.{Part}
use Rattle.code_map.specs.Counts.{Rows, laid, laid_outputs}
use Rattle.code_map.specs.Uses.{count_of, counts_of, once_more}

pub never_counted : (n : ℕ) → counts_of (replicate n Never) ≡ replicate n Declared.TheVariants.Never
never_counted zero = refl
never_counted (suc n) = ap (λ us. Declared.TheVariants.Never ∷ us) (never_counted n)

more_counted : (u : Use) → count_of (once_more u) ≡ more (count_of u)
more_counted Never = refl
more_counted Once = refl
more_counted Often = refl

pub counted_at : (us : List Use) (n : ℕ) (u : Use) → slice_get us n ≡ Some u → uses_at (counts_of us) n ≡ count_of u
counted_at [] n u e = absurd cc
counted_at (v ∷ us) zero u e = let same : v ≡ u = cc in ap count_of same
counted_at (v ∷ us) (suc n) u e = counted_at us n u e

pub not_counted_at : (us : List Use) (n : ℕ) → slice_get us n ≡ None → uses_at (counts_of us) n ≡ Declared.TheVariants.Never
not_counted_at [] n e = refl
not_counted_at (v ∷ us) zero e = absurd cc
not_counted_at (v ∷ us) (suc n) e = not_counted_at us n e

-- one use more
pub counted_more : (us : List Use) (n : ℕ) (u : Use) → n < length us → slice_index_or us n u ≡ u
    → counts_of (slice_set us n (once_more u)) ≡ slice_set (counts_of us) n (more (uses_at (counts_of us) n))
counted_more [] n u l e = absurd (omega (arith, l))
counted_more (v ∷ us) zero u l e = ap (λ c. c ∷ counts_of us) (more_here v u e)
  where
    more_here : (v u : Use) → v ≡ u → count_of (once_more u) ≡ more (count_of v)
    more_here v u e = ap (λ w. count_of (once_more w)) (sym e) ∙ more_counted v
counted_more (v ∷ us) (suc n) u l e = ap (λ cs. count_of v ∷ cs) (counted_more us n u (omega (arith, l)) e)

-- none where there is no such node
pub counted_past : (us : List Use) (n : ℕ) (c : Declared.Uses) → length us ≤ n → slice_set (counts_of us) n c ≡ counts_of us
counted_past [] n c l = refl
counted_past (v ∷ us) zero c l = absurd (omega (arith, l))
counted_past (v ∷ us) (suc n) c l = ap (λ cs. count_of v ∷ cs) (counted_past us n c (omega (arith, l)))

pub counted_use : (us vs : List Use) (n : ℕ) (u v : Use) → n < length us → u ≡ slice_index_or us n u → v ≡ once_more u → vs ≡ slice_set us n v
    → counts_of vs ≡ slice_set (counts_of us) n (more (uses_at (counts_of us) n))
counted_use us vs n u v l e f g =
    ap counts_of (g ∙ ap (λ w. slice_set us n w) f) ∙ counted_more us n u l (sym e)

-- ROWS of the outputs from one on
drop_next : {X : Type 0} (n : ℕ) (xs : List X) → n < length xs → (x : X) × (drop n xs ≡ x ∷ drop (suc n) xs)
drop_next n [] l = absurd (omega (arith, l))
drop_next zero (x ∷ xs) l = (x, refl)
drop_next (suc n) (x ∷ xs) l = drop_next n xs (omega (arith, l))

pub outputs_kept : (start r s : Rows) (n : ℕ) (ss : List Source) → n < length ss → laid_outputs r n (drop n ss) ≡ laid_outputs start 0 ss
    → s ≡ laid r 1 (Part.Output n) Root → laid_outputs s (n + 1) (drop (n + 1) ss) ≡ laid_outputs start 0 ss
outputs_kept start r s n ss l kept e =
    let d = drop_next n ss l in
    let next : n + 1 ≡ suc n = omega arith in
    ap (λ q. laid_outputs q (n + 1) (drop (n + 1) ss)) e
    ∙ ap (λ k. laid_outputs (laid r 1 (Part.Output n) Root) (n + 1) (drop k ss)) next
    ∙ ap (λ xs. laid_outputs r n xs) (sym d.1)
    ∙ kept

-- NODES of a block whose names are resolved
pub nodes_counted : (g : Graph) (b : NamedBlock) → b.1.inputs + length b.1.nodes ≡ node_count (resolved_named g b)
nodes_counted g b = ap (λ n. b.1.inputs + n) (sym (length-map b.1.nodes (resolved_node g)))
