-- A conditional with a trigger has a node in one of its arms.
use Rattle.std.proofs.Common.{◌≡◌, ℕ, zero, suc, ◌+◌, ◌⊎◌, inl, inr, Bool, true, false, List, [], ◌∷◌, length, refl, ap, ◌∙◌, if◌then◌else◌, Some}
use Rattle.std.specs.Prelude.{slice_get, slice_set, slice_index_or, replicate}
use Rattle.semantics.specs.declared.graph.Region.{Region}
use Rattle.semantics.specs.declared.graph.Region.TheVariants.{Root, Arm}
use Rattle.semantics.specs.Graph.{Node, Block}
use Rattle.schemas.specs.Triggers.{takes_trigger, with_region, with_node, with_nodes}
use Rattle.law_net.specs.ContextsBlocks.{lies_in}
use Rattle.law_wiring.specs.Written.{is_triggered}
use Rattle.law_wiring.proofs.Parts.{follow}
use Rattle.law_wiring.proofs.WrittenNodes.{its_region}

abbrev is_set : List Bool → ℕ → Type 0
is_set ts k = slice_index_or ts k false ≡ true

set_is : (ts : List Bool) (j k : ℕ) → is_set (slice_set ts j true) k → (j ≡ k) ⊎ is_set ts k
set_is [] j k h = inr h
set_is (t ∷ ts) zero zero h = inl refl
set_is (t ∷ ts) zero (suc k) h = inr h
set_is (t ∷ ts) (suc j) zero h = inr h
set_is (t ∷ ts) (suc j) (suc k) h = go (set_is ts j k h)
  where
    go : (j ≡ k) ⊎ is_set ts k → (suc j ≡ suc k) ⊎ is_set ts k
    go (inl e) = inl (ap (λ n. suc n) e)
    go (inr e) = inr e

none_set : (m k : ℕ) → is_set (replicate m false) k → ⊥
none_set zero k h = cc
none_set (suc m) zero h = cc
none_set (suc m) (suc k) h = none_set m k h

region_sets : (ts : List Bool) (r : Region) (k : ℕ) → is_set (with_region ts r) k → ((u : Bool) × (r ≡ Arm k u)) ⊎ is_set ts k
region_sets ts Root k h = inr h
region_sets ts (Arm j u) k h = go (set_is ts j k h)
  where
    go : (j ≡ k) ⊎ is_set ts k → ((v : Bool) × (Arm j u ≡ Arm k v)) ⊎ is_set ts k
    go (inl e) = inl (u, ap (λ n. Arm n u) e)
    go (inr e) = inr e

node_sets : (ts : List Bool) (x : Node ℕ) (k : ℕ) → is_set (with_node ts x) k → ((u : Bool) × (x.region ≡ Arm k u)) ⊎ is_set ts k
node_sets ts x k h = go (takes_trigger x.kind) h
  where
    go : (t : Bool) → is_set (if t then with_region ts x.region else ts) k → ((u : Bool) × (x.region ≡ Arm k u)) ⊎ is_set ts k
    go true h = region_sets ts x.region k h
    go false h = inr h

nodes_set : (xs : List (Node ℕ)) (ts : List Bool) (k : ℕ) → is_set (with_nodes ts xs) k
    → ((j : ℕ) × (x : Node ℕ) × (slice_get xs j ≡ Some x) × (u : Bool) × (x.region ≡ Arm k u)) ⊎ is_set ts k
nodes_set [] ts k h = inr h
nodes_set (x ∷ xs) ts k h = go (nodes_set xs (with_node ts x) k h)
  where
    here : ((u : Bool) × (x.region ≡ Arm k u)) ⊎ is_set ts k
        → ((j : ℕ) × (y : Node ℕ) × (slice_get (x ∷ xs) j ≡ Some y) × (u : Bool) × (y.region ≡ Arm k u)) ⊎ is_set ts k
    here (inl e) = inl (zero, x, refl, e.0, e.1)
    here (inr e) = inr e

    go : ((j : ℕ) × (y : Node ℕ) × (slice_get xs j ≡ Some y) × (u : Bool) × (y.region ≡ Arm k u)) ⊎ is_set (with_node ts x) k
        → ((j : ℕ) × (y : Node ℕ) × (slice_get (x ∷ xs) j ≡ Some y) × (u : Bool) × (y.region ≡ Arm k u)) ⊎ is_set ts k
    go (inl e) = inl (suc e.0, e.1, e.2, e.3, e.4)
    go (inr e) = here (node_sets ts x k e)

pub some_node : (b : Block ℕ) (k : ℕ) → is_triggered b k ≡ true → (n : ℕ) × (u : Bool) × (lies_in b n ≡ Arm k u)
some_node b k h = go (nodes_set b.nodes (replicate (b.inputs + length b.nodes) false) k h)
  where
    go : ((j : ℕ) × (x : Node ℕ) × (slice_get b.nodes j ≡ Some x) × (u : Bool) × (x.region ≡ Arm k u)) ⊎ is_set (replicate (b.inputs + length b.nodes) false) k
        → (n : ℕ) × (u : Bool) × (lies_in b n ≡ Arm k u)
    go (inl e) = (b.inputs + e.0, e.3, its_region b (b.inputs + e.0) e.1 (follow b e.0 e.1 e.2) ∙ e.4)
    go (inr e) = absurd (none_set (b.inputs + length b.nodes) k e)
