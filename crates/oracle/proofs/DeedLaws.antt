-- What an activity does, by numbers of invocations and by their names.
use Rattle.std.proofs.Common.{◌≡◌, ℕ, List, [], ◌∷◌, Some, refl, ap, ◌∙◌}
use Rattle.std.specs.Prelude.{option_map}
use Rattle.tags.specs.declared.value.Value.{Value}
use Rattle.operators.specs.Values.{Indexed, Place, Outside, index_in}
use Rattle.semantics.specs.declared.graph.Kind.{Kind}
use Rattle.semantics.specs.declared.graph.Kind.TheVariants.{Lit, Apply1, Apply2, Cond, Enter, Merge, Fetch, Store, Call, StrictCall, Loop}
use Rattle.semantics.specs.Graph.{Graph, flow_of, first_cell}
use Rattle.semantics.specs.Meaning.{Context, origin_at, same_side}
use Rattle.semantics.specs.Meaning as Meaning
use Rattle.oracle.specs.Lines.{first_of, len_of}
use Rattle.oracle.specs.Acting.{fired_deed, one_deed, two_deed, fetch_deed, store_deed, node_passed}
use Rattle.oracle.specs.Meant.{name_in, deed_of}
use Rattle.oracle.proofs.Resolved.{firsts_same, lens_same}

fetched_same : (cs : List Context) (vs : List Value) (c n base : ℕ) (i : Indexed) → deed_of cs vs (fetch_deed c n base i)
    ≡ Meaning.fetched (name_in cs c) n base i
fetched_same cs vs c n base (Outside v) = refl
fetched_same cs vs c n base (Place i) = refl

stored_same : (cs : List Context) (vs : List Value) (c n base a : ℕ) (w : Value) (i : Indexed) → deed_of cs vs (store_deed c n base a w i)
    ≡ Meaning.stored (name_in cs c) n base w i
stored_same cs vs c n base a w (Outside v) = refl
stored_same cs vs c n base a w (Place i) = refl

fetch_same : (g : Graph) (cs : List Context) (c n a : ℕ) (v : Value)
    → option_map (deed_of cs (v ∷ [])) (one_deed g c n (Fetch a) v (origin_at (flow_of g) (name_in cs c) n))
    ≡ Meaning.fired (flow_of g) (name_in cs c) n (Fetch a) (v ∷ [])
fetch_same g cs c n a v =
    let o = origin_at (flow_of g) (name_in cs c) n in
    ap Some (fetched_same cs (v ∷ []) c n (first_of g.arrays a) (index_in (len_of g.arrays a) v o))
    ∙ ap (λ b. Some (Meaning.fetched (name_in cs c) n b (index_in (len_of g.arrays a) v o))) (firsts_same g.arrays a)
    ∙ ap (λ k. Some (Meaning.fetched (name_in cs c) n (first_cell (flow_of g) a) (index_in k v o))) (lens_same g.arrays a)

store_same : (g : Graph) (cs : List Context) (c n a : ℕ) (v w : Value)
    → option_map (deed_of cs (v ∷ w ∷ [])) (two_deed g c n (Store a) v w (origin_at (flow_of g) (name_in cs c) n))
    ≡ Meaning.fired (flow_of g) (name_in cs c) n (Store a) (v ∷ w ∷ [])
store_same g cs c n a v w =
    let o = origin_at (flow_of g) (name_in cs c) n in
    ap Some (stored_same cs (v ∷ w ∷ []) c n (first_of g.arrays a) a w (index_in (len_of g.arrays a) v o))
    ∙ ap (λ b. Some (Meaning.stored (name_in cs c) n b w (index_in (len_of g.arrays a) v o))) (firsts_same g.arrays a)
    ∙ ap (λ k. Some (Meaning.stored (name_in cs c) n (first_cell (flow_of g) a) w (index_in k v o))) (lens_same g.arrays a)

pub fired_same : (g : Graph) (cs : List Context) (c n : ℕ) (kind : Kind ℕ) (vs : List Value)
    → option_map (deed_of cs vs) (fired_deed g c n kind vs (origin_at (flow_of g) (name_in cs c) n)) ≡ Meaning.fired (flow_of g) (name_in cs c) n kind vs
fired_same g cs c n (Fetch a) [] = refl
fired_same g cs c n (Fetch a) (v ∷ []) = fetch_same g cs c n a v
fired_same g cs c n (Fetch a) (v ∷ w ∷ []) = refl
fired_same g cs c n (Fetch a) (v ∷ w ∷ u ∷ us) = refl
fired_same g cs c n (Store a) [] = refl
fired_same g cs c n (Store a) (v ∷ []) = refl
fired_same g cs c n (Store a) (v ∷ w ∷ []) = store_same g cs c n a v w
fired_same g cs c n (Store a) (v ∷ w ∷ u ∷ us) = refl
fired_same g cs c n kind [] = refl
fired_same g cs c n kind (v ∷ []) = refl
fired_same g cs c n kind (v ∷ w ∷ []) = refl
fired_same g cs c n kind (v ∷ w ∷ u ∷ us) = refl

pub passed_same : (cs : List Context) (c n i : ℕ) (kind : Kind ℕ) (v : Value) → option_map (deed_of cs (v ∷ [])) (node_passed c n i kind v)
    ≡ Meaning.passed (name_in cs c) n i v kind
passed_same cs c n i kind v = elim kind as (λ kind. option_map (deed_of cs (v ∷ [])) (node_passed c n i kind v) ≡ Meaning.passed (name_in cs c) n i v kind) [
  | Lit z ↦ refl
  | Apply1 op ↦ refl
  | Apply2 op ↦ refl
  | Cond ↦ refl
  | Enter ↦ refl
  | Merge k ↦ refl
  | Fetch a ↦ refl
  | Store a ↦ refl
  | Call f ↦ refl
  | StrictCall f ↦ refl
  | Loop f k ↦ refl
]
