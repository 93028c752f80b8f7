-- Which deeds an activity can have.
use Rattle.std.proofs.Common.{◌≡◌, ℕ, ◌+◌, Bool, true, false, List, [], ◌∷◌, length, Option, Some, None, nat_lt, ◌==◌, if◌then◌else◌, refl, subst}
use Rattle.std.proofs.lemmas.Option.{same_Some}
use Rattle.tags.specs.declared.value.Value.{Value}
use Rattle.operators.specs.Values.{Indexed, Place, Outside, index_in}
use Rattle.semantics.specs.declared.graph.Region.{Region}
use Rattle.semantics.specs.declared.graph.Region.TheVariants.{Root, Arm}
use Rattle.semantics.specs.declared.graph.Kind.{Kind}
use Rattle.semantics.specs.declared.graph.Kind.TheVariants.{Lit, Apply1, Apply2, Cond, Enter, Merge, Fetch, Store, Call, StrictCall, Loop}
use Rattle.semantics.specs.Graph.{Node, Block, Flow, node_at, first_cell, array_len}
use Rattle.semantics.specs.Meaning.{Context, Activity, Fires, Gates, Passes, Returns, Turns, Outputs, Message, Deed, Says, Reads, Fills, Puts, deed, fired}
use Rattle.semantics.specs.Meaning.{fired_in, fetched, stored, input_passed, gated, passed, on_node, on_block, block_of, origin_at}

-- the deeds of a node that takes all its operands at once
module _ (fl : Flow) (c : Context) (n : ℕ) (P : List Value → Deed → Type 0)
    (says : (vs : List Value) (m : Message) → P vs (Says m)) (reads : (vs : List Value) (x : ℕ) → P vs (Reads c n x))
    (fills : (index v : Value) (x : ℕ) → P (index ∷ v ∷ []) (Fills c n x v)) where
  fetched_deed : (vs : List Value) (base : ℕ) (i : Indexed) → P vs (fetched c n base i)
  fetched_deed vs base (Place i) = reads vs (base + i)
  fetched_deed vs base (Outside v) = says vs _

  stored_deed : (index v : Value) (base : ℕ) (i : Indexed) → P (index ∷ v ∷ []) (stored c n base v i)
  stored_deed index v base (Place i) = fills index v (base + i)
  stored_deed index v base (Outside w) = says (index ∷ v ∷ []) _

  put : (vs : List Value) (d e : Deed) → P vs d → Some d ≡ Some e → P vs e
  put vs d e h k = subst (λ d. P vs d) (same_Some d e k) h

  fired_deed : (kind : Kind ℕ) (vs : List Value) (d : Deed) → fired fl c n kind vs ≡ Some d → P vs d
  fired_deed (Lit z) [] d e = cc
  fired_deed (Lit z) (v ∷ []) d e = put (v ∷ []) _ d (says (v ∷ []) _) e
  fired_deed (Lit z) (v ∷ w ∷ vs) d e = cc
  fired_deed (Apply1 op) [] d e = cc
  fired_deed (Apply1 op) (v ∷ []) d e = put (v ∷ []) _ d (says (v ∷ []) _) e
  fired_deed (Apply1 op) (v ∷ w ∷ vs) d e = cc
  fired_deed (Apply2 op) [] d e = cc
  fired_deed (Apply2 op) (v ∷ []) d e = cc
  fired_deed (Apply2 op) (v ∷ w ∷ []) d e = put (v ∷ w ∷ []) _ d (says (v ∷ w ∷ []) _) e
  fired_deed (Apply2 op) (v ∷ w ∷ z ∷ vs) d e = cc
  fired_deed Cond [] d e = cc
  fired_deed Cond (v ∷ []) d e = put (v ∷ []) _ d (says (v ∷ []) _) e
  fired_deed Cond (v ∷ w ∷ vs) d e = cc
  fired_deed (Fetch a) [] d e = cc
  fired_deed (Fetch a) (v ∷ []) d e = put (v ∷ []) _ d (fetched_deed (v ∷ []) (first_cell fl a) (index_in (array_len fl a) v (origin_at fl c n))) e
  fired_deed (Fetch a) (v ∷ w ∷ vs) d e = cc
  fired_deed (Store a) [] d e = cc
  fired_deed (Store a) (v ∷ []) d e = cc
  fired_deed (Store a) (v ∷ w ∷ []) d e = put (v ∷ w ∷ []) _ d (stored_deed v w (first_cell fl a) (index_in (array_len fl a) v (origin_at fl c n))) e
  fired_deed (Store a) (v ∷ w ∷ z ∷ vs) d e = cc
  fired_deed (StrictCall f) vs d e = put vs _ d (says vs _) e
  fired_deed Enter vs d e = cc
  fired_deed (Merge k) vs d e = cc
  fired_deed (Call f) vs d e = cc
  fired_deed (Loop f k) vs d e = cc

  node_deed : (vs : List Value) (d : Deed) (node : Node ℕ) (t : Bool) → (if t then fired fl c n node.kind vs else None) ≡ Some d → P vs d
  node_deed vs d node true e = fired_deed node.kind vs d e
  node_deed vs d node false e = cc

  line_deed : (vs : List Value) (d : Deed) (t : Bool) (x : Option (Node ℕ))
      → (if t then input_passed c n vs else on_node x (λ (node : Node ℕ). if length vs == length node.sources then fired fl c n node.kind vs else None))
      ≡ Some d → P vs d
  line_deed [] d true x e = cc
  line_deed (v ∷ []) d true x e = put (v ∷ []) _ d (says (v ∷ []) _) e
  line_deed (v ∷ w ∷ vs) d true x e = cc
  line_deed vs d false None e = cc
  line_deed vs d false (Some node) e = node_deed vs d node (length vs == length node.sources) e

  block_deed : (vs : List Value) (d : Deed) (x : Option (Block ℕ)) → on_block x (fired_in fl c n vs) ≡ Some d → P vs d
  block_deed vs d None e = cc
  block_deed vs d (Some b) e = line_deed vs d (nat_lt n b.inputs) (node_at b n) e

  pub fires_deed : (vs : List Value) (d : Deed) → deed fl (Fires c n vs) ≡ Some d → P vs d
  fires_deed vs d e = block_deed vs d (block_of fl c) e

-- a node line's deed, where each kind's is a message
abbrev pub IsSaid : Deed → Type 0
IsSaid d = (m : Message) × (d ≡ Says m)

by_line : (f : Node ℕ → Option Deed) (d : Deed) → ((node : Node ℕ) → f node ≡ Some d → IsSaid d) → (x : Option (Node ℕ)) → on_node x f ≡ Some d → IsSaid d
by_line f d h None e = cc
by_line f d h (Some node) e = h node e

by_block : (n : ℕ) (f : Node ℕ → Option Deed) (d : Deed) → ((node : Node ℕ) → f node ≡ Some d → IsSaid d) → (x : Option (Block ℕ))
    → on_block x (λ (k : Block ℕ). on_node (node_at k n) f) ≡ Some d → IsSaid d
by_block n f d h None e = cc
by_block n f d h (Some b) e = by_line f d h (node_at b n) e

said : (m : Message) (d : Deed) → Some (Says m) ≡ Some d → IsSaid d
said m d e = (m, cc)

gated_said : (c : Context) (n : ℕ) (v b : Value) (r : Region) (kind : Kind ℕ) (d : Deed) → gated c n v b r kind ≡ Some d → IsSaid d
gated_said c n v b Root kind d e = cc
gated_said c n v b (Arm k side) Enter d e = said _ d e
gated_said c n v b (Arm k side) kind d e = cc

passed_said : (c : Context) (n i : ℕ) (v : Value) (kind : Kind ℕ) (d : Deed) → passed c n i v kind ≡ Some d → IsSaid d
passed_said c n i v (Merge k) d e = said _ d e
passed_said c n i v (Call f) d e = said _ d e
passed_said c n i v (Loop f k) d e = said _ d e
passed_said c n i v kind d e = cc

pub gates_said : (fl : Flow) (c : Context) (n : ℕ) (v b : Value) (d : Deed) → deed fl (Gates c n v b) ≡ Some d → IsSaid d
gates_said fl c n v b d e =
    by_block n (λ (node : Node ℕ). gated c n v b node.region node.kind) d (λ node h. gated_said c n v b node.region node.kind d h) (block_of fl c) e

pub passes_said : (fl : Flow) (c : Context) (n i : ℕ) (v : Value) (d : Deed) → deed fl (Passes c n i v) ≡ Some d → IsSaid d
passes_said fl c n i v d e = by_block n (λ (node : Node ℕ). passed c n i v node.kind) d (λ node h. passed_said c n i v node.kind d h) (block_of fl c) e

-- only a store fills a cell
abbrev pub IsStoring : Activity → Context → ℕ → Value → Type 0
IsStoring a c n v = (index : Value) × (a ≡ Fires c n (index ∷ v ∷ []))

pub storing : (fl : Flow) (a : Activity) (c : Context) (n x : ℕ) (v : Value) → deed fl a ≡ Some (Fills c n x v) → IsStoring a c n v
storing fl (Fires d m vs) c n x v e =
    let P : List Value → Deed → Type 0 = λ vs d'. d' ≡ Fills c n x v → IsStoring (Fires d m vs) c n v in
    fires_deed fl d m P (λ vs msg h. cc) (λ vs x' h. cc) (λ i w x' h. (i, cc)) vs (Fills c n x v) e refl
storing fl (Gates d m w b) c n x v e = let s = gates_said fl d m w b (Fills c n x v) e in let h = s.1 in cc
storing fl (Passes d m i w) c n x v e = let s = passes_said fl d m i w (Fills c n x v) e in let h = s.1 in cc
storing fl (Returns d m j w) c n x v e = cc
storing fl (Turns d m i j b w) c n x v e = cc
storing fl (Outputs j w) c n x v e = cc

-- only a result of main fills an output
pub showing : (fl : Flow) (a : Activity) (j : ℕ) (v : Value) → deed fl a ≡ Some (Puts j v) → a ≡ Outputs j v
showing fl (Fires d m vs) j v e =
    let P : List Value → Deed → Type 0 = λ vs d'. d' ≡ Puts j v → Fires d m vs ≡ Outputs j v in
    fires_deed fl d m P (λ vs msg h. cc) (λ vs x' h. cc) (λ i w x' h. cc) vs (Puts j v) e refl
showing fl (Gates d m w b) j v e = let s = gates_said fl d m w b (Puts j v) e in let h = s.1 in cc
showing fl (Passes d m i w) j v e = let s = passes_said fl d m i w (Puts j v) e in let h = s.1 in cc
showing fl (Returns d m k w) j v e = cc
showing fl (Turns d m i k b w) j v e = cc
showing fl (Outputs k w) j v e = cc
