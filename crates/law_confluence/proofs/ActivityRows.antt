-- What an activity sends, row by row of the table of activities.
use Rattle.std.proofs.Common.{◌≡◌, ℕ, ◌+◌, ◌-◌, ◌<◌, Bool, true, false, List, [], ◌∷◌, length, Option, Some, None, nat_lt, ◌==◌, if◌then◌else◌, refl, sym, ap}
use Rattle.std.proofs.Common.{◌∙◌, subst, arith}
use Rattle.std.specs.Prelude.{slice_get}
use Rattle.std.proofs.lemmas.Option.{same_Some}
use Rattle.tags.specs.declared.value.Value.{Value}
use Rattle.operators.specs.Values.{truth, Indexed, Place, Outside, index_in}
use Rattle.semantics.specs.declared.graph.Region.{Region}
use Rattle.semantics.specs.declared.graph.Region.TheVariants.{Root, Arm}
use Rattle.semantics.specs.declared.graph.Kind.{Kind}
use Rattle.semantics.specs.declared.graph.Kind.TheVariants.{Lit, Apply1, Apply2, Cond, Enter, Merge, Fetch, Store, Call, StrictCall, Loop}
use Rattle.semantics.specs.Graph.{Node, Block, Flow, node_at, first_cell, array_len}
use Rattle.semantics.specs.Meaning.{Context, Called, Turned, Activity, Fires, Gates, Passes, Returns, Turns, Outputs, taken, Message, Sends, Steers, Enters}
use Rattle.semantics.specs.Meaning.{Nothing, Deed, Says, Reads, Fills, Puts, deed, fired, fired_in, fetched, stored, input_passed, gated, passed, on_node}
use Rattle.semantics.specs.Meaning.{on_block, block_of, origin_at, same_side, arm_of}
use Rattle.law_confluence.proofs.ActivityKeys.{Together, mode_at, fires_mode}

pub data Class : Type 0 where
  Plain : Class
  Steering : Class
  Gate : Class
  Join : Class
  Calling : Class
  Strict : Class
  Looping : Class
  Absent : Class

abbrev pub class_of : Kind ℕ → Class
class_of Cond = Steering
class_of Enter = Gate
class_of (Merge k) = Join
class_of (Call f) = Calling
class_of (StrictCall f) = Strict
class_of (Loop f k) = Looping
class_of kind = Plain

abbrev pub class_node : Option (Node ℕ) → Class
class_node None = Absent
class_node (Some n) = class_of n.kind

abbrev pub class_in : Option (Block ℕ) → ℕ → Class
class_in None n = Absent
class_in (Some b) n = if nat_lt n b.inputs then Plain else class_node (node_at b n)

abbrev pub class_at : Flow → Context → ℕ → Class
class_at fl c n = class_in (block_of fl c) n

abbrev pub region_node : Option (Node ℕ) → Region
region_node None = Root
region_node (Some n) = n.region

abbrev pub region_in : Option (Block ℕ) → ℕ → Region
region_in None n = Root
region_in (Some b) n = region_node (node_at b n)

abbrev pub region_at : Flow → Context → ℕ → Region
region_at fl c n = region_in (block_of fl c) n

-- the message of a deed that is done
abbrev pub Speaks : Deed → Message → Type 0
Speaks (Says x) m = m ≡ x
Speaks (Reads c n x) m = (v : Value) × (m ≡ Sends c n 0 v)
Speaks (Fills c n x v) m = m ≡ Sends c n 0 v
Speaks (Puts j v) m = m ≡ Nothing

pub data Row (fl : Flow) (a : Activity) (m : Message) : Type 0 where
  RowFires : (c : Context) (n : ℕ) (vs : List Value) (v : Value) → a ≡ Fires c n vs → m ≡ Sends c n 0 v → class_at fl c n ≡ Plain → 0 < length vs → Row fl a m
  RowSteers : (c : Context) (n : ℕ) (v : Value) → a ≡ Fires c n (v ∷ []) → m ≡ Steers c n v → Row fl a m
  RowGates : (c : Context) (n : ℕ) (v b : Value) (k : ℕ) → a ≡ Gates c n v b → m ≡ Sends c n 0 v → class_at fl c n ≡ Gate → region_at fl c n ≡ Arm k (truth b)
      → Row fl a m
  RowQuiet : 0 < length (taken a) → m ≡ Nothing → Row fl a m
  RowMerges : (c : Context) (n i : ℕ) (v : Value) → a ≡ Passes c n i v → m ≡ Sends c n 0 v → class_at fl c n ≡ Join → Row fl a m
  RowCalls : (c : Context) (n i : ℕ) (v : Value) → a ≡ Passes c n i v → m ≡ Enters (Called c n) i (v ∷ []) → class_at fl c n ≡ Calling → Row fl a m
  RowStrict : (c : Context) (n : ℕ) (vs : List Value) → a ≡ Fires c n vs → m ≡ Enters (Called c n) 0 vs → class_at fl c n ≡ Strict
      → mode_at fl c n ≡ Together (length vs) → Row fl a m
  RowLoops : (c : Context) (n i : ℕ) (v : Value) → a ≡ Passes c n i v → m ≡ Enters (Turned c n 0) i (v ∷ []) → class_at fl c n ≡ Looping → Row fl a m
  RowReturns : (c : Context) (n j : ℕ) (v : Value) → a ≡ Returns c n j v → m ≡ Sends c n j v → Row fl a m
  RowAgain : (c : Context) (n i j : ℕ) (b v : Value) → a ≡ Turns c n i j b v → m ≡ Enters (Turned c n (i + 1)) (j - 1) (v ∷ []) → truth b ≡ true → Row fl a m
  RowLeaves : (c : Context) (n i j : ℕ) (b v : Value) → a ≡ Turns c n i j b v → m ≡ Sends c n (j - 1) v → truth b ≡ false → Row fl a m

speaks_of : (d e : Deed) (m : Message) → Some d ≡ Some e → Speaks e m → Speaks d m
speaks_of d e m f h = subst (λ d. Speaks d m) (sym (same_Some d e f)) h

module _ (fl : Flow) (c : Context) (n : ℕ) where
  plain_row : (vs : List Value) (v : Value) (m : Message) → class_at fl c n ≡ Plain → 0 < length vs → m ≡ Sends c n 0 v → Row fl (Fires c n vs) m
  plain_row vs v m h l e = RowFires c n vs v refl e h l

  fetched_row : (vs : List Value) (m : Message) (base : ℕ) (i : Indexed) → class_at fl c n ≡ Plain → 0 < length vs → Speaks (fetched c n base i) m
      → Row fl (Fires c n vs) m
  fetched_row vs m base (Place i) h l s = plain_row vs s.0 m h l s.1
  fetched_row vs m base (Outside v) h l s = plain_row vs v m h l s

  stored_row : (vs : List Value) (w : Value) (m : Message) (base : ℕ) (i : Indexed) → class_at fl c n ≡ Plain → 0 < length vs → Speaks (stored c n base w i) m
      → Row fl (Fires c n vs) m
  stored_row vs w m base (Place i) h l s = plain_row vs w m h l s
  stored_row vs w m base (Outside v) h l s = plain_row vs v m h l s

  fired_row : (kind : Kind ℕ) (vs : List Value) (d : Deed) (m : Message) → class_at fl c n ≡ class_of kind → mode_at fl c n ≡ Together (length vs)
      → fired fl c n kind vs ≡ Some d → Speaks d m → Row fl (Fires c n vs) m
  fired_row (Lit z) [] d m h k e s = cc
  fired_row (Lit z) (v ∷ []) d m h k e s = plain_row (v ∷ []) _ m h (omega arith) (speaks_of _ d m e s)
  fired_row (Lit z) (v ∷ w ∷ vs) d m h k e s = cc
  fired_row (Apply1 op) [] d m h k e s = cc
  fired_row (Apply1 op) (v ∷ []) d m h k e s = plain_row (v ∷ []) _ m h (omega arith) (speaks_of _ d m e s)
  fired_row (Apply1 op) (v ∷ w ∷ vs) d m h k e s = cc
  fired_row (Apply2 op) [] d m h k e s = cc
  fired_row (Apply2 op) (v ∷ []) d m h k e s = cc
  fired_row (Apply2 op) (v ∷ w ∷ []) d m h k e s = plain_row (v ∷ w ∷ []) _ m h (omega arith) (speaks_of _ d m e s)
  fired_row (Apply2 op) (v ∷ w ∷ z ∷ vs) d m h k e s = cc
  fired_row Cond [] d m h k e s = cc
  fired_row Cond (v ∷ []) d m h k e s = RowSteers c n v refl (speaks_of _ d m e s)
  fired_row Cond (v ∷ w ∷ vs) d m h k e s = cc
  fired_row (Fetch a) [] d m h k e s = cc
  fired_row (Fetch a) (v ∷ []) d m h k e s =
      fetched_row (v ∷ []) m (first_cell fl a) (index_in (array_len fl a) v (origin_at fl c n)) h (omega arith) (speaks_of _ d m e s)
  fired_row (Fetch a) (v ∷ w ∷ vs) d m h k e s = cc
  fired_row (Store a) [] d m h k e s = cc
  fired_row (Store a) (v ∷ []) d m h k e s = cc
  fired_row (Store a) (v ∷ w ∷ []) d m h k e s =
      stored_row (v ∷ w ∷ []) w m (first_cell fl a) (index_in (array_len fl a) v (origin_at fl c n)) h (omega arith) (speaks_of _ d m e s)
  fired_row (Store a) (v ∷ w ∷ z ∷ vs) d m h k e s = cc
  fired_row (StrictCall f) vs d m h k e s = RowStrict c n vs refl (speaks_of _ d m e s) h k
  fired_row Enter vs d m h k e s = cc
  fired_row (Merge j) vs d m h k e s = cc
  fired_row (Call f) vs d m h k e s = cc
  fired_row (Loop f j) vs d m h k e s = cc

  node_row : (node : Node ℕ) (vs : List Value) (d : Deed) (m : Message) (t : Bool) → class_at fl c n ≡ class_of node.kind
      → mode_at fl c n ≡ Together (length vs) → (if t then fired fl c n node.kind vs else None) ≡ Some d → Speaks d m → Row fl (Fires c n vs) m
  node_row node vs d m true h k e s = fired_row node.kind vs d m h k e s
  node_row node vs d m false h k e s = cc

  line_row : (vs : List Value) (d : Deed) (m : Message) (t : Bool) (x : Option (Node ℕ)) → class_at fl c n ≡ (if t then Plain else class_node x)
      → mode_at fl c n ≡ Together (length vs)
      → (if t then input_passed c n vs else on_node x (λ (node : Node ℕ). if length vs == length node.sources then fired fl c n node.kind vs else None))
      ≡ Some d → Speaks d m → Row fl (Fires c n vs) m
  line_row [] d m true x h k e s = cc
  line_row (v ∷ []) d m true x h k e s = plain_row (v ∷ []) v m h (omega arith) (speaks_of _ d m e s)
  line_row (v ∷ w ∷ vs) d m true x h k e s = cc
  line_row vs d m false None h k e s = cc
  line_row vs d m false (Some node) h k e s = node_row node vs d m (length vs == length node.sources) h k e s

  block_row : (vs : List Value) (d : Deed) (m : Message) (x : Option (Block ℕ)) → block_of fl c ≡ x → mode_at fl c n ≡ Together (length vs)
      → on_block x (fired_in fl c n vs) ≡ Some d → Speaks d m → Row fl (Fires c n vs) m
  block_row vs d m None h k e s = cc
  block_row vs d m (Some b) h k e s = line_row vs d m (nat_lt n b.inputs) (node_at b n) (ap (λ x. class_in x n) h) k e s

-- the row of a node line, by its class and its region
by_line : (Q : Class → Region → Type 0) (f : Node ℕ → Option Deed) (d : Deed) → ((node : Node ℕ) → f node ≡ Some d → Q (class_of node.kind) node.region)
    → (t : Bool) (x : Option (Node ℕ)) → on_node (if t then None else x) f ≡ Some d
    → Q (if t then Plain else class_node (if t then None else x)) (region_node (if t then None else x))
by_line Q f d h true x e = cc
by_line Q f d h false None e = cc
by_line Q f d h false (Some node) e = h node e

by_block : (Q : Class → Region → Type 0) (n : ℕ) (f : Node ℕ → Option Deed) (d : Deed)
    → ((node : Node ℕ) → f node ≡ Some d → Q (class_of node.kind) node.region)
    → (x : Option (Block ℕ)) → on_block x (λ (k : Block ℕ). on_node (node_at k n) f) ≡ Some d → Q (class_in x n) (region_in x n)
by_block Q n f d h None e = cc
by_block Q n f d h (Some b) e = by_line Q f d h (nat_lt n b.inputs) (slice_get b.nodes (n - b.inputs)) e

abbrev RowFor : Flow → Context → ℕ → Activity → Message → Class → Region → Type 0
RowFor fl c n a m k r = class_at fl c n ≡ k → region_at fl c n ≡ r → Row fl a m

side_is : (b side : Bool) → same_side b side ≡ true → side ≡ b
side_is true side e = e
side_is false true e = cc
side_is false false e = refl

gate_row : (fl : Flow) (c : Context) (n : ℕ) (v b : Value) (k : ℕ) (side : Bool) (m : Message) (t : Bool) → same_side (truth b) side ≡ t
    → m ≡ (if t then Sends c n 0 v else Nothing) → RowFor fl c n (Gates c n v b) m Gate (Arm k side)
gate_row fl c n v b k side m true e s h r = RowGates c n v b k refl s h (r ∙ ap (λ s. Arm k s) (side_is (truth b) side e))
gate_row fl c n v b k side m false e s h r = RowQuiet (omega arith) s

gated_row : (fl : Flow) (c : Context) (n : ℕ) (v b : Value) (r : Region) (kind : Kind ℕ) (d : Deed) (m : Message) → gated c n v b r kind ≡ Some d → Speaks d m
    → RowFor fl c n (Gates c n v b) m (class_of kind) r
gated_row fl c n v b (Arm k side) Enter d m e s = gate_row fl c n v b k side m (same_side (truth b) side) refl (speaks_of _ d m e s)
gated_row fl c n v b Root kind d m e s = cc
gated_row fl c n v b r kind d m e s = cc

passed_row : (fl : Flow) (c : Context) (n i : ℕ) (v : Value) (kind : Kind ℕ) (r : Region) (d : Deed) (m : Message) → passed c n i v kind ≡ Some d → Speaks d m
    → RowFor fl c n (Passes c n i v) m (class_of kind) r
passed_row fl c n i v (Merge k) r d m e s h g = RowMerges c n i v refl (speaks_of _ d m e s) h
passed_row fl c n i v (Call f) r d m e s h g = RowCalls c n i v refl (speaks_of _ d m e s) h
passed_row fl c n i v (Loop f k) r d m e s h g = RowLoops c n i v refl (speaks_of _ d m e s) h
passed_row fl c n i v kind r d m e s h g = cc

turn_row : (fl : Flow) (c : Context) (n i j : ℕ) (b v : Value) (m : Message) (t : Bool) → truth b ≡ t
    → m ≡ (if t then Enters (Turned c n (i + 1)) (j - 1) (v ∷ []) else Sends c n (j - 1) v) → Row fl (Turns c n i j b v) m
turn_row fl c n i j b v m true e s = RowAgain c n i j b v refl s e
turn_row fl c n i j b v m false e s = RowLeaves c n i j b v refl s e

pub rows : (fl : Flow) (a : Activity) (d : Deed) (m : Message) → deed fl a ≡ Some d → Speaks d m → Row fl a m
rows fl (Fires c n vs) d m e s = block_row fl c n vs d m (block_of fl c) refl (fires_mode fl c n vs d e) e s
rows fl (Gates c n v b) d m e s =
    by_block (RowFor fl c n (Gates c n v b) m) n (λ (node : Node ℕ). gated c n v b node.region node.kind) d
    (λ node f. gated_row fl c n v b node.region node.kind d m f s) (block_of fl c) e refl refl
rows fl (Passes c n i v) d m e s =
    by_block (RowFor fl c n (Passes c n i v) m) n (λ (node : Node ℕ). passed c n i v node.kind) d
    (λ node f. passed_row fl c n i v node.kind node.region d m f s) (block_of fl c) e refl refl
rows fl (Returns c n j v) d m e s = RowReturns c n j v refl (speaks_of _ d m e s)
rows fl (Turns c n i j b v) d m e s = turn_row fl c n i j b v m (truth b) refl (speaks_of _ d m e s)
rows fl (Outputs j v) d m e s = RowQuiet (omega arith) (speaks_of _ d m e s)

-- the region of a node is the arm that the meaning gives it
pub region_is_arm : (o : Option (Node ℕ)) → region_node o ≡ arm_of o
region_is_arm None = refl
region_is_arm (Some line) = refl
