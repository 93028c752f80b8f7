-- A clash in the graph's words: the node is a store of an array, and its index names the cell. In a well-formed flow this
-- is the same as `Clashes`, which says it by the store's deed.
use Rattle.std.proofs.Common.{◌≡◌, ℕ, ◌-◌, Bool, true, false, List, [], ◌∷◌, length, Option, Some, None, nat_lt, ◌==◌, if◌then◌else◌, IsPermutation, refl, sym}
use Rattle.std.proofs.Common.{ap, ◌∙◌, slice_get, eq-eqb}
use Rattle.tags.specs.declared.value.Value.{Value}
use Rattle.tags.specs.declared.value.Value.TheVariants.{Int, Fault}
use Rattle.tags.specs.declared.value.FaultKind.TheVariants.{Range}
use Rattle.tags.specs.declared.value.Origin.{Origin}
use Rattle.tags.specs.declared.value.Origin.TheVariants.{Untold}
use Rattle.std.specs.Prelude.{pos, negsuc}
use Rattle.std.proofs.lemmas.Option.{same_Some}
use Rattle.operators.specs.Values.{Indexed, Place, Outside, index_in}
use Rattle.semantics.specs.declared.graph.Kind.{Kind}
use Rattle.semantics.specs.declared.graph.Kind.TheVariants.{Lit, Apply1, Apply2, Cond, Enter, Merge, Fetch, Store, Call, StrictCall, Loop}
use Rattle.semantics.specs.Graph.{Node, Block, Flow, node_at, first_cell, array_len}
use Rattle.semantics.specs.Meaning.{Context, AtNode, Operand, Tagged, tagged, State, Deed, Fills, fired, fired_in, fetched, stored, input_passed, on_node}
use Rattle.semantics.specs.Meaning.{on_block, block_of, node_of, node_in, origin_at, cell_of, cell_in, Clashes}
use Rattle.law_confluence.proofs.HistoryLaws.{IsFlowWell, well_at}

pub record IsClash (fl : Flow) (s : State) (cell : ℕ) : Type 0 where
  pub context : Context
  pub node : ℕ
  pub index : Value
  pub value : Value
  pub held : Value
  pub array : ℕ
  pub line : Node ℕ
  pub rest : List Tagged
  pub is_node : node_of fl context node ≡ Some line
  pub is_store : line.kind ≡ Store array
  pub names : cell_of fl array index ≡ Some cell
  pub tokens : IsPermutation s.tokens (tagged context (AtNode node) (Operand 0) index ∷ tagged context (AtNode node) (Operand 1) value ∷ rest)
  pub full : s.memory.cells cell ≡ Some held

-- an index names a place whatever the origin of the fault that it would be
place_any : (len : ℕ) (v : Value) (o p : Origin) (base x : ℕ) (c : Context) (n : ℕ) (w : Value) → cell_in base (index_in len v o) ≡ Some x
    → stored c n base w (index_in len v p) ≡ Fills c n x w
place_any len (Int (pos k)) o p base x c n w e = go (nat_lt k len) e
  where
    go : (t : Bool) → cell_in base (if t then Place k else Outside (Fault Range o)) ≡ Some x
        → stored c n base w (if t then Place k else Outside (Fault Range p)) ≡ Fills c n x w
    go true f = cc
    go false f = cc
place_any len (Int (negsuc k)) o p base x c n w e = cc
place_any len (Fault k q) o p base x c n w e = cc

-- FROM THE GRAPH'S WORDS

fired_store : (fl : Flow) (c : Context) (n x a : ℕ) (index value : Value) (kind : Kind ℕ) → kind ≡ Store a → cell_of fl a index ≡ Some x
    → fired fl c n kind (index ∷ value ∷ []) ≡ Some (Fills c n x value)
fired_store fl c n x a index value kind e names =
    ap (λ k. fired fl c n k (index ∷ value ∷ [])) e
    ∙ ap (λ d. Some d) (place_any (array_len fl a) index Untold (origin_at fl c n) (first_cell fl a) x c n value names)

line_fires : (fl : Flow) (c : Context) (n : ℕ) (vs : List Value) (b : Block ℕ) (node : Node ℕ) (d : Deed) → node_at b n ≡ Some node
    → length node.sources ≡ length vs → fired fl c n node.kind vs ≡ Some d → fired_in fl c n vs b ≡ Some d
line_fires fl c n vs b node d e long f = go (nat_lt n b.inputs) (slice_get b.nodes (n - b.inputs)) e
  where
    go : (t : Bool) (x : Option (Node ℕ)) → (if t then None else x) ≡ Some node
        → (if t then input_passed c n vs else on_node (if t then None else x)
        (λ (node : Node ℕ). if length vs == length node.sources then fired fl c n node.kind vs else None)) ≡ Some d
    go true x g = cc
    go false x g =
        ap (λ y. on_node y (λ (node : Node ℕ). if length vs == length node.sources then fired fl c n node.kind vs else None)) g
        ∙ ap (λ (t : Bool). if t then fired fl c n node.kind vs else None) (eq-eqb (length vs) (length node.sources) (sym long)) ∙ f

line_block : (o : Option (Block ℕ)) (n : ℕ) (line : Node ℕ) → node_in o n ≡ Some line → (b : Block ℕ) × (o ≡ Some b) × (node_at b n ≡ Some line)
line_block None n line e = cc
line_block (Some b) n line e = (b, refl, e)

pub clash_from : (fl : Flow) → IsFlowWell fl → (s : State) (x : ℕ) → IsClash fl s x → Clashes fl s x
clash_from fl w s x c =
    let b = line_block (block_of fl c.context) c.node c.line c.is_node in
    let two = (well_at fl w c.context b.0 b.1 c.node c.line b.2).stores c.array c.is_store in
    record {
      context = c.context;
      node = c.node;
      index = c.index;
      value = c.value;
      held = c.held;
      rest = c.rest;
      is_store = ap (λ o. on_block o (fired_in fl c.context c.node (c.index ∷ c.value ∷ []))) b.1
          ∙ line_fires fl c.context c.node (c.index ∷ c.value ∷ []) b.0 c.line _ b.2 two
          (fired_store fl c.context c.node x c.array c.index c.value c.line.kind c.is_store c.names);
      tokens = c.tokens;
      full = c.full;
    }

-- TO THE GRAPH'S WORDS

place_back : (len : ℕ) (v : Value) (o p : Origin) (base x : ℕ) (c : Context) (n : ℕ) (w : Value) → stored c n base w (index_in len v p) ≡ Fills c n x w
    → cell_in base (index_in len v o) ≡ Some x
place_back len (Int (pos k)) o p base x c n w e = go (nat_lt k len) e
  where
    go : (t : Bool) → stored c n base w (if t then Place k else Outside (Fault Range p)) ≡ Fills c n x w
        → cell_in base (if t then Place k else Outside (Fault Range o)) ≡ Some x
    go true f = cc
    go false f = cc
place_back len (Int (negsuc k)) o p base x c n w e = cc
place_back len (Fault k q) o p base x c n w e = cc

no_read : (c : Context) (n base x : ℕ) (i : Indexed) (w : Value) → fetched c n base i ≡ Fills c n x w → ⊥
no_read c n base x (Place k) w e = cc
no_read c n base x (Outside v) w e = cc

abbrev IsStoreOf : Flow → ℕ → Value → Kind ℕ → Type 0
IsStoreOf fl x index kind = (a : ℕ) × (kind ≡ Store a) × (cell_of fl a index ≡ Some x)

store_kind : (fl : Flow) (c : Context) (n x : ℕ) (index value : Value) (kind : Kind ℕ) → fired fl c n kind (index ∷ value ∷ []) ≡ Some (Fills c n x value)
    → IsStoreOf fl x index kind
store_kind fl c n x index value (Store a) e =
    (a, refl, place_back (array_len fl a) index Untold (origin_at fl c n) (first_cell fl a) x c n value (same_Some _ _ e))
store_kind fl c n x index value (Lit z) e = cc
store_kind fl c n x index value (Apply1 op) e = cc
store_kind fl c n x index value (Apply2 op) e = absurd (cc)
store_kind fl c n x index value Cond e = cc
store_kind fl c n x index value (Fetch a) e = cc
store_kind fl c n x index value (StrictCall f) e = absurd (cc)
store_kind fl c n x index value Enter e = cc
store_kind fl c n x index value (Merge k) e = cc
store_kind fl c n x index value (Call f) e = cc
store_kind fl c n x index value (Loop f k) e = cc

store_line : (fl : Flow) (c : Context) (n x : ℕ) (index value : Value) (t : Bool) (o : Option (Node ℕ))
    → (if t then input_passed c n (index ∷ value ∷ [])
    else on_node (if t then None else o) (λ (node : Node ℕ). if 2 == length node.sources then fired fl c n node.kind (index ∷ value ∷ []) else None))
    ≡ Some (Fills c n x value)
    → (line : Node ℕ) × ((if t then None else o) ≡ Some line) × IsStoreOf fl x index line.kind
store_line fl c n x index value true o e = cc
store_line fl c n x index value false None e = cc
store_line fl c n x index value false (Some line) e = (line, refl, go (2 == length line.sources) e)
  where
    go : (t : Bool) → (if t then fired fl c n line.kind (index ∷ value ∷ []) else None) ≡ Some (Fills c n x value) → IsStoreOf fl x index line.kind
    go true f = store_kind fl c n x index value line.kind f
    go false f = cc

store_block : (fl : Flow) (c : Context) (n x : ℕ) (index value : Value) (o : Option (Block ℕ))
    → on_block o (fired_in fl c n (index ∷ value ∷ [])) ≡ Some (Fills c n x value)
    → (line : Node ℕ) × (node_in o n ≡ Some line) × IsStoreOf fl x index line.kind
store_block fl c n x index value None e = cc
store_block fl c n x index value (Some b) e = store_line fl c n x index value (nat_lt n b.inputs) (slice_get b.nodes (n - b.inputs)) e

pub clash_to : (fl : Flow) (s : State) (x : ℕ) → Clashes fl s x → IsClash fl s x
clash_to fl s x c =
    let l = store_block fl c.context c.node x c.index c.value (block_of fl c.context) c.is_store in
    record {
      context = c.context;
      node = c.node;
      index = c.index;
      value = c.value;
      held = c.held;
      array = l.2.0;
      line = l.0;
      rest = c.rest;
      is_node = l.1;
      is_store = l.2.1;
      names = l.2.2;
      tokens = c.tokens;
      full = c.full;
    }
