-- An activity that takes a token has the shape of the token's place, and takes a token at each spot of that shape.
use Rattle.std.proofs.Common.{◌≡◌, ℕ, ◌-◌, ◌<◌, ◌⊎◌, inl, inr, Bool, true, false, ◌&&◌, ◌==◌, List, [], ◌∷◌, length, Option, Some, None, nat_lt}
use Rattle.std.proofs.Common.{slice_get, if◌then◌else◌, refl, sym, ap, ◌∙◌, subst, arith, eqb-true, eq-eqb, lt-ltb, ⊎_elim}
use Rattle.std.specs.Prelude.{option_map}
use Rattle.tags.specs.declared.value.Value.{Value}
use Rattle.semantics.specs.declared.graph.Region.{Region}
use Rattle.semantics.specs.declared.graph.Region.TheVariants.{Root, Arm}
use Rattle.semantics.specs.declared.graph.Kind.{Kind}
use Rattle.semantics.specs.declared.graph.Kind.TheVariants.{Lit, Apply1, Apply2, Cond, Enter, Merge, Fetch, Store, Call, StrictCall, Loop}
use Rattle.semantics.specs.Graph.{Node as Row, Block, Graph, flow_of, node_at}
use Rattle.semantics.specs.Meaning.{Context, Statement, AtNode, AtOut, AtTurn, Port, Tagged, tagged, Activity, taken, operands_from, deed, on_block}
use Rattle.semantics.specs.Meaning.{on_node, fired, fired_in, input_passed, gated, passed, block_number, block_numbered, block_of}
use Rattle.semantics.specs.Meaning as Meaning
use Rattle.lemmas.proofs.Permutations.{Within, Each, put_first}
use Rattle.law_confluence.proofs.ActivityKeys.{within_one}
use Rattle.oracle.specs.declared.invocations.Made.{Made}
use Rattle.oracle.specs.declared.invocations.Made.TheVariants.{Main, Called, Turned}
use Rattle.oracle.specs.declared.invocations.Invocation.{Invocation}
use Rattle.oracle.specs.declared.lines.Line.TheVariants.{Input, Node}
use Rattle.oracle.specs.declared.shapes.Shape.{Shape}
use Rattle.oracle.specs.declared.shapes.Shape.TheVariants.{Fires, Gates, Passes, Returns, Turns, Outputs}
use Rattle.oracle.specs.declared.tokens.Spot.{Spot}
use Rattle.oracle.specs.declared.tokens.Spot.TheVariants.{Operand, Predicate, Out, Flag, Carried}
use Rattle.oracle.specs.declared.tokens.Token.{Token}
use Rattle.oracle.specs.Lines.{line_of, line_in, line_of_row, resolved_in, takes_all, fires_shape, node_shape, operand_shape, predicate_shape}
use Rattle.oracle.specs.Lines.{out_shape, turn_shape, shape_in, operand_spots, spots_in}
use Rattle.oracle.specs.Meant.{name_in, made_of, tagged_of, statement_of, port_of}
use Rattle.oracle.specs.Agreeing.{block_in, row_in}
use Rattle.oracle.proofs.Resolved.{block_same, rows_same}
use Rattle.oracle.proofs.Apart.{key_same}
use Rattle.oracle.proofs.Taken.{operand_at, operands_each, within_two, no_more}

abbrev pub TakesAt : Activity → Context → Spot → Type 0
TakesAt a c s = (v : Value) × Within (tagged c (statement_of s) (port_of s) v) (taken a)

pub record HasShape (g : Graph) (c : Context) (x : Invocation) (s : Spot) (a : Activity) : Type 0 where
  pub shape : Shape
  pub here : shape_in g x.made x.block s ≡ Some shape
  pub takes : Each (TakesAt a c) (spots_in shape)

-- WHAT THE GRAPH HAS AT A NODE
module _ (g : Graph) (c : Context) (block : ℕ) (is : block_number (flow_of g) c ≡ Some block) where
  found : block_of (flow_of g) c ≡ option_map (block_in g) (slice_get g.blocks block)
  found = ap (block_numbered (flow_of g)) is ∙ block_same g block

  abbrev HasRow : ℕ → (Row ℕ → Option Meaning.Deed) → Meaning.Deed → Type 0
  HasRow n f d = (row : Row (List ℕ)) × (line_of g block n ≡ Node row.region (resolved_in g row.kind) (length row.sources)) × (f (row_in g row) ≡ Some d)

  row_found : (n : ℕ) (f : Row ℕ → Option Meaning.Deed) (d : Meaning.Deed) (b : List ℕ × Block (List ℕ)) → slice_get g.blocks block ≡ Some b
      → nat_lt n b.1.inputs ≡ false
      → (o : Option (Row (List ℕ))) → slice_get b.1.nodes (n - b.1.inputs) ≡ o → on_node (option_map (row_in g) o) f ≡ Some d → HasRow n f d
  row_found n f d b eb et None eo h = cc
  row_found n f d b eb et (Some row) eo h = (
    row,
    ap (λ o. line_in g o n) eb ∙ ap (λ (t : Bool). if t then Input else line_of_row g (slice_get b.1.nodes (n - b.1.inputs))) et ∙ ap (line_of_row g) eo,
    h,
  )

  no_input : (n : ℕ) (f : Row ℕ → Option Meaning.Deed) (d : Meaning.Deed) (b : List ℕ × Block (List ℕ)) → nat_lt n b.1.inputs ≡ true
      → on_node (node_at (block_in g b) n) f ≡ Some d → ⊥
  no_input n f d b et h =
      let none : node_at (block_in g b) n ≡ None = ap (λ (t : Bool). if t then None else slice_get (block_in g b).nodes (n - b.1.inputs)) et in
      let no : None ≡ Some d = ap (λ o. on_node o f) (sym none) ∙ h in
      cc

  pub node_row : (n : ℕ) (f : Row ℕ → Option Meaning.Deed) (d : Meaning.Deed)
      → on_block (block_of (flow_of g) c) (λ (b : Block ℕ). on_node (node_at b n) f) ≡ Some d → HasRow n f d
  node_row n f d h =
      let cases : (o : Option (List ℕ × Block (List ℕ))) → slice_get g.blocks block ≡ o
      → on_block (option_map (block_in g) o) (λ (b : Block ℕ). on_node (node_at b n) f) ≡ Some d → HasRow n f d
      = λ o. elim o as (λ o. slice_get g.blocks block ≡ o → on_block (option_map (block_in g) o) (λ (b : Block ℕ). on_node (node_at b n) f) ≡ Some d
      → HasRow n f d) [
        | None ↦ λ e q. cc
        | Some b ↦ λ e q.
            let sides : (t : Bool) → nat_lt n b.1.inputs ≡ t → HasRow n f d
            = λ t. elim t as (λ t. nat_lt n b.1.inputs ≡ t → HasRow n f d) [
              | true ↦ λ et. absurd (no_input n f d b et q)
              | false ↦ λ et. row_found n f d b e et (slice_get b.1.nodes (n - b.1.inputs)) refl (ap (λ o. on_node o f) (sym (rows_same g b n et)) ∙ q)
            ] in
            sides (nat_lt n b.1.inputs) refl
      ] in
      cases (slice_get g.blocks block) refl (ap (λ o. on_block o (λ (b : Block ℕ). on_node (node_at b n) f)) (sym found) ∙ h)

  abbrev Fired : ℕ → List Value → Row ℕ → Option Meaning.Deed
  Fired n vs node = if length vs == length node.sources then fired (flow_of g) c n node.kind vs else None

  fired_row : (n : ℕ) (vs : List Value) (d : Meaning.Deed) → on_block (block_of (flow_of g) c) (fired_in (flow_of g) c n vs) ≡ Some d
      → ((line_of g block n ≡ Input) × (input_passed c n vs ≡ Some d)) ⊎ HasRow n (Fired n vs) d
  fired_row n vs d h =
      let Goal : Type 0 = ((line_of g block n ≡ Input) × (input_passed c n vs ≡ Some d)) ⊎ HasRow n (Fired n vs) d in
      let cases : (o : Option (List ℕ × Block (List ℕ))) → slice_get g.blocks block ≡ o
      → on_block (option_map (block_in g) o) (fired_in (flow_of g) c n vs) ≡ Some d → Goal
      = λ o. elim o as (λ o. slice_get g.blocks block ≡ o → on_block (option_map (block_in g) o) (fired_in (flow_of g) c n vs) ≡ Some d → Goal) [
        | None ↦ λ e q. cc
        | Some b ↦ λ e q.
            let sides : (t : Bool) → nat_lt n b.1.inputs ≡ t → (if t then input_passed c n vs else on_node (node_at (block_in g b) n) (Fired n vs))
            ≡ Some d → Goal
            = λ t. elim t as (λ t. nat_lt n b.1.inputs ≡ t → (if t then input_passed c n vs else on_node (node_at (block_in g b) n) (Fired n vs))
            ≡ Some d → Goal) [
              | true ↦ λ et r. inl (
                ap (λ o. line_in g o n) e
                    ∙ ap (λ (t : Bool). if t then Input else line_of_row g (slice_get b.1.nodes (n - b.1.inputs))) et,
                r,
              )
              | false ↦ λ et r. inr (row_found n (Fired n vs) d b e et (slice_get b.1.nodes (n - b.1.inputs)) refl
                  (ap (λ o. on_node o (Fired n vs)) (sym (rows_same g b n et)) ∙ r))
            ] in
            sides (nat_lt n b.1.inputs) refl q
      ] in
      cases (slice_get g.blocks block) refl (ap (λ o. on_block o (fired_in (flow_of g) c n vs)) (sym found) ∙ h)

  input_one : (n : ℕ) (vs : List Value) (d : Meaning.Deed) → input_passed c n vs ≡ Some d → length vs ≡ 1
  input_one n [] d h = cc
  input_one n (v ∷ []) d h = refl
  input_one n (v ∷ w ∷ vs) d h = cc

  -- a node that fires takes all
  abbrev TakesAll : Kind ℕ → List Value → Type 0
  TakesAll kind vs = (takes_all kind (length vs) ≡ true) × ((arity n i : ℕ) → node_shape kind arity n i ≡ fires_shape kind arity n i)

  fired_takes : (n : ℕ) (vs : List Value) (d : Meaning.Deed) (kind : Kind ℕ) → fired (flow_of g) c n kind vs ≡ Some d → TakesAll kind vs
  fired_takes n [] d (Lit z) h = cc
  fired_takes n (v ∷ []) d (Lit z) h = (refl, λ k m i. refl)
  fired_takes n (v ∷ w ∷ vs) d (Lit z) h = cc
  fired_takes n [] d (Apply1 op) h = cc
  fired_takes n (v ∷ []) d (Apply1 op) h = (refl, λ k m i. refl)
  fired_takes n (v ∷ w ∷ vs) d (Apply1 op) h = cc
  fired_takes n [] d (Apply2 op) h = cc
  fired_takes n (v ∷ []) d (Apply2 op) h = cc
  fired_takes n (v ∷ w ∷ []) d (Apply2 op) h = (refl, λ k m i. refl)
  fired_takes n (v ∷ w ∷ u ∷ vs) d (Apply2 op) h = cc
  fired_takes n [] d Cond h = cc
  fired_takes n (v ∷ []) d Cond h = (refl, λ k m i. refl)
  fired_takes n (v ∷ w ∷ vs) d Cond h = cc
  fired_takes n [] d (Fetch a) h = cc
  fired_takes n (v ∷ []) d (Fetch a) h = (refl, λ k m i. refl)
  fired_takes n (v ∷ w ∷ vs) d (Fetch a) h = cc
  fired_takes n [] d (Store a) h = cc
  fired_takes n (v ∷ []) d (Store a) h = cc
  fired_takes n (v ∷ w ∷ []) d (Store a) h = (refl, λ k m i. refl)
  fired_takes n (v ∷ w ∷ u ∷ vs) d (Store a) h = cc
  fired_takes n vs d (StrictCall f) h = (refl, λ k m i. refl)
  fired_takes n vs d Enter h = cc
  fired_takes n vs d (Merge k) h = cc
  fired_takes n vs d (Call f) h = cc
  fired_takes n vs d (Loop f k) h = cc

  if_fired : (b : Bool) (o : Option Meaning.Deed) (d : Meaning.Deed) → (if b then o else None) ≡ Some d → (b ≡ true) × (o ≡ Some d)
  if_fired true o d h = (refl, h)
  if_fired false o d h = cc

  -- the shape of an operand's place at a node that fires
  fires_here : (n i : ℕ) (vs : List Value) (d : Meaning.Deed) → on_block (block_of (flow_of g) c) (fired_in (flow_of g) c n vs) ≡ Some d
      → i < length vs → operand_shape (line_of g block n) n i ≡ Some (Fires n (length vs))
  fires_here n i vs d h low =
      ⊎_elim
      (λ p.
      let one = input_one n vs d p.1 in
      let none : i ≡ 0 = omega (arith, one, low) in
      ap (λ l. operand_shape l n i) p.0 ∙ ap (λ b. if b then Some (Fires n 1) else None) (eq-eqb i 0 none) ∙ ap (λ k. Some (Fires n k)) (sym one))
      (λ p.
      let row = p.0 in
      let kind = resolved_in g row.kind in
      let q = if_fired (length vs == length row.sources) (fired (flow_of g) c n kind vs) d p.2 in
      let arity : length vs ≡ length row.sources = eqb-true (length vs) (length row.sources) q.0 in
      let takes = fired_takes n vs d kind q.1 in
      ap (λ l. operand_shape l n i) p.1 ∙ ap (λ k. node_shape kind k n i) (sym arity) ∙ takes.1 (length vs) n i
      ∙ ap (λ b. if b && nat_lt i (length vs) then Some (Fires n (length vs)) else None) takes.0
      ∙ ap (λ b. if true && b then Some (Fires n (length vs)) else None) (lt-ltb i (length vs) low))
      (fired_row n vs d h)

  gated_enter : (n : ℕ) (v b : Value) (d : Meaning.Deed) (r : Region) (kind : Kind ℕ) → gated c n v b r kind ≡ Some d → kind ≡ Enter
  gated_enter n v b d Root kind h = cc
  gated_enter n v b d (Arm k side) Enter h = refl
  gated_enter n v b d (Arm k side) kind h = cc

  gates_here : (n : ℕ) (v b : Value) (d : Meaning.Deed)
      → on_block (block_of (flow_of g) c) (λ (k : Block ℕ). on_node (node_at k n) (λ (node : Row ℕ). gated c n v b node.region node.kind)) ≡ Some d
      → (operand_shape (line_of g block n) n 0 ≡ Some (Gates n)) × (predicate_shape (line_of g block n) n ≡ Some (Gates n))
  gates_here n v b d h =
      let p = node_row n (λ (node : Row ℕ). gated c n v b node.region node.kind) d h in
      let row = p.0 in
      let enter = gated_enter n v b d row.region (resolved_in g row.kind) p.2 in
      let line : line_of g block n ≡ Node row.region Enter (length row.sources) = p.1 ∙ ap (λ k. Node row.region k (length row.sources)) enter in
      (ap (λ l. operand_shape l n 0) line, ap (λ l. predicate_shape l n) line)

  passed_shape : (n i arity : ℕ) (v : Value) (d : Meaning.Deed) (kind : Kind ℕ) → passed c n i v kind ≡ Some d → node_shape kind arity n i ≡ Some (Passes n i)
  passed_shape n i arity v d (Merge k) h = refl
  passed_shape n i arity v d (Call f) h = refl
  passed_shape n i arity v d (Loop f k) h = refl
  passed_shape n i arity v d kind h = cc

  passes_here : (n i : ℕ) (v : Value) (d : Meaning.Deed)
      → on_block (block_of (flow_of g) c) (λ (k : Block ℕ). on_node (node_at k n) (λ (node : Row ℕ). passed c n i v node.kind)) ≡ Some d
      → operand_shape (line_of g block n) n i ≡ Some (Passes n i)
  passes_here n i v d h =
      let p = node_row n (λ (node : Row ℕ). passed c n i v node.kind) d h in
      ap (λ l. operand_shape l n i) p.1 ∙ passed_shape n i (length p.0.sources) v d (resolved_in g p.0.kind) p.2

-- WHERE A TOKEN IS
made_main : (cs : List Context) (made : Made) (j : ℕ) → made_of cs made ≡ Meaning.Main → out_shape made j ≡ Some (Outputs j)
made_main cs Main j e = refl
made_main cs made j e = cc

made_called : (cs : List Context) (made : Made) (d : Context) (n j : ℕ) → made_of cs made ≡ Meaning.Called d n → out_shape made j ≡ Some (Returns j)
made_called cs (Called by m) d n j e = refl
made_called cs made d n j e = cc

made_turned : (cs : List Context) (made : Made) (d : Context) (n i j : ℕ) → made_of cs made ≡ Meaning.Turned d n i → turn_shape made j ≡ Some (Turns j)
made_turned cs (Turned by m k) d n i j e = refl
made_turned cs made d n i j e = cc

module _ (g : Graph) (cs : List Context) (t : Token) (x : Invocation) (made : made_of cs x.made ≡ name_in cs t.context)
    (block : block_number (flow_of g) (name_in cs t.context) ≡ Some x.block) where
  abbrev Shaped : Activity → Type 0
  Shaped a = HasShape g (name_in cs t.context) x t.spot a

  at_spot : (s : Spot) (a : Activity) (shape : Shape) → t.spot ≡ s → shape_in g x.made x.block s ≡ Some shape
      → Each (TakesAt a (name_in cs t.context)) (spots_in shape) → Shaped a
  at_spot s a shape e h all = record { shape = shape; here = ap (shape_in g x.made x.block) e ∙ h; takes = all }

  fires_shaped : (c : Context) (n : ℕ) (vs : List Value) (d : Meaning.Deed) → deed (flow_of g) (Meaning.Fires c n vs) ≡ Some d
      → Within (tagged_of cs t) (taken (Meaning.Fires c n vs)) → Shaped (Meaning.Fires c n vs)
  fires_shaped c n vs d h w =
      let p = operand_at c (AtNode n) 0 vs (tagged_of cs t) w in
      let same : c ≡ name_in cs t.context = sym p.1 in
      let here : on_block (block_of (flow_of g) (name_in cs t.context)) (fired_in (flow_of g) (name_in cs t.context) n vs) ≡ Some d
      = subst (λ c. on_block (block_of (flow_of g) c) (fired_in (flow_of g) c n vs) ≡ Some d) same h in
      at_spot (Operand n p.0) (Meaning.Fires c n vs) (Fires n (length vs)) (key_same t.spot (Operand n p.0) p.2 (p.3 ∙ ap Meaning.Operand (no_more p.0)))
      (fires_here g (name_in cs t.context) x.block block n p.0 vs d here p.4)
      (subst (λ k. Each (λ s. (v : Value) × Within (tagged k (statement_of s) (port_of s) v) (operands_from c (AtNode n) 0 vs))
      (operand_spots n 0 (length vs))) same (operands_each c n 0 vs))

  gates_both : (c : Context) (n : ℕ) (v b : Value) → c ≡ name_in cs t.context → Each (TakesAt (Meaning.Gates c n v b) (name_in cs t.context))
      (Operand n 0 ∷ Predicate n ∷ [])
  gates_both c n v b same =
      subst (λ k. Each (TakesAt (Meaning.Gates c n v b) k) (Operand n 0 ∷ Predicate n ∷ [])) same
      ((v, (_, put_first _ _)), ((b, (tagged c (AtNode n) (Meaning.Operand 0) v ∷ [], inr ([], refl, put_first _ _))), tt))

  gates_shaped : (c : Context) (n : ℕ) (v b : Value) (d : Meaning.Deed) → deed (flow_of g) (Meaning.Gates c n v b) ≡ Some d
      → Within (tagged_of cs t) (taken (Meaning.Gates c n v b)) → Shaped (Meaning.Gates c n v b)
  gates_shaped c n v b d h w =
      let shapes : c ≡ name_in cs t.context → (operand_shape (line_of g x.block n) n 0 ≡ Some (Gates n))
      × (predicate_shape (line_of g x.block n) n ≡ Some (Gates n)) =
      λ same. gates_here g (name_in cs t.context) x.block block n v b d
      (subst (λ c. on_block (block_of (flow_of g) c) (λ (k : Block ℕ). on_node (node_at k n) (λ (node : Row ℕ). gated c n v b node.region node.kind))
      ≡ Some d) same h) in
      ⊎_elim
      (λ e.
      let same : c ≡ name_in cs t.context = ap (λ (u : Tagged). u.context) (sym e) in
      at_spot (Operand n 0) (Meaning.Gates c n v b) (Gates n) (key_same t.spot (Operand n 0) (ap (λ (u : Tagged). u.statement) e)
      (ap (λ (u : Tagged). u.port) e)) (shapes same).0 (gates_both c n v b same))
      (λ e.
      let same : c ≡ name_in cs t.context = ap (λ (u : Tagged). u.context) (sym e) in
      at_spot (Predicate n) (Meaning.Gates c n v b) (Gates n) (key_same t.spot (Predicate n) (ap (λ (u : Tagged). u.statement) e)
      (ap (λ (u : Tagged). u.port) e)) (shapes same).1 (gates_both c n v b same))
      (within_two (tagged_of cs t) (tagged c (AtNode n) (Meaning.Operand 0) v) (tagged c (AtNode n) Meaning.Predicate b) w)

  passes_shaped : (c : Context) (n i : ℕ) (v : Value) (d : Meaning.Deed) → deed (flow_of g) (Meaning.Passes c n i v) ≡ Some d
      → Within (tagged_of cs t) (taken (Meaning.Passes c n i v)) → Shaped (Meaning.Passes c n i v)
  passes_shaped c n i v d h w =
      let e = within_one (tagged_of cs t) (tagged c (AtNode n) (Meaning.Operand i) v) w in
      let same : c ≡ name_in cs t.context = ap (λ (u : Tagged). u.context) (sym e) in
      at_spot (Operand n i) (Meaning.Passes c n i v) (Passes n i) (key_same t.spot (Operand n i) (ap (λ (u : Tagged). u.statement) e)
      (ap (λ (u : Tagged). u.port) e))
      (passes_here g (name_in cs t.context) x.block block n i v d
      (subst (λ c. on_block (block_of (flow_of g) c) (λ (k : Block ℕ). on_node (node_at k n) (λ (node : Row ℕ). passed c n i v node.kind)) ≡ Some d) same h))
      (subst (λ k. Each (TakesAt (Meaning.Passes c n i v) k) (Operand n i ∷ [])) same ((v, (_, put_first _ _)), tt))

  returns_shaped : (c : Context) (n j : ℕ) (v : Value) → Within (tagged_of cs t) (taken (Meaning.Returns c n j v)) → Shaped (Meaning.Returns c n j v)
  returns_shaped c n j v w =
      let e = within_one (tagged_of cs t) (tagged (Meaning.Called c n) (AtOut j) (Meaning.Operand 0) v) w in
      let same : Meaning.Called c n ≡ name_in cs t.context = ap (λ (u : Tagged). u.context) (sym e) in
      at_spot (Out j) (Meaning.Returns c n j v) (Returns j) (key_same t.spot (Out j) (ap (λ (u : Tagged). u.statement) e) (ap (λ (u : Tagged). u.port) e))
      (made_called cs x.made c n j (made ∙ sym same))
      (subst (λ k. Each (TakesAt (Meaning.Returns c n j v) k) (Out j ∷ [])) same ((v, (_, put_first _ _)), tt))

  turns_both : (c : Context) (n i j : ℕ) (b v : Value) → Meaning.Turned c n i ≡ name_in cs t.context
      → Each (TakesAt (Meaning.Turns c n i j b v) (name_in cs t.context)) (Flag j ∷ Carried j ∷ [])
  turns_both c n i j b v same =
      subst (λ k. Each (TakesAt (Meaning.Turns c n i j b v) k) (Flag j ∷ Carried j ∷ [])) same
      ((b, (_, put_first _ _)), ((v, (tagged (Meaning.Turned c n i) (AtTurn j) Meaning.Flag b ∷ [], inr ([], refl, put_first _ _))), tt))

  turns_shaped : (c : Context) (n i j : ℕ) (b v : Value) → Within (tagged_of cs t) (taken (Meaning.Turns c n i j b v)) → Shaped (Meaning.Turns c n i j b v)
  turns_shaped c n i j b v w =
      ⊎_elim
      (λ e.
      let same : Meaning.Turned c n i ≡ name_in cs t.context = ap (λ (u : Tagged). u.context) (sym e) in
      at_spot (Flag j) (Meaning.Turns c n i j b v) (Turns j) (key_same t.spot (Flag j) (ap (λ (u : Tagged). u.statement) e)
      (ap (λ (u : Tagged). u.port) e)) (made_turned cs x.made c n i j (made ∙ sym same)) (turns_both c n i j b v same))
      (λ e.
      let same : Meaning.Turned c n i ≡ name_in cs t.context = ap (λ (u : Tagged). u.context) (sym e) in
      at_spot (Carried j) (Meaning.Turns c n i j b v) (Turns j) (key_same t.spot (Carried j) (ap (λ (u : Tagged). u.statement) e)
      (ap (λ (u : Tagged). u.port) e)) (made_turned cs x.made c n i j (made ∙ sym same)) (turns_both c n i j b v same))
      (within_two (tagged_of cs t) (tagged (Meaning.Turned c n i) (AtTurn j) Meaning.Flag b) (tagged (Meaning.Turned c n i) (AtTurn j) Meaning.Carried v) w)

  outputs_shaped : (j : ℕ) (v : Value) → Within (tagged_of cs t) (taken (Meaning.Outputs j v)) → Shaped (Meaning.Outputs j v)
  outputs_shaped j v w =
      let e = within_one (tagged_of cs t) (tagged Meaning.Main (AtOut j) (Meaning.Operand 0) v) w in
      let same : Meaning.Main ≡ name_in cs t.context = ap (λ (u : Tagged). u.context) (sym e) in
      at_spot (Out j) (Meaning.Outputs j v) (Outputs j) (key_same t.spot (Out j) (ap (λ (u : Tagged). u.statement) e) (ap (λ (u : Tagged). u.port) e))
      (made_main cs x.made j (made ∙ sym same))
      (subst (λ k. Each (TakesAt (Meaning.Outputs j v) k) (Out j ∷ [])) same ((v, (_, put_first _ _)), tt))

  pub shaped : (a : Activity) (d : Meaning.Deed) → deed (flow_of g) a ≡ Some d → Within (tagged_of cs t) (taken a) → Shaped a
  shaped (Meaning.Fires c n vs) d h w = fires_shaped c n vs d h w
  shaped (Meaning.Gates c n v b) d h w = gates_shaped c n v b d h w
  shaped (Meaning.Passes c n i v) d h w = passes_shaped c n i v d h w
  shaped (Meaning.Returns c n j v) d h w = returns_shaped c n j v w
  shaped (Meaning.Turns c n i j b v) d h w = turns_shaped c n i j b v w
  shaped (Meaning.Outputs j v) d h w = outputs_shaped j v w
