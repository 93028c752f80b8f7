-- What a deed names exists.
use Rattle.std.proofs.Common.{◌≡◌, ℕ, ◌+◌, ◌-◌, ◌<◌, ◌^◌, Bool, true, false, ◌==◌, List, [], ◌∷◌, length, Option, Some, None, nat_lt, slice_get}
use Rattle.std.proofs.Common.{if◌then◌else◌, refl, ap, ◌∙◌, subst, ltb-true}
use Rattle.std.specs.Prelude.{option_map, ⊤, pos, negsuc}
use Rattle.tags.specs.declared.value.Value.{Value}
use Rattle.tags.specs.declared.value.Value.TheVariants.{Int, Fault}
use Rattle.tags.specs.declared.value.Origin.{Origin}
use Rattle.tags.specs.declared.value.FaultKind.TheVariants.{Range}
use Rattle.operators.specs.Values.{truth, Indexed, Place, Outside, index_in}
use Rattle.semantics.specs.declared.graph.Region.{Region}
use Rattle.semantics.specs.declared.graph.Region.TheVariants.{Root, Arm}
use Rattle.semantics.specs.declared.graph.Kind.{Kind}
use Rattle.semantics.specs.declared.graph.Kind.TheVariants.{Lit, Apply1, Apply2, Cond, Enter, Merge, Fetch, Store, Call, StrictCall, Loop}
use Rattle.semantics.specs.Graph.{Node as Row, Block, Graph, flow_of}
use Rattle.semantics.specs.Meaning.{Context, same_side, block_number, block_numbered, block_of, callee, callee_of, callee_in}
use Rattle.semantics.specs.Meaning as Meaning
use Rattle.oracle.specs.declared.invocations.Made.{Made}
use Rattle.oracle.specs.declared.invocations.Made.TheVariants.{Main, Called, Turned}
use Rattle.oracle.specs.declared.invocations.Invocation.{Invocation}
use Rattle.oracle.specs.declared.lines.Line.{Line}
use Rattle.oracle.specs.declared.lines.Line.TheVariants.{Input, Nothing}
use Rattle.oracle.specs.declared.shapes.Shape.{Shape}
use Rattle.oracle.specs.declared.shapes.Shape.TheVariants.{Fires, Gates, Passes, Returns, Turns, Outputs}
use Rattle.oracle.specs.Deeds.{Deed, Sends, Enters, Stops}
use Rattle.oracle.specs.Lines.{line_of, line_in, line_of_row, resolved_in, origin_of, first_of, len_of}
use Rattle.oracle.specs.Acting.{line_deed, fires_deed, input_deed, fired_deed, one_deed, two_deed, fetch_deed, store_deed, gated_deed, passed_deed}
use Rattle.oracle.specs.Acting.{turned_deed, returned_deed, shown_deed, next_turn, deed_in, node_gated, node_passed}
use Rattle.oracle.specs.Meant.{name_in, made_of}
use Rattle.oracle.specs.Agreeing.{block_in, row_in}
use Rattle.oracle.specs.Naming.{IsBelow, IsKnown}
use Rattle.oracle.proofs.Resolved.{block_same, rows_same}

abbrev KnownIf : Graph → List Context → ℕ → List Value → Option Deed → Type 0
KnownIf g cs m vs None = ⊤
KnownIf g cs m vs (Some d) = IsKnown g cs m vs d

fetch_known : (g : Graph) (cs : List Context) (m c n first : ℕ) (v : Value) (i : Indexed) → c < m → IsKnown g cs m (v ∷ []) (fetch_deed c n first i)
fetch_known g cs m c n first v (Outside w) h = h
fetch_known g cs m c n first v (Place i) h = (h, refl)

store_known : (g : Graph) (cs : List Context) (vs : List Value) (m c n a len : ℕ) (v w : Value) (o : Origin) → len ≡ len_of g.arrays a → c < m
    → IsKnown g cs m vs (store_deed c n (first_of g.arrays a) a w (index_in len v o))
store_known g cs vs m c n a len (Int (pos i)) w o e h =
    let cases : (b : Bool) → nat_lt i len ≡ b → IsKnown g cs m vs (store_deed c n (first_of g.arrays a) a w (if b then Place i else Outside (Fault Range o)))
    = λ b. elim b as (λ b. nat_lt i len ≡ b → IsKnown g cs m vs (store_deed c n (first_of g.arrays a) a w (if b then Place i else Outside (Fault Range o)))) [
      | true ↦ λ q. (h, refl, subst (λ k. i < k) e (ltb-true i len q))
      | false ↦ λ q. h
    ] in
    cases (nat_lt i len) refl
store_known g cs vs m c n a len (Int (negsuc i)) w o e h = h
store_known g cs vs m c n a len (Fault k p) w o e h = h

module _ (g : Graph) (cs : List Context) (m c block : ℕ) (low : c < m) (is : block_number (flow_of g) (name_in cs c) ≡ Some block) where
  found : block_of (flow_of g) (name_in cs c) ≡ option_map (block_in g) (slice_get g.blocks block)
  found = ap (block_numbered (flow_of g)) is ∙ block_same g block

  -- by what is at a number; a node line that invokes a block invokes it in the meaning
  line_cases : (n : ℕ) (P : Line → Type 0) → P Input → P Nothing
      → ((row : Row (List ℕ)) → callee_in (block_of (flow_of g) (name_in cs c)) n ≡ callee (resolved_in g row.kind) → P (line_of_row g (Some row)))
      → P (line_of g block n)
  line_cases n P at_input at_none rows =
      let goal_in : Option (List ℕ × Block (List ℕ)) → Type 0 = λ o. block_of (flow_of g) (name_in cs c) ≡ option_map (block_in g) o → P (line_in g o n) in
      let blocks : (o : Option (List ℕ × Block (List ℕ))) → goal_in o
      = λ o. elim o as (λ o. goal_in o) [
        | None ↦ λ q. at_none
        | Some b ↦ λ q.
            let sides : (t : Bool) → nat_lt n b.1.inputs ≡ t → P (if t then Input else line_of_row g (slice_get b.1.nodes (n - b.1.inputs)))
            = λ t. elim t as (λ t. nat_lt n b.1.inputs ≡ t → P (if t then Input else line_of_row g (slice_get b.1.nodes (n - b.1.inputs)))) [
              | true ↦ λ e. at_input
              | false ↦ λ e.
                  let each : (r : Option (Row (List ℕ))) → slice_get b.1.nodes (n - b.1.inputs) ≡ r → P (line_of_row g r)
                  = λ r. elim r as (λ r. slice_get b.1.nodes (n - b.1.inputs) ≡ r → P (line_of_row g r)) [
                    | None ↦ λ z. at_none
                    | Some row ↦ λ z. rows row (ap (λ o. callee_in o n) q ∙ ap callee_of (rows_same g b n e) ∙ ap (λ o. callee_of (option_map (row_in g) o)) z)
                  ] in
                  each (slice_get b.1.nodes (n - b.1.inputs)) refl
            ] in
            sides (nat_lt n b.1.inputs) refl
      ] in
      blocks (slice_get g.blocks block) found

  input_known : (n : ℕ) (vs : List Value) → KnownIf g cs m vs (input_deed c n vs)
  input_known n [] = tt
  input_known n (v ∷ []) = low
  input_known n (v ∷ w ∷ vs) = tt

  one_known : (n : ℕ) (kind : Kind ℕ) (v : Value) (o : Origin) → KnownIf g cs m (v ∷ []) (one_deed g c n kind v o)
  one_known n (Lit z) v o = low
  one_known n (Apply1 op) v o = low
  one_known n Cond v o = low
  one_known n (Fetch a) v o = fetch_known g cs m c n (first_of g.arrays a) v (index_in (len_of g.arrays a) v o) low
  one_known n kind v o = tt

  two_known : (n : ℕ) (kind : Kind ℕ) (v w : Value) (o : Origin) → KnownIf g cs m (v ∷ w ∷ []) (two_deed g c n kind v w o)
  two_known n (Apply2 op) v w o = low
  two_known n (Store a) v w o = store_known g cs (v ∷ w ∷ []) m c n a (len_of g.arrays a) v w o refl low
  two_known n kind v w o = tt

  fired_known : (n : ℕ) (kind : Kind ℕ) (vs : List Value) (o : Origin) → callee_in (block_of (flow_of g) (name_in cs c)) n ≡ callee kind
      → KnownIf g cs m vs (fired_deed g c n kind vs o)
  fired_known n (StrictCall f) vs o e = (low, e)
  fired_known n kind [] o e = tt
  fired_known n kind (v ∷ []) o e = one_known n kind v o
  fired_known n kind (v ∷ w ∷ []) o e = two_known n kind v w o
  fired_known n kind (v ∷ w ∷ u ∷ vs) o e = tt

  fires_known : (n : ℕ) (vs : List Value) → KnownIf g cs m vs (fires_deed g c block n vs)
  fires_known n vs =
      let o = origin_of g.version block n in
      line_cases n (λ l. KnownIf g cs m vs (line_deed g c n l vs o)) (input_known n vs) tt
      (λ row e. elim (length vs == length row.sources) as (λ b. KnownIf g cs m vs (if b then fired_deed g c n (resolved_in g row.kind) vs o else None)) [
        | true ↦ fired_known n (resolved_in g row.kind) vs o e
        | false ↦ tt
      ])

  gate_known : (n : ℕ) (v b : Value) (r : Region) (kind : Kind ℕ) → KnownIf g cs m (v ∷ b ∷ []) (node_gated c n r kind v b)
  gate_known n v b Root kind = tt
  gate_known n v b (Arm k side) Enter = elim (same_side (truth b) side) as (λ t. IsKnown g cs m (v ∷ b ∷ []) (if t then Sends c n 0 v else Stops))
      [ true ↦ low | false ↦ tt ]
  gate_known n v b (Arm k side) kind = tt

  pass_known : (n i : ℕ) (v : Value) (kind : Kind ℕ) → callee_in (block_of (flow_of g) (name_in cs c)) n ≡ callee kind
      → KnownIf g cs m (v ∷ []) (node_passed c n i kind v)
  pass_known n i v kind = elim kind as (λ kind. callee_in (block_of (flow_of g) (name_in cs c)) n ≡ callee kind
      → KnownIf g cs m (v ∷ []) (node_passed c n i kind v)) [
        | Lit z ↦ λ e. tt
        | Apply1 op ↦ λ e. tt
        | Apply2 op ↦ λ e. tt
        | Cond ↦ λ e. tt
        | Enter ↦ λ e. tt
        | Merge k ↦ λ e. low
        | Fetch a ↦ λ e. tt
        | Store a ↦ λ e. tt
        | Call f ↦ λ e. (low, e)
        | StrictCall f ↦ λ e. tt
        | Loop f k ↦ λ e. (low, e)
      ]

  gates_known : (n : ℕ) (v b : Value) → KnownIf g cs m (v ∷ b ∷ []) (gated_deed c n (line_of g block n) v b)
  gates_known n v b = line_cases n (λ l. KnownIf g cs m (v ∷ b ∷ []) (gated_deed c n l v b)) tt tt
      (λ row e. gate_known n v b row.region (resolved_in g row.kind))

  passes_known : (n i : ℕ) (v : Value) → KnownIf g cs m (v ∷ []) (passed_deed c n i (line_of g block n) v)
  passes_known n i v = line_cases n (λ l. KnownIf g cs m (v ∷ []) (passed_deed c n i l v)) tt tt (λ row e. pass_known n i v (resolved_in g row.kind) e)

  turn_known : (made : Made) (j : ℕ) (b v : Value) → IsBelow m made → made_of cs made ≡ name_in cs c
      → KnownIf g cs m (b ∷ v ∷ []) (turned_deed made block j b v)
  turn_known Main j b v h e = tt
  turn_known (Called by n) j b v h e = tt
  turn_known (Turned by n i) j b v h e =
      let same : block_number (flow_of g) (Meaning.Turned (name_in cs by) n i) ≡ Some block = ap (block_number (flow_of g)) e ∙ is in
      elim (truth b) as (λ t. KnownIf g cs m (b ∷ v ∷ []) (if t then next_turn by n i block j v else Some (Sends by n (j - 1) v))) [
        | true ↦ elim (nat_lt (i + 1) (2 ^ 64)) as (λ u. KnownIf g cs m (b ∷ v ∷ []) (if u then Some (Enters (Turned by n (i + 1)) block (j - 1) v)
            else None)) [ true ↦ (h, same) | false ↦ tt ]
        | false ↦ h
      ]

  return_known : (made : Made) (j : ℕ) (v : Value) → IsBelow m made → KnownIf g cs m (v ∷ []) (returned_deed made j v)
  return_known Main j v h = tt
  return_known (Called by n) j v h = h
  return_known (Turned by n i) j v h = tt

  show_known : (made : Made) (j : ℕ) (v : Value) → KnownIf g cs m (v ∷ []) (shown_deed made j v)
  show_known Main j v = tt
  show_known (Called by n) j v = tt
  show_known (Turned by n i) j v = tt

known_in : (g : Graph) (cs : List Context) (m c : ℕ) (x : Invocation) → c < m → IsBelow m x.made → made_of cs x.made ≡ name_in cs c
    → block_number (flow_of g) (name_in cs c) ≡ Some x.block
    → (shape : Shape) (vs : List Value) → KnownIf g cs m vs (deed_in g c x shape vs)
known_in g cs m c x low by made is (Fires n k) vs = fires_known g cs m c x.block low is n vs
known_in g cs m c x low by made is (Gates n) [] = tt
known_in g cs m c x low by made is (Gates n) (v ∷ []) = tt
known_in g cs m c x low by made is (Gates n) (v ∷ b ∷ []) = gates_known g cs m c x.block low is n v b
known_in g cs m c x low by made is (Gates n) (v ∷ b ∷ w ∷ vs) = tt
known_in g cs m c x low by made is (Passes n i) [] = tt
known_in g cs m c x low by made is (Passes n i) (v ∷ []) = passes_known g cs m c x.block low is n i v
known_in g cs m c x low by made is (Passes n i) (v ∷ w ∷ vs) = tt
known_in g cs m c x low by made is (Returns j) [] = tt
known_in g cs m c x low by made is (Returns j) (v ∷ []) = return_known g cs m c x.block low is x.made j v by
known_in g cs m c x low by made is (Returns j) (v ∷ w ∷ vs) = tt
known_in g cs m c x low by made is (Turns j) [] = tt
known_in g cs m c x low by made is (Turns j) (v ∷ []) = tt
known_in g cs m c x low by made is (Turns j) (b ∷ v ∷ []) = turn_known g cs m c x.block low is x.made j b v by made
known_in g cs m c x low by made is (Turns j) (b ∷ v ∷ w ∷ vs) = tt
known_in g cs m c x low by made is (Outputs j) [] = tt
known_in g cs m c x low by made is (Outputs j) (v ∷ []) = show_known g cs m c x.block low is x.made j v
known_in g cs m c x low by made is (Outputs j) (v ∷ w ∷ vs) = tt

pub known_law : (g : Graph) (cs : List Context) (m c : ℕ) (x : Invocation) → c < m → IsBelow m x.made → made_of cs x.made ≡ name_in cs c
    → block_number (flow_of g) (name_in cs c) ≡ Some x.block
    → (shape : Shape) (vs : List Value) (d : Deed) → deed_in g c x shape vs ≡ Some d → IsKnown g cs m vs d
known_law g cs m c x low by made is shape vs d e = let P : Option Deed → Type 0 = KnownIf g cs m vs in subst P e (known_in g cs m c x low by made is shape vs)
