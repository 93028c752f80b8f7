-- An activity by numbers of invocations is an activity of the meaning.
use Rattle.std.proofs.Common.{◌≡◌, ℕ, ◌+◌, ◌-◌, ◌^◌, ◌&&◌, Bool, true, false, List, [], ◌∷◌, length, Option, Some, None, nat_lt, ◌==◌, slice_get}
use Rattle.std.proofs.Common.{if◌then◌else◌, refl, sym, ap, ◌∙◌, arith, lt-ltb}
use Rattle.std.specs.Prelude.{option_map}
use Rattle.std.proofs.lemmas.Option.{slice_get_within}
use Rattle.lemmas.proofs.Alls.{all_at}
use Rattle.tags.specs.declared.value.Value.{Value}
use Rattle.tags.specs.declared.value.Origin.TheVariants.{Untold, At}
use Rattle.operators.specs.Values.{truth}
use Rattle.semantics.specs.declared.graph.Region.{Region}
use Rattle.semantics.specs.declared.graph.Region.TheVariants.{Root, Arm}
use Rattle.semantics.specs.declared.graph.Kind.{Kind}
use Rattle.semantics.specs.declared.graph.Kind.TheVariants.{Enter}
use Rattle.semantics.specs.Graph.{Node as Row, Block, Graph, flow_of, node_at}
use Rattle.semantics.specs.Text.{HasText, HasBlockText}
use Rattle.semantics.specs.Meaning.{Context, origin_at, same_side, block_number, block_numbered, block_of, on_block, on_node, fired_in, Activity, deed}
use Rattle.semantics.specs.Meaning as Meaning
use Rattle.oracle.specs.declared.invocations.Made.TheVariants.{Main, Called, Turned}
use Rattle.oracle.specs.declared.invocations.Invocation.{Invocation}
use Rattle.oracle.specs.declared.lines.Line.{Line}
use Rattle.oracle.specs.declared.lines.Line.TheVariants.{Input, Nothing}
use Rattle.oracle.specs.declared.shapes.Shape.{Shape}
use Rattle.oracle.specs.declared.shapes.Shape.TheVariants.{Fires, Gates, Passes, Returns, Turns, Outputs}
use Rattle.oracle.specs.Deeds.{Deed, Sends, Enters, Stops}
use Rattle.oracle.specs.Lines.{line_of, line_in, line_of_row, resolved_in, origin_of}
use Rattle.oracle.specs.Acting.{line_deed, fires_deed, input_deed, fired_deed, gated_deed, passed_deed, turned_deed, returned_deed, shown_deed}
use Rattle.oracle.specs.Acting.{next_turn, deed_in, node_gated}
use Rattle.oracle.specs.Meant.{name_in, deed_of, activity_of}
use Rattle.oracle.specs.Agreeing.{block_in, row_in}
use Rattle.oracle.proofs.Resolved.{block_same, rows_same}
use Rattle.oracle.proofs.DeedLaws.{fired_same, passed_same}

mapped : (cs : List Context) (vs : List Value) (o : Option Deed) (d : Deed) → o ≡ Some d → option_map (deed_of cs vs) o ≡ Some (deed_of cs vs d)
mapped cs vs o d e = ap (option_map (deed_of cs vs)) e

module _ (g : Graph) (text : HasText g) (cs : List Context) (c block : ℕ) (is : block_number (flow_of g) (name_in cs c) ≡ Some block) where
  -- origins within the limits
  origin_same : (b : List ℕ × Block (List ℕ)) (n : ℕ) (row : Row (List ℕ)) → slice_get g.blocks block ≡ Some b → nat_lt n b.1.inputs ≡ false
      → slice_get b.1.nodes (n - b.1.inputs) ≡ Some row
      → origin_of g.version block n ≡ origin_at (flow_of g) (name_in cs c) n
  origin_same b n row eb eh er =
      let few = slice_get_within g.blocks block b eb in
      let here : HasBlockText g.version b = all_at (HasBlockText g.version) g.blocks block b text.blocks eb in
      let size = here.size in
      let low = slice_get_within b.1.nodes (n - b.1.inputs) row er in
      let count = text.few_blocks in
      let one : nat_lt block 256 ≡ true = lt-ltb block 256 (omega (arith, few, count)) in
      let two : nat_lt n 1024 ≡ true = lt-ltb n 1024 (omega (arith, low, size)) in
      ap (λ (t : Bool). if nat_lt g.version 2 then Untold else if t && nat_lt n 1024 then At block n else Untold) one
      ∙ ap (λ (t : Bool). if nat_lt g.version 2 then Untold else if t then At block n else Untold) two
      ∙ ap (λ (o : Option ℕ). Meaning.origin_in g.version o n) (sym is)

  row_law : (b : List ℕ × Block (List ℕ)) (n : ℕ) (vs : List Value) (d : Deed) (o : Option (Row (List ℕ))) → slice_get g.blocks block ≡ Some b
      → nat_lt n b.1.inputs ≡ false → slice_get b.1.nodes (n - b.1.inputs) ≡ o
      → line_deed g c n (line_of_row g o) vs (origin_of g.version block n) ≡ Some d
      → on_node (option_map (row_in g) o) (λ (node : Row ℕ). if length vs == length node.sources then Meaning.fired (flow_of g) (name_in cs c) n
      node.kind vs else None) ≡ Some (deed_of cs vs d)
  row_law b n vs d None eb eh er e = cc
  row_law b n vs d (Some row) eb eh er e =
      let kind = resolved_in g row.kind in
      let here : (t : Bool) → (if t then fired_deed g c n kind vs (origin_of g.version block n) else None) ≡ Some d
      → (if t then Meaning.fired (flow_of g) (name_in cs c) n kind vs else None) ≡ Some (deed_of cs vs d)
      = λ t. elim t as (λ t. (if t then fired_deed g c n kind vs (origin_of g.version block n) else None) ≡ Some d
      → (if t then Meaning.fired (flow_of g) (name_in cs c) n kind vs else None) ≡ Some (deed_of cs vs d)) [
        | true ↦ λ e. sym (fired_same g cs c n kind vs) ∙ ap (λ o. option_map (deed_of cs vs) (fired_deed g c n kind vs o))
            (sym (origin_same b n row eb eh er)) ∙ mapped cs vs _ d e
        | false ↦ λ e. cc
      ] in
      here (length vs == length row.sources) e

  inputs_law : (n : ℕ) (vs : List Value) (d : Deed) → input_deed c n vs ≡ Some d → Meaning.input_passed (name_in cs c) n vs ≡ Some (deed_of cs vs d)
  inputs_law n [] d e = cc
  inputs_law n (v ∷ []) d e = mapped cs (v ∷ []) _ d e
  inputs_law n (v ∷ w ∷ vs) d e = cc

  side_law : (b : List ℕ × Block (List ℕ)) (n : ℕ) (vs : List Value) (d : Deed) (t : Bool) → slice_get g.blocks block ≡ Some b → nat_lt n b.1.inputs ≡ t
      → line_deed g c n (if t then Input else line_of_row g (slice_get b.1.nodes (n - b.1.inputs))) vs (origin_of g.version block n) ≡ Some d
      → fired_in (flow_of g) (name_in cs c) n vs (block_in g b) ≡ Some (deed_of cs vs d)
  side_law b n vs d true eb eh e = ap (λ (t : Bool). if t then Meaning.input_passed (name_in cs c) n vs else on_node (node_at (block_in g b) n)
      (λ (node : Row ℕ). if length vs == length node.sources then Meaning.fired (flow_of g) (name_in cs c) n node.kind vs else None)) eh
      ∙ inputs_law n vs d e
  side_law b n vs d false eb eh e =
      let f = λ (node : Row ℕ). if length vs == length node.sources then Meaning.fired (flow_of g) (name_in cs c) n node.kind vs else None in
      ap (λ (t : Bool). if t then Meaning.input_passed (name_in cs c) n vs else on_node (node_at (block_in g b) n) f) eh
      ∙ ap (λ o. on_node o f) (rows_same g b n eh)
      ∙ row_law b n vs d (slice_get b.1.nodes (n - b.1.inputs)) eb eh refl e

  block_law : (n : ℕ) (vs : List Value) (d : Deed) (o : Option (List ℕ × Block (List ℕ))) → slice_get g.blocks block ≡ o
      → line_deed g c n (line_in g o n) vs (origin_of g.version block n) ≡ Some d
      → on_block (option_map (block_in g) o) (fired_in (flow_of g) (name_in cs c) n vs) ≡ Some (deed_of cs vs d)
  block_law n vs d None eb e = cc
  block_law n vs d (Some b) eb e = side_law b n vs d (nat_lt n b.1.inputs) eb refl e

  found : block_of (flow_of g) (name_in cs c) ≡ option_map (block_in g) (slice_get g.blocks block)
  found = ap (block_numbered (flow_of g)) is ∙ block_same g block

  pub fires_law : (n : ℕ) (vs : List Value) (d : Deed) → fires_deed g c block n vs ≡ Some d → on_block (block_of (flow_of g) (name_in cs c))
      (fired_in (flow_of g) (name_in cs c) n vs) ≡ Some (deed_of cs vs d)
  fires_law n vs d e = ap (λ o. on_block o (fired_in (flow_of g) (name_in cs c) n vs)) found ∙ block_law n vs d (slice_get g.blocks block) refl e

  -- what only a node line has
  lines_law : (n : ℕ) (h : Line → Option Deed) (k : Row ℕ → Option Meaning.Deed) (d : Deed) (e : Meaning.Deed) → h Input ≡ None → h Nothing ≡ None
      → ((row : Row (List ℕ)) → h (line_of_row g (Some row)) ≡ Some d → k (row_in g row) ≡ Some e)
      → (b : List ℕ × Block (List ℕ)) (t : Bool) → nat_lt n b.1.inputs ≡ t
      → h (if t then Input else line_of_row g (slice_get b.1.nodes (n - b.1.inputs))) ≡ Some d → on_node (node_at (block_in g b) n) k ≡ Some e
  lines_law n h k d e none_in none_out rows b true eh is_d = let no : None ≡ Some d = sym none_in ∙ is_d in cc
  lines_law n h k d e none_in none_out rows b false eh is_d =
      let last : (o : Option (Row (List ℕ))) → h (line_of_row g o) ≡ Some d → on_node (option_map (row_in g) o) k ≡ Some e
      = λ o. elim o as (λ o. h (line_of_row g o) ≡ Some d → on_node (option_map (row_in g) o) k ≡ Some e) [
        | None ↦ λ q. let no : None ≡ Some d = sym none_out ∙ q in cc
        | Some row ↦ λ q. rows row q
      ] in
      ap (λ o. on_node o k) (rows_same g b n eh) ∙ last (slice_get b.1.nodes (n - b.1.inputs)) is_d

  all_lines : (n : ℕ) (h : Line → Option Deed) (k : Row ℕ → Option Meaning.Deed) (d : Deed) (e : Meaning.Deed) → h Input ≡ None → h Nothing ≡ None
      → ((row : Row (List ℕ)) → h (line_of_row g (Some row)) ≡ Some d → k (row_in g row) ≡ Some e)
      → h (line_of g block n) ≡ Some d → on_block (block_of (flow_of g) (name_in cs c)) (λ (b : Block ℕ). on_node (node_at b n) k) ≡ Some e
  all_lines n h k d e none_in none_out rows is_d =
      let last : (o : Option (List ℕ × Block (List ℕ))) → h (line_in g o n) ≡ Some d
      → on_block (option_map (block_in g) o) (λ (b : Block ℕ). on_node (node_at b n) k) ≡ Some e
      = λ o. elim o as (λ o. h (line_in g o n) ≡ Some d → on_block (option_map (block_in g) o) (λ (b : Block ℕ). on_node (node_at b n) k) ≡ Some e) [
        | None ↦ λ q. let no : None ≡ Some d = sym none_out ∙ q in cc
        | Some b ↦ λ q. lines_law n h k d e none_in none_out rows b (nat_lt n b.1.inputs) refl q
      ] in
      ap (λ o. on_block o (λ (b : Block ℕ). on_node (node_at b n) k)) found ∙ last (slice_get g.blocks block) is_d

  gate_same : (n : ℕ) (v b : Value) (r : Region) (kind : Kind ℕ) → option_map (deed_of cs (v ∷ b ∷ [])) (node_gated c n r kind v b)
      ≡ Meaning.gated (name_in cs c) n v b r kind
  gate_same n v b Root kind = refl
  gate_same n v b (Arm k side) Enter =
      elim (same_side (truth b) side) as (λ t. Some (deed_of cs (v ∷ b ∷ []) (if t then Sends c n 0 v else Stops))
      ≡ Some (Meaning.Says (if t then Meaning.Sends (name_in cs c) n 0 v else Meaning.Nothing))) [ true ↦ refl | false ↦ refl ]
  gate_same n v b (Arm k side) kind = refl

  gates_law : (n : ℕ) (v b : Value) (d : Deed) → gated_deed c n (line_of g block n) v b ≡ Some d
      → deed (flow_of g) (Meaning.Gates (name_in cs c) n v b) ≡ Some (deed_of cs (v ∷ b ∷ []) d)
  gates_law n v b d e =
      all_lines n (λ l. gated_deed c n l v b) (λ (node : Row ℕ). Meaning.gated (name_in cs c) n v b node.region node.kind) d
      (deed_of cs (v ∷ b ∷ []) d) refl refl
      (λ row q. sym (gate_same n v b row.region (resolved_in g row.kind)) ∙ mapped cs (v ∷ b ∷ []) _ d q) e

  passes_law : (n i : ℕ) (v : Value) (d : Deed) → passed_deed c n i (line_of g block n) v ≡ Some d
      → deed (flow_of g) (Meaning.Passes (name_in cs c) n i v) ≡ Some (deed_of cs (v ∷ []) d)
  passes_law n i v d e =
      all_lines n (λ l. passed_deed c n i l v) (λ (node : Row ℕ). Meaning.passed (name_in cs c) n i v node.kind) d (deed_of cs (v ∷ []) d) refl refl
      (λ row q. sym (passed_same cs c n i (resolved_in g row.kind) v) ∙ mapped cs (v ∷ []) _ d q) e

turn_law : (g : Graph) (cs : List Context) (c by n i block j : ℕ) (b v : Value) (d : Deed) → turned_deed (Turned by n i) block j b v ≡ Some d
    → deed (flow_of g) (Meaning.Turns (name_in cs by) n i j b v) ≡ Some (deed_of cs (b ∷ v ∷ []) d)
turn_law g cs c by n i block j b v d e =
    let goes : (t : Bool) → (if t then next_turn by n i block j v else Some (Sends by n (j - 1) v)) ≡ Some d
    → Some (Meaning.Says (if t then Meaning.Enters (Meaning.Turned (name_in cs by) n (i + 1)) (j - 1) (v ∷ []) else Meaning.Sends (name_in cs by) n
    (j - 1) v)) ≡ Some (deed_of cs (b ∷ v ∷ []) d)
    = λ t. elim t as (λ t. (if t then next_turn by n i block j v else Some (Sends by n (j - 1) v)) ≡ Some d
    → Some (Meaning.Says (if t then Meaning.Enters (Meaning.Turned (name_in cs by) n (i + 1)) (j - 1) (v ∷ []) else Meaning.Sends (name_in cs by) n
    (j - 1) v)) ≡ Some (deed_of cs (b ∷ v ∷ []) d)) [
      | true ↦
          let small : (u : Bool) → (if u then Some (Enters (Turned by n (i + 1)) block (j - 1) v) else None) ≡ Some d
          → Some (Meaning.Says (Meaning.Enters (Meaning.Turned (name_in cs by) n (i + 1)) (j - 1) (v ∷ []))) ≡ Some (deed_of cs (b ∷ v ∷ []) d)
          = λ u. elim u as (λ u. (if u then Some (Enters (Turned by n (i + 1)) block (j - 1) v) else None) ≡ Some d
          → Some (Meaning.Says (Meaning.Enters (Meaning.Turned (name_in cs by) n (i + 1)) (j - 1) (v ∷ []))) ≡ Some (deed_of cs (b ∷ v ∷ []) d)) [
            | true ↦ λ q. mapped cs (b ∷ v ∷ []) _ d q
            | false ↦ λ q. cc
          ] in
          small (nat_lt (i + 1) (2 ^ 64))
      | false ↦ λ q. mapped cs (b ∷ v ∷ []) _ d q
    ] in
    goes (truth b) e

-- The deed of an activity's shape is the activity's own.
pub act_law : (g : Graph) → HasText g → (cs : List Context) (c : ℕ) (x : Invocation) → block_number (flow_of g) (name_in cs c) ≡ Some x.block
    → (shape : Shape) (vs : List Value) (d : Deed) → deed_in g c x shape vs ≡ Some d → deed (flow_of g) (activity_of cs c x.made shape vs)
    ≡ Some (deed_of cs vs d)
act_law g text cs c x is (Fires n k) vs d e = fires_law g text cs c x.block is n vs d e
act_law g text cs c x is (Gates n) [] d e = cc
act_law g text cs c x is (Gates n) (v ∷ []) d e = cc
act_law g text cs c x is (Gates n) (v ∷ b ∷ []) d e = gates_law g text cs c x.block is n v b d e
act_law g text cs c x is (Gates n) (v ∷ b ∷ w ∷ vs) d e = cc
act_law g text cs c x is (Passes n i) [] d e = cc
act_law g text cs c x is (Passes n i) (v ∷ []) d e = passes_law g text cs c x.block is n i v d e
act_law g text cs c x is (Passes n i) (v ∷ w ∷ vs) d e = cc
act_law g text cs c x is (Returns j) [] d e = cc
act_law g text cs c x is (Returns j) (v ∷ []) d e =
    elim x.made as (λ made. returned_deed made j v ≡ Some d → deed (flow_of g) (activity_of cs c made (Returns j) (v ∷ [])) ≡ Some (deed_of cs (v ∷ []) d)) [
      | Main ↦ λ q. cc
      | Called by n ↦ λ q. mapped cs (v ∷ []) _ d q
      | Turned by n i ↦ λ q. cc
    ] e
act_law g text cs c x is (Returns j) (v ∷ w ∷ vs) d e = cc
act_law g text cs c x is (Turns j) [] d e = cc
act_law g text cs c x is (Turns j) (v ∷ []) d e = cc
act_law g text cs c x is (Turns j) (b ∷ v ∷ []) d e =
    elim x.made as (λ made. turned_deed made x.block j b v ≡ Some d → deed (flow_of g) (activity_of cs c made (Turns j) (b ∷ v ∷ []))
    ≡ Some (deed_of cs (b ∷ v ∷ []) d)) [
      | Main ↦ λ q. cc
      | Called by n ↦ λ q. cc
      | Turned by n i ↦ λ q. turn_law g cs c by n i x.block j b v d q
    ] e
act_law g text cs c x is (Turns j) (b ∷ v ∷ w ∷ vs) d e = cc
act_law g text cs c x is (Outputs j) [] d e = cc
act_law g text cs c x is (Outputs j) (v ∷ []) d e =
    elim x.made as (λ made. shown_deed made j v ≡ Some d → deed (flow_of g) (activity_of cs c made (Outputs j) (v ∷ [])) ≡ Some (deed_of cs (v ∷ []) d)) [
      | Main ↦ λ q. mapped cs (v ∷ []) _ d q
      | Called by n ↦ λ q. cc
      | Turned by n i ↦ λ q. cc
    ] e
act_law g text cs c x is (Outputs j) (v ∷ w ∷ vs) d e = cc
