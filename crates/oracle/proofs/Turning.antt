-- What else a deed may name: the turn of an iteration, which no run brings above its length, and an output, which main
-- has.
use Rattle.std.proofs.Common.{◌≡◌, ℕ, suc, ◌+◌, ◌-◌, ◌<◌, ◌^◌, ℤ, true, false, ◌==◌, List, [], ◌∷◌, length, Option, Some, None, nat_lt, slice_get}
use Rattle.std.proofs.Common.{if◌then◌else◌, refl, sym, ap, ◌∙◌, subst, arith, ⊎_elim}
use Rattle.std.specs.Prelude.{⊤, option_map}
use Rattle.std.proofs.lemmas.Option.{same_Some}
use Rattle.tags.specs.declared.value.Value.{Value}
use Rattle.tags.specs.declared.value.Origin.{Origin}
use Rattle.operators.specs.Values.{truth, Indexed, Place, Outside, index_in}
use Rattle.semantics.specs.declared.graph.Region.{Region}
use Rattle.semantics.specs.declared.graph.Region.TheVariants.{Root, Arm}
use Rattle.semantics.specs.declared.graph.Kind.{Kind}
use Rattle.semantics.specs.declared.graph.Kind.TheVariants.{Lit, Apply1, Apply2, Cond, Enter, Merge, Fetch, Store, Call, StrictCall, Loop}
use Rattle.semantics.specs.Graph.{Block, Graph, flow_of}
use Rattle.semantics.specs.WellFormed.{WellFormed, IsBlockWell}
use Rattle.semantics.specs.Faithful.{inputs_of, inputs_in}
use Rattle.semantics.specs.Meaning.{Context, Statement, AtNode, AtOut, Port, Tagged, tagged, State, Activity, Run, start, same_side, block_of, Message}
use Rattle.semantics.specs.Meaning as Meaning
use Rattle.lemmas.proofs.Permutations.{Within, within_right}
use Rattle.lemmas.proofs.Alls.{all_at}
use Rattle.law_confluence.proofs.ActivityUses.{UseOf, AsOperand, AsResult, AsFlag, AsCarried, Member, source_within}
use Rattle.law_confluence.proofs.History.{at_start, run_history}
use Rattle.law_confluence.proofs.OutcomeResolved.{flow_well, fits}
use Rattle.oracle.specs.declared.invocations.Made.{Made}
use Rattle.oracle.specs.declared.invocations.Made.TheVariants.{Main, Called, Turned}
use Rattle.oracle.specs.declared.invocations.Invocation.{Invocation}
use Rattle.oracle.specs.declared.lines.Line.{Line}
use Rattle.oracle.specs.declared.lines.Line.TheVariants.{Input, Node, Nothing}
use Rattle.oracle.specs.declared.shapes.Shape.{Shape}
use Rattle.oracle.specs.declared.shapes.Shape.TheVariants.{Fires, Gates, Passes, Returns, Turns, Outputs}
use Rattle.oracle.specs.Deeds.{Deed, Sends, Enters, EntersAll, Stops}
use Rattle.oracle.specs.Lines.{line_of, origin_of, first_of, len_of, inputs_in as own_inputs, inputs_at, outputs_at, outputs_in}
use Rattle.oracle.specs.Acting.{fetch_deed, store_deed, one_deed, two_deed, input_deed, fired_deed, line_deed, node_gated, gated_deed, node_passed}
use Rattle.oracle.specs.Acting.{passed_deed, next_turn, turned_deed, returned_deed, shown_deed, deed_in}
use Rattle.oracle.specs.Running.{main_place}
use Rattle.oracle.specs.Agreeing.{block_in}
use Rattle.oracle.proofs.Resolved.{block_same}
use Rattle.oracle.proofs.Views.{TurnBelow}

-- TURNS

abbrev pub DeedTurn : ℕ → Deed → Type 0
DeedTurn k (Enters made f i v) = TurnBelow (suc k) made
DeedTurn k (EntersAll made f) = TurnBelow (suc k) made
DeedTurn k d = ⊤

abbrev TurnIf : ℕ → Option Deed → Type 0
TurnIf k None = ⊤
TurnIf k (Some d) = DeedTurn k d

pub turn_more : (k : ℕ) (made : Made) → TurnBelow k made → TurnBelow (suc k) made
turn_more k Main h = tt
turn_more k (Called by n) h = tt
turn_more k (Turned by n i) h = omega (arith, h)

module _ (g : Graph) (k c n : ℕ) where
  fetch_turn : (first : ℕ) (i : Indexed) → DeedTurn k (fetch_deed c n first i)
  fetch_turn first (Outside v) = tt
  fetch_turn first (Place i) = tt

  store_turn : (first a : ℕ) (v : Value) (i : Indexed) → DeedTurn k (store_deed c n first a v i)
  store_turn first a v (Outside w) = tt
  store_turn first a v (Place i) = tt

  one_turn : (kind : Kind ℕ) (v : Value) (o : Origin) → TurnIf k (one_deed g c n kind v o)
  one_turn (Lit z) v o = tt
  one_turn (Apply1 op) v o = tt
  one_turn Cond v o = tt
  one_turn (Fetch a) v o = fetch_turn (first_of g.arrays a) (index_in (len_of g.arrays a) v o)
  one_turn kind v o = tt

  two_turn : (kind : Kind ℕ) (v w : Value) (o : Origin) → TurnIf k (two_deed g c n kind v w o)
  two_turn (Apply2 op) v w o = tt
  two_turn (Store a) v w o = store_turn (first_of g.arrays a) a w (index_in (len_of g.arrays a) v o)
  two_turn kind v w o = tt

  fired_turn : (kind : Kind ℕ) (vs : List Value) (o : Origin) → TurnIf k (fired_deed g c n kind vs o)
  fired_turn (StrictCall f) vs o = tt
  fired_turn kind [] o = tt
  fired_turn kind (v ∷ []) o = one_turn kind v o
  fired_turn kind (v ∷ w ∷ []) o = two_turn kind v w o
  fired_turn kind (v ∷ w ∷ u ∷ vs) o = tt

  input_turn : (vs : List Value) → TurnIf k (input_deed c n vs)
  input_turn [] = tt
  input_turn (v ∷ []) = tt
  input_turn (v ∷ w ∷ vs) = tt

  line_turn : (l : Line) (vs : List Value) (o : Origin) → TurnIf k (line_deed g c n l vs o)
  line_turn Input vs o = input_turn vs
  line_turn (Node r kind arity) vs o = elim (length vs == arity) as (λ b. TurnIf k (if b then fired_deed g c n kind vs o else None))
      [ true ↦ fired_turn kind vs o | false ↦ tt ]
  line_turn Nothing vs o = tt

  gated_turn : (r : Region) (kind : Kind ℕ) (v b : Value) → TurnIf k (node_gated c n r kind v b)
  gated_turn Root kind v b = tt
  gated_turn (Arm m side) Enter v b = elim (same_side (truth b) side) as (λ t. DeedTurn k (if t then Sends c n 0 v else Stops)) [ true ↦ tt | false ↦ tt ]
  gated_turn (Arm m side) kind v b = tt

  gate_turn : (l : Line) (v b : Value) → TurnIf k (gated_deed c n l v b)
  gate_turn Input v b = tt
  gate_turn (Node r kind arity) v b = gated_turn r kind v b
  gate_turn Nothing v b = tt

  passed_turn : (i : ℕ) (kind : Kind ℕ) (v : Value) → TurnIf k (node_passed c n i kind v)
  passed_turn i (Merge m) v = tt
  passed_turn i (Call f) v = tt
  passed_turn i (Loop f m) v = omega arith
  passed_turn i kind v = tt

  pass_turn : (i : ℕ) (l : Line) (v : Value) → TurnIf k (passed_deed c n i l v)
  pass_turn i Input v = tt
  pass_turn i (Node r kind arity) v = passed_turn i kind v
  pass_turn i Nothing v = tt

turns_turn : (k : ℕ) (made : Made) → TurnBelow k made → (block j : ℕ) (b v : Value) → TurnIf k (turned_deed made block j b v)
turns_turn k Main h block j b v = tt
turns_turn k (Called by n) h block j b v = tt
turns_turn k (Turned by n i) h block j b v =
    elim (truth b) as (λ t. TurnIf k (if t then next_turn by n i block j v else Some (Sends by n (j - 1) v))) [
      | true ↦ elim (nat_lt (i + 1) (2 ^ 64)) as (λ u. TurnIf k (if u then Some (Enters (Turned by n (i + 1)) block (j - 1) v) else None))
          [ true ↦ omega (arith, h) | false ↦ tt ]
      | false ↦ tt
    ]

return_turn : (k : ℕ) (made : Made) (j : ℕ) (v : Value) → TurnIf k (returned_deed made j v)
return_turn k Main j v = tt
return_turn k (Called by n) j v = tt
return_turn k (Turned by n i) j v = tt

show_turn : (k : ℕ) (made : Made) (j : ℕ) (v : Value) → TurnIf k (shown_deed made j v)
show_turn k Main j v = tt
show_turn k (Called by n) j v = tt
show_turn k (Turned by n i) j v = tt

turn_in : (g : Graph) (k c : ℕ) (x : Invocation) → TurnBelow k x.made → (shape : Shape) (vs : List Value) → TurnIf k (deed_in g c x shape vs)
turn_in g k c x h (Fires n m) vs = line_turn g k c n (line_of g x.block n) vs (origin_of g.version x.block n)
turn_in g k c x h (Gates n) [] = tt
turn_in g k c x h (Gates n) (v ∷ []) = tt
turn_in g k c x h (Gates n) (v ∷ b ∷ []) = gate_turn g k c n (line_of g x.block n) v b
turn_in g k c x h (Gates n) (v ∷ b ∷ w ∷ vs) = tt
turn_in g k c x h (Passes n i) [] = tt
turn_in g k c x h (Passes n i) (v ∷ []) = pass_turn g k c n i (line_of g x.block n) v
turn_in g k c x h (Passes n i) (v ∷ w ∷ vs) = tt
turn_in g k c x h (Returns j) [] = tt
turn_in g k c x h (Returns j) (v ∷ []) = return_turn k x.made j v
turn_in g k c x h (Returns j) (v ∷ w ∷ vs) = tt
turn_in g k c x h (Turns j) [] = tt
turn_in g k c x h (Turns j) (v ∷ []) = tt
turn_in g k c x h (Turns j) (b ∷ v ∷ []) = turns_turn k x.made h x.block j b v
turn_in g k c x h (Turns j) (b ∷ v ∷ w ∷ vs) = tt
turn_in g k c x h (Outputs j) [] = tt
turn_in g k c x h (Outputs j) (v ∷ []) = show_turn k x.made j v
turn_in g k c x h (Outputs j) (v ∷ w ∷ vs) = tt

pub turn_law : (g : Graph) (k c : ℕ) (x : Invocation) → TurnBelow k x.made → (shape : Shape) (vs : List Value) (d : Deed) → deed_in g c x shape vs
    ≡ Some d → DeedTurn k d
turn_law g k c x h shape vs d e = let P : Option Deed → Type 0 = TurnIf k in subst P e (turn_in g k c x h shape vs)

-- INPUTS AND OUTPUTS

pub inputs_same : (g : Graph) → inputs_at g (main_place g) ≡ inputs_of (flow_of g)
inputs_same g =
    let cases : (o : Option (List ℕ × Block (List ℕ))) → slice_get g.blocks (main_place g) ≡ o → inputs_at g (main_place g)
    ≡ inputs_in (option_map (block_in g) o)
    = λ o. elim o as (λ o. slice_get g.blocks (main_place g) ≡ o → inputs_at g (main_place g) ≡ inputs_in (option_map (block_in g) o)) [
      | None ↦ λ e. ap own_inputs e
      | Some b ↦ λ e. ap own_inputs e
    ] in
    cases (slice_get g.blocks (main_place g)) refl ∙ ap inputs_in (sym (block_same g (main_place g)))

use_low : (b : Block ℕ) (c : Context) (n p j : ℕ) (q : Port) → UseOf b c n p (AtOut j) q → j < length b.results
use_low b c n p j q (AsOperand m i node es eq low line src) = cc
use_low b c n p j q (AsResult i es eq src) = let same : i ≡ j = cc in subst (λ i. i < length b.results) same (source_within n p b.results i src)
use_low b c n p j q (AsFlag i es eq low high src t) = cc
use_low b c n p j q (AsCarried i es eq low src) = cc

module _ (g : Graph) (well : WellFormed g) where
  main_results : (b : Block ℕ) → block_of (flow_of g) Meaning.Main ≡ Some b → length b.results ≡ outputs_at g (main_place g)
  main_results b e =
      let cases : (o : Option (List ℕ × Block (List ℕ))) → slice_get g.blocks (main_place g) ≡ o → option_map (block_in g) o ≡ Some b
      → length b.results ≡ outputs_at g (main_place g)
      = λ o. elim o as (λ o. slice_get g.blocks (main_place g) ≡ o → option_map (block_in g) o ≡ Some b → length b.results ≡ outputs_at g (main_place g)) [
        | None ↦ λ q h. cc
        | Some named ↦ λ q h.
            let same : block_in g named ≡ b = same_Some (block_in g named) b h in
            let here : IsBlockWell g named.1 = all_at (λ (named : List ℕ × Block (List ℕ)). IsBlockWell g named.1) g.blocks (main_place g) named
            well.blocks q in
            ap (λ (b : Block ℕ). length b.results) (sym same) ∙ here.result_count ∙ ap outputs_in (sym q)
      ] in
      cases (slice_get g.blocks (main_place g)) refl (sym (block_same g (main_place g)) ∙ e)

  member_low : (m : Message) (j : ℕ) (q : Port) (v : Value) → Member (flow_of g) m (tagged Meaning.Main (AtOut j) q v) → j < outputs_at g (main_place g)
  member_low (Meaning.Sends c n p w) j q v h =
      let b = h.2 in
      let main : block_of (flow_of g) Meaning.Main ≡ Some b.0 = ap (block_of (flow_of g)) h.0 ∙ b.1 in
      subst (λ k. j < k) (main_results b.0 main) (use_low b.0 c n p j q b.2)
  member_low (Meaning.Steers c k w) j q v h = let no = h.3.5 in cc
  member_low (Meaning.Enters c from vs) j q v h = let no = h.2.2 in cc
  member_low Meaning.Nothing j q v h = absurd h

  -- A token at a result of main is at one of its outputs.
  pub out_low : (inputs : List ℤ) → length inputs ≡ inputs_of (flow_of g) → (s : State) (run : List Activity) → Run (flow_of g) (start inputs) run s
      → (j : ℕ) (q : Port) (v : Value) → Within (tagged Meaning.Main (AtOut j) q v) s.tokens → j < outputs_at g (main_place g)
  out_low inputs fit s run r j q v h =
      let past = run_history (flow_of g) (flow_well g well) inputs (fits g well inputs fit) s run r in
      let t = tagged Meaning.Main (AtOut j) q v in
      ⊎_elim (λ first. member_low (at_start inputs) j q v first) (λ c. member_low c.message j q v c.member) (past.1.caused t (within_right t past.0 s.tokens h))
