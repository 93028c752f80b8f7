-- THE STEPS OF A RUN, by the kinds of nodes: where its operands have values, a node happens.
use Rattle.std.proofs.Common.{◌≡◌, ℕ, ◌+◌, ◌-◌, ◌<◌, ℤ, Bool, List, [], ◌∷◌, length, Some, None, ◌==◌, if◌then◌else◌, refl, sym, ap}
use Rattle.std.proofs.Common.{ap₂, ◌∙◌, subst, arith, le-ltb, lt-ltb, eq-eqb, Contains}
use Rattle.std.specs.Prelude.{slice_get}
use Rattle.tags.specs.declared.value.Value.{Value}
use Rattle.operators.specs.Values.{truth}
use Rattle.semantics.specs.declared.graph.Region.TheVariants.{Arm}
use Rattle.semantics.specs.declared.graph.Source.{Source}
use Rattle.semantics.specs.declared.graph.Kind.TheVariants.{Enter}
use Rattle.semantics.specs.Graph.{Graph, Node, Block, Flow, flow_of, node_at}
use Rattle.semantics.specs.WellFormed.{WellFormed}
use Rattle.semantics.specs.Meaning.{Context, Main, Called, Turned, AtNode, AtOut, AtTurn, Operand, Predicate, Flag, Carried, tagged, Activity, Fires, Gates, Passes}
use Rattle.semantics.specs.Meaning.{Returns, Turns, Outputs, Deed, Says, Puts, Sends, Steers, Enters, Nothing, deed, fired, fired_in, input_passed, passed, gated, same_side}
use Rattle.semantics.specs.Meaning.{on_node, on_block, block_of}
use Rattle.law_confluence.specs.Outcome.{AreInputsOf}
use Rattle.law_confluence.specs.Equations.{Has}
use Rattle.law_confluence.proofs.EquationsGraphForms.{line_past}
use Rattle.law_confluence.proofs.EquationsRunUses.{operands_each, predicate_told}
use Rattle.law_language.specs.MeansAgrees.{Have}
use Rattle.law_language.proofs.MeansHaving.{have_source, have_length}
use Rattle.law_ordered_runs.specs.RunsGoOn.{Allows}
use Rattle.law_ordered_runs.proofs.Extending.{Going, Came, Extended, extend, said_came}
use Rattle.law_ordered_runs.proofs.UsesSent.{operand_came}

-- DEEDS
module _ (fl : Flow) (c : Context) (b : Block ℕ) (eb : block_of fl c ≡ Some b) where
  -- an input passes its value on
  pub deed_input : (i : ℕ) (v : Value) → i < b.inputs → deed fl (Fires c i (v ∷ [])) ≡ Some (Says (Sends c i 0 v))
  deed_input i v low =
      ap (λ o. on_block o (fired_in fl c i (v ∷ []))) eb
      ∙ ap (λ (t : Bool). if t then input_passed c i (v ∷ []) else on_node (node_at b i)
      (λ (node : Node ℕ). if length (v ∷ []) == length node.sources then fired fl c i node.kind (v ∷ []) else None)) (lt-ltb i b.inputs low)

  module _ (n : ℕ) (line : Node ℕ) (el : node_at b n ≡ Some line) where
    -- a node does what its kind says
    pub deed_fires : (vs : List Value) → length vs ≡ length line.sources → deed fl (Fires c n vs) ≡ fired fl c n line.kind vs
    deed_fires vs long =
        ap (λ o. on_block o (fired_in fl c n vs)) eb
        ∙ ap (λ (t : Bool). if t then input_passed c n vs else on_node (node_at b n)
        (λ (node : Node ℕ). if length vs == length node.sources then fired fl c n node.kind vs else None)) (le-ltb n b.inputs (line_past b n line el).0)
        ∙ ap (λ o. on_node o (λ (node : Node ℕ). if length vs == length node.sources then fired fl c n node.kind vs else None)) el
        ∙ ap (λ (t : Bool). if t then fired fl c n line.kind vs else None) (eq-eqb (length vs) (length line.sources) long)

    pub deed_passes : (i : ℕ) (v : Value) → deed fl (Passes c n i v) ≡ passed c n i v line.kind
    deed_passes i v =
        ap (λ o. on_block o (λ (k : Block ℕ). on_node (node_at k n) (λ (node : Node ℕ). passed c n i v node.kind))) eb
        ∙ ap (λ o. on_node o (λ (node : Node ℕ). passed c n i v node.kind)) el

    pub deed_gates : (v w : Value) → deed fl (Gates c n v w) ≡ gated c n v w line.region line.kind
    deed_gates v w =
        ap (λ o. on_block o (λ (k : Block ℕ). on_node (node_at k n) (λ (node : Node ℕ). gated c n v w node.region node.kind))) eb
        ∙ ap (λ o. on_node o (λ (node : Node ℕ). gated c n v w node.region node.kind)) el

module _ (g : Graph) (inputs : List ℤ) (well : WellFormed g) (count : AreInputsOf g inputs) (x : Going g inputs) where
  abbrev fl : Flow
  fl = flow_of g

  abbrev HaveAt : Context → List Source → List Value → Type 0
  HaveAt c xs vs = Have fl inputs x.run x.state x.is_run c xs vs

  abbrev HasAt : Context → Source → Value → Type 0
  HasAt c s v = Has fl inputs x.run x.state x.is_run c s v

  abbrev ExtendedBy : Activity → Deed → Type 0
  ExtendedBy a d = Extended g inputs well count x a d

  -- AN INPUT whose token has been present
  pub input_happens : (c : Context) (b : Block ℕ) → block_of fl c ≡ Some b → (i : ℕ) (v : Value) → i < b.inputs
      → Came g inputs well count x (tagged c (AtNode i) (Operand 0) v) → ExtendedBy (Fires c i (v ∷ [])) (Says (Sends c i 0 v))
  input_happens c b eb i v low came =
      extend g inputs well count x (Fires c i (v ∷ [])) (Says (Sends c i 0 v)) (deed_input fl c b eb i v low) (came, tt) tt

  module _ (c : Context) (b : Block ℕ) (eb : block_of fl c ≡ Some b) (n : ℕ) (line : Node ℕ) (el : node_at b n ≡ Some line) where
    -- A NODE that takes all its operands at once
    pub line_happens : (vs : List Value) (d : Deed) → HaveAt c line.sources vs → fired fl c n line.kind vs ≡ Some d → Allows x.state.memory d
        → ExtendedBy (Fires c n vs) d
    line_happens vs d h e ok =
        extend g inputs well count x (Fires c n vs) d
        (deed_fires fl c b eb n line el vs (sym (have_length fl inputs x.run x.state x.is_run c line.sources vs h)) ∙ e)
        (operands_each (Came g inputs well count x) c (AtNode n) 0 vs
        (λ i v f.
        let s = have_source fl inputs x.run x.state x.is_run c line.sources vs i v h f in
        subst (λ j. Came g inputs well count x (tagged c (AtNode n) (Operand j) v)) (omega arith) (operand_came g inputs well count x c b n i line s.0 v eb el s.1 s.2)))
        ok

    -- one that takes an operand by itself
    pub operand_happens : (i : ℕ) (s : Source) (v : Value) (d : Deed) → slice_get line.sources i ≡ Some s → HasAt c s v → passed c n i v line.kind ≡ Some d
        → Allows x.state.memory d → ExtendedBy (Passes c n i v) d
    operand_happens i s v d es h e ok =
        extend g inputs well count x (Passes c n i v) d (deed_passes fl c b eb n line el i v ∙ e) (operand_came g inputs well count x c b n i line s v eb el es h, tt) ok

    -- AN ENTER, where its conditional took a value: it sends its operand, or nothing
    pub enter_happens : (k : ℕ) (side : Bool) (s : Source) (v w : Value) → line.region ≡ Arm k side → line.kind ≡ Enter → slice_get line.sources 0 ≡ Some s
        → HasAt c s v → (a : Activity) → Contains x.run a → deed fl a ≡ Some (Says (Steers c k w))
        → ExtendedBy (Gates c n v w) (Says (if same_side (truth w) side then Sends c n 0 v else Nothing))
    enter_happens k side s v w er ek es h a happened e =
        extend g inputs well count x (Gates c n v w) (Says (if same_side (truth w) side then Sends c n 0 v else Nothing))
        (deed_gates fl c b eb n line el v w ∙ ap₂ (λ region kind. gated c n v w region kind) er ek) (
          operand_came g inputs well count x c b n 0 line s v eb el es h,
          (
            said_came g inputs well count x a (Says (Steers c k w)) (Steers c k w) happened e refl (tagged c (AtNode n) Predicate w)
                (predicate_told fl c b k n side line w eb el er ek),
            tt,
          ),
        ) tt

  -- A RESULT of a call, whose token has been present
  pub result_happens : (c : Context) (n j : ℕ) (v : Value) → Came g inputs well count x (tagged (Called c n) (AtOut j) (Operand 0) v)
      → ExtendedBy (Returns c n j v) (Says (Sends c n j v))
  result_happens c n j v came = extend g inputs well count x (Returns c n j v) (Says (Sends c n j v)) refl (came, tt) tt

  -- A RESULT of an iteration, with its flag: it is an input of the next, or one of the loop
  pub iteration_happens : (c : Context) (n t j : ℕ) (w v : Value) → Came g inputs well count x (tagged (Turned c n t) (AtTurn j) Flag w)
      → Came g inputs well count x (tagged (Turned c n t) (AtTurn j) Carried v)
      → ExtendedBy (Turns c n t j w v) (Says (if truth w then Enters (Turned c n (t + 1)) (j - 1) (v ∷ []) else Sends c n (j - 1) v))
  iteration_happens c n t j w v flag carried =
      extend g inputs well count x (Turns c n t j w v) (Says (if truth w then Enters (Turned c n (t + 1)) (j - 1) (v ∷ []) else Sends c n (j - 1) v)) refl
      (flag, (carried, tt)) tt

  -- A RESULT of main
  pub output_happens : (j : ℕ) (v : Value) → Came g inputs well count x (tagged Main (AtOut j) (Operand 0) v) → ExtendedBy (Outputs j v) (Puts j v)
  output_happens j v came = extend g inputs well count x (Outputs j v) (Puts j v) refl (came, tt) tt
