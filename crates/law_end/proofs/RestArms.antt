-- Where a conditional, or a turn's flag, was decided, the meaning had a token of that truth at it.
use Rattle.std.proofs.Common.{◌≡◌, ℕ, ◌+◌, ℤ, Bool, true, List, [], ◌∷◌, ◌++◌, flat_map, Option, Some, refl, sym, ap, ◌∙◌, subst, arith, lt-ltb}
use Rattle.std.specs.Prelude.{Contains, ◌&&◌}
use Rattle.tags.specs.declared.value.Value.{Value}
use Rattle.tags.specs.declared.token.Port.TheVariants.{Right}
use Rattle.operators.specs.Values.{truth}
use Rattle.semantics.specs.declared.graph.Region.{Region}
use Rattle.semantics.specs.declared.graph.Region.TheVariants.{Root, Arm}
use Rattle.semantics.specs.Graph.{Node, Block, Flow, node_at}
use Rattle.semantics.specs.Plan.{Plan}
use Rattle.semantics.specs.Meaning.{Context, Turned, AtNode, AtTurn, Operand, Predicate, Flag, Tagged, tagged, taken, Stood, start, block_of, arm_of}
use Rattle.semantics.specs.Meaning.{HadTrueFlag}
use Rattle.semantics.specs.Machine.{Machine}
use Rattle.lemmas.proofs.Permutations.{Within}
use Rattle.lemmas.proofs.Contains.{contains_head}
use Rattle.semantics.proofs.Lines.{same_arm}
use Rattle.law_confluence.proofs.History.{run_lawful}
use Rattle.law_confluence.proofs.HistoryDue.{ever_stood}
use Rattle.law_confluence.proofs.HistoryLaws.{Tokens, Lawful}
use Rattle.law_net.specs.ContextsParts.{Part, Gate, TurnValue, Inlet, inlet, Datum, Item, Firing}
use Rattle.law_net.specs.ContextsBlocks.{is_kind, enter_kind, lies_in, outside, flag}
use Rattle.law_net.specs.Contexts.{Wires, or_none, block_in, IsContext}
use Rattle.law_net.specs.ContextsWires.{predicate_at, right_only, cond_round, AValue, arrives_at}
use Rattle.law_net.specs.ContextsMeant.{meant, meant_by}
use Rattle.law_net.specs.ContextsFirings.{truth_of}
use Rattle.law_net.specs.ContextsLaws.{Carries}
use Rattle.law_net.specs.ContextsMirror.{Past}
use Rattle.law_net.specs.ContextsTheorem.{IsGood}
use Rattle.law_net.specs.ContextsPackages.{Keeps, InputsFit}
use Rattle.law_net.proofs.WiredInvoked.{block_here, loop_invoked}
use Rattle.law_end.specs.Over.{IsDecided, IsOpen}
use Rattle.law_end.proofs.OverSorts.{IsHere, laws}
use Rattle.law_end.proofs.OverMade.{Mirrors, allowed}
use Rattle.law_end.proofs.OverOpen.{one_side}
use Rattle.law_end.proofs.RestStores.{fits_main}
use Rattle.law_end.proofs.RestWaits.{carries}
use Rattle.law_end.proofs.RestForward.{At, feeder, decided_arrives}
use Rattle.law_end.proofs.RestStory.{story, ever_meant}

module _ (fl : Flow) (p : Plan) (w : Wires) (inputs : List ℤ) (past : Past) (m : Machine) (good : IsGood fl p w) (fit : InputsFit fl inputs)
    (kept : Keeps fl p w inputs past m) where
  abbrev done : List Firing
  done = kept.tracks.net.fired

  -- the tokens that were present in the run
  abbrev pub Ever : Tokens
  Ever x = Within x (flat_map taken (story fl p w inputs past m good fit kept).run ++ (story fl p w inputs past m good fit kept).state.tokens)

  abbrev pub Stood' : Tagged → Type 0
  Stood' =
      Stood fl (start inputs) (story fl p w inputs past m good fit kept).run (story fl p w inputs past m good fit kept).state
      (story fl p w inputs past m good fit kept).is_run

  pub stood_of : (x : Tagged) → Ever x → Stood' x
  stood_of x h =
      ever_stood fl (start inputs) (story fl p w inputs past m good fit kept).state (story fl p w inputs past m good fit kept).run
      (story fl p w inputs past m good fit kept).is_run x h

  pub lawful : (x : Tagged) → Ever x → Lawful fl Ever x
  lawful =
      run_lawful fl good.well inputs (fits_main fl p w inputs past m good fit kept) (story fl p w inputs past m good fit kept).state
      (story fl p w inputs past m good fit kept).run (story fl p w inputs past m good fit kept).is_run

  module _ (c : Context) (con : IsContext fl c) where
    abbrev b : Block ℕ
    b = block_in fl c

    -- what arrives at a switch's right, by what decided it
    predicate_value : (r : Part) (k : ℕ) (t : Bool) → predicate_at b r Right ≡ Some k → arrives_at r Right ≡ AValue
        → IsDecided fl w done (record { context = c; cond = k }) t → At fl p w inputs past m good fit kept c con (inlet r Right 0)
        → (i : Item) × Mirrors fl p w inputs past m good fit kept i × (i.context ≡ c) × (i.inlet ≡ inlet r Right 0) × (v : Value) × (i.word ≡ Datum v)
        × (truth v ≡ t)
    predicate_value r k t predicate value decided (i, s, a, x) =
        let word : Carries fl w c 0 AValue i.word =
        subst (λ (y : _). Carries fl w c 0 y i.word) value
        (subst (λ (y : Inlet). Carries fl w c y.way (arrives_at y.part y.port) i.word) x
        (subst (λ (d : Context). Carries fl w d i.inlet.way (arrives_at i.inlet.part i.inlet.port) i.word) a
        (carries fl p w inputs past m good fit kept i s))) in
        let says = (allowed fl p w inputs past m good fit kept i s).word (record { context = c; cond = k })
        (a, (λ j. predicate_at (block_in fl (a j)) (x j).part (x j).port) ∙ predicate) in (
          i,
          s,
          a,
          x,
          word.0,
          word.1,
          ap truth_of (sym word.1) ∙ one_side fl p w inputs past m good fit kept (record { context = c; cond = k }) (truth_of i.word) t says decided,
        )

    -- A CONDITIONAL with an enter in an arm
    pub enter_stood : (e k : ℕ) (s t : Bool) → is_kind enter_kind b e ≡ true → lies_in b e ≡ Arm k s → IsDecided fl w done (record { context = c; cond = k }) t
        → IsOpen fl w done c (lies_in b k) → (v : Value) × Ever (tagged c (AtNode k) (Operand 0) v) × (truth v ≡ t)
    enter_stood e k s t here lies decided o =
        let x = inlet (Gate e) Right 0 in
        let (from, wire) = feeder fl p w inputs past m good fit kept c con x here refl refl refl in
        let predicate : predicate_at b (Gate e) Right ≡ Some k = ap (λ (r : Region). right_only Right (cond_round r)) lies in
        let at = decided_arrives fl p w inputs past m good fit kept c con k t from x wire
        ((laws fl p w good c con).arms.agree from x k wire.from wire.goes predicate) decided
        (subst (IsOpen fl w done c) (sym (ap (outside b) lies) ∙ wire.region) o) in
        let (i, stood, a, g, v, word, true') = predicate_value (Gate e) k t predicate refl decided at in
        let tells : meant fl i ≡ tagged c (AtNode e) Predicate v ∷ [] =
        (λ j. meant_by fl (record { context = a j; inlet = g j; word = word j; held = i.held }) (g j).part) in
        let arrive = ever_meant fl p w inputs past m good fit kept i stood (tagged c (AtNode e) Predicate v)
        (subst (λ (l : List Tagged). Contains l (tagged c (AtNode e) Predicate v)) (sym tells) (contains_head (tagged c (AtNode e) Predicate v) [])) in
        let law = (lawful (tagged c (AtNode e) Predicate v) arrive).1 in
        (v, cond_of v law, true')
      where
        cond_of : (v : Value) → (b' : Block ℕ) × (node : Node ℕ) × (k' : ℕ) × (side : Bool) × (block_of fl c ≡ Some b') × (node_at b' e ≡ Some node)
            × (node.region ≡ Arm k' side) × Ever (tagged c (AtNode k') (Operand 0) v) → Ever (tagged c (AtNode k) (Operand 0) v)
        cond_of v (b', node, k', side, eb, en, region, h) =
            let line : node_at b e ≡ Some node = ap (λ (o : Option (Block ℕ)). node_at (or_none o) e) (sym (block_here fl p w good c con) ∙ eb) ∙ en in
            let same = same_arm k' k side s (sym region ∙ sym (ap arm_of line) ∙ lies) in
            subst (λ (k : ℕ). Ever (tagged c (AtNode k) (Operand 0) v)) same h

  -- A TURN whose flag was true
  pub flag_stood : (d : Context) (n j : ℕ) → IsContext fl (Turned d n j)
      → IsDecided fl w done (record { context = Turned d n j; cond = flag (block_in fl (Turned d n j)) }) true → IsOpen fl w done (Turned d n j) Root
      → HadTrueFlag Stood' (Turned d n j)
  flag_stood d n j con decided o =
      let c = Turned d n j in
      let some = (loop_invoked fl p w good d n j con.0 con.1).0.some_input in
      let x = inlet (TurnValue 1) Right 0 in
      let here : IsHere fl p w good (Turned d n j) con (TurnValue 1) =
      (λ k. lt-ltb 0 1 (omega arith) k && lt-ltb 1 ((block_in fl (Turned d n j)).inputs + 1) (omega (arith, some)) k) in
      let (from, wire) = feeder fl p w inputs past m good fit kept (Turned d n j) con x here refl refl refl in
      let at = decided_arrives fl p w inputs past m good fit kept (Turned d n j) con (flag (block_in fl (Turned d n j))) true from x wire
      ((laws fl p w good (Turned d n j) con).arms.agree from x (flag (block_in fl (Turned d n j))) wire.from wire.goes refl) decided
      (subst (IsOpen fl w done (Turned d n j)) wire.region o) in
      let (i, stood, a, g, v, word, true') = predicate_value (Turned d n j) con (TurnValue 1) (flag (block_in fl (Turned d n j))) true refl refl decided at in
      let tells : meant fl i ≡ tagged (Turned d n j) (AtTurn 1) Flag v ∷ [] =
      (λ k. meant_by fl (record { context = a k; inlet = g k; word = word k; held = i.held }) (g k).part) in (
        1,
        v,
        stood_of _ (ever_meant fl p w inputs past m good fit kept i stood (tagged (Turned d n j) (AtTurn 1) Flag v)
            (subst (λ (l : List Tagged). Contains l (tagged (Turned d n j) (AtTurn 1) Flag v)) (sym tells) (contains_head _ []))),
        true',
      )
