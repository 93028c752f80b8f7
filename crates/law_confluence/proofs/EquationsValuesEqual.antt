-- The values satisfy the equations of the nodes.
use Rattle.std.proofs.Common.{◌≡◌, ℕ, ◌+◌, ◌<◌, ◌≤◌, Bool, true, false, List, [], ◌∷◌, length, Option, Some, None, nat_lt, if◌then◌else◌, refl, sym, ap, ◌∙◌}
use Rattle.std.proofs.Common.{subst, arith, lt-ltb, ltb-true, ltb-false}
use Rattle.std.specs.Prelude.{slice_get}
use Rattle.std.proofs.lemmas.Option.{same_Some}
use Rattle.tags.specs.declared.value.Value.{Value}
use Rattle.tags.specs.declared.value.Value.TheVariants.{Int}
use Rattle.operators.specs.Values.{truth, apply1, apply2, Indexed, Place, Outside, index_in}
use Rattle.semantics.specs.declared.graph.Region.{Region}
use Rattle.semantics.specs.declared.graph.Source.{Source}
use Rattle.semantics.specs.declared.graph.Kind.{Kind}
use Rattle.semantics.specs.declared.graph.Kind.TheVariants.{Lit, Apply1, Apply2, Cond, Enter, Merge, Fetch, Store, Call, StrictCall, Loop}
use Rattle.semantics.specs.Graph.{Node, Block, node_at, first_cell, array_len}
use Rattle.semantics.specs.Meaning.{Context, Called, Turned, AtNode, Operand, tagged, Activity, Fires, Gates, Passes, Returns, taken, Deed, Says, Sends, deed}
use Rattle.semantics.specs.Meaning.{fired, fetched, stored, block_of, origin_at}
use Rattle.lemmas.proofs.Permutations.{Within, each_within, within_to}
use Rattle.lemmas.proofs.Lists.{one_element}
use Rattle.law_confluence.proofs.ActivityKeys.{Together, mode_of, mode_node, mode_in, fires_mode}
use Rattle.law_confluence.proofs.HistoryGrounds.{mode_line}
use Rattle.law_confluence.proofs.ActivityRows.{Plain, Gate, Join, Looping, class_of, class_node, class_in}
use Rattle.law_confluence.specs.EquationsHave.{SaysIn, stores_of}
use Rattle.law_confluence.specs.Equations.{Loops, Fetched, Storing, LineEquation, InputEquation, NodeEquation, BlockEquation, Equation}
use Rattle.law_confluence.proofs.EquationsGraphForms.{HasForm}
use Rattle.law_confluence.proofs.EquationsRunRested.{Rested, Came, GivesIn, IsDueIn}
use Rattle.law_confluence.proofs.EquationsRunUses.{operand_within}
use Rattle.law_confluence.proofs.EquationsRunOrigins.{HasSomeIn, ResultIn, took_all, operand_from, argument_from, result_from, flag_from, carried_from}
use Rattle.law_confluence.proofs.EquationsRunOrigins.{input_from}
use Rattle.law_confluence.proofs.EquationsRunRegions.{block_shaped}
use Rattle.law_confluence.proofs.EquationsProgressNodes.{IsTogether, IsPlain, fires_input, fires_line, plain_together}
use Rattle.law_confluence.proofs.EquationsProgressInvocations.{merge_form}
use Rattle.law_confluence.proofs.EquationsValuesGivers.{Gave, gave, in_turns, merge_side, place_of_side, true_flag}
use Rattle.law_confluence.proofs.EquationsEndCells.{entry, stored_in, stored_cells}

abbrev LineIn : Rested → Context → ℕ → ℕ → Value → Kind ℕ → List Source → Type 0
LineIn z c n p v kind ss = LineEquation z.flow z.inputs z.run z.state z.is_run c n p v kind ss

two_of : {X : Type 0} (xs : List X) → length xs ≡ 2 → (x : X) × (y : X) × (xs ≡ x ∷ y ∷ [])
two_of [] e = absurd (omega (arith, e))
two_of (x ∷ []) e = absurd (omega (arith, e))
two_of (x ∷ y ∷ []) e = (x, y, refl)
two_of (x ∷ y ∷ w ∷ xs) e = absurd (omega (arith, e))

sent_value : (c : Context) (n : ℕ) (v w : Value) → Sends c n 0 v ≡ Sends c n 0 w → w ≡ v
sent_value c n v w e = cc

module _ (z : Rested) (c : Context) (n p : ℕ) (v : Value) where
  -- operands have the values of the sources
  abbrev Match : List Source → List Value → Type 0
  Match ss vs = (i : ℕ) (a : Value) → slice_get vs i ≡ Some a → (s : Source) × (slice_get ss i ≡ Some s) × GivesIn z c s.node s.port a

  at_place : (ss : List Source) (i : ℕ) (x : Source) (a : Value) → slice_get ss i ≡ Some x
      → ((s : Source) × (slice_get ss i ≡ Some s) × GivesIn z c s.node s.port a) → GivesIn z c x.node x.port a
  at_place ss i x a e h = subst (λ (s : Source). GivesIn z c s.node s.port a) (same_Some h.0 x (sym h.1 ∙ e)) h.2

  fetched_is : (base : ℕ) (i : Indexed) → SaysIn z.state.memory (fetched c n base i) (Sends c n 0 v) → Fetched z.flow z.inputs z.run z.state z.is_run base i v
  fetched_is base (Outside w) h = sent_value c n w v h
  fetched_is base (Place i) h = h.1 ∙ ap Some (sym (sent_value c n h.0 v h.2))

  stored_is : (base : ℕ) (w : Value) (i : Indexed) (a : Activity) → Within a z.run → deed z.flow a ≡ Some (stored c n base w i)
      → SaysIn z.state.memory (stored c n base w i) (Sends c n 0 v)
      → Storing z.flow z.inputs z.run z.state z.is_run c n base w i v
  stored_is base w (Outside u) a h e says = sent_value c n u v says
  stored_is base w (Place i) a h e says =
      let here = within_to (entry c n (base + i) w) (stores_of z.flow z.run) (stored_in z.flow z.run a c n (base + i) w h e) in
      (sent_value c n w v says, stored_cells z (entry c n (base + i) w) here, here)

  says_as : (d e : Deed) → Some d ≡ Some e → SaysIn z.state.memory e (Sends c n 0 v) → SaysIn z.state.memory d (Sends c n 0 v)
  says_as d e f h = subst (λ d. SaysIn z.state.memory d (Sends c n 0 v)) (same_Some e d (sym f)) h

  plain_equation : (b : Block ℕ) (r : Region) (kind : Kind ℕ) (ss : List Source) (vs : List Value) (d : Deed) → IsPlain kind → HasForm z.flow b r kind ss
      → length ss ≡ length vs → fired z.flow c n kind vs ≡ Some d
      → SaysIn z.state.memory d (Sends c n 0 v) → Within (Fires c n vs) z.run → deed z.flow (Fires c n vs) ≡ Some d → Match ss vs → LineIn z c n p v kind ss
  plain_equation b r (Lit w) ss vs d is form long fires says ran e match =
      let x = one_element ss form.0 in
      let a = one_element vs (omega (arith, form.0, long)) in
      let f : Some (Says (Sends c n 0 (Int w))) ≡ Some d = ap (λ vs. fired z.flow c n (Lit w) vs) (sym a.1) ∙ fires in
      subst (λ ss. LineIn z c n p v (Lit w) ss) (sym x.1) (sent_value c n (Int w) v (says_as _ d f says))
  plain_equation b r (Apply1 op) ss vs d is form long fires says ran e match =
      let x = one_element ss form.0 in
      let a = one_element vs (omega (arith, form.0, long)) in
      let f : Some (Says (Sends c n 0 (apply1 op a.0))) ≡ Some d = ap (λ vs. fired z.flow c n (Apply1 op) vs) (sym a.1) ∙ fires in
      let g = at_place ss 0 x.0 a.0 (ap (λ ss. slice_get ss 0) x.1) (match 0 a.0 (ap (λ vs. slice_get vs 0) a.1)) in
      subst (λ ss. LineIn z c n p v (Apply1 op) ss) (sym x.1) (a.0, g, sent_value c n (apply1 op a.0) v (says_as _ d f says))
  plain_equation b r (Apply2 op) ss vs d is form long fires says ran e match =
      let x = two_of ss form.0 in
      let a = two_of vs (omega (arith, form.0, long)) in
      let out = apply2 op a.0 a.1 (origin_at z.flow c n) in
      let f : Some (Says (Sends c n 0 out)) ≡ Some d = ap (λ vs. fired z.flow c n (Apply2 op) vs) (sym a.2) ∙ fires in
      let g = at_place ss 0 x.0 a.0 (ap (λ ss. slice_get ss 0) x.2) (match 0 a.0 (ap (λ vs. slice_get vs 0) a.2)) in
      let h = at_place ss 1 x.1 a.1 (ap (λ ss. slice_get ss 1) x.2) (match 1 a.1 (ap (λ vs. slice_get vs 1) a.2)) in
      subst (λ ss. LineIn z c n p v (Apply2 op) ss) (sym x.2) (a.0, a.1, g, h, sent_value c n out v (says_as _ d f says))
  plain_equation b r (Fetch k) ss vs d is form long fires says ran e match =
      let x = one_element ss form.0 in
      let a = one_element vs (omega (arith, form.0, long)) in
      let place = index_in (array_len z.flow k) a.0 (origin_at z.flow c n) in
      let f : Some (fetched c n (first_cell z.flow k) place) ≡ Some d = ap (λ vs. fired z.flow c n (Fetch k) vs) (sym a.1) ∙ fires in
      let g = at_place ss 0 x.0 a.0 (ap (λ ss. slice_get ss 0) x.1) (match 0 a.0 (ap (λ vs. slice_get vs 0) a.1)) in
      subst (λ ss. LineIn z c n p v (Fetch k) ss) (sym x.1) (a.0, g, fetched_is (first_cell z.flow k) place (says_as _ d f says))
  plain_equation b r (Store k) ss vs d is form long fires says ran e match =
      let x = two_of ss form.0 in
      let a = two_of vs (omega (arith, form.0, long)) in
      let place = index_in (array_len z.flow k) a.0 (origin_at z.flow c n) in
      let f : Some (stored c n (first_cell z.flow k) a.1 place) ≡ Some d = ap (λ vs. fired z.flow c n (Store k) vs) (sym a.2) ∙ fires in
      let g = at_place ss 0 x.0 a.0 (ap (λ ss. slice_get ss 0) x.2) (match 0 a.0 (ap (λ vs. slice_get vs 0) a.2)) in
      let h = at_place ss 1 x.1 a.1 (ap (λ ss. slice_get ss 1) x.2) (match 1 a.1 (ap (λ vs. slice_get vs 1) a.2)) in
      subst (λ ss. LineIn z c n p v (Store k) ss) (sym x.2)
      (a.0, a.1, g, h, stored_is (first_cell z.flow k) a.1 place (Fires c n vs) ran (e ∙ sym f) (says_as _ d f says))
  plain_equation b r Cond ss vs d is form long fires says ran e match = absurd is
  plain_equation b r Enter ss vs d is form long fires says ran e match = absurd is
  plain_equation b r (Merge k) ss vs d is form long fires says ran e match = absurd is
  plain_equation b r (Call f) ss vs d is form long fires says ran e match = absurd is
  plain_equation b r (StrictCall f) ss vs d is form long fires says ran e match = absurd is
  plain_equation b r (Loop f k) ss vs d is form long fires says ran e match = absurd is

  mode_length : (kind : Kind ℕ) (i j : ℕ) → IsTogether kind → mode_of kind i ≡ Together j → i ≡ j
  mode_length (Lit w) i j is e = cc
  mode_length (Apply1 op) i j is e = cc
  mode_length (Apply2 op) i j is e = cc
  mode_length Cond i j is e = cc
  mode_length (Fetch a) i j is e = cc
  mode_length (Store a) i j is e = cc
  mode_length (StrictCall f) i j is e = cc
  mode_length Enter i j is e = absurd is
  mode_length (Merge k) i j is e = absurd is
  mode_length (Call f) i j is e = absurd is
  mode_length (Loop f k) i j is e = absurd is

  -- A LINE'S EQUATION
  module _ (b : Block ℕ) (eb : block_of z.flow c ≡ Some b) (line : Node ℕ) (el : node_at b n ≡ Some line) where
    plain_line : IsPlain line.kind → Gave z c n p v Plain → LineIn z c n p v line.kind line.sources
    plain_line is h =
        let vs = h.0 in
        let modes : mode_of line.kind (length line.sources) ≡ Together (length vs) = sym (mode_line b n line el) ∙ sym (ap (λ o. mode_in o n) eb)
        ∙ fires_mode z.flow c n vs h.1 h.3 in
        let long = mode_length line.kind (length line.sources) (length vs) (plain_together line.kind is) modes in
        let fires = sym (fires_line z.flow c b eb n line vs el long) ∙ h.3 in
        let all = took_all z (Fires c n vs) h.2 in
        let match : Match line.sources vs =
        λ i a e.
        let at : 0 + i ≡ i = omega arith in
        operand_from z c b n i line a eb el
        (subst (λ j. Came z (tagged c (AtNode n) (Operand j) a)) at
        (each_within (Came z) (tagged c (AtNode n) (Operand (0 + i)) a) (taken (Fires c n vs)) (operand_within c (AtNode n) 0 vs i a e) all)) in
        plain_equation b line.region line.kind line.sources vs h.1 is ((block_shaped z c b eb).lines n line el).form long fires h.4 h.2 h.3 match

    enter_line : line.kind ≡ Enter → Gave z c n p v Gate → LineIn z c n p v Enter line.sources
    enter_line kind h =
        let form = subst (λ kind. HasForm z.flow b line.region kind line.sources) kind ((block_shaped z c b eb).lines n line el).form in
        let x = one_element line.sources form.0 in
        let s = operand_from z c b n 0 line v eb el (took_all z (Gates c n v h.0) h.2).0 in
        subst (λ ss. LineIn z c n p v Enter ss) (sym x.1) (at_place line.sources 0 x.0 v (ap (λ ss. slice_get ss 0) x.1) s)

    merge_line : (k : ℕ) → line.kind ≡ Merge k → Gave z c n p v Join → LineIn z c n p v (Merge k) line.sources
    merge_line k kind h =
        let form = subst (λ kind. HasForm z.flow b line.region kind line.sources) kind ((block_shaped z c b eb).lines n line el).form in
        let f = merge_form z.flow b line.region k line.sources form in
        let came = (took_all z (Passes c n h.0 v) h.1).0 in
        let side = merge_side z c b n k h.0 line v eb el kind came in
        let cond = side.3 in
        let argument = argument_from z c b k 0 cond.0 side.0 eb cond.1 side.1 in
        let s = operand_from z c b n h.0 line v eb el came in
        let es : slice_get (f.0 ∷ f.1 ∷ []) h.0 ≡ Some s.0 = ap (λ ss. slice_get ss h.0) (sym f.2) ∙ s.1 in
        subst (λ ss. LineIn z c n p v (Merge k) ss) (sym f.2)
        (side.0, argument, chosen f.0 f.1 s.0 (truth side.0) (ap (λ i. slice_get (f.0 ∷ f.1 ∷ []) i) (sym side.2) ∙ es) s.2)
      where
        chosen : (x y s : Source) (on : Bool) → slice_get (x ∷ y ∷ []) (place_of_side z on) ≡ Some s → GivesIn z c s.node s.port v
            → HasSomeIn z c (Some (if on then x else y)) v
        chosen x y s true e g = subst (λ (s : Source). GivesIn z c s.node s.port v) (same_Some s x (sym e)) g
        chosen x y s false e g = subst (λ (s : Source). GivesIn z c s.node s.port v) (same_Some s y (sym e)) g

  called_line : Within (Returns c n p v) z.run → IsDueIn z (Called c n) × ResultIn z (Called c n) p v
  called_line h =
      let came = (took_all z (Returns c n p v) h).0 in
      (z.due _ came, (result_from z (Called c n) p v came).0)

  loop_line : Gave z c n p v Looping → Loops z.flow z.inputs z.run z.state z.is_run c n p v
  loop_line h =
      let t = h.0 in
      let came = in_turns z c n t (p + 1) h.1 v h.2 in
      let due : IsDueIn z (Turned c n t) = z.due _ came.0 in
      record {
        turns = t;
        on = λ i low. let f = due.3 i low in (f.1, flag_from z (Turned c n i) f.0 f.1 f.2, f.3);
        off = (h.1, flag_from z (Turned c n t) (p + 1) h.1 came.0, h.3);
        result = (carried_from z (Turned c n t) (p + 1) v came.1).0;
        due = λ i low. (due.0, due.1, due.2, λ j less. due.3 j (omega (arith, low, less)));
        last = λ i other. not_later i other (nat_lt t i) refl;
      }
    where
      not_later : (i : ℕ) → IsDueIn z (Turned c n i) → (x : Bool) → nat_lt h.0 i ≡ x → i ≤ h.0
      not_later i other true e =
          let on = true_flag z c n h.0 (p + 1) h.1 (other.3 h.0 (ltb-true h.0 i e)) (in_turns z c n h.0 (p + 1) h.1 v h.2).0 in
          let off = h.3 in
          absurd (cc)
      not_later i other false e = ltb-false h.0 i e

  -- by kind
  line_equation : (b : Block ℕ) → block_of z.flow c ≡ Some b → (line : Node ℕ) → node_at b n ≡ Some line → Gave z c n p v (class_of line.kind)
      → LineIn z c n p v line.kind line.sources
  line_equation b eb line el h = go line.kind refl h
    where
      as_kind : (kind : Kind ℕ) → line.kind ≡ kind → IsPlain kind → Gave z c n p v Plain → LineIn z c n p v kind line.sources
      as_kind kind e is h = subst (λ kind. LineIn z c n p v kind line.sources) e (plain_line b eb line el (subst IsPlain (sym e) is) h)

      go : (kind : Kind ℕ) → line.kind ≡ kind → Gave z c n p v (class_of kind) → LineIn z c n p v kind line.sources
      go (Lit w) e h = as_kind (Lit w) e tt h
      go (Apply1 op) e h = as_kind (Apply1 op) e tt h
      go (Apply2 op) e h = as_kind (Apply2 op) e tt h
      go (Fetch a) e h = as_kind (Fetch a) e tt h
      go (Store a) e h = as_kind (Store a) e tt h
      go Cond e h = absurd h
      go Enter e h = enter_line b eb line el e h
      go (Merge k) e h = merge_line b eb line el k e h
      go (Call f) e h = called_line h
      go (StrictCall f) e h = called_line h
      go (Loop f k) e h = loop_line h

  input_equation : (b : Block ℕ) → block_of z.flow c ≡ Some b → n < b.inputs → Gave z c n p v Plain
      → (p ≡ 0) × InputEquation z.flow z.inputs z.run z.state z.is_run c n v
  input_equation b eb low h =
      let modes : Together 1 ≡ Together (length h.0) = sym (ap (λ (t : Bool). if t then Together 1 else mode_node (node_at b n)) (lt-ltb n b.inputs low))
      ∙ sym (ap (λ o. mode_in o n) eb) ∙ fires_mode z.flow c n h.0 h.1 h.3 in
      let a = one_element h.0 (let same : 1 ≡ length h.0 = cc in sym same) in
      let does : Some (Says (Sends c n 0 a.0)) ≡ Some h.1 = sym (fires_input z.flow c b eb n a.0 low) ∙ ap (λ vs. deed z.flow (Fires c n vs)) (sym a.1) ∙ h.3 in
      let value = sent_value c n a.0 v (says_as _ h.1 does h.4) in
      let ran = subst (λ vs. Within (Fires c n vs) z.run) a.1 h.2 in (
        h.5,
        subst (λ v. InputEquation z.flow z.inputs z.run z.state z.is_run c n v) (sym value)
            (input_from z c b n a.0 eb low (took_all z (Fires c n (a.0 ∷ [])) ran).0),
      )

  block_equation : (o : Option (Block ℕ)) → block_of z.flow c ≡ o → Gave z c n p v (class_in o n)
      → BlockEquation z.flow z.inputs z.run z.state z.is_run c n p v o
  block_equation None e h = absurd h
  block_equation (Some b) e h = go (nat_lt n b.inputs) refl h
    where
      line : (o : Option (Node ℕ)) → node_at b n ≡ o → Gave z c n p v (class_node o) → NodeEquation z.flow z.inputs z.run z.state z.is_run c n p v false o
      line None f h = absurd h
      line (Some l) f h = line_equation b e l f h

      go : (t : Bool) → nat_lt n b.inputs ≡ t → Gave z c n p v (if t then Plain else class_node (node_at b n))
          → NodeEquation z.flow z.inputs z.run z.state z.is_run c n p v t (node_at b n)
      go true f h = input_equation b e (ltb-true n b.inputs f) h
      go false f h = line (node_at b n) refl h

pub equations : (z : Rested) (c : Context) (n p : ℕ) (v : Value) → GivesIn z c n p v → Equation z.flow z.inputs z.run z.state z.is_run c n p v
equations z c n p v h = block_equation z c n p v (block_of z.flow c) refl (gave z c n p v h)
