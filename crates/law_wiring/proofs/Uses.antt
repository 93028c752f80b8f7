-- What leaves at a node goes to its uses: the predicates of a conditional's use are those of the gates that it decides.
use Rattle.std.proofs.Common.{◌≡◌, ◌≢◌, ℕ, ◌+◌, ◌⊎◌, inl, inr, Bool, true, false, ◌&&◌, List, [], ◌∷◌, ◌++◌, map, length, refl, sym, ap, ◌∙◌, arith, append-nil}
use Rattle.std.proofs.Common.{if◌then◌else◌, Some, None, Option, ◌==◌, All}
use Rattle.std.specs.Prelude.{flat_map}
use Rattle.std.proofs.lemmas.Bool.{eqb-true}
use Rattle.std.proofs.lemmas.List.{map-append}
use Rattle.std.proofs.lemmas.List.Concat.{flat_map-append}
use Rattle.std.proofs.lemmas.List.Elements.{All-head, All-tail}
use Rattle.lemmas.proofs.Bools.{equal_itself}
use Rattle.tags.specs.declared.value.Value.{Value}
use Rattle.tags.specs.declared.token.Port.TheVariants.{Left, Right}
use Rattle.semantics.specs.declared.graph.Region.{Region}
use Rattle.semantics.specs.declared.graph.Region.TheVariants.{Root, Arm}
use Rattle.semantics.specs.declared.graph.Source.{Source}
use Rattle.semantics.specs.declared.graph.Kind.{Kind}
use Rattle.semantics.specs.declared.graph.Kind.TheVariants.{Lit, Apply1, Apply2, Cond, Enter, Merge, Fetch, Store, Call, StrictCall, Loop}
use Rattle.semantics.specs.Graph.{Node, Block, Flow, node_at}
use Rattle.semantics.specs.Meaning as Meaning
use Rattle.semantics.specs.Meaning.{Context, Statement, AtNode, AtOut, Operand, Predicate, Tagged, tagged, block_of, node_in, positions, result_uses}
use Rattle.semantics.specs.Meaning.{predicates_from, predicates_in}
use Rattle.schemas.specs.Builds.{first_source}
use Rattle.schemas.specs.Scopes.{predicate_of}
use Rattle.law_net.specs.ContextsParts as Parts
use Rattle.law_net.specs.ContextsParts.{Entry, Line, Gate, Opener, Framer, Fanned, Linker, Sender, Landing, Strict, Trigger, Result, Inlet}
use Rattle.law_net.specs.ContextsBlocks.{Side, side, Site, is_kind, cond_kind, cell_kind, call_kind, loop_kind, invokes}
use Rattle.law_net.specs.ContextsMeant.{operand, settled_at, settled_node, meant_at}
use Rattle.law_net.specs.ContextsMeant as Told
use Rattle.law_net.specs.ContextsExpanded.{way_in}
use Rattle.law_net.specs.ContextsWires.{meant_along}
use Rattle.law_wiring.specs.Written.{Wire, wire, is_shared, is_triggered, answer_wires, along, inlet_of, same_side, exit_of, leaves_at, leaves, trigger_side}
use Rattle.law_wiring.specs.Written.{operand_wires, merge_wires, trigger_wires, gate_wires, sender_wires, invoke_wires, strict_wires, strict_end}
use Rattle.law_wiring.specs.Written.{strict_call_wires, kind_wires, result_wires}
use Rattle.law_wiring.specs.WrittenFit.{Takes, IsPrior, Lies, Merges, IsFit}
use Rattle.law_wiring.proofs.PartsSame.{side_is}
use Rattle.law_wiring.proofs.WrittenMembers.{AllW, side_self}
use Rattle.law_wiring.proofs.WrittenNodes.{kind_at, leaves_region, leaves_some}
use Rattle.law_wiring.proofs.WrittenBothArms.{same_node, copy_apart}

pub along_both : (b : Block ℕ) (t : Side) (xs ys : List Wire) → along b t (xs ++ ys) ≡ along b t xs ++ along b t ys
along_both b t [] ys = refl
along_both b t (x ∷ xs) ys = go (same_side t x.from) (along_both b t xs ys)
  where
    go : (q : Bool) → along b t (xs ++ ys) ≡ along b t xs ++ along b t ys
        → (if q then inlet_of b x ∷ along b t (xs ++ ys) else along b t (xs ++ ys)) ≡ (if q then inlet_of b x ∷ along b t xs else along b t xs) ++ along b t ys
    go true h = ap (λ zs. inlet_of b x ∷ zs) h
    go false h = h

-- PORTS. A node that invokes nothing has only one port; otherwise the ports leave apart.
module _ (s : Site) where
  abbrev pub IsPort : ℕ → ℕ → Type 0
  IsPort n q = invokes s.block n ≡ false → q ≡ 0

  landing : (n q : ℕ) → invokes s.block n ≡ true → leaves_at s n q ≡ side (Landing n q) false
  landing n q h = go (node_at s.block n) refl
    where
      by_kind : (x : Node ℕ) (k : Kind ℕ) → x.kind ≡ k → node_at s.block n ≡ Some x → exit_of s n q x.region k ≡ side (Landing n q) false
      by_kind x (Call f) e g = refl
      by_kind x (StrictCall f) e g = refl
      by_kind x (Loop f c) e g = refl
      by_kind x k e g = let a = kind_at s.block call_kind n x g ∙ ap call_kind e in let c = kind_at s.block loop_kind n x g ∙ ap loop_kind e in absurd (cc)

      go : (o : Option (Node ℕ)) → node_at s.block n ≡ o → leaves_at s n q ≡ side (Landing n q) false
      go None e =
          let a = ap (λ o. elim o as (λ z. Bool) [ None ↦ false | Some line ↦ call_kind line.kind ]) e in
          let c = ap (λ o. elim o as (λ z. Bool) [ None ↦ false | Some line ↦ loop_kind line.kind ]) e in absurd (cc)
      go (Some x) e = leaves_some s n q x e ∙ by_kind x x.kind refl e

  port_same : (n p q : ℕ) → IsPort n p → IsPort n q → leaves_at s n p ≡ leaves_at s n q → p ≡ q
  port_same n p q h k e = go (invokes s.block n) refl
    where
      go : (t : Bool) → invokes s.block n ≡ t → p ≡ q
      go true i = let z : Landing n p ≡ Landing n q = ap (λ (u : Side). u.part) (sym (landing n p i) ∙ e ∙ landing n q i) in cc
      go false i = h i ∙ sym (k i)

  both_true : (t u : Bool) → (t && u) ≡ true → (t ≡ true) × (u ≡ true)
  both_true true true h = (refl, refl)
  both_true true false h = absurd (cc)
  both_true false u h = absurd (cc)

  -- the test of a side is that of a source
  pub side_test : (n q : ℕ) (x : Source) → IsPort n q → IsPort x.node x.port → same_side (leaves_at s n q) (leaves s x) ≡ ((x.node == n) && (x.port == q))
  side_test n q x h k = go ((x.node == n) && (x.port == q)) refl
    where
      go : (t : Bool) → ((x.node == n) && (x.port == q)) ≡ t → same_side (leaves_at s n q) (leaves s x) ≡ t
      go true e =
          let both = both_true (x.node == n) (x.port == q) e in
          let node : x.node ≡ n = eqb-true x.node n both.0 in
          let port : x.port ≡ q = eqb-true x.port q both.1 in
          (λ i. same_side (leaves_at s n q) (leaves_at s (node i) (port i))) ∙ side_self (leaves_at s n q)
      go false e = no (same_side (leaves_at s n q) (leaves s x)) refl
        where
          no : (t : Bool) → same_side (leaves_at s n q) (leaves s x) ≡ t → t ≡ false
          no false r = refl
          no true r =
              let same : leaves_at s n q ≡ leaves_at s x.node x.port = side_is (leaves_at s n q) (leaves s x) r in
              let node : n ≡ x.node = same_node s n q x.node x.port same in
              let port : q ≡ x.port = port_same n q x.port h (λ i. k (sym (ap (invokes s.block) node) ∙ i))
              (same ∙ ap (λ m. leaves_at s m x.port) (sym node)) in
              let yes : ((x.node == n) && (x.port == q)) ≡ true = (λ i. (sym node i == n) && (sym port i == q)) ∙ (λ i. equal_itself n i && equal_itself q i) in
              absurd (cc)

module _ (fl : Flow) (s : Site) (fit : IsFit fl s.block) (c : Context) (v : Value) where
  -- what a wire stands for
  abbrev pub tells : Wire → List Tagged
  tells w = meant_at fl c (inlet_of s.block w).part (inlet_of s.block w).port (inlet_of s.block w).way v

  -- what the wires of a side stand for
  abbrev pub heard : Side → List Wire → List Tagged
  heard t ws = meant_along fl c v (along s.block t ws)

  pub heard_both : (t : Side) (xs ys : List Wire) → heard t (xs ++ ys) ≡ heard t xs ++ heard t ys
  heard_both t xs ys =
      ap (meant_along fl c v) (along_both s.block t xs ys)
      ∙ flat_map-append (λ (x : Inlet). meant_at fl c x.part x.port x.way v) (along s.block t xs) (along s.block t ys)

  pub heard_one : (t : Side) (w : Wire) (ws : List Wire) → heard t (w ∷ ws) ≡ (if same_side t w.from then tells w else []) ++ heard t ws
  heard_one t w ws = go (same_side t w.from)
    where
      go : (q : Bool) → meant_along fl c v (if q then inlet_of s.block w ∷ along s.block t ws else along s.block t ws) ≡ (if q then tells w else [])
          ++ heard t ws
      go true = refl
      go false = refl

  -- QUIET wires: those of another side, or those that stand for no token
  abbrev pub Quiet : Side → Wire → Type 0
  Quiet t w = (tells w ≡ []) ⊎ (t ≢ w.from)

  pub quiet : (t : Side) (ws : List Wire) → AllW (Quiet t) ws → heard t ws ≡ []
  quiet t [] h = refl
  quiet t (w ∷ ws) h = heard_one t w ws ∙ (λ i. one h.0 i ++ quiet t ws h.1 i)
    where
      one : Quiet t w → (if same_side t w.from then tells w else []) ≡ []
      one (inl e) = go (same_side t w.from)
        where
          go : (q : Bool) → (if q then tells w else []) ≡ []
          go true = e
          go false = refl
      one (inr n) = go (same_side t w.from) refl
        where
          go : (q : Bool) → same_side t w.from ≡ q → (if q then tells w else []) ≡ []
          go true e = absurd (n (side_is t w.from e))
          go false e = refl

  -- quiet ones before others
  pub quiet_before : (t : Side) (xs ys : List Wire) → AllW (Quiet t) xs → heard t (xs ++ ys) ≡ heard t ys
  quiet_before t xs ys h = heard_both t xs ys ∙ ap (λ zs. zs ++ heard t ys) (quiet t xs h)

  -- THE MEANING'S SIDE
  abbrev pub settle : List Tagged → List Tagged
  settle ts = flat_map (λ (t : Tagged). settled_at fl t t.statement) ts

  abbrev pub made : List (Statement × Meaning.Port) → List Tagged
  made us = map (λ (u : Statement × Meaning.Port). tagged c u.0 u.1 v) us

  pub settle_both : (xs ys : List (Statement × Meaning.Port)) → settle (made (xs ++ ys)) ≡ settle (made xs) ++ settle (made ys)
  settle_both xs ys =
      ap settle (map-append (λ (u : Statement × Meaning.Port). tagged c u.0 u.1 v) xs ys)
      ∙ flat_map-append (λ (t : Tagged). settled_at fl t t.statement) (made xs) (made ys)

  module _ (there : block_of fl c ≡ Some s.block) (n q : ℕ) (port : IsPort s n q) where
    abbrev pub T : Side
    T = leaves_at s n q

    abbrev pub test : Source → Bool
    test x = (x.node == n) && (x.port == q)

    tested : (m : ℕ) (x : Source) → IsPrior fl s.block m x → same_side T (leaves s x) ≡ test x
    tested m x h = side_test s n q x port h.first

    -- RESULTS of a call's code
    pub results_heard : ((j : ℕ) → result_uses c s.block.inputs j ≡ (AtOut j, Operand 0) ∷ []) → (from : ℕ) (xs : List Source) (m : ℕ)
        → All (IsPrior fl s.block m) xs
        → heard T (result_wires s from xs) ≡ settle (made (flat_map (λ j. result_uses c s.block.inputs j) (positions n q from xs)))
    results_heard plain from [] m h = refl
    results_heard plain from (x ∷ xs) m h =
        let w : Wire = wire (leaves s x) (Result from) Right in
        let rest = results_heard plain (from + 1) xs m (All-tail (IsPrior fl s.block m) x xs h) in
        quiet_before T (wire (side Entry false) (Result from) Left ∷ []) (w ∷ result_wires s (from + 1) xs) (inl refl, tt)
        ∙ heard_one T w (result_wires s (from + 1) xs)
        ∙ ap (λ t. (if t then tells w else []) ++ heard T (result_wires s (from + 1) xs)) (tested m x (All-head (IsPrior fl s.block m) x xs h))
        ∙ go (test x) rest
      where
        go : (t : Bool) → heard T (result_wires s (from + 1) xs) ≡ settle (made (flat_map (λ j. result_uses c s.block.inputs j) (positions n q (from + 1) xs)))
            → (if t then tells (wire (leaves s x) (Result from) Right) else []) ++ heard T (result_wires s (from + 1) xs)
            ≡ settle (made (flat_map (λ j. result_uses c s.block.inputs j) (if t then from ∷ positions n q (from + 1) xs else positions n q (from + 1) xs)))
        go true r =
            ap (λ zs. tagged c (AtOut from) (Operand 0) v ∷ zs) r
            ∙ sym (ap (λ us. settle (made (us ++ flat_map (λ j. result_uses c s.block.inputs j) (positions n q (from + 1) xs)))) (plain from))
        go false r = r

    -- NODES. What the uses at a node stand for
    abbrev used_at : ℕ → List ℕ → List Tagged
    used_at m ps = settle (made (map (λ i. (AtNode m, Operand i)) ps))

    abbrev pub used : ℕ → List Source → List Tagged
    used m xs = settle (made (map (λ i. (AtNode m, Operand i)) (positions n q 0 xs)))

    -- what a gate's predicate stands for, and whether the value decides a conditional
    abbrev pub gated : ℕ → Kind ℕ → Region → List Tagged
    gated m Enter (Arm k t) = if same_side T (leaves s (predicate_of s.block k)) then tagged c (AtNode m) Predicate v ∷ [] else []
    gated m k r = []

    abbrev pub decides : Kind ℕ → List Source → Bool
    decides Cond xs = test (first_source xs)
    decides k xs = false

    -- an operand of a node that is no conditional is itself
    operand_settled : (m i : ℕ) (x : Node ℕ) → node_at s.block m ≡ Some x → cond_kind x.kind ≡ false
        → settled_at fl (operand c m i v) (AtNode m) ≡ operand c m i v ∷ []
    operand_settled m i x e k =
        ap (λ o. settled_node fl (operand c m i v) m (node_in o m)) there ∙ ap (settled_node fl (operand c m i v) m) e ∙ by_kind x.kind k
      where
        by_kind : (y : Kind ℕ) → cond_kind y ≡ false → Told.settled_kind fl (operand c m i v) m y ≡ operand c m i v ∷ []
        by_kind Cond h = absurd (cc)
        by_kind y h = refl

    abbrev op_if : Bool → ℕ → ℕ → List Tagged
    op_if t m i = if t then operand c m i v ∷ [] else []

    -- the operands of a node that is no conditional
    module _ (m : ℕ) (x : Node ℕ) (e : node_at s.block m ≡ Some x) (k : cond_kind x.kind ≡ false) where
      used_cons : (i : ℕ) (ps : List ℕ) (t : Bool) → used_at m (if t then i ∷ ps else ps) ≡ op_if t m i ++ used_at m ps
      used_cons i ps true = ap (λ zs. zs ++ used_at m ps) (operand_settled m i x e k)
      used_cons i ps false = refl

      -- a source whose wire stands for the operand, before others
      one_more : (i : ℕ) (y : Source) (ys : List Source) (w : Wire) (ws : List Wire) → IsPrior fl s.block m y → w.from ≡ leaves s y
          → tells w ≡ operand c m i v ∷ [] → heard T ws ≡ used_at m (positions n q (i + 1) ys)
          → heard T (w ∷ ws) ≡ used_at m (positions n q i (y ∷ ys))
      one_more i y ys w ws h f o rest =
          heard_one T w ws ∙ ap (λ t. (if t then tells w else []) ++ heard T ws) (ap (same_side T) f ∙ tested m y h)
          ∙ ap (λ zs. (if test y then zs else []) ++ heard T ws) o
          ∙ ap (λ zs. op_if (test y) m i ++ zs) rest ∙ sym (used_cons i (positions n q (i + 1) ys) (test y))

      line_one : (ys : List Source) → length ys ≡ 1 → All (IsPrior fl s.block m) ys → heard T (operand_wires s (Line m) 0 ys) ≡ used m ys
      line_one [] l h = absurd (omega (arith, l))
      line_one (y ∷ []) l h = one_more 0 y [] (wire (leaves s y) (Line m) Left) [] (All-head (IsPrior fl s.block m) y [] h) refl refl refl
      line_one (y ∷ z ∷ ys) l h = absurd (omega (arith, l))

      line_two : (ys : List Source) → length ys ≡ 2 → All (IsPrior fl s.block m) ys → heard T (operand_wires s (Line m) 0 ys) ≡ used m ys
      line_two [] l h = absurd (omega (arith, l))
      line_two (y ∷ []) l h = absurd (omega (arith, l))
      line_two (y ∷ z ∷ []) l h =
          let more = All-tail (IsPrior fl s.block m) y (z ∷ []) h in
          one_more 0 y (z ∷ []) (wire (leaves s y) (Line m) Left) (wire (leaves s z) (Line m) Right ∷ [])
          (All-head (IsPrior fl s.block m) y (z ∷ []) h) refl refl
          (one_more 1 z [] (wire (leaves s z) (Line m) Right) [] (All-head (IsPrior fl s.block m) z [] more) refl refl refl)
      line_two (y ∷ z ∷ u ∷ ys) l h = absurd (omega (arith, l))

      merge_row : (j : ℕ) (r : Region) (ys : List Source) → Merges s.block m r j ys → All (IsPrior fl s.block m) ys
          → heard T (merge_wires s (Parts.Merge m) ys) ≡ used m ys
      merge_row j r [] l h = absurd l
      merge_row j r (y ∷ []) l h = absurd l
      merge_row j r (y ∷ z ∷ []) l h =
          let more = All-tail (IsPrior fl s.block m) y (z ∷ []) h in
          one_more 0 y (z ∷ []) (wire (leaves s y) (Parts.Merge m) Left) (wire (leaves s z) (Parts.Merge m) Left ∷ [])
          (All-head (IsPrior fl s.block m) y (z ∷ []) h) refl
          (ap (λ g. operand c m (way_in (Parts.Merge m) g) v ∷ []) (leaves_region s y.node y.port ∙ l.3))
          (one_more 1 z [] (wire (leaves s z) (Parts.Merge m) Left) [] (All-head (IsPrior fl s.block m) z [] more) refl
          (ap (λ g. operand c m (way_in (Parts.Merge m) g) v ∷ []) (leaves_region s z.node z.port ∙ l.4)) refl)
      merge_row j r (y ∷ z ∷ u ∷ ys) l h = absurd l

      gate_row : (r : Region) (ys : List Source) → r ≢ Root → length ys ≡ 1 → All (IsPrior fl s.block m) ys
          → heard T (gate_wires s m r ys) ≡ used m ys ++ gated m Enter r
      gate_row r [] z l h = absurd (omega (arith, l))
      gate_row (Arm j t) (y ∷ []) z l h =
          let one : Wire = wire (leaves s y) (Gate m) Left in
          let two : Wire = wire (leaves s (predicate_of s.block j)) (Gate m) Right in
          heard_both T (one ∷ []) (two ∷ []) ∙ ap (λ zs. zs ++ heard T (two ∷ []))
          (one_more 0 y [] one [] (All-head (IsPrior fl s.block m) y [] h) refl refl refl)
          ∙ ap (λ zs. used m (y ∷ []) ++ zs) (heard_one T two [] ∙ append-nil (gated m Enter (Arm j t)))
      gate_row Root (y ∷ []) z l h = absurd (z refl)
      gate_row r (y ∷ u ∷ ys) z l h = absurd (omega (arith, l))

      -- invocations
      senders_row : (from : ℕ) (ys : List Source) → All (IsPrior fl s.block m) ys → heard T (sender_wires s m from ys) ≡ used_at m (positions n q from ys)
      senders_row from [] h = refl
      senders_row from (y ∷ ys) h =
          let w : Wire = wire (leaves s y) (Sender m from) Right in
          quiet_before T (wire (side (Fanned m) false) (Sender m from) Left ∷ []) (w ∷ sender_wires s m (from + 1) ys) (inl refl, tt)
          ∙ one_more from y ys w (sender_wires s m (from + 1) ys) (All-head (IsPrior fl s.block m) y ys h) refl refl
          (senders_row (from + 1) ys (All-tail (IsPrior fl s.block m) y ys h))

      invoke_row : (t : Side) (ys : List Source) → All (IsPrior fl s.block m) ys → heard T (invoke_wires s m t ys) ≡ used m ys
      invoke_row t ys h =
          quiet_before T (wire t (Framer m) Left ∷ wire (side (Fanned m) false) (Linker m) Left ∷ []) (sender_wires s m 0 ys) (inl refl, (inl refl, tt))
          ∙ senders_row 0 ys h

      strict_quiet : (from : ℕ) (t : Side) (ys : List Source) → AllW (Quiet T) (strict_wires s m from t ys)
      strict_quiet from t [] = tt
      strict_quiet from t (y ∷ ys) = (inl refl, (inl refl, strict_quiet (from + 1) (side (Strict m from) false) ys))

      strict_row : (ys : List Source) → All (IsPrior fl s.block m) ys → heard T (strict_call_wires s m ys) ≡ used m ys
      strict_row [] h = refl
      strict_row (y ∷ ys) h =
          quiet_before T (strict_wires s m 1 (leaves s y) ys) (invoke_wires s m (strict_end m 1 (leaves s y) ys) (y ∷ ys)) (strict_quiet 1 (leaves s y) ys)
          ∙ invoke_row (strict_end m 1 (leaves s y) ys) (y ∷ ys) h

      -- what goes to a copy leaves at no node
      copies_quiet : is_kind cell_kind s.block m ≡ true → (t : Bool) → is_shared s m ≡ t → AllW (Quiet T) (answer_wires m t)
      copies_quiet h true f = (inr (copy_apart s n q m h f), tt)
      copies_quiet h false f = tt

      copy_row : (ys : List Source) → is_kind cell_kind s.block m ≡ true → heard T (operand_wires s (Line m) 0 ys) ≡ used m ys
          → heard T (operand_wires s (Line m) 0 ys ++ answer_wires m (is_shared s m)) ≡ used m ys
      copy_row ys h row =
          heard_both T (operand_wires s (Line m) 0 ys) (answer_wires m (is_shared s m))
          ∙ ap (λ zs. heard T (operand_wires s (Line m) 0 ys) ++ zs) (quiet T (answer_wires m (is_shared s m)) (copies_quiet h (is_shared s m) refl))
          ∙ append-nil (heard T (operand_wires s (Line m) 0 ys)) ∙ row

    -- a conditional's source goes to its trigger besides, which stands for no token
    trigger_quiet : (m : ℕ) (t : Bool) (x : Source) → heard T (trigger_wires s m t x) ≡ []
    trigger_quiet m true x = quiet T (trigger_wires s m true x) (inl refl, (inl refl, tt))
    trigger_quiet m false x = refl

    cond_row : (m : ℕ) (x : Node ℕ) (ys : List Source) → node_at s.block m ≡ Some x → x.kind ≡ Cond → length ys ≡ 1
        → (if test (first_source ys) then predicates_from c m v s.block.inputs s.block.nodes else []) ≡ used m ys ++ []
    cond_row m x [] e k l = absurd (omega (arith, l))
    cond_row m x (y ∷ []) e k l = go (test y)
      where
        settled : settled_at fl (operand c m 0 v) (AtNode m) ≡ predicates_from c m v s.block.inputs s.block.nodes
        settled =
            ap (λ o. settled_node fl (operand c m 0 v) m (node_in o m)) there ∙ ap (settled_node fl (operand c m 0 v) m) e
            ∙ ap (Told.settled_kind fl (operand c m 0 v) m) k ∙ ap (λ o. predicates_in o c m v) there

        go : (t : Bool) → (if t then predicates_from c m v s.block.inputs s.block.nodes else []) ≡ used_at m (if t then 0 ∷ [] else []) ++ []
        go true = sym (append-nil (used_at m (0 ∷ [])) ∙ append-nil (settled_at fl (operand c m 0 v) (AtNode m)) ∙ settled)
        go false = refl
    cond_row m x (y ∷ u ∷ ys) e k l = absurd (omega (arith, l))

    abbrev pub Row : ℕ → Node ℕ → Kind ℕ → List Source → Type 0
    Row m x k xs =
        heard T (kind_wires s m x.region k xs) ++ (if decides k xs then predicates_from c m v s.block.inputs s.block.nodes else []) ≡ used m xs
        ++ gated m k x.region

    -- what a node's wires stand for, and the predicates of its use as a conditional's: its uses, and what a gate's predicate
    -- stands for
    pub kind_row : (m : ℕ) (x : Node ℕ) → node_at s.block m ≡ Some x → Row m x x.kind x.sources
    kind_row m x e = go x.kind refl (fit.nodes m x e).takes (fit.nodes m x e).lies
      where
        xs : List Source
        xs = x.sources

        before : All (IsPrior fl s.block m) x.sources
        before = (fit.nodes m x e).earlier

        -- with no predicates besides
        plain : (ws : List Wire) → heard T ws ≡ used m x.sources → heard T ws ++ [] ≡ used m x.sources ++ []
        plain ws h = ap (λ zs. zs ++ []) h

        cell : (k : Kind ℕ) → x.kind ≡ k → is_kind cell_kind s.block m ≡ cell_kind k
        cell k f = kind_at s.block cell_kind m x e ∙ ap cell_kind f

        go : (k : Kind ℕ) → x.kind ≡ k → Takes fl k (length x.sources) → Lies s.block m x.region k x.sources → Row m x k x.sources
        go Cond k t l =
            ap (λ zs. zs ++ (if test (first_source xs) then predicates_from c m v s.block.inputs s.block.nodes else []))
            (trigger_quiet m (is_triggered s.block m) (first_source xs)) ∙ cond_row m x xs e k t
        go Enter k t l = append-nil (heard T (gate_wires s m x.region xs)) ∙ gate_row m x e (ap cond_kind k) x.region xs l.0 t before
        go (Merge j) k t l = plain (merge_wires s (Parts.Merge m) xs) (merge_row m x e (ap cond_kind k) j x.region xs l before)
        go (Lit z) k t l = plain (operand_wires s (Line m) 0 xs) (line_one m x e (ap cond_kind k) xs t before)
        go (Apply1 op) k t l = plain (operand_wires s (Line m) 0 xs) (line_one m x e (ap cond_kind k) xs t before)
        go (Apply2 op) k t l = plain (operand_wires s (Line m) 0 xs) (line_two m x e (ap cond_kind k) xs t before)
        go (Fetch a) k t l =
            plain (operand_wires s (Line m) 0 xs ++ answer_wires m (is_shared s m))
            (copy_row m x e (ap cond_kind k) xs (cell (Fetch a) k) (line_one m x e (ap cond_kind k) xs t before))
        go (Store a) k t l =
            plain (operand_wires s (Line m) 0 xs ++ answer_wires m (is_shared s m))
            (copy_row m x e (ap cond_kind k) xs (cell (Store a) k) (line_two m x e (ap cond_kind k) xs t before))
        go (Call g) k t l = plain (invoke_wires s m (trigger_side x.region) xs) (invoke_row m x e (ap cond_kind k) (trigger_side x.region) xs before)
        go (StrictCall g) k t l = plain (strict_call_wires s m xs) (strict_row m x e (ap cond_kind k) xs before)
        go (Loop g j) k t l =
            plain (wire (trigger_side x.region) (Opener m) Left ∷ invoke_wires s m (side (Opener m) false) xs)
            (quiet_before T (wire (trigger_side x.region) (Opener m) Left ∷ []) (invoke_wires s m (side (Opener m) false) xs) (inl refl, tt)
            ∙ invoke_row m x e (ap cond_kind k) (side (Opener m) false) xs before)
