-- Where the wires of nodes and results come from and go, and that a gate's unused side is an end of the other arm.
use Rattle.std.proofs.Common.{◌≡◌, ◌≢◌, ℕ, zero, suc, ◌+◌, ◌<◌, ◌≤◌, ◌⊎◌, inl, inr, Bool, true, false, not, List, [], ◌∷◌, ◌++◌, length, refl, sym, ap, ◌∙◌}
use Rattle.std.proofs.Common.{subst, arith, Some, None, Option, All}
use Rattle.std.proofs.lemmas.Bool.{cases_lt}
use Rattle.std.proofs.lemmas.List.Elements.{All-head, All-tail}
use Rattle.std.proofs.lemmas.Option.{same_Some}
use Rattle.tags.specs.declared.token.Port.TheVariants.{Left, Right}
use Rattle.semantics.specs.declared.graph.Region.{Region}
use Rattle.semantics.specs.declared.graph.Region.TheVariants.{Root, Arm}
use Rattle.semantics.specs.declared.graph.Source.{Source}
use Rattle.semantics.specs.declared.graph.Kind.{Kind}
use Rattle.semantics.specs.declared.graph.Kind.TheVariants.{Lit, Apply1, Apply2, Cond, Enter, Merge, Fetch, Store, Call, StrictCall, Loop}
use Rattle.semantics.specs.Graph.{Node, Flow, node_at}
use Rattle.semantics.specs.Meaning.{arm_of}
use Rattle.schemas.specs.Builds as Builds
use Rattle.schemas.specs.Builds.{first_source}
use Rattle.schemas.specs.Scopes.{predicate_of}
use Rattle.law_net.specs.ContextsParts as Parts
use Rattle.law_net.specs.ContextsParts.{Part, Entry, Line, Answer, Gate, Landing, Opener, Framer, Fanned, Linker, Sender, CallDone, LoopDone, Strict, Trigger}
use Rattle.law_net.specs.ContextsParts.{Result, TurnCont, TurnFlag, TurnValue, Asker, NextFanned, NextSender, LastReturn, DrainReturn, part_key}
use Rattle.law_net.specs.ContextsBlocks.{Side, side, Site, lies_in, outside, arm_round, second_side, is_kind, cond_kind, enter_kind, cell_kind}
use Rattle.law_net.specs.ContextsExpanded.{row}
use Rattle.law_wiring.specs.Written.{Wire, wire, is_shared, is_triggered, answer_side, exit_of, leaves_at, leaves, trigger_side, operand_wires, merge_wires}
use Rattle.law_wiring.specs.Written.{meet_wires, trigger_wires, gate_wires, answer_wires, sender_wires, invoke_wires, strict_wires, strict_end}
use Rattle.law_wiring.specs.Written.{strict_call_wires, kind_wires, node_wires, result_wires, value_wires, next_wires, last_wires, turn_wires, tail_wires}
use Rattle.law_wiring.specs.Written.{inner_wires, kind_parts, node_parts, tail_parts, inner_parts, sides, is_open, first_ends}
use Rattle.law_wiring.specs.WrittenFit.{Takes, IsPrior, LiesIn, Lies, Merges, IsFit}
use Rattle.law_wiring.proofs.PartsCounts.{Follow, follow_more, follow_here}
use Rattle.law_wiring.proofs.WrittenMembers.{AllW, all_both, In, sides_left, sides_right, open_in, open_none, all_weaker, region}
use Rattle.law_wiring.proofs.Parts.{follow, node_within}
use Rattle.law_wiring.proofs.WrittenNodes.{node_some, kind_at, its_region, is_value, leaves_region, leaves_own, leaves_some, leaves_none, first_lies}
use Rattle.law_wiring.proofs.WrittenNodes.{predicate_before, arms_round}

-- parts from which no wire of a node or a result leaves
abbrev pub is_last : Part → Bool
is_last (Sender n i) = true
is_last (CallDone n) = true
is_last (LoopDone n) = true
is_last (Result j) = true
is_last (NextSender j) = true
is_last (LastReturn j) = true
is_last DrainReturn = true
is_last r = false

value_last : (r : Part) → is_value r ≡ true → is_last r ≡ true → ⊥
value_last (Line n) h l = cc
value_last (Answer n) h l = cc
value_last (Gate n) h l = cc
value_last (Parts.Merge n) h l = cc
value_last (Landing n q) h l = cc
value_last r h l = cc

module _ (fl : Flow) (s : Site) (fit : IsFit fl s.block) where
  abbrev pub R : Side → Region
  R t = region s.block t

  abbrev pub count : ℕ
  count = s.block.inputs + length s.block.nodes

  -- WHERE A WIRE COMES FROM AND GOES
  pub data Arrives (v : Wire) : Type 0 where
    -- no value of a node
    Other : is_value v.from.part ≡ false → is_last v.from.part ≡ false → Arrives v
    -- to the copy of an answer
    Copy : (n : ℕ) → v.from ≡ side (Line n) false → is_kind cell_kind s.block n ≡ true → is_shared s n ≡ true → Arrives v
    AtNode : (x : Source) (n : ℕ) → v.from ≡ leaves s x → x.node < n → n < count → lies_in s.block n ≡ R v.from → is_kind cond_kind s.block n ≡ false
        → Arrives v
    AtGate : (x : Source) (n k : ℕ) (t : Bool) → v.from ≡ leaves s x → lies_in s.block n ≡ Arm k t → is_kind enter_kind s.block n ≡ true
        → R v.from ≡ lies_in s.block k → Arrives v
    AtCond : (x : Source) (k : ℕ) → v.from ≡ leaves s x → is_triggered s.block k ≡ true → R v.from ≡ lies_in s.block k → Arrives v
    AtMerge : (x : Source) (k n : ℕ) (t : Bool) → v.from ≡ leaves s x → R v.from ≡ Arm k t → lies_in s.block n ≡ Arm k (not t) → Arrives v
    AtResult : (x : Source) → v.from ≡ leaves s x → R v.from ≡ Root → Arrives v

  pub value_of : (v : Wire) → Arrives v → ((is_value v.from.part ≡ false) × (is_last v.from.part ≡ false))
      ⊎ (((n : ℕ) × (v.from ≡ side (Line n) false)) ⊎ ((x : Source) × (v.from ≡ leaves s x)))
  value_of v (Other e f) = inl (e, f)
  value_of v (Copy n e c h) = inr (inl (n, e))
  value_of v (AtNode x n e a c d f) = inr (inr (x, e))
  value_of v (AtGate x n k t e a c d) = inr (inr (x, e))
  value_of v (AtCond x k e a c) = inr (inr (x, e))
  value_of v (AtMerge x k n t e a c) = inr (inr (x, e))
  value_of v (AtResult x e a) = inr (inr (x, e))

  at_region : (x : Source) (r : Region) → lies_in s.block x.node ≡ r → R (leaves s x) ≡ r
  at_region x r e = leaves_region s x.node x.port ∙ e

  -- the operands of a node that is no conditional
  module _ (n : ℕ) (node : Node ℕ) (e : node_at s.block n ≡ Some node) (plain : cond_kind node.kind ≡ false) where
    arrives_node : (x : Source) → IsPrior fl s.block n x → lies_in s.block x.node ≡ node.region → (v : Wire) → v.from ≡ leaves s x → Arrives v
    arrives_node x h l v f =
        AtNode x n f h.earlier (node_within s.block n node e).1 (its_region s.block n node e ∙ sym (ap R f ∙ at_region x node.region l))
        (kind_at s.block cond_kind n node e ∙ plain)

    operands_arrive : (r : Part) (from : ℕ) (xs : List Source) → All (IsPrior fl s.block n) xs → All (LiesIn s.block node.region) xs
        → AllW Arrives (operand_wires s r from xs)
    operands_arrive r from [] h l = tt
    operands_arrive r from (x ∷ xs) h l = (
      arrives_node x (All-head (IsPrior fl s.block n) x xs h) (All-head (LiesIn s.block node.region) x xs l) (wire (leaves s x) r (Builds.side from)) refl,
      operands_arrive r (from + 1) xs (All-tail (IsPrior fl s.block n) x xs h) (All-tail (LiesIn s.block node.region) x xs l),
    )

    senders_arrive : (from : ℕ) (xs : List Source) → All (IsPrior fl s.block n) xs → All (LiesIn s.block node.region) xs
        → AllW Arrives (sender_wires s n from xs)
    senders_arrive from [] h l = tt
    senders_arrive from (x ∷ xs) h l = (
      Other refl refl,
      (
        arrives_node x (All-head (IsPrior fl s.block n) x xs h) (All-head (LiesIn s.block node.region) x xs l) (wire (leaves s x) (Sender n from) Right) refl,
        senders_arrive (from + 1) xs (All-tail (IsPrior fl s.block n) x xs h) (All-tail (LiesIn s.block node.region) x xs l),
      ),
    )

    invoke_arrive : (t : Side) (xs : List Source) → ((r : Part) → Arrives (wire t r Left)) → All (IsPrior fl s.block n) xs → All (LiesIn s.block node.region) xs
        → AllW Arrives (invoke_wires s n t xs)
    invoke_arrive t xs c h l = (c (Framer n), (Other refl refl, senders_arrive 0 xs h l))

    strict_arrive : (from : ℕ) (t : Side) (xs : List Source) → ((r : Part) → Arrives (wire t r Left)) → All (IsPrior fl s.block n) xs
        → All (LiesIn s.block node.region) xs
        → AllW Arrives (strict_wires s n from t xs) × ((r : Part) → Arrives (wire (strict_end n from t xs) r Left))
    strict_arrive from t [] c h l = (tt, c)
    strict_arrive from t (x ∷ xs) c h l =
        let rest = strict_arrive (from + 1) (side (Strict n from) false) xs (λ r. Other refl refl) (All-tail (IsPrior fl s.block n) x xs h)
        (All-tail (LiesIn s.block node.region) x xs l) in (
          (
            c (Strict n from),
            (
              arrives_node x (All-head (IsPrior fl s.block n) x xs h) (All-head (LiesIn s.block node.region) x xs l)
                  (wire (leaves s x) (Strict n from) Right) refl,
              rest.0,
            ),
          ),
          rest.1,
        )

    strict_call_arrive : (xs : List Source) → All (IsPrior fl s.block n) xs → All (LiesIn s.block node.region) xs → AllW Arrives (strict_call_wires s n xs)
    strict_call_arrive [] h l = tt
    strict_call_arrive (x ∷ xs) h l =
        let first : (r : Part) → Arrives (wire (leaves s x) r Left) =
        λ r. arrives_node x (All-head (IsPrior fl s.block n) x xs h) (All-head (LiesIn s.block node.region) x xs l) (wire (leaves s x) r Left) refl in
        let chain = strict_arrive 1 (leaves s x) xs first (All-tail (IsPrior fl s.block n) x xs h) (All-tail (LiesIn s.block node.region) x xs l) in
        all_both Arrives (strict_wires s n 1 (leaves s x) xs) (invoke_wires s n (strict_end n 1 (leaves s x) xs) (x ∷ xs)) chain.0
        (invoke_arrive (strict_end n 1 (leaves s x) xs) (x ∷ xs) chain.1 h l)

  trigger_arrives : (g : Region) (r : Part) → Arrives (wire (trigger_side g) r Left)
  trigger_arrives Root r = Other refl refl
  trigger_arrives (Arm k t) r = Other refl refl

  merges_arrive : (n k : ℕ) (r : Region) (xs : List Source) → Merges s.block n r k xs → AllW Arrives (merge_wires s (Parts.Merge n) xs)
  merges_arrive n k r [] h = absurd h
  merges_arrive n k r (x ∷ []) h = absurd h
  merges_arrive n k r (x ∷ z ∷ []) h =
      (AtMerge x k z.node true refl (at_region x (Arm k true) h.3) h.4, (AtMerge z k x.node false refl (at_region z (Arm k false) h.4) h.3, tt))
  merges_arrive n k r (x ∷ z ∷ u ∷ xs) h = absurd h

  gates_arrive : (n : ℕ) (r : Region) (xs : List Source) → lies_in s.block n ≡ r → is_kind enter_kind s.block n ≡ true → length xs ≡ 1
      → All (LiesIn s.block (outside s.block r)) xs → AllW Arrives (gate_wires s n r xs)
  gates_arrive n Root xs e i one h = tt
  gates_arrive n (Arm k t) xs e i one h = (
    AtGate (first_source xs) n k t refl e i
        (at_region (first_source xs) (lies_in s.block k) (first_lies s.block (lies_in s.block k) xs (omega (arith, one)) h)),
    (
      AtGate (predicate_of s.block k) n k t refl e i
          (at_region (predicate_of s.block k) (lies_in s.block k) (predicate_before fl s.block fit k (arms_round fl s.block fit n k t e).1).1),
      tt,
    ),
  )

  copies_arrive : (n : ℕ) → is_kind cell_kind s.block n ≡ true → (t : Bool) → is_shared s n ≡ t → AllW Arrives (answer_wires n t)
  copies_arrive n c true e = (Copy n refl c e, tt)
  copies_arrive n c false e = tt

  triggers_arrive : (k : ℕ) (x : Source) (t : Bool) → is_triggered s.block k ≡ t → lies_in s.block x.node ≡ lies_in s.block k
      → AllW Arrives (trigger_wires s k t x)
  triggers_arrive k x true e l = (AtCond x k refl e (at_region x (lies_in s.block k) l), (AtCond x k refl e (at_region x (lies_in s.block k) l), tt))
  triggers_arrive k x false e l = tt

  kind_arrive : (n : ℕ) (x : Node ℕ) → node_at s.block n ≡ Some x → AllW Arrives (kind_wires s n x.region x.kind x.sources)
  kind_arrive n x f = go x.kind refl (fit.nodes n x f).takes (fit.nodes n x f).lies (fit.nodes n x f).earlier
    where
      go : (k : Kind ℕ) → x.kind ≡ k → Takes fl k (length x.sources) → Lies s.block n x.region k x.sources → All (IsPrior fl s.block n) x.sources
          → AllW Arrives (kind_wires s n x.region k x.sources)
      go Cond e t l h =
          triggers_arrive n (first_source x.sources) (is_triggered s.block n) refl
          (first_lies s.block x.region x.sources (omega (arith, t)) l ∙ sym (its_region s.block n x f))
      go Enter e t l h = gates_arrive n x.region x.sources (its_region s.block n x f) (kind_at s.block enter_kind n x f ∙ ap enter_kind e) t l.1
      go (Merge c) e t l h = merges_arrive n c x.region x.sources l
      go (Lit z) e t l h = operands_arrive n x f (ap cond_kind e) (Line n) 0 x.sources h l
      go (Apply1 op) e t l h = operands_arrive n x f (ap cond_kind e) (Line n) 0 x.sources h l
      go (Apply2 op) e t l h = operands_arrive n x f (ap cond_kind e) (Line n) 0 x.sources h l
      go (Fetch a) e t l h =
          all_both Arrives (operand_wires s (Line n) 0 x.sources) (answer_wires n (is_shared s n))
          (operands_arrive n x f (ap cond_kind e) (Line n) 0 x.sources h l)
          (copies_arrive n (kind_at s.block cell_kind n x f ∙ ap cell_kind e) (is_shared s n) refl)
      go (Store a) e t l h =
          all_both Arrives (operand_wires s (Line n) 0 x.sources) (answer_wires n (is_shared s n))
          (operands_arrive n x f (ap cond_kind e) (Line n) 0 x.sources h l)
          (copies_arrive n (kind_at s.block cell_kind n x f ∙ ap cell_kind e) (is_shared s n) refl)
      go (Call g) e t l h = invoke_arrive n x f (ap cond_kind e) (trigger_side x.region) x.sources (trigger_arrives x.region) h l
      go (StrictCall g) e t l h = strict_call_arrive n x f (ap cond_kind e) x.sources h l
      go (Loop g c) e t l h =
          (trigger_arrives x.region (Opener n), invoke_arrive n x f (ap cond_kind e) (side (Opener n) false) x.sources (λ r. Other refl refl) h l)

  nodes_arrive : (n : ℕ) (xs : List (Node ℕ)) → Follow s.block n xs → AllW Arrives (node_wires s n xs)
  nodes_arrive n [] f = tt
  nodes_arrive n (x ∷ xs) f =
      all_both Arrives (kind_wires s n x.region x.kind x.sources) (node_wires s (n + 1) xs) (kind_arrive n x (follow_here s.block n x xs f))
      (nodes_arrive (n + 1) xs (follow_more s.block n x xs f))

  results_arrive : (from : ℕ) (xs : List Source) → All (LiesIn s.block Root) xs → AllW Arrives (result_wires s from xs)
  results_arrive from [] h = tt
  results_arrive from (x ∷ xs) h = (
    Other refl refl,
    (AtResult x refl (at_region x Root (All-head (LiesIn s.block Root) x xs h)), results_arrive (from + 1) xs (All-tail (LiesIn s.block Root) x xs h)),
  )

  -- the turn of a loop
  values_arrive : (x : Source) (from : ℕ) (xs : List Source) → lies_in s.block x.node ≡ Root → All (LiesIn s.block Root) xs
      → AllW Arrives (value_wires s (leaves s x) from xs)
  values_arrive x from [] e h = tt
  values_arrive x from (z ∷ xs) e h = (
    AtResult z refl (at_region z Root (All-head (LiesIn s.block Root) z xs h)),
    (AtResult x refl (at_region x Root e), values_arrive x (from + 1) xs e (All-tail (LiesIn s.block Root) z xs h)),
  )

  nexts_arrive : (from n : ℕ) → AllW Arrives (next_wires from n)
  nexts_arrive from zero = tt
  nexts_arrive from (suc n) = (Other refl refl, (Other refl refl, nexts_arrive (from + 1) n))

  lasts_arrive : (from n : ℕ) → AllW Arrives (last_wires from n)
  lasts_arrive from zero = tt
  lasts_arrive from (suc n) = (Other refl refl, (Other refl refl, lasts_arrive (from + 1) n))

  turns_arrive : (xs : List Source) → All (LiesIn s.block Root) xs → AllW Arrives (turn_wires s xs)
  turns_arrive [] h = tt
  turns_arrive (x ∷ xs) h =
      let e = All-head (LiesIn s.block Root) x xs h in (
        Other refl refl,
        (
          AtResult x refl (at_region x Root e),
          (
            AtResult x refl (at_region x Root e),
            (
              AtResult x refl (at_region x Root e),
              all_both Arrives (value_wires s (leaves s x) 1 xs)
                  (meet_wires (side TurnCont false) (side TurnFlag false) Asker
                  ++ (meet_wires (side NextFanned false) (side TurnCont false) (NextSender 0) ++ (next_wires 1 (length xs)
                  ++ (last_wires 0 (length xs) ++ meet_wires (side TurnCont true) (side TurnFlag true) DrainReturn))))
                  (values_arrive x 1 xs e (All-tail (LiesIn s.block Root) x xs h)) (
                    Other refl refl,
                    (
                      Other refl refl,
                      (
                        Other refl refl,
                        (
                          Other refl refl,
                          all_both Arrives (next_wires 1 (length xs))
                              (last_wires 0 (length xs) ++ meet_wires (side TurnCont true) (side TurnFlag true) DrainReturn) (nexts_arrive 1 (length xs))
                              (all_both Arrives (last_wires 0 (length xs)) (meet_wires (side TurnCont true) (side TurnFlag true) DrainReturn)
                              (lasts_arrive 0 (length xs)) (Other refl refl, (Other refl refl, tt))),
                        ),
                      ),
                    ),
                  ),
            ),
          ),
        ),
      )

  tails_arrive : (t : Bool) → AllW Arrives (tail_wires s t)
  tails_arrive false = results_arrive 0 s.block.results fit.in_root
  tails_arrive true = turns_arrive s.block.results fit.in_root

  pub inner_arrive : AllW Arrives (inner_wires s)
  inner_arrive =
      all_both Arrives (node_wires s s.block.inputs s.block.nodes) (tail_wires s s.turns) (nodes_arrive s.block.inputs s.block.nodes (follow s.block))
      (tails_arrive s.turns)

  -- WHAT IS OPEN
  pub last_open : (t : Side) → is_last t.part ≡ true → is_open t (inner_wires s) ≡ true
  last_open t l = open_none t (inner_wires s) (all_weaker Arrives (λ v. t ≢ v.from) (inner_wires s) (λ v c q. apart v q (value_of v c)) inner_arrive)
    where
      apart : (v : Wire) → t ≡ v.from → ((is_value v.from.part ≡ false) × (is_last v.from.part ≡ false))
          ⊎ (((n : ℕ) × (v.from ≡ side (Line n) false)) ⊎ ((x : Source) × (v.from ≡ leaves s x))) → ⊥
      apart v q (inl h) = let f = h.1 in let z = ap (λ (u : Side). is_last u.part) q in cc
      apart v q (inr (inl h)) = let z = ap (λ (u : Side). is_last u.part) (q ∙ h.1) in cc
      apart v q (inr (inr h)) = value_last (leaves s h.0).part (leaves_own s h.0.node h.0.port).0 (sym (ap (λ (u : Side). is_last u.part) (q ∙ h.1)) ∙ l)

  -- A NODE IN AN ARM comes from a gate of that arm
  pub gate_of : (fuel n k : ℕ) (u : Bool) → n < fuel → lies_in s.block n ≡ Arm k u
      → (g : ℕ) × (lies_in s.block g ≡ Arm k u) × (is_kind enter_kind s.block g ≡ true)
  gate_of zero n k u l e = absurd (omega (arith, l))
  gate_of (suc fuel) n k u l e = go (node_at s.block n) refl (λ m a c. gate_of fuel m k u a c)
    where
      Goal : Type 0
      Goal = (g : ℕ) × (lies_in s.block g ≡ Arm k u) × (is_kind enter_kind s.block g ≡ true)

      one_source : (xs : List Source) → 0 < length xs → All (IsPrior fl s.block n) xs → All (LiesIn s.block (Arm k u)) xs
          → ((m : ℕ) → m < fuel → lies_in s.block m ≡ Arm k u → Goal) → Goal
      one_source [] c h q more = absurd (omega (arith, c))
      one_source (x ∷ xs) c h q more =
          let low = (All-head (IsPrior fl s.block n) x xs h).earlier in more x.node (omega (arith, low, l)) (All-head (LiesIn s.block (Arm k u)) x xs q)

      merge_source : (c : ℕ) (xs : List Source) → Merges s.block n (Arm k u) c xs → ((m : ℕ) → m < fuel → lies_in s.block m ≡ Arm k u → Goal) → Goal
      merge_source c [] h more = absurd h
      merge_source c (x ∷ []) h more = absurd h
      merge_source c (x ∷ z ∷ []) h more = let low = h.0 in more c (omega (arith, low, l)) h.2
      merge_source c (x ∷ z ∷ y ∷ xs) h more = absurd h

      kinds : (x : Node ℕ) → node_at s.block n ≡ Some x → (c : Kind ℕ) → x.kind ≡ c → Takes fl c (length x.sources) → Lies s.block n (Arm k u) c x.sources
          → All (IsPrior fl s.block n) x.sources
          → ((m : ℕ) → m < fuel → lies_in s.block m ≡ Arm k u → Goal) → Goal
      kinds x f Enter q t h a more = (n, e, kind_at s.block enter_kind n x f ∙ ap enter_kind q)
      kinds x f (Merge c) q t h a more = merge_source c x.sources h more
      kinds x f Cond q t h a more = one_source x.sources (omega (arith, t)) a h more
      kinds x f (Lit z) q t h a more = one_source x.sources (omega (arith, t)) a h more
      kinds x f (Apply1 op) q t h a more = one_source x.sources (omega (arith, t)) a h more
      kinds x f (Apply2 op) q t h a more = one_source x.sources (omega (arith, t)) a h more
      kinds x f (Fetch y) q t h a more = one_source x.sources (omega (arith, t)) a h more
      kinds x f (Store y) q t h a more = one_source x.sources (omega (arith, t)) a h more
      kinds x f (Call y) q t h a more = one_source x.sources t.some_input a h more
      kinds x f (StrictCall y) q t h a more = one_source x.sources t.some_input a h more
      kinds x f (Loop y c) q t h a more = let i = t.0 in one_source x.sources i.some_input a h more

      go : (o : Option (Node ℕ)) → node_at s.block n ≡ o → ((m : ℕ) → m < fuel → lies_in s.block m ≡ Arm k u → Goal) → Goal
      go None f more = let root : lies_in s.block n ≡ Root = ap arm_of f in let no : Root ≡ Arm k u = sym root ∙ e in absurd (cc)
      go (Some x) f more =
          let h = fit.nodes n x f in
          let r : x.region ≡ Arm k u = sym (its_region s.block n x f) ∙ e in
          kinds x f x.kind refl h.takes (subst (λ q. Lies s.block n q x.kind x.sources) r h.lies) h.earlier more

  -- A GATE'S UNUSED SIDE
  answer_gate : (m g : ℕ) (u t : Bool) → answer_side m t ≡ side (Gate g) u → ⊥
  answer_gate m g u true e = let p : Answer m ≡ Gate g = ap (λ (t : Side). t.part) e in cc
  answer_gate m g u false e = let p : Line m ≡ Gate g = ap (λ (t : Side). t.part) e in cc

  exit_gate : (m q g : ℕ) (u : Bool) (r : Region) (k : Kind ℕ) → exit_of s m q r k ≡ side (Gate g) u → (m ≡ g) × (second_side r ≡ u)
  exit_gate m q g u r Enter e = let p : Gate m ≡ Gate g = ap (λ (t : Side). t.part) e in let same : m ≡ g = cc in (same, ap (λ (t : Side). t.second) e)
  exit_gate m q g u r (Merge c) e = let p : Parts.Merge m ≡ Gate g = ap (λ (t : Side). t.part) e in absurd (cc)
  exit_gate m q g u r Cond e = let p : Line m ≡ Gate g = ap (λ (t : Side). t.part) e in absurd (cc)
  exit_gate m q g u r (Lit z) e = let p : Line m ≡ Gate g = ap (λ (t : Side). t.part) e in absurd (cc)
  exit_gate m q g u r (Apply1 op) e = let p : Line m ≡ Gate g = ap (λ (t : Side). t.part) e in absurd (cc)
  exit_gate m q g u r (Apply2 op) e = let p : Line m ≡ Gate g = ap (λ (t : Side). t.part) e in absurd (cc)
  exit_gate m q g u r (Fetch a) e = absurd (answer_gate m g u (is_shared s m) e)
  exit_gate m q g u r (Store a) e = absurd (answer_gate m g u (is_shared s m) e)
  exit_gate m q g u r (Call f) e = let p : Landing m q ≡ Gate g = ap (λ (t : Side). t.part) e in absurd (cc)
  exit_gate m q g u r (StrictCall f) e = let p : Landing m q ≡ Gate g = ap (λ (t : Side). t.part) e in absurd (cc)
  exit_gate m q g u r (Loop f c) e = let p : Landing m q ≡ Gate g = ap (λ (t : Side). t.part) e in absurd (cc)

  leaves_gate : (m q g : ℕ) (u : Bool) → leaves_at s m q ≡ side (Gate g) u → (m ≡ g) × (second_side (lies_in s.block m) ≡ u)
  leaves_gate m q g u e = go (node_at s.block m) refl
    where
      go : (o : Option (Node ℕ)) → node_at s.block m ≡ o → (m ≡ g) × (second_side (lies_in s.block m) ≡ u)
      go None f = let p : Line m ≡ Gate g = ap (λ (t : Side). t.part) (sym (leaves_none s m q f) ∙ e) in absurd (cc)
      go (Some x) f = let h = exit_gate m q g u x.region x.kind (sym (leaves_some s m q x f) ∙ e) in (h.0, ap second_side (its_region s.block m x f) ∙ h.1)

  not_self : (t : Bool) → not t ≡ t → ⊥
  not_self true e = cc
  not_self false e = cc

  unused : (g k : ℕ) (u : Bool) → lies_in s.block g ≡ Arm k u → is_open (side (Gate g) u) (inner_wires s) ≡ true
  unused g k u e =
      open_none (side (Gate g) u) (inner_wires s)
      (all_weaker Arrives (λ v. side (Gate g) u ≢ v.from) (inner_wires s) (λ v c q. apart v q (value_of v c)) inner_arrive)
    where
      apart : (v : Wire) → side (Gate g) u ≡ v.from
          → ((is_value v.from.part ≡ false) × (is_last v.from.part ≡ false))
          ⊎ (((n : ℕ) × (v.from ≡ side (Line n) false)) ⊎ ((x : Source) × (v.from ≡ leaves s x))) → ⊥
      apart v q (inl h) = let f = h.0 in let z = ap (λ (t : Side). is_value t.part) q in cc
      apart v q (inr (inl h)) = let p : Gate g ≡ Line h.0 = ap (λ (t : Side). t.part) (q ∙ h.1) in cc
      apart v q (inr (inr h)) =
          let x = leaves_gate h.0.node h.0.port g u (sym h.1 ∙ sym q) in
          not_self u (sym (ap second_side (ap (lies_in s.block) x.0 ∙ e)) ∙ x.1)

  -- sides of a node's parts
  node_side : (t : Side) (n m : ℕ) (x : Node ℕ) (xs : List (Node ℕ)) → Follow s.block n xs → n ≤ m → m < n + length xs → node_at s.block m ≡ Some x
      → In t (sides (kind_parts fl s m (length x.sources) x.kind)) → In t (sides (node_parts fl s n xs))
  node_side t n m x [] f l u e h = absurd (omega (arith, l, u))
  node_side t n m x (y ∷ xs) f l u e h = go (cases_lt n m) (λ a c. node_side t (n + 1) m x xs (follow_more s.block n y xs f) a c e h)
    where
      go : (n < m) ⊎ (m ≤ n) → (n + 1 ≤ m → m < (n + 1) + length xs → In t (sides (node_parts fl s (n + 1) xs)))
          → In t (sides (kind_parts fl s n (length y.sources) y.kind ++ node_parts fl s (n + 1) xs))
      go (inl a) more = sides_right t (kind_parts fl s n (length y.sources) y.kind) (node_parts fl s (n + 1) xs) (more (omega (arith, a)) (omega (arith, u)))
      go (inr a) more =
          let same : m ≡ n = omega (arith, l, a) in
          let it : x ≡ y = same_Some x y (sym e ∙ ap (node_at s.block) same ∙ follow_here s.block n y xs f) in
          sides_left t (kind_parts fl s n (length y.sources) y.kind) (node_parts fl s (n + 1) xs)
          (subst (λ (z : Node ℕ). In t (sides (kind_parts fl s n (length z.sources) z.kind))) it
          (subst (λ j. In t (sides (kind_parts fl s j (length x.sources) x.kind))) same h))

  pub inner_side : (t : Side) (m : ℕ) (x : Node ℕ) → node_at s.block m ≡ Some x → In t (sides (kind_parts fl s m (length x.sources) x.kind))
      → In t (sides (inner_parts fl s))
  inner_side t m x e h =
      let w = node_within s.block m x e in
      sides_left t (Entry ∷ row Line 0 s.block.inputs ++ node_parts fl s s.block.inputs s.block.nodes) (tail_parts s.block s.turns)
      (sides_right t (Entry ∷ row Line 0 s.block.inputs) (node_parts fl s s.block.inputs s.block.nodes)
      (node_side t s.block.inputs m x s.block.nodes (follow s.block) w.0 w.1 e h))

  enter_is : (k : Kind ℕ) → enter_kind k ≡ true → k ≡ Enter
  enter_is Enter h = refl
  enter_is k h = absurd (cc)

  gate_sides : (g : ℕ) (t : Bool) → In (side (Gate g) t) (sides (Gate g ∷ []))
  gate_sides g false = inl refl
  gate_sides g true = inr (inl refl)

  -- the unused side is among the ends from the beginning, in the other arm
  pub unused_end : (g k : ℕ) (u : Bool) → lies_in s.block g ≡ Arm k u → is_kind enter_kind s.block g ≡ true → In (side (Gate g) u) (first_ends fl s)
  unused_end g k u e i =
      let x = node_some s.block enter_kind g i in
      open_in (side (Gate g) u) (inner_wires s) (sides (inner_parts fl s))
      (inner_side (side (Gate g) u) g x.0 x.1
      (subst (λ c. In (side (Gate g) u) (sides (kind_parts fl s g (length x.0.sources) c))) (sym (enter_is x.0.kind x.2)) (gate_sides g u))) (unused g k u e)

  pub unused_region : (g k : ℕ) (u : Bool) → lies_in s.block g ≡ Arm k u → R (side (Gate g) u) ≡ Arm k (not u)
  unused_region g k u e = ap (λ r. arm_round r (not u)) e
