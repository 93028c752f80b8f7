-- Each wire that is written down leaves from a side of a part of the block.
use Rattle.std.proofs.Common.{◌≡◌, ℕ, zero, suc, ◌+◌, ◌-◌, ◌<◌, ◌≤◌, ◌⊎◌, inl, inr, Bool, true, false, not, List, [], ◌∷◌, ◌++◌, length, refl, sym, ap, ◌∙◌}
use Rattle.std.proofs.Common.{subst, arith, if◌then◌else◌, Some, None, Option, All}
use Rattle.std.specs.Prelude.{slice_get}
use Rattle.std.proofs.lemmas.Bool.{cases_lt}
use Rattle.std.proofs.lemmas.List.Elements.{All-head, All-tail}
use Rattle.lemmas.proofs.SliceGet.{get_some}
use Rattle.tags.specs.declared.token.Port.{Port}
use Rattle.tags.specs.declared.token.Port.TheVariants.{Left, Right}
use Rattle.semantics.specs.declared.graph.Region.{Region}
use Rattle.semantics.specs.declared.graph.Region.TheVariants.{Root, Arm}
use Rattle.semantics.specs.declared.graph.Source.{Source}
use Rattle.semantics.specs.declared.graph.Kind.{Kind}
use Rattle.semantics.specs.declared.graph.Kind.TheVariants.{Lit, Apply1, Apply2, Cond, Enter, Merge, Fetch, Store, Call, StrictCall, Loop}
use Rattle.semantics.specs.Graph.{Node, Block, Flow, node_at, node_count}
use Rattle.schemas.specs.Builds.{first_source}
use Rattle.schemas.specs.Triggers as Triggers
use Rattle.schemas.specs.Ends.{same_region}
use Rattle.schemas.specs.Scopes.{predicate_of}
use Rattle.law_net.specs.ContextsParts as Parts
use Rattle.law_net.specs.ContextsParts.{Part, Entry, Line, Trigger, Gate, Opener, Framer, Fanned, Linker, Sender, CallDone, Giver, Taker, Drainer, LoopDone}
use Rattle.law_net.specs.ContextsParts.{Strict, Result, TurnCont, TurnFlag, TurnValue, Asker, NextFramer, NextFanned, NextSender, LastReturn, DrainReturn, Join}
use Rattle.law_net.specs.ContextsParts.{CondEnd}
use Rattle.law_net.specs.ContextsBlocks.{Side, side, Site, leaves_in, lies_in, is_kind, cond_kind, outputs_in}
use Rattle.law_net.specs.ContextsExpanded.{row, invoked, turn_parts}
use Rattle.law_wiring.specs.Written as Written
use Rattle.law_wiring.specs.Written.{Wire, wire, is_shared, is_triggered, leaves_at, leaves, trigger_side, operand_wires, merge_wires, meet_wires}
use Rattle.law_wiring.specs.Written.{trigger_wires, gate_wires, answer_wires, sender_wires, invoke_wires, strict_wires, strict_end, strict_call_wires}
use Rattle.law_wiring.specs.Written.{kind_wires, node_wires, result_wires, value_wires, next_wires, last_wires, turn_wires, tail_wires, inner_wires}
use Rattle.law_wiring.specs.Written.{trigger_parts, kind_parts, node_parts, tail_parts, inner_parts, sides_of, sides, open_of, is_open, first_ends, in_region}
use Rattle.law_wiring.specs.Written.{chain_wires, chain_end, joined_wires, joined_parts, signal_wires, cond_parts, cond_sides, Ended, arm_ends, close}
use Rattle.law_wiring.specs.Written.{close_kind, close_nodes, close_flag, inner, root_ends, parts_in, wires_in}
use Rattle.law_wiring.specs.WrittenFit.{Takes, IsPrior, IsFit, kind_ports, port_count}
use Rattle.law_wiring.proofs.PartsCounts.{Follow, follow_more, follow_here}
use Rattle.law_wiring.proofs.WrittenMembers.{AllW, all_both, AllS, sides_both, all_of, In, sides_left, sides_right, open_all}
use Rattle.law_wiring.proofs.Parts.{follow, node_within}
use Rattle.law_wiring.proofs.WrittenNodes.{node_some, its_region, leaves_some, leaves_none, first_before, predicate_before, arms_round, cond_is}
use Rattle.law_wiring.proofs.WrittenSides.{row_in, exit_side, fanned_in}
use Rattle.law_wiring.proofs.WrittenBoth.{inner_side}
use Rattle.law_wiring.proofs.FedEnds.{TurnsWell}

-- sides of which a statement holds
module _ (S : Side → Type 0) where
  abbrev pub From : Wire → Type 0
  From v = S v.from

  pub region_kept : (b : Block ℕ) (r : Region) (ts : List Side) → AllS S ts → AllS S (in_region b r ts)
  region_kept b r [] h = tt
  region_kept b r (t ∷ ts) h = go (same_region (leaves_in b t.part t.second) r) (region_kept b r ts h.1)
    where
      go : (q : Bool) → AllS S (in_region b r ts) → AllS S (if q then t ∷ in_region b r ts else in_region b r ts)
      go true k = (h.0, k)
      go false k = k

  chain_from : (r : Region) (n : ℕ) (s : Side) (ts : List Side) → S s → AllS S ts → ((t : Side) → In t (sides (row (Join r) n (length ts))) → S t)
      → AllW From (chain_wires r n s ts) × S (chain_end r n s ts)
  chain_from r n s [] h k j = (tt, h)
  chain_from r n s (t ∷ ts) h k j =
      let rest = chain_from r (n + 1) (side (Join r n) false) ts (j (side (Join r n) false) (inl refl)) k.1 (λ u i. j u (inr i)) in
      ((h, (k.0, rest.0)), rest.1)

  pub joined_from : (r : Region) (ts : List Side) → AllS S ts → ((t : Side) → In t (sides (joined_parts r ts)) → S t) → AllW From (joined_wires r ts)
  joined_from r [] h j = tt
  joined_from r (t ∷ ts) h j = (chain_from r 0 t ts h.0 h.1 j).0

  pub signal_from : (r : Region) (ts : List Side) (part : Part) (q : Port) → AllS S ts → ((t : Side) → In t (sides (joined_parts r ts)) → S t)
      → AllW From (signal_wires r ts part q)
  signal_from r [] part q h j = tt
  signal_from r (t ∷ ts) part q h j = ((chain_from r 0 t ts h.0 h.1 j).1, tt)

  conds_from : (k : ℕ) (us : List Side) → ((t : Side) → In t (sides (cond_parts k us)) → S t) → AllS S (cond_sides k us)
  conds_from k [] h = tt
  conds_from k (u ∷ us) h = (h (side (CondEnd k) false) (inl refl), tt)

  pub record IsFrom (x : Ended) : Type 0 where
    pub wires : AllW From x.wires
    pub ends : AllS S x.ends

  -- what the sides of all parts so far are
  abbrev All_in : Ended → Type 0
  All_in x = (t : Side) → In t (sides x.parts) → S t

  close_from : (b : Block ℕ) (k : ℕ) (x : Ended) → (All_in x → IsFrom x) → All_in (close b k x) → IsFrom (close b k x)
  close_from b k x more j =
      let ts : List Side = arm_ends b k true x in
      let us : List Side = arm_ends b k false x in
      let first : List Part = joined_parts (Arm k true) ts in
      let second : List Part = joined_parts (Arm k false) us in
      let last : List Part = cond_parts k (ts ++ us) in
      let h : IsFrom x = more (λ t i. j t (sides_left t x.parts (first ++ (second ++ last)) i)) in
      let a = region_kept b (Arm k true) x.ends h.ends in
      let c = region_kept b (Arm k false) x.ends h.ends in
      let p : (t : Side) → In t (sides first) → S t = λ t i. j t (sides_right t x.parts (first ++ (second ++ last)) (sides_left t first (second ++ last) i)) in
      let q : (t : Side) → In t (sides second)
      → S t = λ t i. j t (sides_right t x.parts (first ++ (second ++ last)) (sides_right t first (second ++ last) (sides_left t second last i))) in
      let r : (t : Side) → In t (sides last)
      → S t = λ t i. j t (sides_right t x.parts (first ++ (second ++ last)) (sides_right t first (second ++ last) (sides_right t second last i))) in
      let up : List Wire = signal_wires (Arm k true) ts (CondEnd k) Left in
      let down : List Wire = signal_wires (Arm k false) us (CondEnd k) Left in
      record {
        wires = all_both From x.wires (joined_wires (Arm k true) ts ++ (joined_wires (Arm k false) us ++ (up ++ down))) h.wires
            (all_both From (joined_wires (Arm k true) ts) (joined_wires (Arm k false) us ++ (up ++ down)) (joined_from (Arm k true) ts a p)
            (all_both From (joined_wires (Arm k false) us) (up ++ down) (joined_from (Arm k false) us c q)
            (all_both From up down (signal_from (Arm k true) ts (CondEnd k) Left a p) (signal_from (Arm k false) us (CondEnd k) Left c q))));
        ends = sides_both S x.ends (cond_sides k (ts ++ us)) h.ends (conds_from k (ts ++ us) r);
      }

  kind_from : (b : Block ℕ) (n : ℕ) (x : Ended) (k : Kind ℕ) → (All_in x → IsFrom x) → All_in (close_kind b n x k) → IsFrom (close_kind b n x k)
  kind_from b n x Cond h j = close_from b n x h j
  kind_from b n x (Lit z) h j = h j
  kind_from b n x (Apply1 op) h j = h j
  kind_from b n x (Apply2 op) h j = h j
  kind_from b n x Enter h j = h j
  kind_from b n x (Merge c) h j = h j
  kind_from b n x (Fetch a) h j = h j
  kind_from b n x (Store a) h j = h j
  kind_from b n x (Call f) h j = h j
  kind_from b n x (StrictCall f) h j = h j
  kind_from b n x (Loop f c) h j = h j

  nodes_from : (b : Block ℕ) (n : ℕ) (xs : List (Node ℕ)) (x : Ended) → (All_in x → IsFrom x) → All_in (close_nodes b n xs x) → IsFrom (close_nodes b n xs x)
  nodes_from b n [] x h j = h j
  nodes_from b n (y ∷ xs) x h j = kind_from b n (close_nodes b (n + 1) xs x) y.kind (nodes_from b (n + 1) xs x h) j

  flag_from : (b : Block ℕ) (t : Bool) (x : Ended) → (All_in x → IsFrom x) → All_in (close_flag b t x) → IsFrom (close_flag b t x)
  flag_from b false x h j = h j
  flag_from b true x h j = close_from b (node_count b) x h j

  pub wires_from : (fl : Flow) (s : Site) → (((t : Side) → In t (sides (inner_parts fl s)) → S t) → IsFrom (inner fl s)) → S (side Entry false)
      → ((t : Side) → In t (sides (parts_in fl s)) → S t) → AllW From (wires_in fl s)
  wires_from fl s h e j =
      let x : Ended = Written.closed fl s in
      let ts : List Side = root_ends fl s in
      let joins : List Part = joined_parts Root ts in
      let all = nodes_from s.block s.block.inputs s.block.nodes (close_flag s.block s.turns (inner fl s)) (flag_from s.block s.turns (inner fl s) h)
      (λ t i. j t (sides_left t x.parts (joins ++ Parts.End ∷ []) i)) in
      let a = region_kept s.block Root x.ends all.ends in
      let p : (t : Side) → In t (sides joins) → S t = λ t i. j t (sides_right t x.parts (joins ++ Parts.End ∷ []) (sides_left t joins (Parts.End ∷ []) i)) in
      all_both From x.wires (joined_wires Root ts ++ (wire (side Entry false) Parts.End Left ∷ signal_wires Root ts Parts.End Right)) all.wires
      (all_both From (joined_wires Root ts) (wire (side Entry false) Parts.End Left ∷ signal_wires Root ts Parts.End Right) (joined_from Root ts a p)
      (e, signal_from Root ts Parts.End Right a p))

module _ (fl : Flow) (s : Site) (fit : IsFit fl s.block) where
  abbrev pub Inner : Side → Type 0
  Inner t = In t (sides (inner_parts fl s))

  abbrev count : ℕ
  count = s.block.inputs + length s.block.nodes

  -- where a source's value leaves
  pub source_there : (n : ℕ) (x : Source) → n ≤ count → IsPrior fl s.block n x → Inner (leaves s x)
  source_there n x u h = go (node_at s.block x.node) refl
    where
      input : node_at s.block x.node ≡ None → x.node < s.block.inputs
      input e = by_number (cases_lt x.node s.block.inputs)
        where
          by_number : (x.node < s.block.inputs) ⊎ (s.block.inputs ≤ x.node) → x.node < s.block.inputs
          by_number (inl a) = a
          by_number (inr a) =
              let low = h.earlier in
              let some = get_some s.block.nodes (x.node - s.block.inputs) (omega (arith, a, low, u)) in
              let back : s.block.inputs + (x.node - s.block.inputs) ≡ x.node = omega (arith, a) in
              let there : node_at s.block x.node ≡ Some some.0 = ap (node_at s.block) (sym back) ∙ follow s.block (x.node - s.block.inputs) some.0 some.1 in
              absurd (cc)

      go : (o : Option (Node ℕ)) → node_at s.block x.node ≡ o → Inner (leaves s x)
      go None e =
          let l = input e in
          subst Inner (sym (leaves_none s x.node x.port e))
          (sides_left (side (Line x.node) false) (Entry ∷ row Line 0 s.block.inputs ++ node_parts fl s s.block.inputs s.block.nodes)
          (tail_parts s.block s.turns)
          (inr (sides_left (side (Line x.node) false) (row Line 0 s.block.inputs) (node_parts fl s s.block.inputs s.block.nodes)
          (row_in Line false 0 s.block.inputs x.node (λ i. inl refl) (omega arith) (omega (arith, l))))))
      go (Some y) e =
          let ports : port_count fl s.block x.node ≡ kind_ports fl (length y.sources) y.kind =
          ap (λ o. elim o as (λ z. ℕ) [ None ↦ 1 | Some line ↦ kind_ports fl (length line.sources) line.kind ]) e in
          let l = h.port in
          inner_side fl s fit (leaves s x) x.node y e
          (subst (λ t. In t (sides (kind_parts fl s x.node (length y.sources) y.kind))) (sym (leaves_some s x.node x.port y e))
          (exit_side fl s x.node x.port (length y.sources) y.region y.kind (omega (arith, l, ports))))

  predicate_there : (k : ℕ) → is_kind cond_kind s.block k ≡ true → Inner (leaves s (predicate_of s.block k))
  predicate_there k h =
      let y = node_some s.block cond_kind k h in
      let w = (node_within s.block k y.0 y.1).1 in
      source_there k (predicate_of s.block k) (omega (arith, w)) (predicate_before fl s.block fit k h).0

  -- the trigger of an arm
  triggers_both : (k : ℕ) (t u : Bool) → t ≡ true → In (side (Trigger k) u) (sides (trigger_parts k t))
  triggers_both k true false e = inl refl
  triggers_both k true true e = inr (inl refl)
  triggers_both k false u e = absurd (cc)

  trigger_there : (k : ℕ) (u : Bool) → is_kind cond_kind s.block k ≡ true → is_triggered s.block k ≡ true → Inner (side (Trigger k) u)
  trigger_there k u h e =
      let y = node_some s.block cond_kind k h in
      inner_side fl s fit (side (Trigger k) u) k y.0 y.1
      (subst (λ c. In (side (Trigger k) u) (sides (kind_parts fl s k (length y.0.sources) c))) (sym (cond_is y.0.kind y.2))
      (triggers_both k (is_triggered s.block k) u e))

  entry_there : Inner (side Entry false)
  entry_there = inl refl

  -- THE WIRES OF A NODE
  module _ (n : ℕ) (x : Node ℕ) (at : node_at s.block n ≡ Some x) where
    its : (t : Side) (k : Kind ℕ) → x.kind ≡ k → In t (sides (kind_parts fl s n (length x.sources) k)) → Inner t
    its t k e i = inner_side fl s fit t n x at (subst (λ c. In t (sides (kind_parts fl s n (length x.sources) c))) (sym e) i)

    below : n ≤ count
    below = let w = (node_within s.block n x at).1 in omega (arith, w)

    operands_there : (r : Part) (from : ℕ) (xs : List Source) → All (IsPrior fl s.block n) xs → AllW (From Inner) (operand_wires s r from xs)
    operands_there r from [] h = tt
    operands_there r from (z ∷ xs) h =
        (source_there n z below (All-head (IsPrior fl s.block n) z xs h), operands_there r (from + 1) xs (All-tail (IsPrior fl s.block n) z xs h))

    merges_there : (r : Part) (xs : List Source) → All (IsPrior fl s.block n) xs → AllW (From Inner) (merge_wires s r xs)
    merges_there r [] h = tt
    merges_there r (z ∷ xs) h =
        (source_there n z below (All-head (IsPrior fl s.block n) z xs h), merges_there r xs (All-tail (IsPrior fl s.block n) z xs h))

    senders_there : (from : ℕ) (xs : List Source) → Inner (side (Fanned n) false) → All (IsPrior fl s.block n) xs
        → AllW (From Inner) (sender_wires s n from xs)
    senders_there from [] f h = tt
    senders_there from (z ∷ xs) f h =
        (f, (source_there n z below (All-head (IsPrior fl s.block n) z xs h), senders_there (from + 1) xs f (All-tail (IsPrior fl s.block n) z xs h)))

    invoke_there : (t : Side) (xs : List Source) → Inner t → Inner (side (Fanned n) false) → All (IsPrior fl s.block n) xs
        → AllW (From Inner) (invoke_wires s n t xs)
    invoke_there t xs i f h = (i, (f, senders_there 0 xs f h))

    strict_there : (from : ℕ) (t : Side) (xs : List Source) → Inner t → ((j : ℕ) → from ≤ j → j < from + length xs → Inner (side (Strict n j) false))
        → All (IsPrior fl s.block n) xs
        → AllW (From Inner) (strict_wires s n from t xs) × Inner (strict_end n from t xs)
    strict_there from t [] i g h = (tt, i)
    strict_there from t (z ∷ xs) i g h =
        let rest = strict_there (from + 1) (side (Strict n from) false) xs (g from (omega arith) (omega arith))
        (λ j l m. g j (omega (arith, l)) (omega (arith, m))) (All-tail (IsPrior fl s.block n) z xs h) in
        ((i, (source_there n z below (All-head (IsPrior fl s.block n) z xs h), rest.0)), rest.1)

    strict_call_there : (xs : List Source) → Inner (side (Fanned n) false) → ((j : ℕ) → 1 ≤ j → j < length xs → Inner (side (Strict n j) false))
        → All (IsPrior fl s.block n) xs → AllW (From Inner) (strict_call_wires s n xs)
    strict_call_there [] f g h = tt
    strict_call_there (z ∷ xs) f g h =
        let chain = strict_there 1 (leaves s z) xs (source_there n z below (All-head (IsPrior fl s.block n) z xs h)) (λ j l m. g j l (omega (arith, m)))
        (All-tail (IsPrior fl s.block n) z xs h) in
        all_both (From Inner) (strict_wires s n 1 (leaves s z) xs) (invoke_wires s n (strict_end n 1 (leaves s z) xs) (z ∷ xs)) chain.0
        (invoke_there (strict_end n 1 (leaves s z) xs) (z ∷ xs) chain.1 f h)

    region_trigger : (g : Region) → ((k : ℕ) (t : Bool) → g ≡ Arm k t → (is_kind cond_kind s.block k ≡ true) × (is_triggered s.block k ≡ true))
        → Inner (trigger_side g)
    region_trigger Root h = entry_there
    region_trigger (Arm k t) h = let c = h k t refl in trigger_there k (not t) c.0 c.1

    gates_there : (r : Region) (xs : List Source) → lies_in s.block n ≡ r → length xs ≡ 1 → All (IsPrior fl s.block n) xs
        → AllW (From Inner) (gate_wires s n r xs)
    gates_there Root xs e one h = tt
    gates_there (Arm k t) xs e one h = (
      source_there n (first_source xs) below (first_before fl s.block n xs (omega (arith, one)) h),
      (predicate_there k (arms_round fl s.block fit n k t e).1, tt),
    )

    copies_there : (t : Bool) → Inner (side (Line n) false) → AllW (From Inner) (answer_wires n t)
    copies_there true h = (h, tt)
    copies_there false h = tt

    triggers_there : (t : Bool) (xs : List Source) → length xs ≡ 1 → All (IsPrior fl s.block n) xs
        → AllW (From Inner) (trigger_wires s n t (first_source xs))
    triggers_there true xs one h = let i = source_there n (first_source xs) below (first_before fl s.block n xs (omega (arith, one)) h) in (i, (i, tt))
    triggers_there false xs one h = tt

    kind_there : AllW (From Inner) (kind_wires s n x.region x.kind x.sources)
    kind_there = go x.kind refl (fit.nodes n x at).takes (fit.nodes n x at).earlier (λ k t e. ((fit.nodes n x at).round k t e).1) (fit.nodes n x at).triggered
      where
        go : (k : Kind ℕ) → x.kind ≡ k → Takes fl k (length x.sources) → All (IsPrior fl s.block n) x.sources
            → ((j : ℕ) (t : Bool) → x.region ≡ Arm j t → is_kind cond_kind s.block j ≡ true)
            → ((j : ℕ) (t : Bool) → x.region ≡ Arm j t → Triggers.takes_trigger x.kind ≡ true → is_triggered s.block j ≡ true)
            → AllW (From Inner) (kind_wires s n x.region k x.sources)
        go Cond e t h c g = triggers_there (is_triggered s.block n) x.sources t h
        go Enter e t h c g = gates_there x.region x.sources (its_region s.block n x at) t h
        go (Merge m) e t h c g = merges_there (Parts.Merge n) x.sources h
        go (Lit z) e t h c g = operands_there (Line n) 0 x.sources h
        go (Apply1 op) e t h c g = operands_there (Line n) 0 x.sources h
        go (Apply2 op) e t h c g = operands_there (Line n) 0 x.sources h
        go (Fetch a) e t h c g =
            all_both (From Inner) (operand_wires s (Line n) 0 x.sources) (answer_wires n (is_shared s n)) (operands_there (Line n) 0 x.sources h)
            (copies_there (is_shared s n) (its (side (Line n) false) (Fetch a) e (inl refl)))
        go (Store a) e t h c g =
            all_both (From Inner) (operand_wires s (Line n) 0 x.sources) (answer_wires n (is_shared s n)) (operands_there (Line n) 0 x.sources h)
            (copies_there (is_shared s n) (its (side (Line n) false) (Store a) e (inl refl)))
        go (Call f) e t h c g =
            invoke_there (trigger_side x.region) x.sources (region_trigger x.region (λ k u q. (c k u q, g k u q (ap Triggers.takes_trigger e))))
            (its (side (Fanned n) false) (Call f) e (fanned_in fl s n (length x.sources) (outputs_in (slice_get fl.blocks f)) (CallDone n ∷ []))) h
        go (StrictCall f) e t h c g =
            let rest : List Part = invoked n (length x.sources) (outputs_in (slice_get fl.blocks f)) ++ CallDone n ∷ [] in
            strict_call_there x.sources
            (its (side (Fanned n) false) (StrictCall f) e
            (sides_right (side (Fanned n) false) (row (Strict n) 1 (length x.sources - 1)) rest
            (fanned_in fl s n (length x.sources) (outputs_in (slice_get fl.blocks f)) (CallDone n ∷ []))))
            (λ j l m. its (side (Strict n j) false) (StrictCall f) e
            (sides_left (side (Strict n j) false) (row (Strict n) 1 (length x.sources - 1)) rest
            (row_in (Strict n) false 1 (length x.sources - 1) j (λ i. inl refl) l (omega (arith, m, l))))) h
        go (Loop f k) e t h c g = (
          region_trigger x.region (λ k u q. (c k u q, g k u q (ap Triggers.takes_trigger e))),
          invoke_there (side (Opener n) false) x.sources (its (side (Opener n) false) (Loop f k) e (inl refl))
              (its (side (Fanned n) false) (Loop f k) e
              (inr (fanned_in fl s n (length x.sources) (length x.sources) (Giver n ∷ Taker n ∷ Drainer n ∷ LoopDone n ∷ [])))) h,
        )

  nodes_there : (n : ℕ) (xs : List (Node ℕ)) → Follow s.block n xs → AllW (From Inner) (node_wires s n xs)
  nodes_there n [] f = tt
  nodes_there n (x ∷ xs) f =
      all_both (From Inner) (kind_wires s n x.region x.kind x.sources) (node_wires s (n + 1) xs) (kind_there n x (follow_here s.block n x xs f))
      (nodes_there (n + 1) xs (follow_more s.block n x xs f))

  results_there : (from : ℕ) (xs : List Source) → All (IsPrior fl s.block (node_count s.block)) xs → AllW (From Inner) (result_wires s from xs)
  results_there from [] h = tt
  results_there from (x ∷ xs) h = (
    entry_there,
    (
      source_there (node_count s.block) x (omega arith) (All-head (IsPrior fl s.block (node_count s.block)) x xs h),
      results_there (from + 1) xs (All-tail (IsPrior fl s.block (node_count s.block)) x xs h),
    ),
  )

  -- THE TURN of a loop
  module _ (turns : s.turns ≡ true) where
    turned : (t : Side) → In t (sides (turn_parts s.block.inputs)) → Inner t
    turned t i =
        sides_right t (Entry ∷ row Line 0 s.block.inputs ++ node_parts fl s s.block.inputs s.block.nodes) (tail_parts s.block s.turns)
        (subst (λ u. In t (sides (tail_parts s.block u))) (sym turns) i)

    cont_there : (u : Bool) → Inner (side TurnCont u)
    cont_there false = turned (side TurnCont false) (inl refl)
    cont_there true = turned (side TurnCont true) (inr (inl refl))

    flag_there : (u : Bool) → Inner (side TurnFlag u)
    flag_there false = turned (side TurnFlag false) (inr (inr (inl refl)))
    flag_there true = turned (side TurnFlag true) (inr (inr (inr (inl refl))))

    switch_in : (u : Bool) (i : ℕ) → In (side (TurnValue i) u) (sides (TurnValue i ∷ []))
    switch_in false i = inl refl
    switch_in true i = inr (inl refl)

    value_there : (j : ℕ) (u : Bool) → 1 ≤ j → j < 1 + s.block.inputs → Inner (side (TurnValue j) u)
    value_there j u l m =
        turned (side (TurnValue j) u) (inr (inr (inr (inr (sides_left (side (TurnValue j) u) (row TurnValue 1 s.block.inputs)
        (Asker ∷ NextFramer ∷ NextFanned ∷ row NextSender 0 (s.block.inputs + 1) ++ (row LastReturn 0 s.block.inputs ++ DrainReturn ∷ []))
        (row_in TurnValue u 1 s.block.inputs j (switch_in u) l m))))))

    fan_there : Inner (side NextFanned false)
    fan_there =
        turned (side NextFanned false) (sides_right (side NextFanned false) (TurnCont ∷ TurnFlag ∷ row TurnValue 1 s.block.inputs)
        (Asker ∷ NextFramer ∷ NextFanned ∷ row NextSender 0 (s.block.inputs + 1) ++ (row LastReturn 0 s.block.inputs ++ DrainReturn ∷ [])) (inl refl))

    values_there : (t : Side) (from : ℕ) (xs : List Source) → Inner t → All (IsPrior fl s.block (node_count s.block)) xs
        → AllW (From Inner) (value_wires s t from xs)
    values_there t from [] i h = tt
    values_there t from (x ∷ xs) i h = (
      source_there (node_count s.block) x (omega arith) (All-head (IsPrior fl s.block (node_count s.block)) x xs h),
      (i, values_there t (from + 1) xs i (All-tail (IsPrior fl s.block (node_count s.block)) x xs h)),
    )

    nexts_there : (from n : ℕ) → 1 ≤ from → from + n ≤ 1 + s.block.inputs → AllW (From Inner) (next_wires from n)
    nexts_there from zero l m = tt
    nexts_there from (suc n) l m = (fan_there, (value_there from false l (omega (arith, m)), nexts_there (from + 1) n (omega arith) (omega (arith, m))))

    lasts_there : (from n : ℕ) → from + n ≤ s.block.inputs → AllW (From Inner) (last_wires from n)
    lasts_there from zero m = tt
    lasts_there from (suc n) m = (cont_there true, (value_there (from + 1) true (omega arith) (omega (arith, m)), lasts_there (from + 1) n (omega (arith, m))))

    turns_there : (xs : List Source) → length xs ≡ suc s.block.inputs → All (IsPrior fl s.block (node_count s.block)) xs
        → AllW (From Inner) (turn_wires s xs)
    turns_there [] l h = tt
    turns_there (x ∷ xs) l h =
        let i = source_there (node_count s.block) x (omega arith) (All-head (IsPrior fl s.block (node_count s.block)) x xs h) in
        let drain = meet_wires (side TurnCont true) (side TurnFlag true) DrainReturn in (
          entry_there,
          (
            i,
            (
              i,
              (
                i,
                all_both (From Inner) (value_wires s (leaves s x) 1 xs)
                    (meet_wires (side TurnCont false) (side TurnFlag false) Asker
                    ++ (meet_wires (side NextFanned false) (side TurnCont false) (NextSender 0)
                    ++ (next_wires 1 (length xs) ++ (last_wires 0 (length xs) ++ drain))))
                    (values_there (leaves s x) 1 xs i (All-tail (IsPrior fl s.block (node_count s.block)) x xs h)) (
                      cont_there false,
                      (
                        flag_there false,
                        (
                          fan_there,
                          (
                            cont_there false,
                            all_both (From Inner) (next_wires 1 (length xs)) (last_wires 0 (length xs) ++ drain)
                                (nexts_there 1 (length xs) (omega arith) (omega (arith, l)))
                                (all_both (From Inner) (last_wires 0 (length xs)) drain (lasts_there 0 (length xs) (omega (arith, l)))
                                (cont_there true, (flag_there true, tt))),
                          ),
                        ),
                      ),
                    ),
              ),
            ),
          ),
        )

  module _ (well : TurnsWell s) where
    tails_there : (t : Bool) → s.turns ≡ t → AllW (From Inner) (tail_wires s t)
    tails_there false e = results_there 0 s.block.results fit.results
    tails_there true e = turns_there e s.block.results (well e) fit.results

    pub inner_there : AllW (From Inner) (inner_wires s)
    inner_there =
        all_both (From Inner) (node_wires s s.block.inputs s.block.nodes) (tail_wires s s.turns) (nodes_there s.block.inputs s.block.nodes (follow s.block))
        (tails_there s.turns refl)

    weaker : (P Q : Side → Type 0) (ws : List Wire) → ((t : Side) → P t → Q t) → AllW (From P) ws → AllW (From Q) ws
    weaker P Q [] f h = tt
    weaker P Q (w ∷ ws) f h = (f w.from h.0, weaker P Q ws f h.1)

    -- ALL WIRES
    pub all_from : AllW (From (λ t. In t (sides (parts_in fl s)))) (wires_in fl s)
    all_from =
        let S : Side → Type 0 = λ t. In t (sides (parts_in fl s)) in
        wires_from S fl s
        (λ
        h. record {
          wires = weaker Inner S (inner_wires s) h inner_there;
          ends = open_all S (inner_wires s) (sides (inner_parts fl s)) (all_of S (sides (inner_parts fl s)) h);
        }) entry (λ t i. i)
      where
        -- the entry is a side of the first parts, which stay
        kind_stays : (t : Side) (n : ℕ) (x : Ended) (k : Kind ℕ) → In t (sides x.parts) → In t (sides (close_kind s.block n x k).parts)
        kind_stays t n x Cond h =
            sides_left t x.parts (joined_parts (Arm n true) (arm_ends s.block n true x)
            ++ (joined_parts (Arm n false) (arm_ends s.block n false x) ++ cond_parts n (arm_ends s.block n true x ++ arm_ends s.block n false x))) h
        kind_stays t n x (Lit z) h = h
        kind_stays t n x (Apply1 op) h = h
        kind_stays t n x (Apply2 op) h = h
        kind_stays t n x Enter h = h
        kind_stays t n x (Merge c) h = h
        kind_stays t n x (Fetch a) h = h
        kind_stays t n x (Store a) h = h
        kind_stays t n x (Call f) h = h
        kind_stays t n x (StrictCall f) h = h
        kind_stays t n x (Loop f c) h = h

        stays : (t : Side) (n : ℕ) (xs : List (Node ℕ)) (x : Ended) → In t (sides x.parts) → In t (sides (close_nodes s.block n xs x).parts)
        stays t n [] x h = h
        stays t n (y ∷ xs) x h = kind_stays t n (close_nodes s.block (n + 1) xs x) y.kind (stays t (n + 1) xs x h)

        flag_stays : (t : Side) (u : Bool) (x : Ended) → In t (sides x.parts) → In t (sides (close_flag s.block u x).parts)
        flag_stays t false x h = h
        flag_stays t true x h =
            let k : ℕ = node_count s.block in
            sides_left t x.parts (joined_parts (Arm k true) (arm_ends s.block k true x)
            ++ (joined_parts (Arm k false) (arm_ends s.block k false x) ++ cond_parts k (arm_ends s.block k true x ++ arm_ends s.block k false x))) h

        entry : In (side Entry false) (sides (parts_in fl s))
        entry =
            sides_left (side Entry false) (Written.closed fl s).parts (joined_parts Root (root_ends fl s) ++ Parts.End ∷ [])
            (stays (side Entry false) s.block.inputs s.block.nodes (close_flag s.block s.turns (inner fl s))
            (flag_stays (side Entry false) s.turns (inner fl s) entry_there))
