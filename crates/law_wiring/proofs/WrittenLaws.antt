-- What holds of each wire that is written down: it stays in its region or enters from its arm, and the words of a conditional come from one side.
use Rattle.std.proofs.Common.{◌≡◌, ◌≢◌, ℕ, zero, suc, ◌+◌, Bool, true, false, List, [], ◌∷◌, ◌++◌, length, refl, sym, ap, ◌∙◌, subst, arith, if◌then◌else◌}
use Rattle.std.proofs.Common.{Some, None, Option, All}
use Rattle.std.proofs.lemmas.List.Elements.{All-head, All-tail}
use Rattle.tags.specs.declared.token.Port.TheVariants.{Left, Right}
use Rattle.semantics.specs.declared.graph.Region.{Region}
use Rattle.semantics.specs.declared.graph.Region.TheVariants.{Root, Arm}
use Rattle.semantics.specs.declared.graph.Source.{Source}
use Rattle.semantics.specs.declared.graph.Kind.{Kind}
use Rattle.semantics.specs.declared.graph.Kind.TheVariants.{Lit, Apply1, Apply2, Cond, Enter, Merge, Fetch, Store, Call, StrictCall, Loop}
use Rattle.semantics.specs.Graph.{Node, Block, Flow, node_at, node_count}
use Rattle.schemas.specs.Builds as Builds
use Rattle.schemas.specs.Builds.{first_source}
use Rattle.schemas.specs.Ends.{same_region}
use Rattle.schemas.specs.Scopes.{predicate_of, predicate_in}
use Rattle.law_net.specs.ContextsParts as Parts
use Rattle.law_net.specs.ContextsParts.{Part, Entry, Line, Answer, Trigger, Gate, Opener, Framer, Fanned, Linker, Sender, Strict, Result, TurnCont, TurnFlag}
use Rattle.law_net.specs.ContextsParts.{TurnValue, Asker, NextFanned, NextSender, LastReturn, DrainReturn, Join, CondEnd}
use Rattle.law_net.specs.ContextsBlocks.{Side, side, Site, lies_in, outside, entered, flag, merge_cond, merged_by, is_kind, cond_kind}
use Rattle.law_net.specs.ContextsWires as Wires
use Rattle.law_net.specs.ContextsWires.{predicate_at, cond_round, decided_by}
use Rattle.law_net.specs.ContextsExpanded.{way_in}
use Rattle.law_wiring.specs.Written as Written
use Rattle.law_wiring.specs.Written.{Wire, wire, is_shared, is_triggered, leaves, trigger_side, operand_wires, merge_wires, meet_wires, trigger_wires}
use Rattle.law_wiring.specs.Written.{gate_wires, answer_wires, sender_wires, invoke_wires, strict_wires, strict_end, strict_call_wires, kind_wires, node_wires}
use Rattle.law_wiring.specs.Written.{result_wires, value_wires, next_wires, last_wires, turn_wires, tail_wires, inner_wires, in_region, chain_wires, chain_end}
use Rattle.law_wiring.specs.Written.{joined_wires, signal_wires, Ended, arm_ends, close, close_kind, close_nodes, close_flag, inner, root_ends, wires_in}
use Rattle.law_wiring.specs.WrittenFit.{Takes, LiesIn, Lies, Merges, IsFit}
use Rattle.law_wiring.proofs.PartsCounts.{Follow, follow_more, follow_here}
use Rattle.law_wiring.proofs.WrittenMembers.{AllW, all_both, AllS, region, region_is}
use Rattle.law_wiring.proofs.Parts.{follow, node_within}
use Rattle.law_wiring.proofs.WrittenNodes.{node_some, its_region, leaves_region, first_lies, predicate_before, arms_round}

-- what decides a conditional
pub first_same : (xs : List Source) → Wires.first_source xs ≡ Builds.first_source xs
first_same [] = refl
first_same (x ∷ xs) = refl

module _ (b : Block ℕ) where
  pub decided_some : (k : ℕ) (x : Node ℕ) → node_at b k ≡ Some x → decided_by b k ≡ first_source x.sources
  decided_some k x e =
      ap (λ o. elim o as (λ z. Source) [ None ↦ Wires.first_source b.results | Some line ↦ Wires.first_source line.sources ]) e ∙ first_same x.sources

  pub decided_same : (k : ℕ) → is_kind cond_kind b k ≡ true → predicate_of b k ≡ decided_by b k
  decided_same k h = let x = node_some b cond_kind k h in ap predicate_in x.1 ∙ sym (decided_some k x.0 x.1)

  no_flag : node_at b (flag b) ≡ None
  no_flag = go (node_at b (flag b)) refl
    where
      go : (o : Option (Node ℕ)) → node_at b (flag b) ≡ o → node_at b (flag b) ≡ None
      go None e = e
      go (Some x) e = let w = node_within b (flag b) x e in let l = w.1 in absurd (omega (arith, l))

  pub flag_decided : decided_by b (flag b) ≡ Wires.first_source b.results
  flag_decided = ap (λ o. elim o as (λ z. Source) [ None ↦ Wires.first_source b.results | Some line ↦ Wires.first_source line.sources ]) no_flag

abbrev is_decided : Part → Bool
is_decided (Trigger k) = true
is_decided TurnFlag = true
is_decided r = false

module _ (fl : Flow) (s : Site) (fit : IsFit fl s.block) where
  abbrev pub RW : Side → Region
  RW t = region s.block t

  -- THE LAW of a wire
  pub record IsLawful (w : Wire) : Type 0 where
    pub arms : entered s.block w.part (way_in w.part (RW w.from)) ≡ RW w.from
    pub agree : (k : ℕ) → predicate_at s.block w.part w.port ≡ Some k → w.from ≡ leaves s (decided_by s.block k)
    pub trigger : (k : ℕ) → w.part ≡ Trigger k → w.from ≡ leaves s (decided_by s.block k)
    pub turn : w.part ≡ TurnFlag → w.from ≡ leaves s (decided_by s.block (flag s.block))

  -- a wire of no conditional's word
  other : (w : Wire) → entered s.block w.part (way_in w.part (RW w.from)) ≡ RW w.from → predicate_at s.block w.part w.port ≡ None → is_decided w.part ≡ false
      → IsLawful w
  other w a p d = record {
    arms = a;
    agree = λ k e. let z = sym p ∙ e in absurd (cc);
    trigger = λ k e. let z = sym d ∙ ap is_decided e in absurd (cc);
    turn = λ e. let z = sym d ∙ ap is_decided e in absurd (cc);
  }

  at : (x : Source) (r : Region) → lies_in s.block x.node ≡ r → RW (leaves s x) ≡ r
  at x r e = leaves_region s x.node x.port ∙ e

  -- NODES
  operands_lawful : (n from : ℕ) (xs : List Source) → All (LiesIn s.block (lies_in s.block n)) xs → AllW IsLawful (operand_wires s (Line n) from xs)
  operands_lawful n from [] h = tt
  operands_lawful n from (x ∷ xs) h = (
    other (wire (leaves s x) (Line n) (Builds.side from)) (sym (at x (lies_in s.block n) (All-head (LiesIn s.block (lies_in s.block n)) x xs h))) refl refl,
    operands_lawful n (from + 1) xs (All-tail (LiesIn s.block (lies_in s.block n)) x xs h),
  )

  answers_lawful : (n : ℕ) (t : Bool) → AllW IsLawful (answer_wires n t)
  answers_lawful n true = (other (wire (side (Line n) false) (Answer n) Left) refl refl refl, tt)
  answers_lawful n false = tt

  merge_lawful : (n k : ℕ) (t : Bool) (x : Source) → merge_cond s.block n ≡ k → lies_in s.block x.node ≡ Arm k t
      → IsLawful (wire (leaves s x) (Parts.Merge n) Left)
  merge_lawful n k t x m h =
      let from : RW (leaves s x) ≡ Arm k t = at x (Arm k t) h in
      other (wire (leaves s x) (Parts.Merge n) Left)
      (ap (λ r. entered s.block (Parts.Merge n) (way_in (Parts.Merge n) r)) from ∙ by_side t ∙ sym from) refl refl
    where
      by_side : (t : Bool) → entered s.block (Parts.Merge n) (way_in (Parts.Merge n) (Arm k t)) ≡ Arm k t
      by_side true = ap (λ j. Arm j true) m
      by_side false = ap (λ j. Arm j false) m

  merges_lawful : (n k : ℕ) (r : Region) (xs : List Source) → merge_cond s.block n ≡ k → Merges s.block n r k xs
      → AllW IsLawful (merge_wires s (Parts.Merge n) xs)
  merges_lawful n k r [] m h = absurd h
  merges_lawful n k r (x ∷ []) m h = absurd h
  merges_lawful n k r (x ∷ z ∷ []) m h = (merge_lawful n k true x m h.3, (merge_lawful n k false z m h.4, tt))
  merges_lawful n k r (x ∷ z ∷ u ∷ xs) m h = absurd h

  gates_lawful : (n : ℕ) (r : Region) (xs : List Source) → lies_in s.block n ≡ r → length xs ≡ 1 → All (LiesIn s.block (outside s.block r)) xs
      → AllW IsLawful (gate_wires s n r xs)
  gates_lawful n Root xs e one h = tt
  gates_lawful n (Arm k t) xs e one h =
      let cond : is_kind cond_kind s.block k ≡ true = (arms_round fl s.block fit n k t e).1 in
      let its : RW (leaves s (predicate_of s.block k)) ≡ lies_in s.block k =
      at (predicate_of s.block k) (lies_in s.block k) (predicate_before fl s.block fit k cond).1 in
      let decided : predicate_of s.block k ≡ decided_by s.block k = decided_same s.block k cond in (
        other (wire (leaves s (first_source xs)) (Gate n) Left)
            (ap (outside s.block) e ∙ sym (at (first_source xs) (lies_in s.block k) (first_lies s.block (lies_in s.block k) xs (omega (arith, one)) h))) refl
            refl,
        (
          record {
            arms = ap (outside s.block) e ∙ sym its;
            agree = λ j f. let same : Some k ≡ Some j = sym (ap cond_round e) ∙ f in let it : k ≡ j = cc in
                ap (leaves s) decided ∙ ap (λ i. leaves s (decided_by s.block i)) it;
            trigger = λ j f. absurd (cc);
            turn = λ f. absurd (cc);
          },
          tt,
        ),
      )

  triggers_lawful : (k : ℕ) (t : Bool) (x : Source) → lies_in s.block x.node ≡ lies_in s.block k → x ≡ decided_by s.block k
      → AllW IsLawful (trigger_wires s k t x)
  triggers_lawful k false x l d = tt
  triggers_lawful k true x l d = (
    record {
      arms = sym (at x (lies_in s.block k) l);
      agree = λ j f. absurd (cc);
      trigger = λ j f. let it : k ≡ j = cc in ap (leaves s) d ∙ ap (λ i. leaves s (decided_by s.block i)) it;
      turn = λ f. absurd (cc);
    },
    (
      record {
        arms = sym (at x (lies_in s.block k) l);
        agree = λ j f. let it : k ≡ j = cc in ap (leaves s) d ∙ ap (λ i. leaves s (decided_by s.block i)) it;
        trigger = λ j f. let it : k ≡ j = cc in ap (leaves s) d ∙ ap (λ i. leaves s (decided_by s.block i)) it;
        turn = λ f. absurd (cc);
      },
      tt,
    ),
  )

  -- INVOCATIONS
  trigger_region : (r : Region) → RW (trigger_side r) ≡ r
  trigger_region Root = refl
  trigger_region (Arm k true) = refl
  trigger_region (Arm k false) = refl

  senders_lawful : (n from : ℕ) (xs : List Source) → All (LiesIn s.block (lies_in s.block n)) xs → AllW IsLawful (sender_wires s n from xs)
  senders_lawful n from [] h = tt
  senders_lawful n from (x ∷ xs) h = (
    other (wire (side (Fanned n) false) (Sender n from) Left) refl refl refl,
    (
      other (wire (leaves s x) (Sender n from) Right) (sym (at x (lies_in s.block n) (All-head (LiesIn s.block (lies_in s.block n)) x xs h))) refl refl,
      senders_lawful n (from + 1) xs (All-tail (LiesIn s.block (lies_in s.block n)) x xs h),
    ),
  )

  invoke_lawful : (n : ℕ) (t : Side) (xs : List Source) → RW t ≡ lies_in s.block n → All (LiesIn s.block (lies_in s.block n)) xs
      → AllW IsLawful (invoke_wires s n t xs)
  invoke_lawful n t xs e h =
      (other (wire t (Framer n) Left) (sym e) refl refl, (other (wire (side (Fanned n) false) (Linker n) Left) refl refl refl, senders_lawful n 0 xs h))

  strict_lawful : (n from : ℕ) (t : Side) (xs : List Source) → RW t ≡ lies_in s.block n → All (LiesIn s.block (lies_in s.block n)) xs
      → AllW IsLawful (strict_wires s n from t xs) × (RW (strict_end n from t xs) ≡ lies_in s.block n)
  strict_lawful n from t [] e h = (tt, e)
  strict_lawful n from t (x ∷ xs) e h =
      let rest = strict_lawful n (from + 1) (side (Strict n from) false) xs refl (All-tail (LiesIn s.block (lies_in s.block n)) x xs h) in (
        (
          other (wire t (Strict n from) Left) (sym e) refl refl,
          (
            other (wire (leaves s x) (Strict n from) Right) (sym (at x (lies_in s.block n) (All-head (LiesIn s.block (lies_in s.block n)) x xs h))) refl refl,
            rest.0,
          ),
        ),
        rest.1,
      )

  strict_call_lawful : (n : ℕ) (xs : List Source) → All (LiesIn s.block (lies_in s.block n)) xs → AllW IsLawful (strict_call_wires s n xs)
  strict_call_lawful n [] h = tt
  strict_call_lawful n (x ∷ xs) h =
      let chain = strict_lawful n 1 (leaves s x) xs (at x (lies_in s.block n) (All-head (LiesIn s.block (lies_in s.block n)) x xs h))
      (All-tail (LiesIn s.block (lies_in s.block n)) x xs h) in
      all_both IsLawful (strict_wires s n 1 (leaves s x) xs) (invoke_wires s n (strict_end n 1 (leaves s x) xs) (x ∷ xs)) chain.0
      (invoke_lawful n (strict_end n 1 (leaves s x) xs) (x ∷ xs) chain.1 h)

  -- one row for each kind of node
  kind_lawful : (n : ℕ) (x : Node ℕ) → node_at s.block n ≡ Some x → AllW IsLawful (kind_wires s n x.region x.kind x.sources)
  kind_lawful n x f = go x.kind refl (fit.nodes n x f).takes (fit.nodes n x f).lies
    where
      its : lies_in s.block n ≡ x.region
      its = its_region s.block n x f

      here : All (LiesIn s.block x.region) x.sources → All (LiesIn s.block (lies_in s.block n)) x.sources
      here h = subst (λ r. All (LiesIn s.block r) x.sources) (sym its) h

      go : (k : Kind ℕ) → x.kind ≡ k → Takes fl k (length x.sources) → Lies s.block n x.region k x.sources → AllW IsLawful (kind_wires s n x.region k x.sources)
      go Cond e t l =
          triggers_lawful n (is_triggered s.block n) (first_source x.sources) (first_lies s.block x.region x.sources (omega (arith, t)) l ∙ sym its)
          (sym (decided_some s.block n x f))
      go Enter e t l = gates_lawful n x.region x.sources its t l.1
      go (Merge k) e t l =
          merges_lawful n k x.region x.sources (ap (λ o. elim o as (λ z. ℕ) [ None ↦ 0 | Some line ↦ merged_by line.kind ]) f ∙ ap merged_by e) l
      go (Lit z) e t l = operands_lawful n 0 x.sources (here l)
      go (Apply1 op) e t l = operands_lawful n 0 x.sources (here l)
      go (Apply2 op) e t l = operands_lawful n 0 x.sources (here l)
      go (Fetch a) e t l =
          all_both IsLawful (operand_wires s (Line n) 0 x.sources) (answer_wires n (is_shared s n)) (operands_lawful n 0 x.sources (here l))
          (answers_lawful n (is_shared s n))
      go (Store a) e t l =
          all_both IsLawful (operand_wires s (Line n) 0 x.sources) (answer_wires n (is_shared s n)) (operands_lawful n 0 x.sources (here l))
          (answers_lawful n (is_shared s n))
      go (Call g) e t l = invoke_lawful n (trigger_side x.region) x.sources (trigger_region x.region ∙ sym its) (here l)
      go (StrictCall g) e t l = strict_call_lawful n x.sources (here l)
      go (Loop g c) e t l = (
        other (wire (trigger_side x.region) (Opener n) Left) (its ∙ sym (trigger_region x.region)) refl refl,
        invoke_lawful n (side (Opener n) false) x.sources refl (here l),
      )

  nodes_lawful : (n : ℕ) (xs : List (Node ℕ)) → Follow s.block n xs → AllW IsLawful (node_wires s n xs)
  nodes_lawful n [] f = tt
  nodes_lawful n (x ∷ xs) f =
      all_both IsLawful (kind_wires s n x.region x.kind x.sources) (node_wires s (n + 1) xs) (kind_lawful n x (follow_here s.block n x xs f))
      (nodes_lawful (n + 1) xs (follow_more s.block n x xs f))

  -- RESULTS, and the turn of a loop
  results_lawful : (from : ℕ) (xs : List Source) → All (LiesIn s.block Root) xs → AllW IsLawful (result_wires s from xs)
  results_lawful from [] h = tt
  results_lawful from (x ∷ xs) h = (
    other (wire (side Entry false) (Result from) Left) refl refl refl,
    (
      other (wire (leaves s x) (Result from) Right) (sym (at x Root (All-head (LiesIn s.block Root) x xs h))) refl refl,
      results_lawful (from + 1) xs (All-tail (LiesIn s.block Root) x xs h),
    ),
  )

  -- a word of the flag
  flag_lawful : (w : Wire) → entered s.block w.part (way_in w.part (RW w.from)) ≡ RW w.from → predicate_at s.block w.part w.port ≡ Some (flag s.block)
      → ((k : ℕ) → w.part ≢ Trigger k) → w.from ≡ leaves s (decided_by s.block (flag s.block)) → IsLawful w
  flag_lawful w a p t d = record {
    arms = a;
    agree = λ k e. let z : Some (flag s.block) ≡ Some k = sym p ∙ e in let it : flag s.block ≡ k = cc in d ∙ ap (λ i. leaves s (decided_by s.block i)) it;
    trigger = λ k e. absurd (t k e);
    turn = λ e. d;
  }

  values_lawful : (x : Source) (from : ℕ) (xs : List Source) → lies_in s.block x.node ≡ Root → x ≡ decided_by s.block (flag s.block)
      → All (LiesIn s.block Root) xs → AllW IsLawful (value_wires s (leaves s x) from xs)
  values_lawful x from [] l d h = tt
  values_lawful x from (z ∷ xs) l d h = (
    other (wire (leaves s z) (TurnValue from) Left) (sym (at z Root (All-head (LiesIn s.block Root) z xs h))) refl refl,
    (
      flag_lawful (wire (leaves s x) (TurnValue from) Right) (sym (at x Root l)) refl (λ k e. cc) (ap (leaves s) d),
      values_lawful x (from + 1) xs l d (All-tail (LiesIn s.block Root) z xs h),
    ),
  )

  nexts_lawful : (from n : ℕ) → AllW IsLawful (next_wires from n)
  nexts_lawful from zero = tt
  nexts_lawful from (suc n) = (
    other (wire (side NextFanned false) (NextSender from) Left) refl refl refl,
    (other (wire (side (TurnValue from) false) (NextSender from) Right) refl refl refl, nexts_lawful (from + 1) n),
  )

  lasts_lawful : (from n : ℕ) → AllW IsLawful (last_wires from n)
  lasts_lawful from zero = tt
  lasts_lawful from (suc n) = (
    other (wire (side TurnCont true) (LastReturn from) Left) refl refl refl,
    (other (wire (side (TurnValue (from + 1)) true) (LastReturn from) Right) refl refl refl, lasts_lawful (from + 1) n),
  )

  turns_lawful : (xs : List Source) → decided_by s.block (flag s.block) ≡ Wires.first_source xs → All (LiesIn s.block Root) xs → AllW IsLawful (turn_wires s xs)
  turns_lawful [] d h = tt
  turns_lawful (x ∷ xs) d h =
      let l = All-head (LiesIn s.block Root) x xs h in
      let from : leaves s x ≡ leaves s (decided_by s.block (flag s.block)) = ap (leaves s) (sym d) in
      let ends : List Wire = meet_wires (side TurnCont true) (side TurnFlag true) DrainReturn in (
        other (wire (side Entry false) TurnCont Left) refl refl refl,
        (
          flag_lawful (wire (leaves s x) TurnCont Right) (sym (at x Root l)) refl (λ k e. cc) from,
          (
            record { arms = sym (at x Root l); agree = λ k e. absurd (cc); trigger = λ k e. absurd (cc); turn = λ e. from },
            (
              flag_lawful (wire (leaves s x) TurnFlag Right) (sym (at x Root l)) refl (λ k e. cc) from,
              all_both IsLawful (value_wires s (leaves s x) 1 xs)
                  (meet_wires (side TurnCont false) (side TurnFlag false) Asker
                  ++ (meet_wires (side NextFanned false) (side TurnCont false) (NextSender 0)
                  ++ (next_wires 1 (length xs) ++ (last_wires 0 (length xs) ++ ends))))
                  (values_lawful x 1 xs l (sym d) (All-tail (LiesIn s.block Root) x xs h)) (
                    other (wire (side TurnCont false) Asker Left) refl refl refl,
                    (
                      other (wire (side TurnFlag false) Asker Right) refl refl refl,
                      (
                        other (wire (side NextFanned false) (NextSender 0) Left) refl refl refl,
                        (
                          other (wire (side TurnCont false) (NextSender 0) Right) refl refl refl,
                          all_both IsLawful (next_wires 1 (length xs)) (last_wires 0 (length xs) ++ ends) (nexts_lawful 1 (length xs))
                              (all_both IsLawful (last_wires 0 (length xs)) ends (lasts_lawful 0 (length xs)) (
                                other (wire (side TurnCont true) DrainReturn Left) refl refl refl,
                                (other (wire (side TurnFlag true) DrainReturn Right) refl refl refl, tt),
                              )),
                        ),
                      ),
                    ),
                  ),
            ),
          ),
        ),
      )

  tails_lawful : (t : Bool) → AllW IsLawful (tail_wires s t)
  tails_lawful false = results_lawful 0 s.block.results fit.in_root
  tails_lawful true = turns_lawful s.block.results (flag_decided s.block) fit.in_root

  pub inner_lawful : AllW IsLawful (inner_wires s)
  inner_lawful =
      all_both IsLawful (node_wires s s.block.inputs s.block.nodes) (tail_wires s s.turns) (nodes_lawful s.block.inputs s.block.nodes (follow s.block))
      (tails_lawful s.turns)

  -- ENDS of a region
  abbrev IsEndOf : Region → Side → Type 0
  IsEndOf r t = RW t ≡ r

  region_ends : (r : Region) (ts : List Side) → AllS (IsEndOf r) (in_region s.block r ts)
  region_ends r [] = tt
  region_ends r (t ∷ ts) = go (same_region (RW t) r) refl (region_ends r ts)
    where
      go : (q : Bool) → same_region (RW t) r ≡ q → AllS (IsEndOf r) (in_region s.block r ts)
          → AllS (IsEndOf r) (if q then t ∷ in_region s.block r ts else in_region s.block r ts)
      go true e k = (region_is (RW t) r e, k)
      go false e k = k

  chain_lawful : (r : Region) (n : ℕ) (t : Side) (ts : List Side) → IsEndOf r t → AllS (IsEndOf r) ts
      → AllW IsLawful (chain_wires r n t ts) × IsEndOf r (chain_end r n t ts)
  chain_lawful r n t [] h k = (tt, h)
  chain_lawful r n t (u ∷ us) h k =
      let rest = chain_lawful r (n + 1) (side (Join r n) false) us refl k.1 in
      ((other (wire t (Join r n) Left) (sym h) refl refl, (other (wire u (Join r n) Right) (sym k.0) refl refl, rest.0)), rest.1)

  joined_lawful : (r : Region) (ts : List Side) → AllS (IsEndOf r) ts → AllW IsLawful (joined_wires r ts)
  joined_lawful r [] h = tt
  joined_lawful r (t ∷ ts) h = (chain_lawful r 0 t ts h.0 h.1).0

  signal_lawful : (k : ℕ) (t : Bool) (ts : List Side) → AllS (IsEndOf (Arm k t)) ts → AllW IsLawful (signal_wires (Arm k t) ts (CondEnd k) Left)
  signal_lawful k t [] h = tt
  signal_lawful k t (u ∷ us) h =
      let last : RW (chain_end (Arm k t) 0 u us) ≡ Arm k t = (chain_lawful (Arm k t) 0 u us h.0 h.1).1 in (
        other (wire (chain_end (Arm k t) 0 u us) (CondEnd k) Left)
            (ap (λ r. entered s.block (CondEnd k) (way_in (CondEnd k) r)) last ∙ by_side t ∙ sym last) refl refl,
        tt,
      )
    where
      by_side : (t : Bool) → entered s.block (CondEnd k) (way_in (CondEnd k) (Arm k t)) ≡ Arm k t
      by_side true = refl
      by_side false = refl

  root_signal : (ts : List Side) → AllS (IsEndOf Root) ts → AllW IsLawful (signal_wires Root ts Parts.End Right)
  root_signal [] h = tt
  root_signal (u ∷ us) h = (other (wire (chain_end Root 0 u us) Parts.End Right) (sym (chain_lawful Root 0 u us h.0 h.1).1) refl refl, tt)

  -- CLOSING
  close_lawful : (k : ℕ) (x : Ended) → AllW IsLawful x.wires → AllW IsLawful (close s.block k x).wires
  close_lawful k x h =
      let ts : List Side = arm_ends s.block k true x in
      let us : List Side = arm_ends s.block k false x in
      let t = region_ends (Arm k true) x.ends in
      let u = region_ends (Arm k false) x.ends in
      let up : List Wire = signal_wires (Arm k true) ts (CondEnd k) Left in
      let down : List Wire = signal_wires (Arm k false) us (CondEnd k) Left in
      all_both IsLawful x.wires (joined_wires (Arm k true) ts ++ (joined_wires (Arm k false) us ++ (up ++ down))) h
      (all_both IsLawful (joined_wires (Arm k true) ts) (joined_wires (Arm k false) us ++ (up ++ down)) (joined_lawful (Arm k true) ts t)
      (all_both IsLawful (joined_wires (Arm k false) us) (up ++ down) (joined_lawful (Arm k false) us u)
      (all_both IsLawful up down (signal_lawful k true ts t) (signal_lawful k false us u))))

  kind_closed : (n : ℕ) (x : Ended) (k : Kind ℕ) → AllW IsLawful x.wires → AllW IsLawful (close_kind s.block n x k).wires
  kind_closed n x Cond h = close_lawful n x h
  kind_closed n x k h = h

  nodes_closed : (n : ℕ) (xs : List (Node ℕ)) (x : Ended) → AllW IsLawful x.wires → AllW IsLawful (close_nodes s.block n xs x).wires
  nodes_closed n [] x h = h
  nodes_closed n (y ∷ xs) x h = kind_closed n (close_nodes s.block (n + 1) xs x) y.kind (nodes_closed (n + 1) xs x h)

  flag_closed : (t : Bool) (x : Ended) → AllW IsLawful x.wires → AllW IsLawful (close_flag s.block t x).wires
  flag_closed true x h = close_lawful (node_count s.block) x h
  flag_closed false x h = h

  -- every wire is lawful
  pub all_lawful : AllW IsLawful (wires_in fl s)
  all_lawful =
      let roots = region_ends Root (Written.closed fl s).ends in
      let last : List Wire = wire (side Entry false) Parts.End Left ∷ signal_wires Root (root_ends fl s) Parts.End Right in
      all_both IsLawful (Written.closed fl s).wires (joined_wires Root (root_ends fl s) ++ last)
      (nodes_closed s.block.inputs s.block.nodes (close_flag s.block s.turns (inner fl s)) (flag_closed s.turns (inner fl s) inner_lawful))
      (all_both IsLawful (joined_wires Root (root_ends fl s)) last (joined_lawful Root (root_ends fl s) roots)
      (other (wire (side Entry false) Parts.End Left) refl refl refl, root_signal (root_ends fl s) roots))
