-- Which parts the nodes, the results and a turn have, as it is said which parts are there.
use Rattle.std.proofs.Common.{◌≡◌, ◌≢◌, ℕ, ◌+◌, ◌<◌, ◌≤◌, ◌⊎◌, inl, inr, Bool, true, false, not, ◌&&◌, ◌||◌, length, refl, sym, ap, ◌∙◌, arith, Some, None}
use Rattle.std.proofs.Common.{Option, nat_lt, ◌==◌}
use Rattle.std.proofs.lemmas.Bool.{lt-ltb, le-ltb, cases_lt}
use Rattle.lemmas.proofs.Bools.{equal_itself}
use Rattle.semantics.specs.declared.graph.Kind.{Kind}
use Rattle.semantics.specs.declared.graph.Kind.TheVariants.{Cond}
use Rattle.semantics.specs.Graph.{Node, Block, Flow, node_at}
use Rattle.law_confluence.specs.OrdersTotals.{one}
use Rattle.law_net.specs.ContextsParts as Parts
use Rattle.law_net.specs.ContextsParts.{Part, Entry, Line, Answer, Trigger, Gate, Opener, Framer, Fanned, Linker, Sender, Landing, CallDone, Giver, Taker}
use Rattle.law_net.specs.ContextsParts.{Drainer, LoopDone, Strict, Result, Join, CondEnd, same_part}
use Rattle.law_net.specs.ContextsBlocks.{Site, is_kind, cond_kind, loop_kind, call_kind, strict_kind, cell_kind, plain_kind, enter_kind, merge_kind}
use Rattle.law_net.specs.ContextsBlocks.{source_count, result_count, kind_results}
use Rattle.law_net.specs.ContextsExpanded.{row, turn_parts}
use Rattle.law_wiring.specs.Written.{is_shared, is_triggered, tail_parts}
use Rattle.law_wiring.proofs.PartsCounts.{tally, row_none, row_one, row_below}
use Rattle.law_wiring.proofs.Parts.{other_number, kind_has, has_node}
use Rattle.law_wiring.proofs.PartsThere.{turn_tally}

-- WHAT THE RESULTS HAVE, or a turn
abbrev pub tail_has : Block ℕ → Bool → Part → Bool
tail_has b t (Result j) = not t && nat_lt j (length b.results)
tail_has b t Parts.TurnCont = t
tail_has b t Parts.TurnFlag = t
tail_has b t (Parts.TurnValue j) = t && (nat_lt 0 j && nat_lt j (b.inputs + 1))
tail_has b t Parts.Asker = t
tail_has b t Parts.NextFramer = t
tail_has b t Parts.NextFanned = t
tail_has b t (Parts.NextSender j) = t && nat_lt j (b.inputs + 1)
tail_has b t (Parts.LastReturn j) = t && nat_lt j b.inputs
tail_has b t Parts.DrainReturn = t
tail_has b t r = false

same_of : (j : ℕ) → ((j == j) && true) ≡ true
same_of j = ap (λ t. t && true) (equal_itself j)

other_of : (k j : ℕ) → j ≢ k → ((k == j) && true) ≡ false
other_of k j h = ap (λ t. t && true) (other_number k j h)

values_count : (n k : ℕ) → tally (same_part (Parts.TurnValue k)) (row Parts.TurnValue 1 n) ≡ one (nat_lt 0 k && nat_lt k (n + 1))
values_count n k = go (cases_lt 0 k) (cases_lt k (n + 1))
  where
    p : Part → Bool
    p = same_part (Parts.TurnValue k)

    go : (0 < k) ⊎ (k ≤ 0) → (k < n + 1) ⊎ (n + 1 ≤ k) → tally p (row Parts.TurnValue 1 n) ≡ one (nat_lt 0 k && nat_lt k (n + 1))
    go (inl a) (inl c) =
        row_one p Parts.TurnValue 1 n k (omega (arith, a)) (omega (arith, c)) (same_of k) (λ j ne. other_of k j ne)
        ∙ sym (ap (λ t. one (t && nat_lt k (n + 1))) (lt-ltb 0 k a) ∙ ap one (lt-ltb k (n + 1) c))
    go (inr a) c =
        row_none p Parts.TurnValue 1 n (λ j x y. other_of k j (λ q. omega (arith, q, a, x))) ∙ sym (ap (λ t. one (t && nat_lt k (n + 1))) (le-ltb 0 k a))
    go (inl a) (inr c) =
        row_none p Parts.TurnValue 1 n (λ j x y. other_of k j (λ q. omega (arith, q, c, y)))
        ∙ sym (ap (λ t. one (t && nat_lt k (n + 1))) (lt-ltb 0 k a) ∙ ap one (le-ltb k (n + 1) c))

turn_count : (b : Block ℕ) (r : Part) → tally (same_part r) (turn_parts b.inputs) ≡ one (tail_has b true r)
turn_count b r = sum_up r
  where
    no_values : (r : Part) → ((j : ℕ) → same_part r (Parts.TurnValue j) ≡ false) → tally (same_part r) (row Parts.TurnValue 1 b.inputs) ≡ 0
    no_values r h = row_none (same_part r) Parts.TurnValue 1 b.inputs (λ j x y. h j)

    no_senders : (r : Part) → ((j : ℕ) → same_part r (Parts.NextSender j) ≡ false) → tally (same_part r) (row Parts.NextSender 0 (b.inputs + 1)) ≡ 0
    no_senders r h = row_none (same_part r) Parts.NextSender 0 (b.inputs + 1) (λ j x y. h j)

    no_returns : (r : Part) → ((j : ℕ) → same_part r (Parts.LastReturn j) ≡ false) → tally (same_part r) (row Parts.LastReturn 0 b.inputs) ≡ 0
    no_returns r h = row_none (same_part r) Parts.LastReturn 0 b.inputs (λ j x y. h j)

    sum_up : (r : Part) → tally (same_part r) (turn_parts b.inputs) ≡ one (tail_has b true r)
    sum_up (Parts.TurnValue k) =
        let r : Part = Parts.TurnValue k in
        let a = turn_tally (same_part r) b.inputs in let v = values_count b.inputs k in let s = no_senders r (λ j. refl) in let l = no_returns r (λ j. refl) in
        omega (arith, a, v, s, l)
    sum_up (Parts.NextSender k) =
        let r : Part = Parts.NextSender k in
        let a = turn_tally (same_part r) b.inputs in
        let v = no_values r (λ j. refl) in
        let s = row_below (same_part r) Parts.NextSender (b.inputs + 1) k (same_of k) (λ j h. other_of k j h) in
        let l = no_returns r (λ j. refl) in
        omega (arith, a, v, s, l)
    sum_up (Parts.LastReturn k) =
        let r : Part = Parts.LastReturn k in
        let a = turn_tally (same_part r) b.inputs in
        let v = no_values r (λ j. refl) in
        let s = no_senders r (λ j. refl) in
        let l = row_below (same_part r) Parts.LastReturn b.inputs k (same_of k) (λ j h. other_of k j h) in
        omega (arith, a, v, s, l)
    sum_up r =
        let a = turn_tally (same_part r) b.inputs in let v = no_values r (λ j. refl) in let s = no_senders r (λ j. refl) in let l = no_returns r (λ j. refl) in
        omega (arith, a, v, s, l)

pub tail_count : (b : Block ℕ) (t : Bool) (r : Part) → tally (same_part r) (tail_parts b t) ≡ one (tail_has b t r)
tail_count b true r = turn_count b r
tail_count b false (Result k) = row_below (same_part (Result k)) Result (length b.results) k (same_of k) (λ j h. other_of k j h)
tail_count b false r = row_none (same_part r) Result 0 (length b.results) (λ j x y. refl)

-- WHAT A NODE HAS, as `there_in` says it
module _ (fl : Flow) (s : Site) (k : ℕ) where
  abbrev Has : Part → Bool
  Has r = has_node (λ m x. kind_has fl s k m x r) s.block k

  plain_kinds : (m : ℕ) (x : Kind ℕ) → kind_has fl s k m x (Line k) ≡ plain_kind x
  plain_kinds m Cond = refl
  plain_kinds m x = refl

  pub line_is : Has (Line k) ≡ is_kind plain_kind s.block k
  line_is = go (node_at s.block k)
    where
      go : (o : Option (Node ℕ)) → elim o as (λ x. Bool) [ None ↦ false | Some line ↦ kind_has fl s k (length line.sources) line.kind (Line k) ]
          ≡ elim o as (λ x. Bool) [ None ↦ false | Some line ↦ plain_kind line.kind ]
      go None = refl
      go (Some x) = plain_kinds (length x.sources) x.kind

  cells : (m : ℕ) (x : Kind ℕ) → kind_has fl s k m x (Answer k) ≡ (cell_kind x && is_shared s k)
  cells m Cond = refl
  cells m x = refl

  pub answer_is : Has (Answer k) ≡ (is_kind cell_kind s.block k && is_shared s k)
  answer_is = go (node_at s.block k)
    where
      go : (o : Option (Node ℕ)) → elim o as (λ x. Bool) [ None ↦ false | Some line ↦ kind_has fl s k (length line.sources) line.kind (Answer k) ]
          ≡ (elim o as (λ x. Bool) [ None ↦ false | Some line ↦ cell_kind line.kind ] && is_shared s k)
      go None = refl
      go (Some x) = cells (length x.sources) x.kind

  conds : (m : ℕ) (x : Kind ℕ) → kind_has fl s k m x (Trigger k) ≡ (cond_kind x && is_triggered s.block k)
  conds m Cond = refl
  conds m x = refl

  pub trigger_is : Has (Trigger k) ≡ (is_kind cond_kind s.block k && is_triggered s.block k)
  trigger_is = go (node_at s.block k)
    where
      go : (o : Option (Node ℕ)) → elim o as (λ x. Bool) [ None ↦ false | Some line ↦ kind_has fl s k (length line.sources) line.kind (Trigger k) ]
          ≡ (elim o as (λ x. Bool) [ None ↦ false | Some line ↦ cond_kind line.kind ] && is_triggered s.block k)
      go None = refl
      go (Some x) = conds (length x.sources) x.kind

  -- a part that each node of some kind has
  by_kind : (r : Part) (test : Kind ℕ → Bool) → ((m : ℕ) (x : Kind ℕ) → kind_has fl s k m x r ≡ test x) → Has r ≡ is_kind test s.block k
  by_kind r test h = go (node_at s.block k)
    where
      go : (o : Option (Node ℕ)) → elim o as (λ x. Bool) [ None ↦ false | Some line ↦ kind_has fl s k (length line.sources) line.kind r ]
          ≡ elim o as (λ x. Bool) [ None ↦ false | Some line ↦ test line.kind ]
      go None = refl
      go (Some x) = h (length x.sources) x.kind

  invoke_is : (r : Part) → ((m : ℕ) (x : Kind ℕ) → kind_has fl s k m x r ≡ (call_kind x || loop_kind x))
      → Has r ≡ (is_kind call_kind s.block k || is_kind loop_kind s.block k)
  invoke_is r h = go (node_at s.block k)
    where
      go : (o : Option (Node ℕ)) → elim o as (λ x. Bool) [ None ↦ false | Some line ↦ kind_has fl s k (length line.sources) line.kind r ]
          ≡ (elim o as (λ x. Bool) [ None ↦ false | Some line ↦ call_kind line.kind ]
          || elim o as (λ x. Bool) [ None ↦ false | Some line ↦ loop_kind line.kind ])
      go None = refl
      go (Some x) = h (length x.sources) x.kind

  pub sender_is : (i : ℕ) → Has (Sender k i) ≡ ((is_kind call_kind s.block k || is_kind loop_kind s.block k) && nat_lt i (source_count s.block k))
  sender_is i = go (node_at s.block k)
    where
      kinds : (m : ℕ) (x : Kind ℕ) → kind_has fl s k m x (Sender k i) ≡ ((call_kind x || loop_kind x) && nat_lt i m)
      kinds m Cond = refl
      kinds m x = refl

      go : (o : Option (Node ℕ)) → elim o as (λ x. Bool) [ None ↦ false | Some line ↦ kind_has fl s k (length line.sources) line.kind (Sender k i) ]
          ≡ ((elim o as (λ x. Bool) [ None ↦ false | Some line ↦ call_kind line.kind ]
          || elim o as (λ x. Bool) [ None ↦ false | Some line ↦ loop_kind line.kind ])
          && nat_lt i (elim o as (λ x. ℕ) [ None ↦ 0 | Some line ↦ length line.sources ]))
      go None = refl
      go (Some x) = kinds (length x.sources) x.kind

  pub landing_is : (j : ℕ) → Has (Landing k j) ≡ ((is_kind call_kind s.block k || is_kind loop_kind s.block k) && nat_lt j (result_count fl s.block k))
  landing_is j = go (node_at s.block k)
    where
      kinds : (m : ℕ) (x : Kind ℕ) → kind_has fl s k m x (Landing k j) ≡ ((call_kind x || loop_kind x) && nat_lt j (kind_results fl m x))
      kinds m Cond = refl
      kinds m x = refl

      go : (o : Option (Node ℕ)) → elim o as (λ x. Bool) [ None ↦ false | Some line ↦ kind_has fl s k (length line.sources) line.kind (Landing k j) ]
          ≡ ((elim o as (λ x. Bool) [ None ↦ false | Some line ↦ call_kind line.kind ]
          || elim o as (λ x. Bool) [ None ↦ false | Some line ↦ loop_kind line.kind ])
          && nat_lt j (elim o as (λ x. ℕ) [ None ↦ 0 | Some line ↦ kind_results fl (length line.sources) line.kind ]))
      go None = refl
      go (Some x) = kinds (length x.sources) x.kind

  pub strict_is : (i : ℕ) → Has (Strict k i) ≡ (is_kind strict_kind s.block k && (nat_lt 0 i && nat_lt i (source_count s.block k)))
  strict_is i = go (node_at s.block k)
    where
      kinds : (m : ℕ) (x : Kind ℕ) → kind_has fl s k m x (Strict k i) ≡ (strict_kind x && (nat_lt 0 i && nat_lt i m))
      kinds m Cond = refl
      kinds m x = refl

      go : (o : Option (Node ℕ)) → elim o as (λ x. Bool) [ None ↦ false | Some line ↦ kind_has fl s k (length line.sources) line.kind (Strict k i) ]
          ≡ (elim o as (λ x. Bool) [ None ↦ false | Some line ↦ strict_kind line.kind ]
          && (nat_lt 0 i && nat_lt i (elim o as (λ x. ℕ) [ None ↦ 0 | Some line ↦ length line.sources ])))
      go None = refl
      go (Some x) = kinds (length x.sources) x.kind

  pub gate_is : Has (Gate k) ≡ is_kind enter_kind s.block k
  gate_is = by_kind (Gate k) enter_kind kinds
    where
      kinds : (m : ℕ) (x : Kind ℕ) → kind_has fl s k m x (Gate k) ≡ enter_kind x
      kinds m Cond = refl
      kinds m x = refl

  pub merge_is : Has (Parts.Merge k) ≡ is_kind merge_kind s.block k
  merge_is = by_kind (Parts.Merge k) merge_kind kinds
    where
      kinds : (m : ℕ) (x : Kind ℕ) → kind_has fl s k m x (Parts.Merge k) ≡ merge_kind x
      kinds m Cond = refl
      kinds m x = refl

  pub done_is : Has (CallDone k) ≡ is_kind call_kind s.block k
  done_is = by_kind (CallDone k) call_kind kinds
    where
      kinds : (m : ℕ) (x : Kind ℕ) → kind_has fl s k m x (CallDone k) ≡ call_kind x
      kinds m Cond = refl
      kinds m x = refl

  abbrev pub IsInvoked : Part → Type 0
  IsInvoked r = Has r ≡ (is_kind call_kind s.block k || is_kind loop_kind s.block k)

  pub framer_is : IsInvoked (Framer k)
  framer_is = invoke_is (Framer k) kinds
    where
      kinds : (m : ℕ) (x : Kind ℕ) → kind_has fl s k m x (Framer k) ≡ (call_kind x || loop_kind x)
      kinds m Cond = refl
      kinds m x = refl

  pub fanned_is : IsInvoked (Fanned k)
  fanned_is = invoke_is (Fanned k) kinds
    where
      kinds : (m : ℕ) (x : Kind ℕ) → kind_has fl s k m x (Fanned k) ≡ (call_kind x || loop_kind x)
      kinds m Cond = refl
      kinds m x = refl

  pub linker_is : IsInvoked (Linker k)
  linker_is = invoke_is (Linker k) kinds
    where
      kinds : (m : ℕ) (x : Kind ℕ) → kind_has fl s k m x (Linker k) ≡ (call_kind x || loop_kind x)
      kinds m Cond = refl
      kinds m x = refl

  abbrev pub IsLooped : Part → Type 0
  IsLooped r = Has r ≡ is_kind loop_kind s.block k

  pub opener_is : IsLooped (Opener k)
  opener_is = by_kind (Opener k) loop_kind kinds
    where
      kinds : (m : ℕ) (x : Kind ℕ) → kind_has fl s k m x (Opener k) ≡ loop_kind x
      kinds m Cond = refl
      kinds m x = refl

  pub giver_is : IsLooped (Giver k)
  giver_is = by_kind (Giver k) loop_kind kinds
    where
      kinds : (m : ℕ) (x : Kind ℕ) → kind_has fl s k m x (Giver k) ≡ loop_kind x
      kinds m Cond = refl
      kinds m x = refl

  pub taker_is : IsLooped (Taker k)
  taker_is = by_kind (Taker k) loop_kind kinds
    where
      kinds : (m : ℕ) (x : Kind ℕ) → kind_has fl s k m x (Taker k) ≡ loop_kind x
      kinds m Cond = refl
      kinds m x = refl

  pub drainer_is : IsLooped (Drainer k)
  drainer_is = by_kind (Drainer k) loop_kind kinds
    where
      kinds : (m : ℕ) (x : Kind ℕ) → kind_has fl s k m x (Drainer k) ≡ loop_kind x
      kinds m Cond = refl
      kinds m x = refl

  pub loop_done_is : IsLooped (LoopDone k)
  loop_done_is = by_kind (LoopDone k) loop_kind kinds
    where
      kinds : (m : ℕ) (x : Kind ℕ) → kind_has fl s k m x (LoopDone k) ≡ loop_kind x
      kinds m Cond = refl
      kinds m x = refl
