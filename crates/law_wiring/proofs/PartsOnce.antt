-- Each part of a block occurs once, and in its place.
use Rattle.std.proofs.Common.{◌≡◌, ◌≢◌, ℕ, suc, ◌+◌, ◌-◌, ◌<◌, ◌≤◌, ◌⊎◌, inl, inr, Bool, true, false, not, ◌&&◌, ◌||◌, List, [], ◌∷◌, ◌++◌, length, refl, sym}
use Rattle.std.proofs.Common.{ap, ◌∙◌, subst, arith, append_assoc, if◌then◌else◌, Some, None, nat_lt, ◌==◌}
use Rattle.std.specs.Prelude.{slice_get, count_by}
use Rattle.std.proofs.lemmas.Bool.{lt-ltb, le-ltb, cases_lt}
use Rattle.lemmas.proofs.Bools.{equal_itself}
use Rattle.semantics.specs.Graph.{Block, Flow}
use Rattle.semantics.specs.Program.{Instr}
use Rattle.law_confluence.specs.OrdersTotals.{one}
use Rattle.law_wiring.proofs.ArcsLists.{length_push}
use Rattle.law_net.specs.ContextsParts as Parts
use Rattle.law_net.specs.ContextsParts.{Part, Entry, Line, Answer, Trigger, Gate, Opener, Framer, Fanned, Linker, Sender, Landing, CallDone, Giver, Taker}
use Rattle.law_net.specs.ContextsParts.{Drainer, LoopDone, Strict, Result, Join, CondEnd, same_part}
use Rattle.law_net.specs.ContextsBlocks.{Site, Wiring, there_in, is_kind, cond_kind, cell_kind, plain_kind}
use Rattle.law_net.specs.ContextsExpanded.{has_part, place_from}
use Rattle.law_net.proofs.ContextsSames.{same_part-refl}
use Rattle.law_wiring.specs.Written.{is_shared, is_triggered, parts_in}
use Rattle.law_wiring.specs.WrittenFit.{IsFit}
use Rattle.law_wiring.proofs.PartsStanding.{Stand}
use Rattle.law_wiring.proofs.PartsCounts.{tally, count_is, tally_both, row_none, row_below}
use Rattle.law_wiring.proofs.Parts.{other_number, number_of, of_node, kind_has, has_node, node_count_is, no_nodes}
use Rattle.law_wiring.proofs.PartsThere.{w, Counted, is_tail, misses_nodes, misses_tail, tail_none, missing, inner_is, never_there, inner_none, join_counted}
use Rattle.law_wiring.proofs.PartsThere.{cond_counted}
use Rattle.law_wiring.proofs.PartsHas.{tail_has, tail_count, line_is, answer_is, trigger_is, gate_is, merge_is, done_is, framer_is, fanned_is, linker_is}
use Rattle.law_wiring.proofs.PartsHas.{opener_is, giver_is, taker_is, drainer_is, loop_done_is, sender_is, landing_is, strict_is}

module _ (fl : Flow) (T : Site) (is : List Instr) (fit : IsFit fl T.block) where
  abbrev b : Block ℕ
  b = T.block

  abbrev C : Part → Type 0
  C r = Counted fl T is r

  abbrev W : Wiring
  W = w fl T is

  same_if : (k : ℕ) → ((k == k) && true) ≡ true
  same_if k = ap (λ t. t && true) (equal_itself k)

  other_if : (k j : ℕ) → j ≢ k → ((k == j) && true) ≡ false
  other_if k j h = ap (λ t. t && true) (other_number k j h)

  entry_counted : C Entry
  entry_counted =
      let p : Part → Bool = same_part Entry in
      let a = inner_is fl T is p (λ q i. refl, λ k. refl) refl in
      let d = row_none p Line 0 b.inputs (λ j x y. refl) in
      let k = no_nodes fl T p (misses_nodes Entry refl) in
      let l = tail_none p b T.turns (misses_tail Entry refl) in
      omega (arith, a, d, k, l)

  -- the line of a node
  no_line : (k : ℕ) → k < b.inputs → is_kind plain_kind b k ≡ false
  no_line k l =
      ap (λ t. elim (if t then None else slice_get b.nodes (k - b.inputs)) as (λ x. Bool) [ None ↦ false | Some line ↦ plain_kind line.kind ])
      (lt-ltb k b.inputs l)

  line_counted : (k : ℕ) → C (Line k)
  line_counted k =
      let p : Part → Bool = same_part (Line k) in
      let a = inner_is fl T is p (λ q i. refl, λ j. refl) refl in
      let d = row_below p Line b.inputs k (same_if k) (λ j h. other_if k j h) in
      let n = node_count_is fl T (Line k) k (equal_itself k) ∙ ap one (line_is fl T k) in
      let l = tail_none p b T.turns (misses_tail (Line k) refl) in
      let sum : tally p (parts_in fl T) ≡ one (nat_lt k b.inputs) + one (is_kind plain_kind b k) = omega (arith, a, d, n, l) in
      sum ∙ go (cases_lt k b.inputs) (is_kind plain_kind b k) refl
    where
      go : (k < b.inputs) ⊎ (b.inputs ≤ k) → (t : Bool) → is_kind plain_kind b k ≡ t → one (nat_lt k b.inputs) + one t ≡ one (nat_lt k b.inputs || t)
      go (inl l) true e = let no = no_line k l in absurd (cc)
      go (inl l) false e = let at = lt-ltb k b.inputs l in ap (λ x. one x + 0) at ∙ sym (ap (λ x. one (x || false)) at)
      go (inr l) t e = let at = le-ltb k b.inputs l in ap (λ x. one x + one t) at ∙ zero_plus (one t) ∙ sym (ap (λ x. one (x || t)) at)
        where
          zero_plus : (n : ℕ) → 0 + n ≡ n
          zero_plus n = omega arith

  -- another part of a node
  node_counted : (r : Part) (k : ℕ) (t : Bool) → of_node k r ≡ true → same_part r Parts.End ≡ false → same_part r Entry ≡ false
      → ((q : _) (i : ℕ) → same_part r (Join q i) ≡ false) → ((j : ℕ) → same_part r (CondEnd j) ≡ false)
      → ((j : ℕ) → same_part r (Line j) ≡ false) → is_tail r ≡ false → has_node (λ m x. kind_has fl T k m x r) b k ≡ t
      → tally (same_part r) (parts_in fl T) ≡ one t
  node_counted r k t h e n j c l s q =
      let p : Part → Bool = same_part r in
      let a = inner_is fl T is p (j, c) e in
      let d = row_none p Line 0 b.inputs (λ i x y. l i) in
      let m = node_count_is fl T r k h ∙ ap one q in
      let o = tail_none p b T.turns (misses_tail r s) in
      let z = ap one n in
      omega (arith, a, d, m, o, z)

  pub answer_tally : (k : ℕ) → tally (same_part (Answer k)) (parts_in fl T) ≡ one (is_kind cell_kind b k && is_shared T k)
  answer_tally k =
      node_counted (Answer k) k (is_kind cell_kind b k && is_shared T k) (equal_itself k) refl refl (λ q i. refl) (λ j. refl) (λ j. refl) refl
      (answer_is fl T k)

  pub trigger_tally : (k : ℕ) → tally (same_part (Trigger k)) (parts_in fl T) ≡ one (is_kind cond_kind b k && is_triggered b k)
  trigger_tally k =
      node_counted (Trigger k) k (is_kind cond_kind b k && is_triggered b k) (equal_itself k) refl refl (λ q i. refl) (λ j. refl) (λ j. refl) refl
      (trigger_is fl T k)

  -- the parts of which the wiring says itself whether they are there
  read : (t u : Bool) (m c : ℕ) → m ≡ one (t && u) → c ≡ m → m ≡ one (t && nat_lt 0 c)
  read false u m c e f = e
  read true true m c e f = e ∙ sym (ap (λ x. one (nat_lt 0 x)) (f ∙ e))
  read true false m c e f = e ∙ sym (ap (λ x. one (nat_lt 0 x)) (f ∙ e))

  answer_counted : (k : ℕ) → C (Answer k)
  answer_counted k =
      read (is_kind cell_kind b k) (is_shared T k) (tally (same_part (Answer k)) (parts_in fl T)) (count_by (same_part (Answer k)) (parts_in fl T))
      (answer_tally k) (count_is (same_part (Answer k)) (parts_in fl T))

  trigger_counted : (k : ℕ) → C (Trigger k)
  trigger_counted k =
      read (is_kind cond_kind b k) (is_triggered b k) (tally (same_part (Trigger k)) (parts_in fl T)) (count_by (same_part (Trigger k)) (parts_in fl T))
      (trigger_tally k) (count_is (same_part (Trigger k)) (parts_in fl T))

  -- results, or a turn
  tail_counted : (r : Part) → is_tail r ≡ true → number_of r ≡ None → same_part r Parts.End ≡ false → same_part r Entry ≡ false
      → ((q : _) (i : ℕ) → same_part r (Join q i) ≡ false) → ((j : ℕ) → same_part r (CondEnd j) ≡ false)
      → ((j : ℕ) → same_part r (Line j) ≡ false) → (t : Bool) → tail_has b T.turns r ≡ t → tally (same_part r) (parts_in fl T) ≡ one t
  tail_counted r tail none e n j c l t q =
      let p : Part → Bool = same_part r in
      let a = inner_is fl T is p (j, c) e in
      let d = row_none p Line 0 b.inputs (λ i x y. l i) in
      let m = no_nodes fl T p (misses_nodes r none) in
      let o = tail_count b T.turns r ∙ ap one q in
      let z = ap one n in
      omega (arith, a, d, m, o, z)

  result_is : (k : ℕ) → tail_has b T.turns (Result k) ≡ (not T.turns && nat_lt k b.outputs)
  result_is k = ap (λ m. not T.turns && nat_lt k m) fit.result_count

  end_counted : C Parts.End
  end_counted =
      let p : Part → Bool = same_part Parts.End in
      let a = missing fl T is p (λ q i. refl, λ k. refl) in
      let n = inner_none fl T is p refl (misses_nodes Parts.End refl) (misses_tail Parts.End refl) in
      omega (arith, a, n)

  nought : (r : Part) → tally (same_part r) (parts_in fl T) ≡ 0 → one (there_in fl T W r) ≡ 0 → C r
  nought r h g = h ∙ sym g

  foreign_none : (r : Part) → number_of r ≡ None → is_tail r ≡ false → same_part r Parts.End ≡ false → same_part r Entry ≡ false
      → ((q : _) (i : ℕ) → same_part r (Join q i) ≡ false) → ((j : ℕ) → same_part r (CondEnd j) ≡ false) → tally (same_part r) (parts_in fl T) ≡ 0
  foreign_none r none tail e n j c = never_there fl T is (same_part r) (j, c) e n (misses_nodes r none) (misses_tail r tail)

  pub counted : (r : Part) → C r
  counted Entry = entry_counted
  counted (Line k) = line_counted k
  counted (Answer k) = answer_counted k
  counted (Trigger k) = trigger_counted k
  counted (Join r i) = join_counted fl T is r i
  counted (CondEnd k) = cond_counted fl T is k
  counted Parts.End = end_counted
  counted (Gate n) = node_counted (Gate n) n (there_in fl T W (Gate n)) (equal_itself n) refl refl (λ q i. refl) (λ j. refl) (λ j. refl) refl (gate_is fl T n)
  counted (Parts.Merge n) =
      node_counted (Parts.Merge n) n (there_in fl T W (Parts.Merge n)) (equal_itself n) refl refl (λ q i. refl) (λ j. refl) (λ j. refl) refl (merge_is fl T n)
  counted (Opener n) =
      node_counted (Opener n) n (there_in fl T W (Opener n)) (equal_itself n) refl refl (λ q i. refl) (λ j. refl) (λ j. refl) refl (opener_is fl T n)
  counted (Framer n) =
      node_counted (Framer n) n (there_in fl T W (Framer n)) (equal_itself n) refl refl (λ q i. refl) (λ j. refl) (λ j. refl) refl (framer_is fl T n)
  counted (Fanned n) =
      node_counted (Fanned n) n (there_in fl T W (Fanned n)) (equal_itself n) refl refl (λ q i. refl) (λ j. refl) (λ j. refl) refl (fanned_is fl T n)
  counted (Linker n) =
      node_counted (Linker n) n (there_in fl T W (Linker n)) (equal_itself n) refl refl (λ q i. refl) (λ j. refl) (λ j. refl) refl (linker_is fl T n)
  counted (Sender n i) =
      node_counted (Sender n i) n (there_in fl T W (Sender n i)) (equal_itself n) refl refl (λ q i. refl) (λ j. refl) (λ j. refl) refl (sender_is fl T n i)
  counted (Landing n i) =
      node_counted (Landing n i) n (there_in fl T W (Landing n i)) (equal_itself n) refl refl (λ q i. refl) (λ j. refl) (λ j. refl) refl (landing_is fl T n i)
  counted (CallDone n) =
      node_counted (CallDone n) n (there_in fl T W (CallDone n)) (equal_itself n) refl refl (λ q i. refl) (λ j. refl) (λ j. refl) refl (done_is fl T n)
  counted (Giver n) =
      node_counted (Giver n) n (there_in fl T W (Giver n)) (equal_itself n) refl refl (λ q i. refl) (λ j. refl) (λ j. refl) refl (giver_is fl T n)
  counted (Taker n) =
      node_counted (Taker n) n (there_in fl T W (Taker n)) (equal_itself n) refl refl (λ q i. refl) (λ j. refl) (λ j. refl) refl (taker_is fl T n)
  counted (Drainer n) =
      node_counted (Drainer n) n (there_in fl T W (Drainer n)) (equal_itself n) refl refl (λ q i. refl) (λ j. refl) (λ j. refl) refl (drainer_is fl T n)
  counted (LoopDone n) =
      node_counted (LoopDone n) n (there_in fl T W (LoopDone n)) (equal_itself n) refl refl (λ q i. refl) (λ j. refl) (λ j. refl) refl (loop_done_is fl T n)
  counted (Strict n i) =
      node_counted (Strict n i) n (there_in fl T W (Strict n i)) (equal_itself n) refl refl (λ q i. refl) (λ j. refl) (λ j. refl) refl (strict_is fl T n i)
  counted (Result k) = tail_counted (Result k) refl refl refl refl (λ q i. refl) (λ j. refl) (λ j. refl) (there_in fl T W (Result k)) (result_is k)
  counted (Parts.TurnCont) = tail_counted (Parts.TurnCont) refl refl refl refl (λ q i. refl) (λ j. refl) (λ j. refl) (there_in fl T W (Parts.TurnCont)) (refl)
  counted (Parts.TurnFlag) = tail_counted (Parts.TurnFlag) refl refl refl refl (λ q i. refl) (λ j. refl) (λ j. refl) (there_in fl T W (Parts.TurnFlag)) (refl)
  counted (Parts.TurnValue k) =
      tail_counted (Parts.TurnValue k) refl refl refl refl (λ q i. refl) (λ j. refl) (λ j. refl) (there_in fl T W (Parts.TurnValue k)) (refl)
  counted (Parts.Asker) = tail_counted (Parts.Asker) refl refl refl refl (λ q i. refl) (λ j. refl) (λ j. refl) (there_in fl T W (Parts.Asker)) (refl)
  counted (Parts.NextFramer) =
      tail_counted (Parts.NextFramer) refl refl refl refl (λ q i. refl) (λ j. refl) (λ j. refl) (there_in fl T W (Parts.NextFramer)) (refl)
  counted (Parts.NextFanned) =
      tail_counted (Parts.NextFanned) refl refl refl refl (λ q i. refl) (λ j. refl) (λ j. refl) (there_in fl T W (Parts.NextFanned)) (refl)
  counted (Parts.NextSender k) =
      tail_counted (Parts.NextSender k) refl refl refl refl (λ q i. refl) (λ j. refl) (λ j. refl) (there_in fl T W (Parts.NextSender k)) (refl)
  counted (Parts.LastReturn k) =
      tail_counted (Parts.LastReturn k) refl refl refl refl (λ q i. refl) (λ j. refl) (λ j. refl) (there_in fl T W (Parts.LastReturn k)) (refl)
  counted (Parts.DrainReturn) =
      tail_counted (Parts.DrainReturn) refl refl refl refl (λ q i. refl) (λ j. refl) (λ j. refl) (there_in fl T W (Parts.DrainReturn)) (refl)
  counted r = nought r (foreign_none r refl refl refl refl (λ q i. refl) (λ j. refl)) refl

  -- ONCE
  pub once : (r : Part) → count_by (same_part r) (parts_in fl T) ≤ 1
  once r = let c = count_is (same_part r) (parts_in fl T) in let h = counted r in go (there_in fl T W r) (count_by (same_part r) (parts_in fl T)) (c ∙ h)
    where
      go : (t : Bool) (n : ℕ) → n ≡ one t → n ≤ 1
      go true n e = omega (arith, e)
      go false n e = omega (arith, e)

  pub there_is : (r : Part) → there_in fl T W r ≡ has_part r (parts_in fl T)
  there_is r = go (there_in fl T W r) (count_by (same_part r) (parts_in fl T)) (count_is (same_part r) (parts_in fl T) ∙ counted r)
    where
      go : (t : Bool) (n : ℕ) → n ≡ one t → t ≡ nat_lt 0 n
      go true n e = sym (ap (nat_lt 0) e)
      go false n e = sym (ap (nat_lt 0) e)

  -- IN ITS PLACE
  found : (r : Part) (n : ℕ) (xs ys : List Part) → tally (same_part r) xs ≡ 0 → place_from r n (xs ++ r ∷ ys) ≡ n + length xs
  found r n [] ys h = ap (λ t. if t then n else place_from r (n + 1) ys) (same_part-refl r) ∙ omega arith
  found r n (x ∷ xs) ys h = go (same_part r x) refl (λ k. found r (n + 1) xs ys k)
    where
      go : (t : Bool) → same_part r x ≡ t → (tally (same_part r) xs ≡ 0 → place_from r (n + 1) (xs ++ r ∷ ys) ≡ (n + 1) + length xs)
          → (if t then n else place_from r (n + 1) (xs ++ r ∷ ys)) ≡ n + suc (length xs)
      go true e more = let o = ap one e in absurd (omega (arith, h, o))
      go false e more = let o = ap one e in let m = more (omega (arith, h, o)) in omega (arith, m)

  stands_from : (xs ys : List Part) → ((r : Part) → tally (same_part r) (xs ++ ys) ≤ 1) → Stand (λ r. place_from r 0 (xs ++ ys)) (length xs) ys
  stands_from xs [] h = tt
  stands_from xs (y ∷ ys) h =
      let a = h y in
      let c = tally_both (same_part y) xs (y ∷ ys) in
      let d = ap one (same_part-refl y) in
      let here = found y 0 xs ys (omega (arith, a, c, d)) in
      let assoc : (xs ++ y ∷ []) ++ ys ≡ xs ++ y ∷ ys = append_assoc xs (y ∷ []) ys in
      let long : length (xs ++ y ∷ []) ≡ suc (length xs) = length_push xs y in
      let rest = stands_from (xs ++ y ∷ []) ys (λ r. subst (λ zs. tally (same_part r) zs ≤ 1) (sym assoc) (h r)) in (
        omega (arith, here),
        subst (λ k. Stand (λ r. place_from r 0 (xs ++ y ∷ ys)) k ys) long (subst (λ zs. Stand (λ r. place_from r 0 zs) (length (xs ++ y ∷ [])) ys) assoc rest),
      )

  pub stands : Stand (λ r. place_from r 0 (parts_in fl T)) 0 (parts_in fl T)
  stands = stands_from [] (parts_in fl T) (λ r. let c = count_is (same_part r) (parts_in fl T) in let o = once r in omega (arith, c, o))
