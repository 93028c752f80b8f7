-- THE STORES OF A LOOP are those of its turns, one after the other.
use Rattle.std.proofs.Common.{◌≡◌, ℕ, zero, suc, ◌+◌, ◌<◌, ◌≤◌, ◌&&◌, ◌||◌, Bool, true, false, List, [], ◌++◌, map, filter, Some, IsPermutation, refl, sym, ap}
use Rattle.std.proofs.Common.{ap₂, ◌∙◌, subst, arith, ltb-true, ltb-false}
use Rattle.std.specs.Prelude.{nat_lt}
use Rattle.std.proofs.lemmas.List.Sorted.{IsPermutation-refl, IsPermutation-trans, IsPermutation-sym, IsPermutation-append, IsPermutation-map}
use Rattle.std.proofs.lemmas.Option.{same_Some}
use Rattle.semantics.specs.Graph.{Node, Block, node_count}
use Rattle.semantics.specs.Meaning.{Context, Called, Turned, IsCall, IsLoop, block_of, node_of}
use Rattle.lemmas.proofs.Bools.{first_of_and, second_of_and, or_true}
use Rattle.lemmas.proofs.Lists.{map_append}
use Rattle.lemmas.proofs.Permutations.{Within, each_from, perm_to}
use Rattle.law_confluence.specs.EquationsHave.{Stored, stores_of}
use Rattle.source.specs.Evaluates.{Stores}
use Rattle.law_language.specs.MeansBelow.{node_under, is_within, is_below, cell_and_value}
use Rattle.law_language.proofs.MeansRanges.{perm_filters, none_kept}
use Rattle.law_language.proofs.MeansStoreLines.{IsStore, stored_at, within_one, false_by, bools_same, filters_same, within_some, call_loop}
use Rattle.law_language.proofs.MeansStoredOnce.{store_loop, within_itself}
use Rattle.law_language.proofs.MeansUnder.{AtIt, Itself, InCall, InTurn, under_cases, under_turn, under_once, under_due, under_line}
use Rattle.law_language.proofs.MeansScene.{Scene, flow, DueIn, StoresIn}
use Rattle.law_language.proofs.MeansCalls.{line_within}

module _ (z : Scene) (c : Context) (n : ℕ) (b : Block ℕ) where
  abbrev pub turn_stores : ℕ → Stores
  turn_stores t = StoresIn z (Turned c n t) b.inputs (node_count b)

  -- of so many turns from turn t on
  abbrev pub stores_from : ℕ → ℕ → Stores
  stores_from t zero = []
  stores_from t (suc count) = turn_stores t ++ stores_from (suc t) count

  abbrev in_turn : ℕ → Stored → Bool
  in_turn t w = is_below (Turned c n t) b.inputs (node_count b) w.context w.node

  abbrev in_turns : ℕ → ℕ → Stored → Bool
  in_turns t zero w = false
  in_turns t (suc count) w = in_turn t w || in_turns (suc t) count w

  record Found (t count : ℕ) (w : Stored) : Type 0 where
    pub turn : ℕ
    pub node : ℕ
    pub from : t ≤ turn
    pub below : turn < t + count
    pub lies : node_under (Turned c n turn) w.context w.node ≡ Some node

  found : (t count : ℕ) (w : Stored) → in_turns t count w ≡ true → Found t count w
  found t zero w e = cc
  found t (suc count) w e = go (in_turn t w) refl e (λ e. found (suc t) count w e)
    where
      go : (x : Bool) → in_turn t w ≡ x → (x || in_turns (suc t) count w) ≡ true → (in_turns (suc t) count w ≡ true → Found (suc t) count w)
          → Found t (suc count) w
      go true f e later =
          let k = within_some b.inputs (node_count b) (node_under (Turned c n t) w.context w.node) f in
          record { turn = t; node = k.0; from = omega arith; below = omega arith; lies = k.1 }
      go false f e later =
          let l = later e in let low = l.from in let high = l.below in
          record { turn = l.turn; node = l.node; from = omega (arith, low); below = omega (arith, high); lies = l.lies }

  among : (t count j : ℕ) (w : Stored) → t ≤ j → j < t + count → in_turn j w ≡ true → in_turns t count w ≡ true
  among t zero j w low high e = absurd (omega (arith, low, high))
  among t (suc count) j w low high e = go (nat_lt t j) refl (λ l. among (suc t) count j w (omega (arith, l)) (omega (arith, high)) e)
    where
      go : (x : Bool) → nat_lt t j ≡ x → (t < j → in_turns (suc t) count w ≡ true) → (in_turn t w || in_turns (suc t) count w) ≡ true
      go true f later = ap (λ (x : Bool). in_turn t w || x) (later (ltb-true t j f)) ∙ or_true (in_turn t w)
      go false f later =
          let l = ltb-false t j f in let same : j ≡ t = omega (arith, l, low) in
          ap (λ (x : Bool). x || in_turns (suc t) count w) (subst (λ j. in_turn j w ≡ true) same e)

  apart : (t count : ℕ) (w : Stored) → (in_turn t w && in_turns (suc t) count w) ≡ false
  apart t count w =
      false_by (in_turn t w && in_turns (suc t) count w)
      (λ e.
      let k = within_some b.inputs (node_count b) (node_under (Turned c n t) w.context w.node) (first_of_and (in_turn t w) (in_turns (suc t) count w) e) in
      let l = found (suc t) count w (second_of_and (in_turn t w) (in_turns (suc t) count w) e) in
      let same = under_once c n t l.turn w.context w.node k.0 l.node k.1 l.lies in
      let low = l.from in absurd (omega (arith, same, low)))

  turns_kept : (t count : ℕ) → IsPermutation (stores_from t count) (map cell_and_value (filter (λ w. in_turns t count w) (stores_of (flow z) z.run)))
  turns_kept t zero =
      subst (λ us. IsPermutation [] us) (sym (ap (λ (us : List Stored). map cell_and_value us)
      (none_kept (λ w. in_turns t zero w) (stores_of (flow z) z.run) (λ w. refl)))) (IsPermutation-refl [])
  turns_kept t (suc count) =
      let f : Stored → Bool = λ w. in_turn t w in
      let g : Stored → Bool = λ w. in_turns (suc t) count w in
      let h : Stored → Bool = λ w. in_turns t (suc count) w in
      let us : List Stored = stores_of (flow z) z.run in
      let p = perm_to (filter h us) (filter f us ++ filter g us) (perm_filters f g h (λ w. refl) (λ w. apart t count w) us) in
      let split : IsPermutation (map cell_and_value (filter f us) ++ map cell_and_value (filter g us)) (map cell_and_value (filter h us)) =
      subst (λ l. IsPermutation l (map cell_and_value (filter h us))) (map_append cell_and_value (filter f us) (filter g us))
      (IsPermutation-map cell_and_value (filter f us ++ filter g us) (filter h us) (IsPermutation-sym _ _ p)) in
      IsPermutation-trans _ _ _
      (IsPermutation-append (turn_stores t) (map cell_and_value (filter f us)) (stores_from (suc t) count) (map cell_and_value (filter g us))
      (IsPermutation-refl (turn_stores t)) (turns_kept (suc t) count)) split

  -- ALL OF THEM, where no turn is due after the last
  module _ (line : Node ℕ) (el : node_of (flow z) c n ≡ Some line) (kind : IsLoop line.kind) (eb : (t : ℕ) → block_of (flow z) (Turned c n t) ≡ Some b)
      (last : ℕ) (ends : (t : ℕ) → DueIn z (Turned c n t) → t ≤ last) where
    turned : (w : Stored) → Within w (stores_of (flow z) z.run) → AtIt c n w.context w.node → in_turns 0 (suc last) w ≡ true
    turned w h at = let own = stored_at (flow z) z.inputs z.run z.state z.is_run z.settled w h in go own.0 own.1.0 own.1.1 own.1.2 at
      where
        go : DueIn z w.context → (own : Node ℕ) → node_of (flow z) w.context w.node ≡ Some own → IsStore own.kind → AtIt c n w.context w.node
            → in_turns 0 (suc last) w ≡ true
        go due own eo store (Itself ec en) =
            let same : own ≡ line = same_Some own line (sym eo ∙ ap₂ (λ c n. node_of (flow z) c n) ec en ∙ el) in
            absurd (store_loop line.kind (subst (λ (l : Node ℕ). IsStore l.kind) same store) kind)
        go due own eo store (InCall k e) =
            let call : DueIn z (Called c n) = under_due z.graph z.inputs z.run z.state z.is_run (Called c n) w.context w.node k due e in
            let same : call.1.0 ≡ line = same_Some call.1.0 line (sym call.1.1 ∙ el) in
            absurd (call_loop line.kind (subst (λ (l : Node ℕ). IsCall l.kind) same call.1.2) kind)
        go due own eo store (InTurn t k e) =
            let turn : DueIn z (Turned c n t) = under_due z.graph z.inputs z.run z.state z.is_run (Turned c n t) w.context w.node k due e in
            let above = under_line z.graph z.inputs z.run z.state z.is_run z.settled (Turned c n t) w.context w.node k own due eo e in
            let low = ends t turn in
            among 0 (suc last) t w (omega arith) (omega (arith, low)) (ap (is_within b.inputs (node_count b)) e
            ∙ line_within z (Turned c n t) b k above.0 (eb t) above.1)

    pub loop_stores : IsPermutation (stores_from 0 (suc last)) (StoresIn z c n (n + 1))
    loop_stores =
        subst (λ us. IsPermutation (stores_from 0 (suc last)) us)
        (ap (λ (us : List Stored). map cell_and_value us)
        (filters_same (λ w. in_turns 0 (suc last) w) (λ (w : Stored). is_below c n (n + 1) w.context w.node) (stores_of (flow z) z.run)
        (each_from _ (stores_of (flow z) z.run)
        (λ w h.
        bools_same (in_turns 0 (suc last) w) (is_below c n (n + 1) w.context w.node)
        (λ e. let k = found 0 (suc last) w e in ap (is_within n (n + 1)) (under_turn c n k.turn w.context w.node k.node k.lies) ∙ within_itself n)
        (λ e. turned w h (under_cases c n w.context w.node (within_one n (node_under c w.context w.node) e)))))))
        (turns_kept 0 (suc last))
