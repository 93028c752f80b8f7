-- What leaves at a node goes to its uses, in any order.
use Rattle.std.proofs.Common.{◌≡◌, ◌≢◌, ℕ, ◌+◌, ◌<◌, ◌≤◌, ◌⊎◌, inl, inr, Bool, true, false, List, [], ◌∷◌, ◌++◌, map, length, refl, sym, ap, ◌∙◌, subst, arith}
use Rattle.std.proofs.Common.{append-nil, if◌then◌else◌, Some, ◌==◌}
use Rattle.std.specs.Prelude.{flat_map, IsPermutation}
use Rattle.std.proofs.lemmas.Bool.{cases_lt, ne_eqb}
use Rattle.std.proofs.lemmas.List.Sorted.{IsPermutation-refl, IsPermutation-sym, IsPermutation-trans, IsPermutation-append_comm, IsPermutation-append_left}
use Rattle.std.proofs.lemmas.List.Sorted.{IsPermutation-append_right}
use Rattle.std.proofs.lemmas.Option.{same_Some}
use Rattle.tags.specs.declared.value.Value.{Value}
use Rattle.semantics.specs.declared.graph.Region.{Region}
use Rattle.semantics.specs.declared.graph.Region.TheVariants.{Root, Arm}
use Rattle.semantics.specs.declared.graph.Source.{Source}
use Rattle.semantics.specs.declared.graph.Kind.{Kind}
use Rattle.semantics.specs.declared.graph.Kind.TheVariants.{Lit, Apply1, Apply2, Cond, Enter, Merge, Fetch, Store, Call, StrictCall, Loop}
use Rattle.semantics.specs.Graph.{Node, Flow, node_at}
use Rattle.semantics.specs.Meaning.{Context, AtNode, AtOut, Operand, Predicate, Tagged, tagged, block_of, positions, uses_at, result_uses, sent_in, is_enter_of}
use Rattle.semantics.specs.Meaning.{predicates_from}
use Rattle.lemmas.proofs.Permutations.{permutation_cancel, permutation_same, permutation_crossed}
use Rattle.lemmas.proofs.Bools.{equal_itself}
use Rattle.schemas.specs.Builds.{first_source}
use Rattle.schemas.specs.Scopes.{predicate_of, predicate_in}
use Rattle.law_net.specs.ContextsBlocks.{Site, cond_kind}
use Rattle.law_net.specs.ContextsMeant.{settled_sent}
use Rattle.law_net.specs.ContextsWires.{meant_along}
use Rattle.law_wiring.specs.Written.{Wire, along, same_side, leaves_at, leaves, kind_wires, node_wires, tail_wires, wires_in}
use Rattle.law_wiring.specs.WrittenFit.{Takes, IsPrior, IsFit}
use Rattle.law_wiring.proofs.PartsCounts.{Follow, follow_more, follow_here}
use Rattle.law_wiring.proofs.Parts.{follow, node_within}
use Rattle.law_wiring.proofs.WrittenNodes.{node_some, cond_is, first_before}
use Rattle.law_wiring.proofs.Uses.{IsPort, heard, heard_both, side_test, settle, made, settle_both, results_heard, used, gated, test, decides, kind_row}
use Rattle.law_wiring.proofs.UsesQuiet.{all_heard}

module _ (fl : Flow) (s : Site) (fit : IsFit fl s.block) (c : Context) (v : Value) (there : block_of fl c ≡ Some s.block) (n q : ℕ) (port : IsPort s n q) where
  abbrev H : List Wire → List Tagged
  H ws = heard fl s fit c v (leaves_at s n q) ws

  abbrev U : ℕ → List Source → List Tagged
  U m ss = used fl s fit c v there n q port m ss

  abbrev G : ℕ → Kind ℕ → Region → List Tagged
  G m k r = gated fl s fit c v there n q port m k r

  abbrev D : Node ℕ → Bool
  D x = decides fl s fit c v there n q port x.kind x.sources

  -- the predicates of the conditionals that the value decides, among some nodes; those for which gates stand; and the uses
  abbrev conds : ℕ → List (Node ℕ) → ℕ → List (Node ℕ) → List Tagged
  conds m [] g gs = []
  conds m (x ∷ xs) g gs = (if D x then predicates_from c m v g gs else []) ++ conds (m + 1) xs g gs

  abbrev gates : ℕ → List (Node ℕ) → List Tagged
  gates m [] = []
  gates m (x ∷ xs) = G m x.kind x.region ++ gates (m + 1) xs

  abbrev uses : ℕ → List (Node ℕ) → List Tagged
  uses m [] = []
  uses m (x ∷ xs) = U m x.sources ++ uses (m + 1) xs

  rows : (m : ℕ) (xs : List (Node ℕ)) → Follow s.block m xs
      → IsPermutation (H (node_wires s m xs) ++ conds m xs s.block.inputs s.block.nodes) (uses m xs ++ gates m xs)
  rows m [] f = IsPermutation-refl []
  rows m (x ∷ xs) f =
      let a = H (kind_wires s m x.region x.kind x.sources) in
      let r = H (node_wires s (m + 1) xs) in
      let d = if D x then predicates_from c m v s.block.inputs s.block.nodes else [] in
      let e = conds (m + 1) xs s.block.inputs s.block.nodes in
      let u = U m x.sources in
      let g = G m x.kind x.region in
      let us = uses (m + 1) xs in
      let gs = gates (m + 1) xs in
      let row : a ++ d ≡ u ++ g = kind_row fl s fit c v there n q port m x (follow_here s.block m x xs f) in
      let split : H (node_wires s m (x ∷ xs)) ≡ a ++ r =
      heard_both fl s fit c v (leaves_at s n q) (kind_wires s m x.region x.kind x.sources) (node_wires s (m + 1) xs) in
      subst (λ zs. IsPermutation (zs ++ (d ++ e)) ((u ++ us) ++ (g ++ gs))) (sym split)
      (IsPermutation-trans ((a ++ r) ++ (d ++ e)) ((a ++ d) ++ (r ++ e)) ((u ++ us) ++ (g ++ gs)) (permutation_crossed a r d e)
      (subst (λ zs. IsPermutation (zs ++ (r ++ e)) ((u ++ us) ++ (g ++ gs))) (sym row)
      (IsPermutation-trans ((u ++ g) ++ (r ++ e)) ((u ++ g) ++ (us ++ gs)) ((u ++ us) ++ (g ++ gs))
      (IsPermutation-append_right (u ++ g) (r ++ e) (us ++ gs) (rows (m + 1) xs (follow_more s.block m x xs f))) (permutation_crossed u g us gs))))

  -- EXCHANGE of the sums over conditionals and over gates
  no_conds : (m : ℕ) (xs : List (Node ℕ)) (g : ℕ) → conds m xs g [] ≡ []
  no_conds m [] g = refl
  no_conds m (x ∷ xs) g = go (D x) ∙ no_conds (m + 1) xs g
    where
      go : (t : Bool) → (if t then [] else []) ++ conds (m + 1) xs g [] ≡ conds (m + 1) xs g []
      go true = refl
      go false = refl

  -- what one node gets from a conditional
  abbrev from_cond : ℕ → ℕ → Node ℕ → List Tagged
  from_cond m g y = if is_enter_of m y.region y.kind then tagged c (AtNode g) Predicate v ∷ [] else []

  abbrev from_conds : ℕ → List (Node ℕ) → ℕ → Node ℕ → List Tagged
  from_conds m [] g y = []
  from_conds m (x ∷ xs) g y = (if D x then from_cond m g y else []) ++ from_conds (m + 1) xs g y

  predicates_split : (m g : ℕ) (y : Node ℕ) (gs : List (Node ℕ)) → predicates_from c m v g (y ∷ gs) ≡ from_cond m g y ++ predicates_from c m v (g + 1) gs
  predicates_split m g y gs = go (is_enter_of m y.region y.kind)
    where
      go : (t : Bool) → (if t then tagged c (AtNode g) Predicate v ∷ predicates_from c m v (g + 1) gs else predicates_from c m v (g + 1) gs)
          ≡ (if t then tagged c (AtNode g) Predicate v ∷ [] else []) ++ predicates_from c m v (g + 1) gs
      go true = refl
      go false = refl

  conds_split : (m : ℕ) (xs : List (Node ℕ)) (g : ℕ) (y : Node ℕ) (gs : List (Node ℕ))
      → IsPermutation (conds m xs g (y ∷ gs)) (from_conds m xs g y ++ conds m xs (g + 1) gs)
  conds_split m [] g y gs = IsPermutation-refl []
  conds_split m (x ∷ xs) g y gs =
      let h = if D x then from_cond m g y else [] in
      let p = if D x then predicates_from c m v (g + 1) gs else [] in
      let hs = from_conds (m + 1) xs g y in
      let ps = conds (m + 1) xs (g + 1) gs in
      subst (λ zs. IsPermutation (zs ++ conds (m + 1) xs g (y ∷ gs)) ((h ++ hs) ++ (p ++ ps))) (sym (go (D x)))
      (IsPermutation-trans ((h ++ p) ++ conds (m + 1) xs g (y ∷ gs)) ((h ++ p) ++ (hs ++ ps)) ((h ++ hs) ++ (p ++ ps))
      (IsPermutation-append_right (h ++ p) (conds (m + 1) xs g (y ∷ gs)) (hs ++ ps) (conds_split (m + 1) xs g y gs)) (permutation_crossed h p hs ps))
    where
      go : (t : Bool) → (if t then predicates_from c m v g (y ∷ gs) else []) ≡ (if t then from_cond m g y else [])
          ++ (if t then predicates_from c m v (g + 1) gs else [])
      go true = predicates_split m g y gs
      go false = refl

  none_if : (t : Bool) (zs : List Tagged) → zs ≡ [] → (if t then zs else []) ≡ []
  none_if true zs e = e
  none_if false zs e = refl

  none_from : (m : ℕ) (xs : List (Node ℕ)) (g : ℕ) (y : Node ℕ) → ((j : ℕ) → m ≤ j → from_cond j g y ≡ []) → from_conds m xs g y ≡ []
  none_from m [] g y h = refl
  none_from m (x ∷ xs) g y h = (λ i. none_if (D x) (from_cond m g y) (h m (omega arith)) i ++ none_from (m + 1) xs g y (λ j l. h j (omega (arith, l))) i)

  one_from : (k m : ℕ) (xs : List (Node ℕ)) (g : ℕ) (y z : Node ℕ) → Follow s.block m xs → m ≤ k → k < m + length xs → node_at s.block k ≡ Some z
      → ((j : ℕ) → j ≢ k → from_cond j g y ≡ []) → from_conds m xs g y ≡ (if D z then from_cond k g y else [])
  one_from k m [] g y z f l u e h = absurd (omega (arith, l, u))
  one_from k m (x ∷ xs) g y z f l u e h = go (cases_lt m k) (λ a d. one_from k (m + 1) xs g y z (follow_more s.block m x xs f) a d e h)
    where
      go : (m < k) ⊎ (k ≤ m) → (m + 1 ≤ k → k < (m + 1) + length xs → from_conds (m + 1) xs g y ≡ (if D z then from_cond k g y else []))
          → (if D x then from_cond m g y else []) ++ from_conds (m + 1) xs g y ≡ (if D z then from_cond k g y else [])
      go (inl a) more =
          ap (λ zs. zs ++ from_conds (m + 1) xs g y) (none_if (D x) (from_cond m g y) (h m (λ q. omega (arith, q, a))))
          ∙ more (omega (arith, a)) (omega (arith, u))
      go (inr a) more =
          let same : m ≡ k = omega (arith, l, a) in
          let its : x ≡ z = same_Some x z (sym (follow_here s.block m x xs f) ∙ ap (node_at s.block) same ∙ e) in
          ap (λ zs. (if D x then from_cond m g y else []) ++ zs) (none_from (m + 1) xs g y (λ j d. h j (λ q. omega (arith, q, d, same))))
          ∙ append-nil (if D x then from_cond m g y else []) ∙ (λ i. if D (its i) then from_cond (same i) g y else [])

  -- a gate gets its predicate from its conditional alone
  gate_from : (g : ℕ) (y : Node ℕ) (k : ℕ) (t : Bool) → node_at s.block g ≡ Some y → y.kind ≡ Enter → y.region ≡ Arm k t
      → from_conds s.block.inputs s.block.nodes g y ≡ G g Enter (Arm k t)
  gate_from g y k t e f r =
      let z = node_some s.block cond_kind k ((fit.nodes g y e).round k t r).1 in
      let w = node_within s.block k z.0 z.1 in
      let cond = cond_is z.0.kind z.2 in
      let enters : (j : ℕ) → from_cond j g y ≡ (if k == j then tagged c (AtNode g) Predicate v ∷ [] else []) =
      λ j. (λ i. if is_enter_of j (r i) (f i) then tagged c (AtNode g) Predicate v ∷ [] else []) in
      let other : (j : ℕ) → j ≢ k → from_cond j g y ≡ [] = λ j ne. enters j
      ∙ ap (λ x. if x then tagged c (AtNode g) Predicate v ∷ [] else []) (ne_eqb k j (λ i. ne (sym i))) in
      let its : from_cond k g y ≡ tagged c (AtNode g) Predicate v ∷ [] = enters k
      ∙ ap (λ x. if x then tagged c (AtNode g) Predicate v ∷ [] else []) (equal_itself k) in
      let x : Source = first_source z.0.sources in
      let takes : length z.0.sources ≡ 1 = subst (λ i. Takes fl i (length z.0.sources)) cond (fit.nodes k z.0 z.1).takes in
      let before : IsPrior fl s.block k x = first_before fl s.block k z.0.sources (omega (arith, takes)) (fit.nodes k z.0 z.1).earlier in
      let decided : D z.0 ≡ test fl s fit c v there n q port x = ap (λ i. decides fl s fit c v there n q port i z.0.sources) cond in
      let predicate : predicate_of s.block k ≡ x = ap predicate_in z.1 in
      one_from k s.block.inputs s.block.nodes g y z.0 (follow s.block) w.0 w.1 z.1 other
      ∙ ap (λ zs. if D z.0 then zs else []) its
      ∙ ap (λ x. if x then tagged c (AtNode g) Predicate v ∷ [] else [])
      (decided ∙ sym (side_test s n q x port before.first) ∙ ap (λ p. same_side (leaves_at s n q) (leaves s p)) (sym predicate))

  node_from : (g : ℕ) (y : Node ℕ) → node_at s.block g ≡ Some y → from_conds s.block.inputs s.block.nodes g y ≡ G g y.kind y.region
  node_from g y e = go y.kind refl y.region refl
    where
      never : ((j : ℕ) → from_cond j g y ≡ []) → from_conds s.block.inputs s.block.nodes g y ≡ []
      never h = none_from s.block.inputs s.block.nodes g y (λ j l. h j)

      no_enter : (k : Kind ℕ) → y.kind ≡ k → ((j : ℕ) → is_enter_of j Root k ≡ false) → ((j i : ℕ) (t : Bool) → is_enter_of j (Arm i t) k ≡ false)
          → from_conds s.block.inputs s.block.nodes g y ≡ []
      no_enter k f h a = never (λ j. ap (λ x. if x then tagged c (AtNode g) Predicate v ∷ [] else []) (ap (is_enter_of j y.region) f ∙ by_region j y.region))
        where
          by_region : (j : ℕ) (r : Region) → is_enter_of j r k ≡ false
          by_region j Root = h j
          by_region j (Arm i t) = a j i t

      go : (k : Kind ℕ) → y.kind ≡ k → (r : Region) → y.region ≡ r → from_conds s.block.inputs s.block.nodes g y ≡ G g k r
      go Enter f Root r = never (λ j. ap (λ x. if x then tagged c (AtNode g) Predicate v ∷ [] else []) (λ i. is_enter_of j (r i) (f i)))
      go Enter f (Arm k t) r = gate_from g y k t e f r
      go Cond f u r = no_enter Cond f (λ j. refl) (λ j i t. refl)
      go (Merge x) f u r = no_enter (Merge x) f (λ j. refl) (λ j i t. refl)
      go (Lit z) f u r = no_enter (Lit z) f (λ j. refl) (λ j i t. refl)
      go (Apply1 op) f u r = no_enter (Apply1 op) f (λ j. refl) (λ j i t. refl)
      go (Apply2 op) f u r = no_enter (Apply2 op) f (λ j. refl) (λ j i t. refl)
      go (Fetch a) f u r = no_enter (Fetch a) f (λ j. refl) (λ j i t. refl)
      go (Store a) f u r = no_enter (Store a) f (λ j. refl) (λ j i t. refl)
      go (Call a) f u r = no_enter (Call a) f (λ j. refl) (λ j i t. refl)
      go (StrictCall a) f u r = no_enter (StrictCall a) f (λ j. refl) (λ j i t. refl)
      go (Loop a x) f u r = no_enter (Loop a x) f (λ j. refl) (λ j i t. refl)

  exchange : (g : ℕ) (gs : List (Node ℕ)) → Follow s.block g gs → IsPermutation (conds s.block.inputs s.block.nodes g gs) (gates g gs)
  exchange g [] f = permutation_same (conds s.block.inputs s.block.nodes g []) [] (no_conds s.block.inputs s.block.nodes g)
  exchange g (y ∷ gs) f =
      let first = from_conds s.block.inputs s.block.nodes g y in
      let rest = conds s.block.inputs s.block.nodes (g + 1) gs in
      IsPermutation-trans (conds s.block.inputs s.block.nodes g (y ∷ gs)) (first ++ rest) (gates g (y ∷ gs)) (conds_split s.block.inputs s.block.nodes g y gs)
      (subst (λ zs. IsPermutation (first ++ rest) (zs ++ gates (g + 1) gs)) (node_from g y (follow_here s.block g y gs f))
      (IsPermutation-append_right first rest (gates (g + 1) gs) (exchange (g + 1) gs (follow_more s.block g y gs f))))

  -- THE NODES, and all
  nodes_told : IsPermutation (H (node_wires s s.block.inputs s.block.nodes)) (uses s.block.inputs s.block.nodes)
  nodes_told =
      let h = H (node_wires s s.block.inputs s.block.nodes) in
      let d = conds s.block.inputs s.block.nodes s.block.inputs s.block.nodes in
      let u = uses s.block.inputs s.block.nodes in
      let g = gates s.block.inputs s.block.nodes in
      permutation_cancel d h u
      (IsPermutation-trans (d ++ h) (h ++ d) (d ++ u) (IsPermutation-append_comm d h)
      (IsPermutation-trans (h ++ d) (u ++ g) (d ++ u) (rows s.block.inputs s.block.nodes (follow s.block))
      (IsPermutation-trans (u ++ g) (u ++ d) (d ++ u)
      (IsPermutation-append_right u g d (IsPermutation-sym d g (exchange s.block.inputs s.block.nodes (follow s.block)))) (IsPermutation-append_comm u d))))

  uses_are : (m : ℕ) (xs : List (Node ℕ)) → uses m xs ≡ settle fl s fit c v (made fl s fit c v (uses_at n q m xs))
  uses_are m [] = refl
  uses_are m (x ∷ xs) =
      ap (λ zs. U m x.sources ++ zs) (uses_are (m + 1) xs)
      ∙ sym (settle_both fl s fit c v (map (λ i. (AtNode m, Operand i)) (positions n q 0 x.sources)) (uses_at n q (m + 1) xs))

  -- what the results are used for
  abbrev pub after : ℕ → List Source → List Tagged
  after from xs = settle fl s fit c v (made fl s fit c v (flat_map (λ j. result_uses c s.block.inputs j) (positions n q from xs)))

  -- where the results' wires stand for their uses
  pub all_told : IsPermutation (H (tail_wires s s.turns)) (after 0 s.block.results)
      → IsPermutation (meant_along fl c v (along s.block (leaves_at s n q) (wires_in fl s))) (settled_sent fl c n q v)
  all_told last =
      let nodes = H (node_wires s s.block.inputs s.block.nodes) in
      let results = H (tail_wires s s.turns) in
      let us = uses s.block.inputs s.block.nodes in
      let later = after 0 s.block.results in
      let split : H (wires_in fl s) ≡ nodes ++ results = all_heard fl s fit c v (leaves_at s n q)
      ∙ heard_both fl s fit c v (leaves_at s n q) (node_wires s s.block.inputs s.block.nodes) (tail_wires s s.turns) in
      let meaning : settled_sent fl c n q v ≡ us ++ later
      =
      ap (λ o. settle fl s fit c v (sent_in o c n q v)) there
      ∙ settle_both fl s fit c v (uses_at n q s.block.inputs s.block.nodes) (flat_map (λ j. result_uses c s.block.inputs j) (positions n q 0 s.block.results))
      ∙ ap (λ zs. zs ++ later) (sym (uses_are s.block.inputs s.block.nodes)) in
      subst (λ zs. IsPermutation zs (settled_sent fl c n q v)) (sym split)
      (subst (λ zs. IsPermutation (nodes ++ results) zs) (sym meaning)
      (IsPermutation-trans (nodes ++ results) (us ++ results) (us ++ later) (IsPermutation-append_left results nodes us nodes_told)
      (IsPermutation-append_right us results later last)))

  -- in a context that runs the code of a call
  pub call_told : s.turns ≡ false → ((j : ℕ) → result_uses c s.block.inputs j ≡ (AtOut j, Operand 0) ∷ [])
      → IsPermutation (meant_along fl c v (along s.block (leaves_at s n q) (wires_in fl s))) (settled_sent fl c n q v)
  call_told plain_code plain =
      all_told (permutation_same (H (tail_wires s s.turns)) (after 0 s.block.results)
      (ap (λ t. H (tail_wires s t)) plain_code
      ∙ results_heard fl s fit c v there n q port plain 0 s.block.results (s.block.inputs + length s.block.nodes) fit.results))
