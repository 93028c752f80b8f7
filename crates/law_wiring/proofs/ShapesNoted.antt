-- At most one wire leaves inside a block where a node leaves whose answer has no copy: its uses were counted.
use Rattle.std.proofs.Common.{◌≡◌, ◌≢◌, ℕ, zero, suc, ◌+◌, ◌<◌, ◌≤◌, Bool, true, false, List, [], ◌∷◌, ◌++◌, length, Option}
use Rattle.std.proofs.Common.{Some, None, refl, sym, ap, ◌∙◌, subst, arith, if◌then◌else◌, ◌==◌}
use Rattle.std.specs.Prelude.{slice_get, slice_set, slice_index_or, replicate}
use Rattle.std.proofs.lemmas.Bool.{eq-eqb, eqb-true}
use Rattle.std.proofs.lemmas.List.{length-set}
use Rattle.semantics.specs.declared.graph.Region.{Region}
use Rattle.semantics.specs.declared.graph.Region.TheVariants.{Root, Arm}
use Rattle.semantics.specs.declared.graph.Source.{Source}
use Rattle.semantics.specs.declared.graph.Kind.{Kind}
use Rattle.semantics.specs.declared.graph.Kind.TheVariants.{Cond, Enter, Merge, Fetch, Store, Call, StrictCall, Loop}
use Rattle.semantics.specs.Graph.{Flow, Node, Block, node_at}
use Rattle.schemas.specs.declared.uses.Uses.{Uses}
use Rattle.schemas.specs.declared.uses.Uses.TheVariants.{Never, Once, Often}
use Rattle.schemas.specs.Scopes.{predicate_of}
use Rattle.schemas.specs.Builds.{first_source}
use Rattle.schemas.specs.Triggers.{has_trigger, triggers_of}
use Rattle.schemas.specs.UseCounts.{more, is_often, uses_at, noted, noted_sources, noted_kind, noted_nodes, noted_results, uses_of}
use Rattle.law_confluence.specs.OrdersTotals.{one}
use Rattle.law_net.specs.ContextsParts.{Part, Line}
use Rattle.law_net.specs.ContextsParts as Parts
use Rattle.law_net.specs.ContextsBlocks.{Side, side, Site}
use Rattle.law_wiring.specs.Written.{Wire, wire, same_side, is_shared, is_triggered, answer_side, exit_of, leaves, trigger_side}
use Rattle.law_wiring.specs.Written.{operand_wires, merge_wires, meet_wires}
use Rattle.law_wiring.specs.Written.{sender_wires, invoke_wires, strict_wires, strict_end, strict_call_wires, kind_wires, node_wires, answer_wires}
use Rattle.law_wiring.specs.Written.{result_wires, value_wires, next_wires, last_wires, turn_wires, tail_wires, inner_wires}
use Rattle.law_wiring.specs.Written as Written
use Rattle.law_wiring.specs.WrittenFit.{Takes, IsFit}
use Rattle.law_wiring.proofs.Parts.{follow}
use Rattle.law_wiring.proofs.PartsSame.{side_is}
use Rattle.law_wiring.proofs.LaidArcsMore.{size, size_both}

-- LISTS WITH A DEFAULT
set_other : {X : Type 0} (xs : List X) (k : ℕ) (y : X) (n : ℕ) (d : X) → n ≢ k → slice_index_or (slice_set xs k y) n d ≡ slice_index_or xs n d
set_other [] k y n d e = refl
set_other (x ∷ xs) zero y zero d e = absurd (e refl)
set_other (x ∷ xs) zero y (suc n) d e = refl
set_other (x ∷ xs) (suc k) y zero d e = refl
set_other (x ∷ xs) (suc k) y (suc n) d e = set_other xs k y n d (λ f. e (ap suc f))

set_here : {X : Type 0} (xs : List X) (k : ℕ) (y d : X) → k < length xs → slice_index_or (slice_set xs k y) k d ≡ y
set_here [] k y d l = absurd (omega (arith, l))
set_here (x ∷ xs) zero y d l = refl
set_here (x ∷ xs) (suc k) y d l = set_here xs k y d (omega (arith, l))

never_at : (count n : ℕ) → uses_at (replicate count Never) n ≡ Never
never_at zero n = refl
never_at (suc count) zero = refl
never_at (suc count) (suc n) = never_at count n

never_long : (count : ℕ) → length (replicate count Never) ≡ count
never_long zero = refl
never_long (suc count) = ap suc (never_long count)

-- USES of a node, in lists of sources
abbrev uses : ℕ → List Source → ℕ
uses n [] = 0
uses n (x ∷ xs) = one (n == x.node) + uses n xs

abbrev amount : Uses → ℕ
amount Never = 0
amount Once = 1
amount Often = 2

-- as nodes are noted
abbrev kind_uses : Block ℕ → List Bool → ℕ → ℕ → Kind ℕ → Region → List Source → ℕ
kind_uses b ts n m Cond r ss = if has_trigger ts m then uses n ss + uses n ss else 0
kind_uses b ts n m Enter Root ss = uses n ss
kind_uses b ts n m Enter (Arm k u) ss = uses n ss + one (n == (predicate_of b k).node)
kind_uses b ts n m (StrictCall f) r ss = uses n ss + uses n ss
kind_uses b ts n m kind r ss = uses n ss

abbrev nodes_uses : Block ℕ → List Bool → ℕ → ℕ → List (Node ℕ) → ℕ
nodes_uses b ts n m [] = 0
nodes_uses b ts n m (x ∷ xs) = kind_uses b ts n m x.kind x.region x.sources + nodes_uses b ts n (m + 1) xs

abbrev result_uses : ℕ → Bool → List Source → ℕ
result_uses n turns [] = 0
result_uses n true (x ∷ xs) = (one (n == x.node) + one (n == x.node)) + uses n xs
result_uses n false (x ∷ xs) = one (n == x.node) + uses n xs

module _ (n : ℕ) where
  -- where it is not often used in the end, each use was one more
  record Rises (us vs : List Uses) (k : ℕ) : Type 0 where
    count : length vs ≡ length us
    rare : is_often (uses_at vs n) ≡ false → (is_often (uses_at us n) ≡ false) × (amount (uses_at vs n) ≡ amount (uses_at us n) + k)

  rises_none : (us : List Uses) → Rises us us 0
  rises_none us = record { count = refl; rare = λ e. (e, omega arith) }

  rises_on : (us vs ws : List Uses) (j k : ℕ) → Rises us vs j → Rises vs ws k → Rises us ws (j + k)
  rises_on us vs ws j k g h = record {
    count = h.count ∙ g.count;
    rare = λ e. let x = h.rare e in let y = g.rare x.0 in let a = x.1 in let b = y.1 in (y.0, omega (arith, a, b));
  }

  rises_by : (us vs : List Uses) (j k : ℕ) → j ≡ k → Rises us vs j → Rises us vs k
  rises_by us vs j k e h = subst (Rises us vs) e h

  one_more : (u : Uses) → is_often (more u) ≡ false → (is_often u ≡ false) × (amount (more u) ≡ amount u + 1)
  one_more Never e = (refl, refl)
  one_more Once e = absurd (cc)
  one_more Often e = absurd (cc)

  noted_rises : (us : List Uses) (x : Source) → n < length us → Rises us (noted us x) (one (n == x.node))
  noted_rises us x l = record { count = length-set us x.node (more (uses_at us x.node)); rare = go (n == x.node) refl }
    where
      go : (t : Bool) → (n == x.node) ≡ t → is_often (uses_at (noted us x) n) ≡ false
          → (is_often (uses_at us n) ≡ false) × (amount (uses_at (noted us x) n) ≡ amount (uses_at us n) + one t)
      go true e f =
          let same : x.node ≡ n = sym (eqb-true n x.node e) in
          let here : uses_at (noted us x) n ≡ more (uses_at us n) =
          ap (λ k. slice_index_or (slice_set us k (more (uses_at us k))) n Never) same ∙ set_here us n (more (uses_at us n)) Never l in
          let m = one_more (uses_at us n) (ap is_often (sym here) ∙ f) in
          (m.0, ap amount here ∙ m.1)
      go false e f =
          let apart : n ≢ x.node = λ q. let t = eq-eqb n x.node q in absurd (cc) in
          let there : uses_at (noted us x) n ≡ uses_at us n = set_other us x.node (more (uses_at us x.node)) n Never apart in
          let same = ap amount there in
          (ap is_often (sym there) ∙ f, omega (arith, same))

  still : (us vs : List Uses) (k : ℕ) → n < length us → Rises us vs k → n < length vs
  still us vs k l h = let c = h.count in omega (arith, c, l)

  sources_rise : (us : List Uses) (ss : List Source) → n < length us → Rises us (noted_sources us ss false) (uses n ss)
  sources_rise us [] l = rises_none us
  sources_rise us (x ∷ ss) l =
      let a = noted_rises us x l in
      rises_on us (noted us x) (noted_sources (noted us x) ss false) (one (n == x.node)) (uses n ss) a
      (sources_rise (noted us x) ss (still us (noted us x) (one (n == x.node)) l a))

  twice_rises : (us : List Uses) (x : Source) → n < length us → Rises us (noted (noted us x) x) (one (n == x.node) + one (n == x.node))
  twice_rises us x l =
      let a = noted_rises us x l in
      rises_on us (noted us x) (noted (noted us x) x) (one (n == x.node)) (one (n == x.node)) a
      (noted_rises (noted us x) x (still us (noted us x) (one (n == x.node)) l a))

  both_rise : (us : List Uses) (ss : List Source) → n < length us → Rises us (noted_sources us ss true) (uses n ss + uses n ss)
  both_rise us [] l = rises_none us
  both_rise us (x ∷ ss) l =
      let vs : List Uses = noted (noted us x) x in
      let k : ℕ = one (n == x.node) in
      let a = twice_rises us x l in
      rises_by us (noted_sources vs ss true) ((k + k) + (uses n ss + uses n ss)) ((k + uses n ss) + (k + uses n ss)) (omega arith)
      (rises_on us vs (noted_sources vs ss true) (k + k) (uses n ss + uses n ss) a (both_rise vs ss (still us vs (k + k) l a)))

  kind_rises : (b : Block ℕ) (ts : List Bool) (us : List Uses) (m : ℕ) (k : Kind ℕ) (r : Region) (ss : List Source) → n < length us
      → Rises us (noted_kind us b ts m k r ss) (kind_uses b ts n m k r ss)
  kind_rises b ts us m Cond r ss l = go (has_trigger ts m)
    where
      go : (t : Bool) → Rises us (if t then noted_sources us ss true else us) (if t then uses n ss + uses n ss else 0)
      go true = both_rise us ss l
      go false = rises_none us
  kind_rises b ts us m Enter Root ss l = sources_rise us ss l
  kind_rises b ts us m Enter (Arm k u) ss l =
      let vs : List Uses = noted_sources us ss false in
      let a = sources_rise us ss l in
      rises_on us vs (noted vs (predicate_of b k)) (uses n ss) (one (n == (predicate_of b k).node)) a
      (noted_rises vs (predicate_of b k) (still us vs (uses n ss) l a))
  kind_rises b ts us m (StrictCall f) r ss l = both_rise us ss l
  kind_rises b ts us m k r ss l = sources_rise us ss l

  nodes_rise : (b : Block ℕ) (ts : List Bool) (us : List Uses) (m : ℕ) (xs : List (Node ℕ)) → n < length us
      → Rises us (noted_nodes us b ts m xs) (nodes_uses b ts n m xs)
  nodes_rise b ts us m [] l = rises_none us
  nodes_rise b ts us m (x ∷ xs) l =
      let vs : List Uses = noted_kind us b ts m x.kind x.region x.sources in
      let k : ℕ = kind_uses b ts n m x.kind x.region x.sources in
      let a = kind_rises b ts us m x.kind x.region x.sources l in
      rises_on us vs (noted_nodes vs b ts (m + 1) xs) k (nodes_uses b ts n (m + 1) xs) a (nodes_rise b ts vs (m + 1) xs (still us vs k l a))

  results_rise : (us : List Uses) (turns : Bool) (ss : List Source) → n < length us → Rises us (noted_results us turns ss) (result_uses n turns ss)
  results_rise us turns [] l = rises_none us
  results_rise us true (x ∷ ss) l =
      let vs : List Uses = noted (noted us x) x in
      let k : ℕ = one (n == x.node) in
      let a = twice_rises us x l in
      rises_on us vs (noted_sources vs ss false) (k + k) (uses n ss) a (sources_rise vs ss (still us vs (k + k) l a))
  results_rise us false (x ∷ ss) l =
      let vs : List Uses = noted us x in
      let k : ℕ = one (n == x.node) in
      let a = noted_rises us x l in
      rises_on us vs (noted_sources vs ss false) k (uses n ss) a (sources_rise vs ss (still us vs k l a))

  few : (u : Uses) → is_often u ≡ false → amount u ≤ 1
  few Never e = omega arith
  few Once e = omega arith
  few Often e = absurd (cc)

  rarely : (b : Block ℕ) (ts : List Bool) (turns : Bool) (count : ℕ) → n < count → is_often (uses_at (uses_of b ts turns count) n) ≡ false
      → nodes_uses b ts n b.inputs b.nodes + result_uses n turns b.results ≤ 1
  rarely b ts turns count l e =
      let us : List Uses = replicate count Never in
      let vs : List Uses = noted_nodes us b ts b.inputs b.nodes in
      let long = never_long count in
      let low : n < length us = omega (arith, l, long) in
      let a = nodes_rise b ts us b.inputs b.nodes low in
      let all = rises_on us vs (noted_results vs turns b.results) (nodes_uses b ts n b.inputs b.nodes) (result_uses n turns b.results) a
      (results_rise vs turns b.results (still us vs (nodes_uses b ts n b.inputs b.nodes) low a)) in
      let counted = (all.rare e).1 in
      let none = ap amount (never_at count n) in
      let most = few (uses_at (uses_of b ts turns count) n) e in
      omega (arith, counted, none, most)

module _ (fl : Flow) (S : Site) (fit : IsFit fl S.block) (n : ℕ) where
  abbrev b : Block ℕ
  b = S.block

  abbrev t : Side
  t = side (Line n) false

  -- WHERE A SOURCE LEAVES
  answer_is : (m : ℕ) (x : Bool) → Line n ≡ (answer_side m x).part → n ≡ m
  answer_is m true e = absurd (cc)
  answer_is m false e = cc

  line_is : (m q : ℕ) (r : Region) (k : Kind ℕ) → Line n ≡ (exit_of S m q r k).part → n ≡ m
  line_is m q r (Fetch a) e = answer_is m (is_shared S m) e
  line_is m q r (Store a) e = answer_is m (is_shared S m) e
  line_is m q r Enter e = absurd (cc)
  line_is m q r (Merge k) e = absurd (cc)
  line_is m q r (Call f) e = absurd (cc)
  line_is m q r (StrictCall f) e = absurd (cc)
  line_is m q r (Loop f k) e = absurd (cc)
  line_is m q r k e = cc

  at_most : (u : Side) (x : Bool) → (t ≡ u → x ≡ true) → one (same_side t u) ≤ one x
  at_most u x h = go (same_side t u) refl
    where
      go : (s : Bool) → same_side t u ≡ s → one s ≤ one x
      go true e = let k = ap one (h (side_is t u e)) in omega (arith, k)
      go false e = omega arith

  leaf : (x : Source) → one (same_side t (leaves S x)) ≤ one (n == x.node)
  leaf x = at_most (leaves S x) (n == x.node) (λ e. eq-eqb n x.node (go (node_at b x.node) (ap (λ (u : Side). u.part) e)))
    where
      go : (o : Option (Node ℕ)) → Line n ≡ (elim o as (λ y. Side) [ None ↦ side (Line x.node) false | Some y ↦ exit_of S x.node x.port y.region y.kind ]).part
          → n ≡ x.node
      go None e = cc
      go (Some y) e = line_is x.node x.port y.region y.kind e

  -- LISTS OF WIRES
  operands_most : (r : Part) (from : ℕ) (ss : List Source) → size t (operand_wires S r from ss) ≤ uses n ss
  operands_most r from [] = omega arith
  operands_most r from (x ∷ ss) = let a = leaf x in let c = operands_most r (from + 1) ss in omega (arith, a, c)

  merges_most : (r : Part) (ss : List Source) → size t (merge_wires S r ss) ≤ uses n ss
  merges_most r [] = omega arith
  merges_most r (x ∷ ss) = let a = leaf x in let c = merges_most r ss in omega (arith, a, c)

  senders_most : (m from : ℕ) (ss : List Source) → size t (sender_wires S m from ss) ≤ uses n ss
  senders_most m from [] = omega arith
  senders_most m from (x ∷ ss) = let a = leaf x in let c = senders_most m (from + 1) ss in omega (arith, a, c)

  stricts_most : (m from : ℕ) (s : Side) (ss : List Source)
      → size t (strict_wires S m from s ss) + one (same_side t (strict_end m from s ss)) ≤ one (same_side t s) + uses n ss
  stricts_most m from s [] = omega arith
  stricts_most m from s (x ∷ ss) = let a = leaf x in let c = stricts_most m (from + 1) (side (Parts.Strict m from) false) ss in omega (arith, a, c)

  invokes_most : (m : ℕ) (u : Side) (ss : List Source) → size t (invoke_wires S m u ss) ≤ one (same_side t u) + uses n ss
  invokes_most m u ss = let c = senders_most m 0 ss in omega (arith, c)

  strict_calls_most : (m : ℕ) (ss : List Source) → size t (strict_call_wires S m ss) ≤ uses n ss + uses n ss
  strict_calls_most m [] = omega arith
  strict_calls_most m (x ∷ ss) =
      let first = strict_wires S m 1 (leaves S x) ss in
      let last = strict_end m 1 (leaves S x) ss in
      let s = size_both t first (invoke_wires S m last (x ∷ ss)) in
      let a = leaf x in
      let c = stricts_most m 1 (leaves S x) ss in
      let d = invokes_most m last (x ∷ ss) in
      omega (arith, s, a, c, d)

  answers_none : (m : ℕ) (x : Bool) → (n ≢ m) → size t (answer_wires m x) ≡ 0
  answers_none m true d =
      let k = at_most (side (Line m) false) false (λ e. absurd (d (let f = ap (λ (u : Side). u.part) e in cc))) in omega (arith, k)
  answers_none m false d = refl

  trigger_none : (r : Region) → one (same_side t (trigger_side r)) ≡ 0
  trigger_none Root = refl
  trigger_none (Arm k u) = refl

  module _ (unshared : is_shared S n ≡ false) where
    no_answer : (m : ℕ) → size t (answer_wires m (is_shared S m)) ≡ 0
    no_answer m = go (n == m) refl
      where
        go : (x : Bool) → (n == m) ≡ x → size t (answer_wires m (is_shared S m)) ≡ 0
        go true e = ap (λ y. size t (answer_wires m y)) (ap (is_shared S) (sym (eqb-true n m e)) ∙ unshared)
        go false e = answers_none m (is_shared S m) (λ q. let z = eq-eqb n m q in absurd (cc))

    abbrev triggers : List Bool
    triggers = triggers_of b (b.inputs + length b.nodes)

    cond_most : (m : ℕ) (ss : List Source) (x : Bool) → length ss ≡ 1
        → size t (Written.trigger_wires S m x (first_source ss)) ≤ (if x then uses n ss + uses n ss else 0)
    cond_most m ss false l = omega arith
    cond_most m [] true l = absurd (omega (arith, l))
    cond_most m (x ∷ ss) true l = let a = leaf x in omega (arith, a)

    gate_most : (m : ℕ) (r : Region) (ss : List Source) → length ss ≡ 1 → size t (Written.gate_wires S m r ss) ≤ kind_uses b triggers n m Enter r ss
    gate_most m Root ss l = omega arith
    gate_most m (Arm k u) [] l = absurd (omega (arith, l))
    gate_most m (Arm k u) (x ∷ ss) l = let a = leaf x in let c = leaf (predicate_of b k) in omega (arith, a, c)

    kind_most : (m : ℕ) (r : Region) (k : Kind ℕ) (ss : List Source) → Takes fl k (length ss) → size t (kind_wires S m r k ss) ≤ kind_uses b triggers n m k r ss
    kind_most m r Cond ss h = cond_most m ss (is_triggered b m) h
    kind_most m r Enter ss h = gate_most m r ss h
    kind_most m r (Merge k) ss h = merges_most (Parts.Merge m) ss
    kind_most m r (Fetch a) ss h =
        let s = size_both t (operand_wires S (Line m) 0 ss) (answer_wires m (is_shared S m)) in
        let o = operands_most (Line m) 0 ss in
        let z = no_answer m in
        omega (arith, s, o, z)
    kind_most m r (Store a) ss h =
        let s = size_both t (operand_wires S (Line m) 0 ss) (answer_wires m (is_shared S m)) in
        let o = operands_most (Line m) 0 ss in
        let z = no_answer m in
        omega (arith, s, o, z)
    kind_most m r (Call f) ss h = let a = invokes_most m (trigger_side r) ss in let z = trigger_none r in omega (arith, a, z)
    kind_most m r (StrictCall f) ss h = strict_calls_most m ss
    kind_most m r (Loop f k) ss h = let a = invokes_most m (side (Parts.Opener m) false) ss in let z = trigger_none r in omega (arith, a, z)
    kind_most m r k ss h = operands_most (Line m) 0 ss

    nodes_most : (m : ℕ) (xs : List (Node ℕ)) → ((j : ℕ) (x : Node ℕ) → slice_get xs j ≡ Some x → node_at b (m + j) ≡ Some x)
        → size t (node_wires S m xs) ≤ nodes_uses b triggers n m xs
    nodes_most m [] there = omega arith
    nodes_most m (x ∷ xs) there =
        let zeroless : m ≡ m + 0 = omega arith in
        let takes = (fit.nodes m x (ap (node_at b) zeroless ∙ there 0 x refl)).takes in
        let a = kind_most m x.region x.kind x.sources takes in
        let c = nodes_most (m + 1) xs (λ j y e. let k : (m + 1) + j ≡ m + suc j = omega arith in ap (node_at b) k ∙ there (suc j) y e) in
        let s = size_both t (kind_wires S m x.region x.kind x.sources) (node_wires S (m + 1) xs) in
        omega (arith, a, c, s)

    results_most : (from : ℕ) (ss : List Source) → size t (result_wires S from ss) ≤ uses n ss
    results_most from [] = omega arith
    results_most from (x ∷ ss) = let a = leaf x in let c = results_most (from + 1) ss in omega (arith, a, c)

    values_most : (f : Side) → one (same_side t f) ≡ 0 → (from : ℕ) (ss : List Source) → size t (value_wires S f from ss) ≤ uses n ss
    values_most f z from [] = omega arith
    values_most f z from (x ∷ ss) = let a = leaf x in let c = values_most f z (from + 1) ss in omega (arith, a, c, z)

    nexts_none : (from count : ℕ) → size t (next_wires from count) ≡ 0
    nexts_none from zero = refl
    nexts_none from (suc count) = let c = nexts_none (from + 1) count in omega (arith, c)

    lasts_none : (from count : ℕ) → size t (last_wires from count) ≡ 0
    lasts_none from zero = refl
    lasts_none from (suc count) = let c = lasts_none (from + 1) count in omega (arith, c)

    turn_most : (x : Source) (ss : List Source) → one (n == x.node) ≡ 0 → size t (turn_wires S (x ∷ ss)) ≤ uses n ss
    turn_most x ss z =
        let f : Side = leaves S x in
        let a = leaf x in
        let none : one (same_side t f) ≡ 0 = omega (arith, a, z) in
        let c = values_most f none 1 ss in
        let w3 = value_wires S f 1 ss in
        let w5 = meet_wires (side Parts.NextFanned false) (side Parts.TurnCont false) (Parts.NextSender 0) in
        let w6 = next_wires 1 (length ss) in
        let w7 = last_wires 0 (length ss) in
        let w8 = meet_wires (side Parts.TurnCont true) (side Parts.TurnFlag true) Parts.DrainReturn in
        let w4 = meet_wires (side Parts.TurnCont false) (side Parts.TurnFlag false) Parts.Asker in
        let s3 = size_both t w3 (w4 ++ (w5 ++ (w6 ++ (w7 ++ w8)))) in
        let s6 = size_both t w6 (w7 ++ w8) in
        let s7 = size_both t w7 w8 in
        let n6 = nexts_none 1 (length ss) in
        let n7 = lasts_none 0 (length ss) in
        omega (arith, none, c, s3, s6, s7, n6, n7)

    turns_most : (ss : List Source) → result_uses n true ss ≤ 1 → size t (turn_wires S ss) ≤ result_uses n true ss
    turns_most [] l = omega arith
    turns_most (x ∷ ss) l = let z : one (n == x.node) ≡ 0 = omega (arith, l) in let a = turn_most x ss z in omega (arith, a, z)

    plain_most : (ss : List Source) → size t (result_wires S 0 ss) ≤ result_uses n false ss
    plain_most [] = omega arith
    plain_most (x ∷ ss) = results_most 0 (x ∷ ss)

    tail_most : (u : Bool) → result_uses n u b.results ≤ 1 → size t (tail_wires S u) ≤ result_uses n u b.results
    tail_most true l = turns_most b.results l
    tail_most false l = plain_most b.results

    pub inner_most : n < b.inputs + length b.nodes → size t (inner_wires S) ≤ 1
    inner_most l =
        let counted = rarely n b triggers S.turns (b.inputs + length b.nodes) l unshared in
        let nodes = nodes_most b.inputs b.nodes (follow b) in
        let tail = tail_most S.turns (omega (arith, counted)) in
        let s = size_both t (node_wires S b.inputs b.nodes) (tail_wires S S.turns) in
        omega (arith, counted, nodes, tail, s)
