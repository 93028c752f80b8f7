-- A part occurs once among the parts that are written down if it is there, and otherwise never.
use Rattle.std.proofs.Common.{◌≡◌, ◌≢◌, ℕ, ◌+◌, ◌-◌, ◌<◌, ◌≤◌, Bool, true, false, ◌&&◌, ◌||◌, List, [], ◌∷◌, ◌++◌, length, refl, sym, ap, ◌∙◌, arith}
use Rattle.std.proofs.Common.{if◌then◌else◌, Some, None, Option, nat_lt, ◌==◌}
use Rattle.std.specs.Prelude.{count_by}
use Rattle.std.proofs.lemmas.Bool.{le-ltb, ne_eqb, eqb-true}
use Rattle.lemmas.proofs.SliceGet.{get_some}
use Rattle.lemmas.proofs.Bools.{and_false, equal_itself, zero_if}
use Rattle.semantics.specs.declared.graph.Region.{Region}
use Rattle.semantics.specs.declared.graph.Region.TheVariants.{Root, Arm}
use Rattle.semantics.specs.Graph.{Node, Block, Flow, node_at, node_count}
use Rattle.semantics.specs.Program.{Instr}
use Rattle.law_confluence.specs.OrdersTotals.{one}
use Rattle.schemas.specs.Ends.{same_region}
use Rattle.law_net.specs.ContextsParts as Parts
use Rattle.law_net.specs.ContextsParts.{Part, Entry, Line, Answer, Trigger, Gate, Opener, Framer, Fanned, Linker, Sender, Landing, CallDone, Giver, Taker}
use Rattle.law_net.specs.ContextsParts.{Drainer, LoopDone, Strict, Result, TurnCont, TurnFlag, TurnValue, Asker, NextFramer, NextFanned, NextSender, LastReturn}
use Rattle.law_net.specs.ContextsParts.{DrainReturn, Join, CondEnd, same_part, region_key}
use Rattle.law_net.specs.ContextsBlocks.{Side, Site, Wiring, there_in, is_kind, cond_kind}
use Rattle.law_net.specs.ContextsExpanded.{row, turn_parts, is_join_of, wiring_of}
use Rattle.law_net.proofs.ContextsSames.{same_part-true}
use Rattle.law_wiring.specs.Written as Written
use Rattle.law_wiring.specs.Written.{node_parts, tail_parts, inner_parts, close_flag, joined_parts, cond_parts, Ended, arm_ends, inner, root_ends, parts_in}
use Rattle.law_wiring.proofs.PartsStanding.{row_length}
use Rattle.law_wiring.proofs.PartsCounts.{tally, tally_both, count_is, row_none, row_all, row_below, closing_parts, before_close, closes_none, closes_one}
use Rattle.law_wiring.proofs.PartsCounts.{all_parts, inner_counts}
use Rattle.law_wiring.proofs.Parts.{Misses, other_number, joins_none, conds_none, number_of, of_node, closing_counts, closing_none, no_nodes, follow}
use Rattle.law_wiring.proofs.Parts.{node_within}

-- REGIONS by their keys
keys_differ : (r q : Region) → r ≢ q → region_key r ≢ region_key q
keys_differ Root Root h e = h refl
keys_differ Root (Arm k true) h e = omega (arith, e)
keys_differ Root (Arm k false) h e = omega (arith, e)
keys_differ (Arm k true) Root h e = omega (arith, e)
keys_differ (Arm k false) Root h e = omega (arith, e)
keys_differ (Arm k true) (Arm l true) h e = let same : k ≡ l = omega (arith, e) in h (ap (λ n. Arm n true) same)
keys_differ (Arm k false) (Arm l false) h e = let same : k ≡ l = omega (arith, e) in h (ap (λ n. Arm n false) same)
keys_differ (Arm k true) (Arm l false) h e = omega (arith, e)
keys_differ (Arm k false) (Arm l true) h e = omega (arith, e)

pub join_other : (r q : Region) (i j : ℕ) → r ≢ q → same_part (Join r i) (Join q j) ≡ false
join_other r q i j h = ap (λ t. t && (i == j)) (ne_eqb (region_key r) (region_key q) (keys_differ r q h))

pub join_same : (r : Region) (i j : ℕ) → same_part (Join r i) (Join r j) ≡ (i == j)
join_same r i j = ap (λ t. t && (i == j)) (equal_itself (region_key r))

pub region_self : (r : Region) → same_region r r ≡ true
region_self Root = refl
region_self (Arm k true) = ap (λ t. t && true) (equal_itself k)
region_self (Arm k false) = ap (λ t. t && true) (equal_itself k)

pub region_other : (q r : Region) → q ≢ r → same_region q r ≡ false
region_other Root Root h = absurd (h refl)
region_other Root (Arm k t) h = refl
region_other (Arm k t) Root h = refl
region_other (Arm k true) (Arm l true) h = ap (λ t. t && true) (ne_eqb k l (λ e. h (ap (λ n. Arm n true) e)))
region_other (Arm k false) (Arm l false) h = ap (λ t. t && true) (ne_eqb k l (λ e. h (ap (λ n. Arm n false) e)))
region_other (Arm k true) (Arm l false) h = and_false (k == l)
region_other (Arm k false) (Arm l true) h = and_false (k == l)

pub arm_other : (k j : ℕ) (s t : Bool) → j ≢ k → Arm k t ≢ Arm j s
arm_other k j s t h e = let same : k ≡ j = cc in h (sym same)

-- a chain's joins
chain_below : (r : Region) (i : ℕ) (ts : List Side) → tally (same_part (Join r i)) (joined_parts r ts) ≡ one (nat_lt i (length (joined_parts r ts)))
chain_below r i [] = sym (ap one (le-ltb i 0 (omega arith)))
chain_below r i (t ∷ ts) =
    row_below (same_part (Join r i)) (Join r) (length ts) i (join_same r i i ∙ equal_itself i) (λ j h. join_same r i j ∙ other_number i j h)
    ∙ ap (λ n. one (nat_lt i n)) (sym (row_length (Join r) 0 (length ts)))

pub chain_all : (r : Region) (ts : List Side) → tally (is_join_of r) (joined_parts r ts) ≡ length (joined_parts r ts)
chain_all r [] = refl
chain_all r (t ∷ ts) = row_all (is_join_of r) (Join r) 0 (length ts) (λ j. region_self r) ∙ sym (row_length (Join r) 0 (length ts))

-- TESTS that miss the parts of nodes
abbrev pub MissesNodes : (Part → Bool) → Type 0
MissesNodes p = (j : ℕ) (r : Part) → of_node j r ≡ true → p r ≡ false

pub misses_nodes : (x : Part) → number_of x ≡ None → MissesNodes (same_part x)
misses_nodes x none j r h = go (same_part x r) refl
  where
    go : (t : Bool) → same_part x r ≡ t → t ≡ false
    go false e = refl
    go true e =
        let same : r ≡ x = sym (same_part-true x r e) in
        let no : of_node j r ≡ false = ap (of_node j) same ∙ ap (λ o. elim o as (λ y. Bool) [ None ↦ false | Some n ↦ n == j ]) none in
        absurd (cc)

pub join_misses : (q : Region) → MissesNodes (is_join_of q)
join_misses q j (Join r i) h = absurd (cc)
join_misses q j r h = refl

-- and those of the results, or of a turn
abbrev pub is_tail : Part → Bool
is_tail (Result j) = true
is_tail TurnCont = true
is_tail TurnFlag = true
is_tail (TurnValue j) = true
is_tail Asker = true
is_tail NextFramer = true
is_tail NextFanned = true
is_tail (NextSender j) = true
is_tail (LastReturn j) = true
is_tail DrainReturn = true
is_tail r = false

abbrev pub MissesTail : (Part → Bool) → Type 0
MissesTail p = (r : Part) → is_tail r ≡ true → p r ≡ false

pub misses_tail : (x : Part) → is_tail x ≡ false → MissesTail (same_part x)
misses_tail x none r h = go (same_part x r) refl
  where
    go : (t : Bool) → same_part x r ≡ t → t ≡ false
    go false e = refl
    go true e = let same : is_tail x ≡ is_tail r = ap is_tail (same_part-true x r e) in absurd (cc)

pub join_misses_tail : (q : Region) → MissesTail (is_join_of q)
join_misses_tail q (Join r i) h = absurd (cc)
join_misses_tail q r h = refl

pub turn_tally : (p : Part → Bool) (n : ℕ) → tally p (turn_parts n) ≡ one (p TurnCont) + (one (p TurnFlag) + (tally p (row TurnValue 1 n)
    + (one (p Asker) + (one (p NextFramer)
    + (one (p NextFanned) + (tally p (row NextSender 0 (n + 1)) + (tally p (row LastReturn 0 n) + one (p DrainReturn))))))))
turn_tally p n =
    let last : List Part = row LastReturn 0 n ++ DrainReturn ∷ [] in
    let a = tally_both p (row TurnValue 1 n) (Asker ∷ NextFramer ∷ NextFanned ∷ row NextSender 0 (n + 1) ++ last) in
    let c = tally_both p (row NextSender 0 (n + 1)) last in
    let d = tally_both p (row LastReturn 0 n) (DrainReturn ∷ []) in
    omega (arith, a, c, d)

pub tail_none : (p : Part → Bool) (b : Block ℕ) (t : Bool) → MissesTail p → tally p (tail_parts b t) ≡ 0
tail_none p b false h = row_none p Result 0 (length b.results) (λ j x y. h (Result j) refl)
tail_none p b true h =
    let a = turn_tally p b.inputs in
    let c1 = ap one (h TurnCont refl) in
    let c2 = ap one (h TurnFlag refl) in
    let c3 = row_none p TurnValue 1 b.inputs (λ j x y. h (TurnValue j) refl) in
    let c4 = ap one (h Asker refl) in
    let c5 = ap one (h NextFramer refl) in
    let c6 = ap one (h NextFanned refl) in
    let c7 = row_none p NextSender 0 (b.inputs + 1) (λ j x y. h (NextSender j) refl) in
    let c8 = row_none p LastReturn 0 b.inputs (λ j x y. h (LastReturn j) refl) in
    let c9 = ap one (h DrainReturn refl) in
    omega (arith, a, c1, c2, c3, c4, c5, c6, c7, c8, c9)

module _ (fl : Flow) (S : Site) (is : List Instr) where
  abbrev b : Block ℕ
  b = S.block

  abbrev pub w : Wiring
  w = wiring_of b (parts_in fl S) is

  abbrev pub Counted : Part → Type 0
  Counted r = tally (same_part r) (parts_in fl S) ≡ one (there_in fl S w r)

  -- the flag of a turn is closed first
  abbrev start : Ended
  start = close_flag b S.turns (inner fl S)

  flag_tally : (p : Part → Bool) (t : Bool) (x : Ended)
      → tally p (close_flag b t x).parts ≡ tally p x.parts + (if t then tally p (closing_parts b (node_count b) x) else 0)
  flag_tally p false x = omega arith
  flag_tally p true x = tally_both p x.parts (closing_parts b (node_count b) x)

  start_none : (p : Part → Bool) → tally p (closing_parts b (node_count b) (inner fl S)) ≡ 0 → tally p start.parts ≡ tally p (inner_parts fl S)
  start_none p h =
      let f = flag_tally p S.turns (inner fl S) in let z = zero_if S.turns (tally p (closing_parts b (node_count b) (inner fl S))) h in omega (arith, f, z)

  -- a test that joins and ends miss
  pub missing : (p : Part → Bool) → Misses p → tally p (parts_in fl S) ≡ tally p (inner_parts fl S) + one (p Parts.End)
  missing p h =
      let a = all_parts fl S p in
      let c = closes_none b p b.inputs b.nodes start (λ k x l m. closing_none b p k x (λ s i. h.0 (Arm k s) i) (h.1 k)) in
      let f = start_none p (closing_none b p (node_count b) (inner fl S) (λ s i. h.0 (Arm (node_count b) s) i) (h.1 (node_count b))) in
      let d = joins_none p Root (root_ends fl S) (λ i. h.0 Root i) in
      omega (arith, a, c, d, f)

  -- where a part is that is none of the ends
  pub inner_is : (p : Part → Bool) → Misses p → p Parts.End ≡ false
      → tally p (parts_in fl S) ≡ (one (p Entry) + (tally p (row Line 0 b.inputs) + tally p (node_parts fl S b.inputs b.nodes)))
      + tally p (tail_parts b S.turns)
  inner_is p h e = let a = missing p h in let c = inner_counts fl S p in let d = ap one e in omega (arith, a, c, d)

  pub inner_none : (p : Part → Bool) → p Entry ≡ false → MissesNodes p → MissesTail p → tally p (inner_parts fl S) ≡ 0
  inner_none p n f r =
      let a = inner_counts fl S p in
      let c = ap one n in
      let d = row_none p Line 0 b.inputs (λ j x y. f j (Line j) (equal_itself j)) in
      let k = no_nodes fl S p f in
      let l = tail_none p b S.turns r in
      omega (arith, a, c, d, k, l)

  -- a part that no such block has
  pub never_there : (p : Part → Bool) → Misses p → p Parts.End ≡ false → p Entry ≡ false → MissesNodes p → MissesTail p → tally p (parts_in fl S) ≡ 0
  never_there p h e n f r = let a = missing p h in let c = inner_none p n f r in let d = ap one e in omega (arith, a, c, d)

  -- what is closed: a conditional, or the flag of a turn
  abbrev pub closes : ℕ → Bool
  closes k = is_kind cond_kind b k || (S.turns && (k == node_count b))

  abbrev node_close : ℕ → Ended
  node_close k = before_close b b.inputs b.nodes start k

  abbrev pub at_close : ℕ → Ended
  at_close k = if S.turns && (k == node_count b) then inner fl S else node_close k

  nodes_close : (p : Part → Bool) (k : ℕ) → ((j : ℕ) (y : Ended) → j ≢ k → tally p (closing_parts b j y) ≡ 0)
      → tally p (Written.closed fl S).parts ≡ tally p start.parts + (if is_kind cond_kind b k then tally p (closing_parts b k (node_close k)) else 0)
  nodes_close p k h = go (node_at b k) refl
    where
      apart : (j : ℕ) → b.inputs ≤ j → j < b.inputs + length b.nodes → node_at b k ≡ None → j ≢ k
      apart j l m e q =
          let some = get_some b.nodes (j - b.inputs) (omega (arith, l, m)) in
          let back : b.inputs + (j - b.inputs) ≡ j = omega (arith, l) in
          let there : node_at b k ≡ Some some.0 = ap (node_at b) (sym q ∙ sym back) ∙ follow b (j - b.inputs) some.0 some.1 in
          absurd (cc)

      go : (o : Option (Node ℕ)) → node_at b k ≡ o
          → tally p (Written.closed fl S).parts ≡ tally p start.parts
          + (if elim (node_at b k) as (λ x. Bool) [ None ↦ false | Some line ↦ cond_kind line.kind ] then tally p (closing_parts b k (node_close k)) else 0)
      go None e =
          let c = closes_none b p b.inputs b.nodes start (λ j y l m. h j y (apart j l m e)) in
          let z = ap (λ o. if elim o as (λ x. Bool) [ None ↦ false | Some line ↦ cond_kind line.kind ] then tally p (closing_parts b k (node_close k)) else 0)
          e in
          omega (arith, c, z)
      go (Some x) e = let in_range = node_within b k x e in closes_one b p b.inputs k b.nodes start (follow b) in_range.0 in_range.1 h

  -- the flag is no node
  flag_no_node : is_kind cond_kind b (node_count b) ≡ false
  flag_no_node = go (node_at b (node_count b)) refl
    where
      go : (o : Option (Node ℕ)) → node_at b (node_count b) ≡ o → elim o as (λ x. Bool) [ None ↦ false | Some line ↦ cond_kind line.kind ] ≡ false
      go None e = refl
      go (Some x) e = let in_range = (node_within b (node_count b) x e).1 in absurd (omega (arith, in_range))

  pub closes_at : (p : Part → Bool) (k : ℕ) → ((j : ℕ) (y : Ended) → j ≢ k → tally p (closing_parts b j y) ≡ 0)
      → tally p (Written.closed fl S).parts ≡ tally p (inner_parts fl S) + (if closes k then tally p (closing_parts b k (at_close k)) else 0)
  closes_at p k h =
      let n = nodes_close p k h in
      let f = flag_tally p S.turns (inner fl S) in
      let both = combine S.turns (k == node_count b) (is_kind cond_kind b k)
      (λ e. h (node_count b) (inner fl S) (λ q. let self = equal_itself k in let other : (k == node_count b) ≡ true = ap (λ j. k == j) q ∙ self in absurd (cc)))
      (λ e. let same = eqb-true k (node_count b) e in ap (λ j. tally p (closing_parts b j (inner fl S))) (sym same))
      (λ e. let same = eqb-true k (node_count b) e in ap (is_kind cond_kind b) same ∙ flag_no_node) in
      omega (arith, n, f, both)
    where
      combine : (t u v : Bool) → (u ≡ false → tally p (closing_parts b (node_count b) (inner fl S)) ≡ 0)
          → (u ≡ true → tally p (closing_parts b (node_count b) (inner fl S)) ≡ tally p (closing_parts b k (inner fl S)))
          → (u ≡ true → v ≡ false) → (if t then tally p (closing_parts b (node_count b) (inner fl S)) else 0)
          + (if v then tally p (closing_parts b k (node_close k)) else 0)
          ≡ (if v || (t && u) then tally p (closing_parts b k (if t && u then inner fl S else node_close k)) else 0)
      combine false u true f g n = omega arith
      combine false u false f g n = refl
      combine true false true f g n = let z = f refl in omega (arith, z)
      combine true false false f g n = let z = f refl in omega (arith, z)
      combine true true true f g n = let no_cond = n refl in absurd (cc)
      combine true true false f g n = let z = g refl in omega (arith, z)

  -- JOINS
  -- a test of the joins of one arm alone
  arm_is : (p : Part → Bool) (k : ℕ) (t : Bool) → tally p (inner_parts fl S) ≡ 0 → p Parts.End ≡ false → ((j : ℕ) → p (CondEnd j) ≡ false)
      → ((q : Region) (i : ℕ) → Arm k t ≢ q → p (Join q i) ≡ false)
      → tally p (parts_in fl S) ≡ (if closes k then tally p (joined_parts (Arm k t) (arm_ends b k t (at_close k))) else 0)
  arm_is p k t n e c h =
      let a = all_parts fl S p in
      let d = closes_at p k (λ j y ne. closing_none b p j y (λ s i. h (Arm j s) i (arm_other k j s t ne)) (c j)) in
      let z = ap one e in
      let root = joins_none p Root (root_ends fl S) (λ i. h Root i (λ q. cc)) in
      let here = closing_counts b p k (at_close k) in
      let last = conds_none p k (arm_ends b k true (at_close k) ++ arm_ends b k false (at_close k)) (c k) in
      go t h a d z root here last (closes k)
    where
      go : (t : Bool) → ((q : Region) (i : ℕ) → Arm k t ≢ q → p (Join q i) ≡ false)
          → tally p (parts_in fl S) ≡ tally p (Written.closed fl S).parts + (tally p (joined_parts Root (root_ends fl S)) + one (p Parts.End))
          → tally p (Written.closed fl S).parts ≡ tally p (inner_parts fl S) + (if closes k then tally p (closing_parts b k (at_close k)) else 0)
          → one (p Parts.End) ≡ 0 → tally p (joined_parts Root (root_ends fl S)) ≡ 0
          → tally p (closing_parts b k (at_close k))
          ≡ (tally p (joined_parts (Arm k true) (arm_ends b k true (at_close k))) + tally p (joined_parts (Arm k false) (arm_ends b k false (at_close k))))
          + tally p (cond_parts k (arm_ends b k true (at_close k) ++ arm_ends b k false (at_close k)))
          → tally p (cond_parts k (arm_ends b k true (at_close k) ++ arm_ends b k false (at_close k))) ≡ 0 → Bool
          → tally p (parts_in fl S) ≡ (if closes k then tally p (joined_parts (Arm k t) (arm_ends b k t (at_close k))) else 0)
      go true h a d z root here last u =
          let other = joins_none p (Arm k false) (arm_ends b k false (at_close k)) (λ i. h (Arm k false) i (λ q. cc)) in
          let same : tally p (closing_parts b k (at_close k)) ≡ tally p (joined_parts (Arm k true) (arm_ends b k true (at_close k))) =
          omega (arith, here, last, other) in
          let e = ap (λ n. if closes k then n else 0) same in
          omega (arith, a, d, z, root, e, n)
      go false h a d z root here last u =
          let other = joins_none p (Arm k true) (arm_ends b k true (at_close k)) (λ i. h (Arm k true) i (λ q. cc)) in
          let same : tally p (closing_parts b k (at_close k)) ≡ tally p (joined_parts (Arm k false) (arm_ends b k false (at_close k))) =
          omega (arith, here, last, other) in
          let e = ap (λ n. if closes k then n else 0) same in
          omega (arith, a, d, z, root, e, n)

  pub joins_are : (k : ℕ) (t : Bool) → tally (is_join_of (Arm k t)) (parts_in fl S)
      ≡ (if closes k then length (joined_parts (Arm k t) (arm_ends b k t (at_close k))) else 0)
  joins_are k t =
      arm_is (is_join_of (Arm k t)) k t (inner_none (is_join_of (Arm k t)) refl (join_misses (Arm k t)) (join_misses_tail (Arm k t))) refl (λ j. refl)
      (λ q i h. region_other q (Arm k t) (λ e. h (sym e)))
      ∙ ap (λ n. if closes k then n else 0) (chain_all (Arm k t) (arm_ends b k t (at_close k)))

  arm_counted : (k : ℕ) (t : Bool) (i : ℕ) → Counted (Join (Arm k t) i)
  arm_counted k t i =
      arm_is (same_part (Join (Arm k t) i)) k t
      (inner_none (same_part (Join (Arm k t) i)) refl (misses_nodes (Join (Arm k t) i) refl) (misses_tail (Join (Arm k t) i) refl)) refl (λ j. refl)
      (λ q j h. join_other (Arm k t) q i j h)
      ∙ ap (λ n. if closes k then n else 0) (chain_below (Arm k t) i (arm_ends b k t (at_close k)))
      ∙ go (closes k) (length (joined_parts (Arm k t) (arm_ends b k t (at_close k))))
      ∙ ap (λ n. one (nat_lt i n)) (sym (joins_are k t) ∙ sym (count_is (is_join_of (Arm k t)) (parts_in fl S)))
    where
      go : (u : Bool) (n : ℕ) → (if u then one (nat_lt i n) else 0) ≡ one (nat_lt i (if u then n else 0))
      go true n = refl
      go false n = sym (ap one (le-ltb i 0 (omega arith)))

  pub root_is : (p : Part → Bool) → tally p (inner_parts fl S) ≡ 0 → p Parts.End ≡ false → ((j : ℕ) → p (CondEnd j) ≡ false)
      → ((q : Region) (i : ℕ) → Root ≢ q → p (Join q i) ≡ false)
      → tally p (parts_in fl S) ≡ tally p (joined_parts Root (root_ends fl S))
  root_is p n e c h =
      let a = all_parts fl S p in
      let d = closes_none b p b.inputs b.nodes start (λ j y l m. closing_none b p j y (λ s i. h (Arm j s) i (λ q. cc)) (c j)) in
      let f = start_none p (closing_none b p (node_count b) (inner fl S) (λ s i. h (Arm (node_count b) s) i (λ q. cc)) (c (node_count b))) in
      let z = ap one e in
      omega (arith, a, d, z, n, f)

  root_counted : (i : ℕ) → Counted (Join Root i)
  root_counted i =
      root_is (same_part (Join Root i)) (inner_none (same_part (Join Root i)) refl (misses_nodes (Join Root i) refl) (misses_tail (Join Root i) refl)) refl
      (λ j. refl) (λ q j h. join_other Root q i j h)
      ∙ chain_below Root i (root_ends fl S)
      ∙ ap (λ n. one (nat_lt i n)) (sym (chain_all Root (root_ends fl S))
      ∙ sym (root_is (is_join_of Root) (inner_none (is_join_of Root) refl (join_misses Root) (join_misses_tail Root)) refl (λ j. refl)
      (λ q j h. region_other q Root (λ e. h (sym e))))
      ∙ sym (count_is (is_join_of Root) (parts_in fl S)))

  pub join_counted : (r : Region) (i : ℕ) → Counted (Join r i)
  join_counted Root i = root_counted i
  join_counted (Arm k t) i = arm_counted k t i

  -- the end of a conditional: as many as it has, where it is one
  pub cond_tally : (k : ℕ) → tally (same_part (CondEnd k)) (parts_in fl S)
      ≡ (if closes k then tally (same_part (CondEnd k)) (cond_parts k (arm_ends b k true (at_close k) ++ arm_ends b k false (at_close k))) else 0)
  cond_tally k =
      let p : Part → Bool = same_part (CondEnd k) in
      let n = inner_none p refl (misses_nodes (CondEnd k) refl) (misses_tail (CondEnd k) refl) in
      let a = all_parts fl S p in
      let d = closes_at p k (λ j y ne. closing_none b p j y (λ s i. refl) (ap (λ t. t && true) (other_number k j ne))) in
      let root = joins_none p Root (root_ends fl S) (λ i. refl) in
      let here = closing_counts b p k (at_close k) in
      let first = joins_none p (Arm k true) (arm_ends b k true (at_close k)) (λ i. refl) in
      let second = joins_none p (Arm k false) (arm_ends b k false (at_close k)) (λ i. refl) in
      let same : tally p (closing_parts b k (at_close k)) ≡ tally p (cond_parts k (arm_ends b k true (at_close k) ++ arm_ends b k false (at_close k))) =
      omega (arith, here, first, second) in
      let e = ap (λ m. if closes k then m else 0) same in
      omega (arith, a, d, root, e, n)

  pub root_joins : tally (is_join_of Root) (parts_in fl S) ≡ length (joined_parts Root (root_ends fl S))
  root_joins =
      root_is (is_join_of Root) (inner_none (is_join_of Root) refl (join_misses Root) (join_misses_tail Root)) refl (λ j. refl)
      (λ q j h. region_other q Root (λ e. h (sym e))) ∙ chain_all Root (root_ends fl S)

  -- the end of a conditional
  pub cond_counted : (k : ℕ) → Counted (CondEnd k)
  cond_counted k =
      let p : Part → Bool = same_part (CondEnd k) in
      let n = inner_none p refl (misses_nodes (CondEnd k) refl) (misses_tail (CondEnd k) refl) in
      let a = all_parts fl S p in
      let d = closes_at p k (λ j y ne. closing_none b p j y (λ s i. refl) (ap (λ t. t && true) (other_number k j ne))) in
      let root = joins_none p Root (root_ends fl S) (λ i. refl) in
      let here = closing_counts b p k (at_close k) in
      let first = joins_none p (Arm k true) (arm_ends b k true (at_close k)) (λ i. refl) in
      let second = joins_none p (Arm k false) (arm_ends b k false (at_close k)) (λ i. refl) in
      let same : tally p (closing_parts b k (at_close k)) ≡ tally p (cond_parts k (arm_ends b k true (at_close k) ++ arm_ends b k false (at_close k))) =
      omega (arith, here, first, second) in
      let e = ap (λ m. if closes k then m else 0) same in
      let all : tally p (parts_in fl S) ≡ (if closes k then tally p (cond_parts k (arm_ends b k true (at_close k) ++ arm_ends b k false (at_close k))) else 0) =
      omega (arith, a, d, root, e, n) in
      go (arm_ends b k true (at_close k) ++ arm_ends b k false (at_close k)) (closes k) (tally p (parts_in fl S)) (count_by p (parts_in fl S)) all
      (count_is p (parts_in fl S))
    where
      self : (same_part (CondEnd k) (CondEnd k)) ≡ true
      self = ap (λ t. t && true) (equal_itself k)

      go : (ts : List Side) (u : Bool) (m c : ℕ) → m ≡ (if u then tally (same_part (CondEnd k)) (cond_parts k ts) else 0) → c ≡ m → m ≡ one (nat_lt 0 c && u)
      go ts false m c e f = e ∙ sym (ap (λ x. one (nat_lt 0 x && false)) (f ∙ e))
      go [] true m c e f = e ∙ sym (ap (λ x. one (nat_lt 0 x && true)) (f ∙ e))
      go (t ∷ ts) true m c e f = let o = ap one self in let x : m ≡ 1 = omega (arith, e, o) in x ∙ sym (ap (λ y. one (nat_lt 0 y && true)) (f ∙ x))
