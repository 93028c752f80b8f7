-- How often a part occurs in the parts of a block: once, if it is there, and otherwise never.
use Rattle.std.proofs.Common.{◌≡◌, ◌≢◌, ℕ, zero, suc, ◌+◌, ◌<◌, ◌≤◌, ◌⊎◌, inl, inr, Bool, true, false, List, [], ◌∷◌, ◌++◌, length, refl, sym, ap, ◌∙◌, arith}
use Rattle.std.proofs.Common.{if◌then◌else◌, Some, None, nat_lt, ◌==◌}
use Rattle.std.specs.Prelude.{slice_get, count_by}
use Rattle.std.proofs.lemmas.Bool.{lt-ltb, le-ltb, eqb-true, cases_lt}
use Rattle.std.proofs.lemmas.List.Sums.{sum_by-cons}
use Rattle.std.proofs.lemmas.Option.{same_Some}
use Rattle.lemmas.proofs.Bools.{equal_itself}
use Rattle.semantics.specs.declared.graph.Region.TheVariants.{Root, Arm}
use Rattle.semantics.specs.declared.graph.Kind.{Kind}
use Rattle.semantics.specs.declared.graph.Kind.TheVariants.{Lit, Apply1, Apply2, Cond, Enter, Merge, Fetch, Store, Call, StrictCall, Loop}
use Rattle.semantics.specs.Graph.{Node, Block, Flow, node_at}
use Rattle.law_confluence.specs.OrdersTotals.{one}
use Rattle.law_net.specs.ContextsParts as Parts
use Rattle.law_net.specs.ContextsParts.{Part, Entry, Line, Gate, Result, Join, CondEnd, same_part}
use Rattle.law_net.specs.ContextsBlocks.{Site, is_kind, cond_kind}
use Rattle.law_net.specs.ContextsExpanded.{row}
use Rattle.law_wiring.specs.Written as Written
use Rattle.law_wiring.specs.Written.{kind_parts, node_parts, tail_parts, inner_parts, joined_parts, cond_parts, Ended, arm_ends, close, close_kind, close_nodes}
use Rattle.law_wiring.specs.Written.{root_ends, parts_in}

abbrev pub tally : {X : Type 0} → (X → Bool) → List X → ℕ
tally p [] = 0
tally p (x ∷ xs) = one (p x) + tally p xs

one_is : (t : Bool) → (if t then 1 else 0) ≡ one t
one_is true = refl
one_is false = refl

pub count_is : {X : Type 0} (p : X → Bool) (xs : List X) → count_by p xs ≡ tally p xs
count_is p [] = refl
count_is p (x ∷ xs) = let h = sum_by-cons (λ y. if p y then 1 else 0) x xs in let t = count_is p xs in let o = one_is (p x) in omega (arith, h, t, o)

pub tally_both : {X : Type 0} (p : X → Bool) (xs ys : List X) → tally p (xs ++ ys) ≡ tally p xs + tally p ys
tally_both p [] ys = omega arith
tally_both p (x ∷ xs) ys = let h = tally_both p xs ys in omega (arith, h)

-- ROWS
pub row_none : (p : Part → Bool) (f : ℕ → Part) (from n : ℕ) → ((j : ℕ) → from ≤ j → j < from + n → p (f j) ≡ false) → tally p (row f from n) ≡ 0
row_none p f from zero h = refl
row_none p f from (suc n) h =
    let here = ap one (h from (omega arith) (omega arith)) in
    let rest = row_none p f (from + 1) n (λ j a b. h j (omega (arith, a)) (omega (arith, b))) in
    omega (arith, here, rest)

pub row_one : (p : Part → Bool) (f : ℕ → Part) (from n k : ℕ) → from ≤ k → k < from + n → p (f k) ≡ true → ((j : ℕ) → j ≢ k → p (f j) ≡ false)
    → tally p (row f from n) ≡ 1
row_one p f from zero k l m h o = absurd (omega (arith, l, m))
row_one p f from (suc n) k l m h o = go (λ a c. row_one p f (from + 1) n k a c h o) (from == k) refl
  where
    go : (from + 1 ≤ k → k < (from + 1) + n → tally p (row f (from + 1) n) ≡ 1) → (t : Bool) → (from == k) ≡ t
        → one (p (f from)) + tally p (row f (from + 1) n) ≡ 1
    go later true e =
        let same : from ≡ k = eqb-true from k e in
        let here = ap one (ap (λ j. p (f j)) same ∙ h) in
        let rest = row_none p f (from + 1) n (λ j a b. o j (λ q. omega (arith, q, same, a))) in
        omega (arith, here, rest)
    go later false e =
        let ne : from ≢ k = λ q. let t = ap (λ x. x == k) q in let self = equal_itself k in absurd (cc) in
        let here = ap one (o from ne) in
        let less : from < k = omega (arith, l, ne) in
        let rest = later (omega (arith, less)) (omega (arith, m)) in
        omega (arith, here, rest)

pub row_all : (p : Part → Bool) (f : ℕ → Part) (from n : ℕ) → ((j : ℕ) → p (f j) ≡ true) → tally p (row f from n) ≡ n
row_all p f from zero h = refl
row_all p f from (suc n) h = let here = ap one (h from) in let rest = row_all p f (from + 1) n h in omega (arith, here, rest)

-- as many as there are numbers below a bound
pub row_below : (p : Part → Bool) (f : ℕ → Part) (n k : ℕ) → p (f k) ≡ true → ((j : ℕ) → j ≢ k → p (f j) ≡ false) → tally p (row f 0 n) ≡ one (nat_lt k n)
row_below p f n k h o = go (cases_lt k n)
  where
    go : (k < n) ⊎ (n ≤ k) → tally p (row f 0 n) ≡ one (nat_lt k n)
    go (inl l) = row_one p f 0 n k (omega arith) (omega (arith, l)) h o ∙ sym (ap one (lt-ltb k n l))
    go (inr l) = row_none p f 0 n (λ j a c. o j (λ q. omega (arith, q, c, l))) ∙ sym (ap one (le-ltb k n l))

-- NODES
module _ (b : Block ℕ) where
  abbrev pub Follow : ℕ → List (Node ℕ) → Type 0
  Follow n xs = (j : ℕ) (y : Node ℕ) → slice_get xs j ≡ Some y → node_at b (n + j) ≡ Some y

  pub follow_more : (n : ℕ) (x : Node ℕ) (xs : List (Node ℕ)) → Follow n (x ∷ xs) → Follow (n + 1) xs
  follow_more n x xs h j y e = let k : (n + 1) + j ≡ n + suc j = omega arith in ap (node_at b) k ∙ h (suc j) y e

  pub follow_here : (n : ℕ) (x : Node ℕ) (xs : List (Node ℕ)) → Follow n (x ∷ xs) → node_at b n ≡ Some x
  follow_here n x xs h = let zeroless : n ≡ n + 0 = omega arith in ap (node_at b) zeroless ∙ h 0 x refl

  -- CLOSINGS. What a conditional adds
  abbrev pub closing_parts : ℕ → Ended → List Part
  closing_parts k x =
      joined_parts (Arm k true) (arm_ends b k true x)
      ++ (joined_parts (Arm k false) (arm_ends b k false x) ++ cond_parts k (arm_ends b k true x ++ arm_ends b k false x))

  -- the block before the conditional is closed
  abbrev pub before_close : ℕ → List (Node ℕ) → Ended → ℕ → Ended
  before_close n [] x k = x
  before_close n (y ∷ xs) x k = if n == k then close_nodes b (n + 1) xs x else before_close (n + 1) xs x k

  pub closes_none : (p : Part → Bool) (n : ℕ) (xs : List (Node ℕ)) (x : Ended)
      → ((k : ℕ) (y : Ended) → n ≤ k → k < n + length xs → tally p (closing_parts k y) ≡ 0) → tally p (close_nodes b n xs x).parts ≡ tally p x.parts
  closes_none p n [] x h = refl
  closes_none p n (y ∷ xs) x h = go y.kind (closes_none p (n + 1) xs x (λ k z l m. h k z (omega (arith, l)) (omega (arith, m))))
    where
      rest : Ended
      rest = close_nodes b (n + 1) xs x

      go : (k : Kind ℕ) → tally p rest.parts ≡ tally p x.parts → tally p (close_kind b n rest k).parts ≡ tally p x.parts
      go Cond e = let a = tally_both p rest.parts (closing_parts n rest) in let c = h n rest (omega arith) (omega arith) in omega (arith, a, c, e)
      go (Lit z) e = e
      go (Apply1 op) e = e
      go (Apply2 op) e = e
      go Enter e = e
      go (Merge k) e = e
      go (Fetch a) e = e
      go (Store a) e = e
      go (Call f) e = e
      go (StrictCall f) e = e
      go (Loop f k) e = e

  cond_count : (p : Part → Bool) (n : ℕ) (x : Ended) (k : Kind ℕ)
      → tally p (close_kind b n x k).parts ≡ tally p x.parts + (if cond_kind k then tally p (closing_parts n x) else 0)
  cond_count p n x Cond = tally_both p x.parts (closing_parts n x)
  cond_count p n x (Lit z) = omega arith
  cond_count p n x (Apply1 op) = omega arith
  cond_count p n x (Apply2 op) = omega arith
  cond_count p n x Enter = omega arith
  cond_count p n x (Merge k) = omega arith
  cond_count p n x (Fetch a) = omega arith
  cond_count p n x (Store a) = omega arith
  cond_count p n x (Call f) = omega arith
  cond_count p n x (StrictCall f) = omega arith
  cond_count p n x (Loop f k) = omega arith

  pub closes_one : (p : Part → Bool) (n k : ℕ) (xs : List (Node ℕ)) (x : Ended) → Follow n xs → n ≤ k → k < n + length xs
      → ((j : ℕ) (y : Ended) → j ≢ k → tally p (closing_parts j y) ≡ 0)
      → tally p (close_nodes b n xs x).parts ≡ tally p x.parts + (if is_kind cond_kind b k then tally p (closing_parts k (before_close n xs x k)) else 0)
  closes_one p n k [] x f l m h = absurd (omega (arith, l, m))
  closes_one p n k (y ∷ xs) x f l m h = go (λ a c. closes_one p (n + 1) k xs x (follow_more n y xs f) a c h) (n == k) refl
    where
      rest : Ended
      rest = close_nodes b (n + 1) xs x

      go : (n + 1 ≤ k → k < (n + 1) + length xs
          → tally p rest.parts ≡ tally p x.parts + (if is_kind cond_kind b k then tally p (closing_parts k (before_close (n + 1) xs x k)) else 0))
          → (t : Bool) → (n == k) ≡ t
          → tally p (close_kind b n rest y.kind).parts ≡ tally p x.parts
          + (if is_kind cond_kind b k then tally p (closing_parts k (if t then rest else before_close (n + 1) xs x k)) else 0)
      go later true e =
          let same : n ≡ k = eqb-true n k e in
          let kind : is_kind cond_kind b k ≡ cond_kind y.kind =
          ap (λ o. elim o as (λ z. Bool) [ None ↦ false | Some line ↦ cond_kind line.kind ]) (ap (node_at b) (sym same) ∙ follow_here n y xs f) in
          let none = closes_none p (n + 1) xs x (λ j z c d. h j z (λ q. omega (arith, q, c, same))) in
          let here = cond_count p n rest y.kind in
          let at : (if cond_kind y.kind then tally p (closing_parts n rest) else 0) ≡ (if is_kind cond_kind b k then tally p (closing_parts k rest) else 0)
          =
          ap (λ j. if cond_kind y.kind then tally p (closing_parts j rest) else 0) same
          ∙ ap (λ t. if t then tally p (closing_parts k rest) else 0) (sym kind) in
          omega (arith, none, here, at)
      go later false e =
          let ne : n ≢ k = λ q. let t = ap (λ z. z == k) q in let self = equal_itself k in absurd (cc) in
          let less : n + 1 ≤ k = omega (arith, l, ne) in
          let more = later less (omega (arith, m)) in
          let here = cond_count p n rest y.kind in
          let none = zero_if (cond_kind y.kind) (h n rest ne) in
          omega (arith, more, here, none)
        where
          zero_if : (t : Bool) → tally p (closing_parts n rest) ≡ 0 → (if t then tally p (closing_parts n rest) else 0) ≡ 0
          zero_if true q = q
          zero_if false q = refl

-- THE PARTS OF NODES
module _ (fl : Flow) (s : Site) where
  abbrev b : Block ℕ
  b = s.block

  pub nodes_none : (p : Part → Bool) (n : ℕ) (xs : List (Node ℕ)) → Follow b n xs
      → ((j : ℕ) (x : Node ℕ) → n ≤ j → node_at b j ≡ Some x → tally p (kind_parts fl s j (length x.sources) x.kind) ≡ 0) → tally p (node_parts fl s n xs) ≡ 0
  nodes_none p n [] f h = refl
  nodes_none p n (x ∷ xs) f h =
      let here = h n x (omega arith) (follow_here b n x xs f) in
      let rest = nodes_none p (n + 1) xs (follow_more b n x xs f) (λ j y l e. h j y (omega (arith, l)) e) in
      let both = tally_both p (kind_parts fl s n (length x.sources) x.kind) (node_parts fl s (n + 1) xs) in
      omega (arith, here, rest, both)

  pub nodes_one : (p : Part → Bool) (n k : ℕ) (x : Node ℕ) (xs : List (Node ℕ)) → Follow b n xs → n ≤ k → k < n + length xs → node_at b k ≡ Some x
      → ((j : ℕ) (y : Node ℕ) → j ≢ k → node_at b j ≡ Some y → tally p (kind_parts fl s j (length y.sources) y.kind) ≡ 0)
      → tally p (node_parts fl s n xs) ≡ tally p (kind_parts fl s k (length x.sources) x.kind)
  nodes_one p n k x [] f l m e h = absurd (omega (arith, l, m))
  nodes_one p n k x (y ∷ xs) f l m e h = go (λ a c. nodes_one p (n + 1) k x xs (follow_more b n y xs f) a c e h) (cases_lt n k)
    where
      both : tally p (kind_parts fl s n (length y.sources) y.kind ++ node_parts fl s (n + 1) xs) ≡ tally p (kind_parts fl s n (length y.sources) y.kind)
          + tally p (node_parts fl s (n + 1) xs)
      both = tally_both p (kind_parts fl s n (length y.sources) y.kind) (node_parts fl s (n + 1) xs)

      go : (n + 1 ≤ k → k < (n + 1) + length xs → tally p (node_parts fl s (n + 1) xs) ≡ tally p (kind_parts fl s k (length x.sources) x.kind))
          → (n < k) ⊎ (k ≤ n) → tally p (kind_parts fl s n (length y.sources) y.kind ++ node_parts fl s (n + 1) xs)
          ≡ tally p (kind_parts fl s k (length x.sources) x.kind)
      go later (inl a) =
          let here = h n y (λ q. omega (arith, q, a)) (follow_here b n y xs f) in
          let rest = later (omega (arith, a)) (omega (arith, m)) in
          let c = both in
          omega (arith, here, rest, c)
      go later (inr a) =
          let same : n ≡ k = omega (arith, l, a) in
          let there = follow_here b n y xs f in
          let its : y ≡ x = same_Some y x (sym there ∙ ap (node_at b) same ∙ e) in
          let here : tally p (kind_parts fl s n (length y.sources) y.kind) ≡ tally p (kind_parts fl s k (length x.sources) x.kind) =
          ap (λ (z : Node ℕ). tally p (kind_parts fl s n (length z.sources) z.kind)) its
          ∙ ap (λ j. tally p (kind_parts fl s j (length x.sources) x.kind)) same in
          let rest = nodes_none p (n + 1) xs (follow_more b n y xs f) (λ j z c g. h j z (λ q. omega (arith, q, c, same)) g) in
          let c = both in
          omega (arith, here, rest, c)

  -- THE WHOLE
  pub all_parts : (p : Part → Bool) → tally p (parts_in fl s) ≡ tally p (Written.closed fl s).parts
      + (tally p (joined_parts Root (root_ends fl s)) + one (p Parts.End))
  all_parts p =
      let a = tally_both p (Written.closed fl s).parts (joined_parts Root (root_ends fl s) ++ Parts.End ∷ []) in
      let c = tally_both p (joined_parts Root (root_ends fl s)) (Parts.End ∷ []) in
      omega (arith, a, c)

  pub inner_counts : (p : Part → Bool)
      → tally p (inner_parts fl s) ≡ (one (p Entry) + (tally p (row Line 0 b.inputs) + tally p (node_parts fl s b.inputs b.nodes)))
      + tally p (tail_parts b s.turns)
  inner_counts p =
      let a = tally_both p (Entry ∷ row Line 0 b.inputs ++ node_parts fl s b.inputs b.nodes) (tail_parts b s.turns) in
      let c = tally_both p (row Line 0 b.inputs) (node_parts fl s b.inputs b.nodes) in
      omega (arith, a, c)
