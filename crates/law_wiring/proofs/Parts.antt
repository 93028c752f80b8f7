-- Which parts the nodes of a block have: each that is there occurs once among those that are written down.
use Rattle.std.proofs.Common.{◌≡◌, ◌≢◌, ℕ, zero, suc, ◌+◌, ◌-◌, ◌<◌, ◌≤◌, ◌⊎◌, inl, inr, Bool, true, false, ◌&&◌, List, [], ◌∷◌, ◌++◌, length, refl, sym, ap}
use Rattle.std.proofs.Common.{◌∙◌, arith, if◌then◌else◌, Some, None, Option, nat_lt, ◌==◌}
use Rattle.std.specs.Prelude.{slice_get}
use Rattle.std.proofs.lemmas.Bool.{lt-ltb, le-ltb, ne_eqb, eqb-true, cases_lt}
use Rattle.lemmas.proofs.Bools.{and_false, and_true, equal_itself}
use Rattle.semantics.specs.declared.graph.Region.{Region}
use Rattle.semantics.specs.declared.graph.Region.TheVariants.{Arm}
use Rattle.semantics.specs.declared.graph.Kind.{Kind}
use Rattle.semantics.specs.declared.graph.Kind.TheVariants.{Lit, Apply1, Apply2, Cond, Enter, Merge, Fetch, Store, Call, StrictCall, Loop}
use Rattle.semantics.specs.Graph.{Node, Block, Flow, node_at}
use Rattle.law_confluence.specs.OrdersTotals.{one}
use Rattle.law_net.specs.ContextsParts as Parts
use Rattle.law_net.specs.ContextsParts.{Part, Entry, Line, Answer, Trigger, Gate, Opener, Framer, Fanned, Linker, Sender, Landing, CallDone, Giver, Taker}
use Rattle.law_net.specs.ContextsParts.{Drainer, LoopDone, Strict, Join, CondEnd, same_part}
use Rattle.law_net.specs.ContextsBlocks.{Side, Site, outputs_in}
use Rattle.law_net.specs.ContextsExpanded.{row, invoked}
use Rattle.law_wiring.specs.Written.{is_shared, is_triggered, answer_parts, trigger_parts, kind_parts, node_parts, joined_parts, cond_parts, Ended, arm_ends}
use Rattle.law_wiring.proofs.PartsCounts.{tally, tally_both, row_none, row_one, row_below, nodes_none, nodes_one, closing_parts, Follow}

-- TESTS of parts
abbrev pub Misses : (Part → Bool) → Type 0
Misses p = ((q : Region) (i : ℕ) → p (Join q i) ≡ false) × ((k : ℕ) → p (CondEnd k) ≡ false)

pub other_number : (k j : ℕ) → j ≢ k → (k == j) ≡ false
other_number k j h = ne_eqb k j (λ e. h (sym e))

pub joins_none : (p : Part → Bool) (r : Region) (ts : List Side) → ((i : ℕ) → p (Join r i) ≡ false) → tally p (joined_parts r ts) ≡ 0
joins_none p r [] h = refl
joins_none p r (t ∷ ts) h = row_none p (Join r) 0 (length ts) (λ j a b. h j)

pub conds_none : (p : Part → Bool) (k : ℕ) (ts : List Side) → p (CondEnd k) ≡ false → tally p (cond_parts k ts) ≡ 0
conds_none p k [] h = refl
conds_none p k (t ∷ ts) h = let e = ap one h in omega (arith, e)

-- THE NODE of a part
abbrev pub number_of : Part → Option ℕ
number_of (Line n) = Some n
number_of (Answer n) = Some n
number_of (Trigger n) = Some n
number_of (Gate n) = Some n
number_of (Parts.Merge n) = Some n
number_of (Opener n) = Some n
number_of (Framer n) = Some n
number_of (Fanned n) = Some n
number_of (Linker n) = Some n
number_of (Sender n i) = Some n
number_of (Landing n q) = Some n
number_of (CallDone n) = Some n
number_of (Giver n) = Some n
number_of (Taker n) = Some n
number_of (Drainer n) = Some n
number_of (LoopDone n) = Some n
number_of (Strict n i) = Some n
number_of r = None

abbrev pub of_node : ℕ → Part → Bool
of_node k r = elim (number_of r) as (λ x. Bool) [ None ↦ false | Some n ↦ n == k ]

pub of_other : (r : Part) (k j : ℕ) → of_node k r ≡ true → j ≢ k → of_node j r ≡ false
of_other r k j h ne = go (number_of r) h
  where
    go : (o : Option ℕ) → elim o as (λ x. Bool) [ None ↦ false | Some n ↦ n == k ] ≡ true → elim o as (λ x. Bool) [ None ↦ false | Some n ↦ n == j ] ≡ false
    go None h = refl
    go (Some n) h = let e = eqb-true n k h in ne_eqb n j (λ q. ne (sym q ∙ e))

-- WHICH PARTS A KIND HAS
abbrev pub line_has : Part → Bool
line_has (Line n) = true
line_has r = false

abbrev pub cell_has : Bool → Part → Bool
cell_has t (Line n) = true
cell_has t (Answer n) = t
cell_has t r = false

abbrev pub cond_has : Bool → Part → Bool
cond_has t (Trigger n) = t
cond_has t r = false

abbrev pub enter_has : Part → Bool
enter_has (Gate n) = true
enter_has r = false

abbrev pub merge_has : Part → Bool
merge_has (Parts.Merge n) = true
merge_has r = false

-- the parts of a call with m arguments and q results
abbrev pub invoked_has : ℕ → ℕ → Part → Bool
invoked_has m q (Framer n) = true
invoked_has m q (Fanned n) = true
invoked_has m q (Linker n) = true
invoked_has m q (Sender n i) = nat_lt i m
invoked_has m q (Landing n i) = nat_lt i q
invoked_has m q r = false

abbrev pub call_has : ℕ → ℕ → Part → Bool
call_has m q (CallDone n) = true
call_has m q r = invoked_has m q r

abbrev pub strict_has : ℕ → ℕ → Part → Bool
strict_has m q (Strict n i) = nat_lt 0 i && nat_lt i m
strict_has m q r = call_has m q r

abbrev pub loop_has : ℕ → Part → Bool
loop_has m (Opener n) = true
loop_has m (Giver n) = true
loop_has m (Taker n) = true
loop_has m (Drainer n) = true
loop_has m (LoopDone n) = true
loop_has m r = invoked_has m m r

abbrev pub kind_has : Flow → Site → ℕ → ℕ → Kind ℕ → Part → Bool
kind_has fl s n m Cond r = cond_has (is_triggered s.block n) r
kind_has fl s n m Enter r = enter_has r
kind_has fl s n m (Merge k) r = merge_has r
kind_has fl s n m (Fetch a) r = cell_has (is_shared s n) r
kind_has fl s n m (Store a) r = cell_has (is_shared s n) r
kind_has fl s n m (Call f) r = call_has m (outputs_in (slice_get fl.blocks f)) r
kind_has fl s n m (StrictCall f) r = strict_has m (outputs_in (slice_get fl.blocks f)) r
kind_has fl s n m (Loop f k) r = loop_has m r
kind_has fl s n m kind r = line_has r

-- COUNTS
-- of a list of one part
single : (t : Bool) → one (t && true) + 0 ≡ one t
single true = refl
single false = refl

line_count : (r : Part) (k : ℕ) → tally (same_part r) (Line k ∷ []) ≡ one (line_has r && of_node k r)
line_count (Line n) k = single (n == k)
line_count r k = refl

cell_count : (r : Part) (k : ℕ) (t : Bool) → tally (same_part r) (Line k ∷ answer_parts k t) ≡ one (cell_has t r && of_node k r)
cell_count (Line n) k true = single (n == k)
cell_count (Line n) k false = single (n == k)
cell_count (Answer n) k true = let e = single (n == k) in omega (arith, e)
cell_count (Answer n) k false = refl
cell_count r k true = refl
cell_count r k false = refl

cond_count : (r : Part) (k : ℕ) (t : Bool) → tally (same_part r) (trigger_parts k t) ≡ one (cond_has t r && of_node k r)
cond_count (Trigger n) k true = single (n == k)
cond_count (Trigger n) k false = refl
cond_count r k true = refl
cond_count r k false = refl

enter_count : (r : Part) (k : ℕ) → tally (same_part r) (Gate k ∷ []) ≡ one (enter_has r && of_node k r)
enter_count (Gate n) k = single (n == k)
enter_count r k = refl

merge_count : (r : Part) (k : ℕ) → tally (same_part r) (Parts.Merge k ∷ []) ≡ one (merge_has r && of_node k r)
merge_count (Parts.Merge n) k = single (n == k)
merge_count r k = refl

-- rows
same_second : (n k i : ℕ) → (n == k) ≡ true → (i == i) ≡ true → ((n == k) && (i == i)) ≡ true
same_second n k i h e = ap (λ t. t && (i == i)) h ∙ e

row_of : (p : Part → Bool) (f : ℕ → Part) (m n k i : ℕ) → ((j : ℕ) → p (f j) ≡ ((n == k) && (i == j))) → tally p (row f 0 m) ≡ one (nat_lt i m && (n == k))
row_of p f m n k i h = go (n == k) refl
  where
    go : (t : Bool) → (n == k) ≡ t → tally p (row f 0 m) ≡ one (nat_lt i m && t)
    go true e =
        row_below p f m i (h i ∙ ap (λ t. t && (i == i)) e ∙ equal_itself i) (λ j ne. h j ∙ ap (λ t. t && (i == j)) e ∙ other_number i j ne)
        ∙ ap one (sym (and_true (nat_lt i m)))
    go false e = row_none p f 0 m (λ j a b. h j ∙ ap (λ t. t && (i == j)) e) ∙ ap one (sym (and_false (nat_lt i m)))

abbrev sender_has : ℕ → Part → Bool
sender_has m (Sender n i) = nat_lt i m
sender_has m r = false

senders : (r : Part) (k m : ℕ) → tally (same_part r) (row (Sender k) 0 m) ≡ one (sender_has m r && of_node k r)
senders (Sender n i) k m = row_of (same_part (Sender n i)) (Sender k) m n k i (λ j. refl)
senders r k m = row_none (same_part r) (Sender k) 0 m (λ j a b. refl)

abbrev landing_has : ℕ → Part → Bool
landing_has q (Landing n i) = nat_lt i q
landing_has q r = false

landings : (r : Part) (k q : ℕ) → tally (same_part r) (row (Landing k) 0 q) ≡ one (landing_has q r && of_node k r)
landings (Landing n i) k q = row_of (same_part (Landing n i)) (Landing k) q n k i (λ j. refl)
landings r k q = row_none (same_part r) (Landing k) 0 q (λ j a b. refl)

abbrev strict_row_has : ℕ → Part → Bool
strict_row_has m (Strict n i) = nat_lt 0 i && nat_lt i m
strict_row_has m r = false

stricts : (r : Part) (k m : ℕ) → tally (same_part r) (row (Strict k) 1 (m - 1)) ≡ one (strict_row_has m r && of_node k r)
stricts (Strict n i) k m = go (n == k) refl (cases_lt 0 i) (cases_lt i m)
  where
    p : Part → Bool
    p = same_part (Strict n i)

    go : (t : Bool) → (n == k) ≡ t → (0 < i) ⊎ (i ≤ 0) → (i < m) ⊎ (m ≤ i) → tally p (row (Strict k) 1 (m - 1)) ≡ one ((nat_lt 0 i && nat_lt i m) && t)
    go false e a c = row_none p (Strict k) 1 (m - 1) (λ j x y. ap (λ t. t && (i == j)) e) ∙ ap one (sym (and_false (nat_lt 0 i && nat_lt i m)))
    go true e (inl a) (inl c) =
        row_one p (Strict k) 1 (m - 1) i (omega (arith, a)) (omega (arith, c, a)) (ap (λ t. t && (i == i)) e ∙ equal_itself i)
        (λ j ne. ap (λ t. t && (i == j)) e ∙ other_number i j ne)
        ∙ sym (ap (λ t. one ((t && nat_lt i m) && true)) (lt-ltb 0 i a) ∙ ap (λ t. one (t && true)) (lt-ltb i m c))
    go true e (inr a) c =
        row_none p (Strict k) 1 (m - 1) (λ j x y. ap (λ t. t && (i == j)) e ∙ other_number i j (λ q. omega (arith, q, a, x)))
        ∙ sym (ap (λ t. one ((t && nat_lt i m) && true)) (le-ltb 0 i a))
    go true e (inl a) (inr c) =
        row_none p (Strict k) 1 (m - 1) (λ j x y. ap (λ t. t && (i == j)) e ∙ other_number i j (λ q. omega (arith, q, a, c, x, y)))
        ∙ sym (ap (λ t. one ((t && nat_lt i m) && true)) (lt-ltb 0 i a) ∙ ap (λ t. one (t && true)) (le-ltb i m c))
stricts r k m = row_none (same_part r) (Strict k) 1 (m - 1) (λ j a b. refl)

-- an invocation
pub invoked_tally : (p : Part → Bool) (n m q : ℕ)
    → tally p (invoked n m q) ≡ one (p (Framer n))
    + (one (p (Fanned n)) + (one (p (Linker n)) + (tally p (row (Sender n) 0 m) + tally p (row (Landing n) 0 q))))
invoked_tally p n m q = let e = tally_both p (row (Sender n) 0 m) (row (Landing n) 0 q) in omega (arith, e)

invoked_count : (r : Part) (k m q : ℕ) → tally (same_part r) (invoked k m q) ≡ one (invoked_has m q r && of_node k r)
invoked_count (Framer n) k m q =
    let a = invoked_tally (same_part (Framer n)) k m q in let s = senders (Framer n) k m in let l = landings (Framer n) k q in let e = single (n == k) in
    omega (arith, a, s, l, e)
invoked_count (Fanned n) k m q =
    let a = invoked_tally (same_part (Fanned n)) k m q in let s = senders (Fanned n) k m in let l = landings (Fanned n) k q in let e = single (n == k) in
    omega (arith, a, s, l, e)
invoked_count (Linker n) k m q =
    let a = invoked_tally (same_part (Linker n)) k m q in let s = senders (Linker n) k m in let l = landings (Linker n) k q in let e = single (n == k) in
    omega (arith, a, s, l, e)
invoked_count (Sender n i) k m q =
    let a = invoked_tally (same_part (Sender n i)) k m q in let s = senders (Sender n i) k m in let l = landings (Sender n i) k q in omega (arith, a, s, l)
invoked_count (Landing n i) k m q =
    let a = invoked_tally (same_part (Landing n i)) k m q in let s = senders (Landing n i) k m in let l = landings (Landing n i) k q in omega (arith, a, s, l)
invoked_count r k m q = let a = invoked_tally (same_part r) k m q in let s = senders r k m in let l = landings r k q in omega (arith, a, s, l)

call_count : (r : Part) (k m q : ℕ) → tally (same_part r) (invoked k m q ++ CallDone k ∷ []) ≡ one (call_has m q r && of_node k r)
call_count (CallDone n) k m q =
    let a = tally_both (same_part (CallDone n)) (invoked k m q) (CallDone k ∷ []) in let i = invoked_count (CallDone n) k m q in let e = single (n == k) in
    omega (arith, a, i, e)
call_count r k m q = let a = tally_both (same_part r) (invoked k m q) (CallDone k ∷ []) in let i = invoked_count r k m q in omega (arith, a, i)

strict_count : (r : Part) (k m q : ℕ)
    → tally (same_part r) (row (Strict k) 1 (m - 1) ++ (invoked k m q ++ CallDone k ∷ [])) ≡ one (strict_has m q r && of_node k r)
strict_count (Strict n i) k m q =
    let a = tally_both (same_part (Strict n i)) (row (Strict k) 1 (m - 1)) (invoked k m q ++ CallDone k ∷ []) in let c = call_count (Strict n i) k m q in
    let t = stricts (Strict n i) k m in omega (arith, a, c, t)
strict_count r k m q =
    let a = tally_both (same_part r) (row (Strict k) 1 (m - 1)) (invoked k m q ++ CallDone k ∷ []) in let c = call_count r k m q in let t = stricts r k m in
    omega (arith, a, c, t)

abbrev credit_parts : ℕ → List Part
credit_parts k = Giver k ∷ Taker k ∷ Drainer k ∷ LoopDone k ∷ []

loop_count : (r : Part) (k m : ℕ) → tally (same_part r) (Opener k ∷ invoked k m m ++ credit_parts k) ≡ one (loop_has m r && of_node k r)
loop_count (Opener n) k m =
    let a = tally_both (same_part (Opener n)) (invoked k m m) (credit_parts k) in let i = invoked_count (Opener n) k m m in let e = single (n == k) in
    omega (arith, a, i, e)
loop_count (Giver n) k m =
    let a = tally_both (same_part (Giver n)) (invoked k m m) (credit_parts k) in let i = invoked_count (Giver n) k m m in let e = single (n == k) in
    omega (arith, a, i, e)
loop_count (Taker n) k m =
    let a = tally_both (same_part (Taker n)) (invoked k m m) (credit_parts k) in let i = invoked_count (Taker n) k m m in let e = single (n == k) in
    omega (arith, a, i, e)
loop_count (Drainer n) k m =
    let a = tally_both (same_part (Drainer n)) (invoked k m m) (credit_parts k) in let i = invoked_count (Drainer n) k m m in let e = single (n == k) in
    omega (arith, a, i, e)
loop_count (LoopDone n) k m =
    let a = tally_both (same_part (LoopDone n)) (invoked k m m) (credit_parts k) in let i = invoked_count (LoopDone n) k m m in let e = single (n == k) in
    omega (arith, a, i, e)
loop_count r k m = let a = tally_both (same_part r) (invoked k m m) (credit_parts k) in let i = invoked_count r k m m in omega (arith, a, i)

-- A TEST that misses the parts of a node
invoked_none : (p : Part → Bool) (j m q : ℕ) → ((r : Part) → of_node j r ≡ true → p r ≡ false) → tally p (invoked j m q) ≡ 0
invoked_none p j m q h =
    let a = invoked_tally p j m q in
    let f = ap one (h (Framer j) (equal_itself j)) in
    let n = ap one (h (Fanned j) (equal_itself j)) in
    let l = ap one (h (Linker j) (equal_itself j)) in
    let s = row_none p (Sender j) 0 m (λ i x y. h (Sender j i) (equal_itself j)) in
    let g = row_none p (Landing j) 0 q (λ i x y. h (Landing j i) (equal_itself j)) in
    omega (arith, a, f, n, l, s, g)

call_none : (p : Part → Bool) (j m q : ℕ) → ((r : Part) → of_node j r ≡ true → p r ≡ false) → tally p (invoked j m q ++ CallDone j ∷ []) ≡ 0
call_none p j m q h =
    let a = tally_both p (invoked j m q) (CallDone j ∷ []) in let i = invoked_none p j m q h in let d = ap one (h (CallDone j) (equal_itself j)) in
    omega (arith, a, i, d)

answers_none : (p : Part → Bool) (j : ℕ) (t : Bool) → p (Answer j) ≡ false → tally p (answer_parts j t) ≡ 0
answers_none p j true f = let e = ap one f in omega (arith, e)
answers_none p j false f = refl

triggers_none : (p : Part → Bool) (j : ℕ) (t : Bool) → p (Trigger j) ≡ false → tally p (trigger_parts j t) ≡ 0
triggers_none p j true f = let e = ap one f in omega (arith, e)
triggers_none p j false f = refl

module _ (fl : Flow) (s : Site) where
  abbrev b : Block ℕ
  b = s.block

  pub kinds_none : (p : Part → Bool) (j m : ℕ) (x : Kind ℕ) → ((r : Part) → of_node j r ≡ true → p r ≡ false) → tally p (kind_parts fl s j m x) ≡ 0
  kinds_none p j m Cond h = triggers_none p j (is_triggered b j) (h (Trigger j) (equal_itself j))
  kinds_none p j m Enter h = let e = ap one (h (Gate j) (equal_itself j)) in omega (arith, e)
  kinds_none p j m (Merge k) h = let e = ap one (h (Parts.Merge j) (equal_itself j)) in omega (arith, e)
  kinds_none p j m (Lit z) h = let e = ap one (h (Line j) (equal_itself j)) in omega (arith, e)
  kinds_none p j m (Apply1 op) h = let e = ap one (h (Line j) (equal_itself j)) in omega (arith, e)
  kinds_none p j m (Apply2 op) h = let e = ap one (h (Line j) (equal_itself j)) in omega (arith, e)
  kinds_none p j m (Fetch x) h =
      let e = ap one (h (Line j) (equal_itself j)) in let g = answers_none p j (is_shared s j) (h (Answer j) (equal_itself j)) in omega (arith, e, g)
  kinds_none p j m (Store x) h =
      let e = ap one (h (Line j) (equal_itself j)) in let g = answers_none p j (is_shared s j) (h (Answer j) (equal_itself j)) in omega (arith, e, g)
  kinds_none p j m (Call f) h = call_none p j m (outputs_in (slice_get fl.blocks f)) h
  kinds_none p j m (StrictCall f) h =
      let a = tally_both p (row (Strict j) 1 (m - 1)) (invoked j m (outputs_in (slice_get fl.blocks f)) ++ CallDone j ∷ []) in
      let c = call_none p j m (outputs_in (slice_get fl.blocks f)) h in
      let r = row_none p (Strict j) 1 (m - 1) (λ i x y. h (Strict j i) (equal_itself j)) in
      omega (arith, a, c, r)
  kinds_none p j m (Loop f k) h =
      let a = tally_both p (invoked j m m) (credit_parts j) in
      let i = invoked_none p j m m h in
      let o = ap one (h (Opener j) (equal_itself j)) in
      let g = ap one (h (Giver j) (equal_itself j)) in
      let t = ap one (h (Taker j) (equal_itself j)) in
      let d = ap one (h (Drainer j) (equal_itself j)) in
      let l = ap one (h (LoopDone j) (equal_itself j)) in
      omega (arith, a, i, o, g, t, d, l)

  -- how often a part occurs among those of a node
  pub kind_count : (r : Part) (k m : ℕ) (x : Kind ℕ) → tally (same_part r) (kind_parts fl s k m x) ≡ one (kind_has fl s k m x r && of_node k r)
  kind_count r k m Cond = cond_count r k (is_triggered b k)
  kind_count r k m Enter = enter_count r k
  kind_count r k m (Merge c) = merge_count r k
  kind_count r k m (Lit z) = line_count r k
  kind_count r k m (Apply1 op) = line_count r k
  kind_count r k m (Apply2 op) = line_count r k
  kind_count r k m (Fetch a) = cell_count r k (is_shared s k)
  kind_count r k m (Store a) = cell_count r k (is_shared s k)
  kind_count r k m (Call f) = call_count r k m (outputs_in (slice_get fl.blocks f))
  kind_count r k m (StrictCall f) = strict_count r k m (outputs_in (slice_get fl.blocks f))
  kind_count r k m (Loop f c) = loop_count r k m

-- CLOSINGS
module _ (b : Block ℕ) where
  module _ (p : Part → Bool) where
    pub closing_counts : (k : ℕ) (x : Ended) → tally p (closing_parts b k x)
        ≡ (tally p (joined_parts (Arm k true) (arm_ends b k true x)) + tally p (joined_parts (Arm k false) (arm_ends b k false x)))
        + tally p (cond_parts k (arm_ends b k true x ++ arm_ends b k false x))
    closing_counts k x =
        let first = joined_parts (Arm k true) (arm_ends b k true x) in
        let second = joined_parts (Arm k false) (arm_ends b k false x) in
        let last = cond_parts k (arm_ends b k true x ++ arm_ends b k false x) in
        let a = tally_both p first (second ++ last) in
        let c = tally_both p second last in
        omega (arith, a, c)

    pub closing_none : (k : ℕ) (x : Ended) → ((s : Bool) (i : ℕ) → p (Join (Arm k s) i) ≡ false) → p (CondEnd k) ≡ false → tally p (closing_parts b k x) ≡ 0
    closing_none k x h g =
        let a = closing_counts k x in
        let one_none = joins_none p (Arm k true) (arm_ends b k true x) (h true) in
        let two_none = joins_none p (Arm k false) (arm_ends b k false x) (h false) in
        let last_none = conds_none p k (arm_ends b k true x ++ arm_ends b k false x) g in
        omega (arith, a, one_none, two_none, last_none)

  pub follow : Follow b b.inputs b.nodes
  follow j x e =
      let past : nat_lt (b.inputs + j) b.inputs ≡ false = le-ltb (b.inputs + j) b.inputs (omega arith) in
      let at : (b.inputs + j) - b.inputs ≡ j = omega arith in
      ap (λ t. if t then None else slice_get b.nodes ((b.inputs + j) - b.inputs)) past ∙ ap (slice_get b.nodes) at ∙ e

  -- NODES
  pub node_within : (k : ℕ) (x : Node ℕ) → node_at b k ≡ Some x → (b.inputs ≤ k) × (k < b.inputs + length b.nodes)
  node_within k x e = go (cases_lt k b.inputs)
    where
      get_within : {X : Type 0} (xs : List X) (n : ℕ) (y : X) → slice_get xs n ≡ Some y → n < length xs
      get_within [] n y e = absurd (cc)
      get_within (x ∷ xs) zero y e = omega arith
      get_within (x ∷ xs) (suc n) y e = let h = get_within xs n y e in omega (arith, h)

      go : (k < b.inputs) ⊎ (b.inputs ≤ k) → (b.inputs ≤ k) × (k < b.inputs + length b.nodes)
      go (inl l) = let none = ap (λ t. if t then None else slice_get b.nodes (k - b.inputs)) (lt-ltb k b.inputs l) in absurd (cc)
      go (inr l) =
          let some : slice_get b.nodes (k - b.inputs) ≡ Some x = sym (ap (λ t. if t then None else slice_get b.nodes (k - b.inputs)) (le-ltb k b.inputs l))
          ∙ e in
          let w = get_within b.nodes (k - b.inputs) x some in
          (l, omega (arith, w, l))

-- a test of a node's kind and of how many sources it has
abbrev pub has_node : (ℕ → Kind ℕ → Bool) → Block ℕ → ℕ → Bool
has_node test b n = elim (node_at b n) as (λ x. Bool) [ None ↦ false | Some line ↦ test (length line.sources) line.kind ]

module _ (fl : Flow) (s : Site) where
  abbrev nodes_of : List Part
  nodes_of = node_parts fl s s.block.inputs s.block.nodes

  pub at_node : (p : Part → Bool) (test : ℕ → Kind ℕ → Bool) (k : ℕ)
      → ((x : Node ℕ) → node_at s.block k ≡ Some x → tally p (kind_parts fl s k (length x.sources) x.kind) ≡ one (test (length x.sources) x.kind))
      → ((j : ℕ) (y : Node ℕ) → j ≢ k → node_at s.block j ≡ Some y → tally p (kind_parts fl s j (length y.sources) y.kind) ≡ 0)
      → tally p nodes_of ≡ one (has_node test s.block k)
  at_node p test k here other = go (node_at s.block k) refl
    where
      go : (o : Option (Node ℕ)) → node_at s.block k ≡ o
          → tally p nodes_of ≡ one (elim o as (λ x. Bool) [ None ↦ false | Some line ↦ test (length line.sources) line.kind ])
      go None e =
          nodes_none fl s p s.block.inputs s.block.nodes (follow s.block)
          (λ j x l f. other j x (λ q. let g = sym f ∙ ap (node_at s.block) q ∙ e in absurd (cc)) f)
      go (Some x) e = let w = node_within s.block k x e in nodes_one fl s p s.block.inputs k x s.block.nodes (follow s.block) w.0 w.1 e other ∙ here x e

  -- a part of a node occurs among the nodes' parts if the node has it
  pub node_count_is : (r : Part) (k : ℕ) → of_node k r ≡ true → tally (same_part r) nodes_of ≡ one (has_node (λ m x. kind_has fl s k m x r) s.block k)
  node_count_is r k h =
      at_node (same_part r) (λ m x. kind_has fl s k m x r) k
      (λ x e. kind_count fl s r k (length x.sources) x.kind ∙ ap (λ t. one (kind_has fl s k (length x.sources) x.kind r && t)) h
      ∙ ap one (and_true (kind_has fl s k (length x.sources) x.kind r)))
      (λ j y ne e. kind_count fl s r j (length y.sources) y.kind ∙ ap (λ t. one (kind_has fl s j (length y.sources) y.kind r && t)) (of_other r k j h ne)
      ∙ ap one (and_false (kind_has fl s j (length y.sources) y.kind r)))

  pub no_nodes : (p : Part → Bool) → ((j : ℕ) (r : Part) → of_node j r ≡ true → p r ≡ false) → tally p nodes_of ≡ 0
  no_nodes p h = nodes_none fl s p s.block.inputs s.block.nodes (follow s.block) (λ j x l e. kinds_none fl s p j (length x.sources) x.kind (h j))
