-- Each lane of the pass over words is the pass for one choice of arcs.
use Rattle.std.proofs.Common.{◌≡◌, refl, sym, ap, ◌∙◌, ℕ, zero, suc, ◌+◌, ◌^◌, ◌<◌, min, max, Bool, true, false, not, ◌&&◌, ◌||◌, ◌==◌, nat_lt}
use Rattle.std.proofs.Common.{List, [], ◌∷◌, map, length, replicate, get_or, set, cond, Option, Some, None, ⊎_elim, arith, bit_and, bit_or}
use Rattle.std.specs.Int.{bit_at}
use Rattle.std.proofs.lemmas.Bool.{cases_eq, eq-eqb, ne_eqb}
use Rattle.std.proofs.lemmas.Nat.{one_shl}
use Rattle.std.proofs.lemmas.Nat.Bits.{bit_at-lt, bit_at_and, bit_at_or, bit_at-zero, bit_at_ones, bit_at-pow_same, bit_at-pow_other}
use Rattle.std.proofs.lemmas.List.{map-set, set-get_or}
use Rattle.std.proofs.Math.ListN.{get_or-map}
use Rattle.lemmas.proofs.Bools.{and_false, and_true}
use Rattle.tags.specs.declared.token.Port.{Port}
use Rattle.tags.specs.declared.token.Port.TheVariants.{Left, Right}
use Rattle.semantics.specs.declared.program.Dest.{Dest}
use Rattle.semantics.specs.declared.program.Mark.{Mark}
use Rattle.semantics.specs.declared.program.Op.{Op}
use Rattle.semantics.specs.declared.program.Op.TheVariants.{Link, Open, Take, Give, Drain}
use Rattle.semantics.specs.Program.{Instr, CodeBlock}
use Rattle.semantics.specs.Rule.{slot_of}
use Rattle.semantics.specs.Plan.{Plan, landing}
use Rattle.slot_alloc.specs.declared.passes.Flow.{Flow}
use Rattle.slot_alloc.specs.declared.passes.Flows.{Flows}
use Rattle.slot_alloc.specs.declared.choices.Choice.{Choice}
use Rattle.slot_alloc.specs.Passes.{Inflow, Bare, AllLead, NotAll, Inlets, Chosen, inlets_at, inflow_with, inlets_with, enter, enter_each}
use Rattle.slot_alloc.specs.Passes.{enter_row, enter_landings, enter_firsts, all_lead, some_lead, is_chosen, own_each, own_landings, own_firsts}
use Rattle.slot_alloc.specs.Passes.{own_instr, enter_instr, mark_of, pass}
use Rattle.slot_alloc.specs.Rows.{ports_lead, crossed, noted, row_from, row_of}
use Rattle.slot_alloc.specs.Words as words

-- BITS
abbrev pub lane_bit : ℕ → ℕ → Bool
lane_bit k w = bit_at w k == 1

pub lane_and : (k a b : ℕ) → lane_bit k (bit_and a b) ≡ (lane_bit k a && lane_bit k b)
lane_and k a b = go (bit_at a k) (bit_at b k) (bit_at-lt a k) (bit_at-lt b k) (bit_at_and a b k)
  where
    go : (x y : ℕ) → x < 2 → y < 2 → bit_at (bit_and a b) k ≡ min x y → lane_bit k (bit_and a b) ≡ ((x == 1) && (y == 1))
    go zero zero xs ys e = ap (λ n. n == 1) e
    go zero (suc zero) xs ys e = ap (λ n. n == 1) e
    go (suc zero) zero xs ys e = ap (λ n. n == 1) e
    go (suc zero) (suc zero) xs ys e = ap (λ n. n == 1) e
    go (suc (suc x)) y xs ys e = let no : ⊥ = omega (arith, xs) in absurd no
    go zero (suc (suc y)) xs ys e = let no : ⊥ = omega (arith, ys) in absurd no
    go (suc zero) (suc (suc y)) xs ys e = let no : ⊥ = omega (arith, ys) in absurd no

pub lane_or : (k a b : ℕ) → lane_bit k (bit_or a b) ≡ (lane_bit k a || lane_bit k b)
lane_or k a b = go (bit_at a k) (bit_at b k) (bit_at-lt a k) (bit_at-lt b k) (bit_at_or a b k)
  where
    go : (x y : ℕ) → x < 2 → y < 2 → bit_at (bit_or a b) k ≡ max x y → lane_bit k (bit_or a b) ≡ ((x == 1) || (y == 1))
    go zero zero xs ys e = ap (λ n. n == 1) e
    go zero (suc zero) xs ys e = ap (λ n. n == 1) e
    go (suc zero) zero xs ys e = ap (λ n. n == 1) e
    go (suc zero) (suc zero) xs ys e = ap (λ n. n == 1) e
    go (suc (suc x)) y xs ys e = let no : ⊥ = omega (arith, xs) in absurd no
    go zero (suc (suc y)) xs ys e = let no : ⊥ = omega (arith, ys) in absurd no
    go (suc zero) (suc (suc y)) xs ys e = let no : ⊥ = omega (arith, ys) in absurd no

pub lane_zero : (k : ℕ) → lane_bit k 0 ≡ false
lane_zero k = ap (λ n. n == 1) (bit_at-zero k)

pub lane_all : (k : ℕ) → k < 64 → lane_bit k words.all_lanes ≡ true
lane_all k lt = ap (λ n. n == 1) (bit_at_ones 64 k lt)

pub lane_one : (k j : ℕ) → j < 64 → lane_bit k (words.one_lane j) ≡ (j == k)
lane_one k j lt =
    ap (lane_bit k) (one_shl j 64 lt)
    ∙ ⊎_elim
    (λ (e : k ≡ j). ap (λ i. lane_bit i (2 ^ j)) e ∙ ap (λ n. n == 1) (bit_at-pow_same j) ∙ sym (eq-eqb j k (sym e)))
    (λ (ne : k ≡ j → ⊥). ap (λ n. n == 1) (bit_at-pow_other j k ne) ∙ sym (ne_eqb j k (λ e. ne (sym e))))
    (cases_eq k j)

-- ONE LANE
module _ (k : ℕ) where
  abbrev inflow_of : Bool → Bool → Inflow
  inflow_of false b = Bare
  inflow_of true true = AllLead
  inflow_of true false = NotAll

  abbrev pub flow_at : Flow → Inflow
  flow_at x = inflow_of (not (x.arcs == 0)) (lane_bit k x.lanes)

  abbrev pub pair_at : Flows → Inlets
  pair_at x = record { left = flow_at x.left; right = flow_at x.right }

  flow_with_at : (x : Flow) (w : ℕ) → flow_at (words.flow_with x w) ≡ inflow_with (flow_at x) (lane_bit k w)
  flow_with_at x w = go (x.arcs == 0)
    where
      first : (b : Bool) → inflow_of true b ≡ inflow_with Bare b
      first true = refl
      first false = refl

      more : (a b : Bool) → inflow_of true (a && b) ≡ inflow_with (inflow_of true a) b
      more true true = refl
      more true false = refl
      more false true = refl
      more false false = refl

      go : (bare : Bool) → inflow_of true (lane_bit k (cond bare w (bit_and x.lanes w))) ≡ inflow_with (inflow_of (not bare) (lane_bit k x.lanes))
          (lane_bit k w)
      go true = first (lane_bit k w)
      go false = ap (inflow_of true) (lane_and k x.lanes w) ∙ more (lane_bit k x.lanes) (lane_bit k w)

  led_at : (x : Flow) → lane_bit k (words.led x) ≡ all_lead (flow_at x)
  led_at x = go (x.arcs == 0)
    where
      same : (b : Bool) → b ≡ all_lead (inflow_of true b)
      same true = refl
      same false = refl

      go : (bare : Bool) → lane_bit k (cond bare 0 x.lanes) ≡ all_lead (inflow_of (not bare) (lane_bit k x.lanes))
      go true = lane_zero k
      go false = same (lane_bit k x.lanes)

  some_led_at : (x : Flows) → lane_bit k (words.some_led x) ≡ some_lead (pair_at x)
  some_led_at x =
      lane_or k (words.led x.left) (words.led x.right)
      ∙ ap (λ b. b || lane_bit k (words.led x.right)) (led_at x.left)
      ∙ ap (λ b. all_lead (flow_at x.left) || b) (led_at x.right)

  pair_with : (x : Flows) (q : Port) (w : ℕ) → pair_at (words.flows_with x q w) ≡ inlets_with (pair_at x) q (lane_bit k w)
  pair_with x Left w = ap (λ (v : Inflow). record { left = v; right = flow_at x.right }) (flow_with_at x.left w)
  pair_with x Right w = ap (λ (v : Inflow). record { left = flow_at x.left; right = v }) (flow_with_at x.right w)

  if_at : (t : Bool) (x y : Flows) → pair_at (cond t x y) ≡ cond t (pair_at x) (pair_at y)
  if_at true x y = refl
  if_at false x y = refl

  abbrev pub pairs : List Flows → List Inlets
  pairs xs = map pair_at xs

  pub at_place : (xs : List Flows) (n : ℕ) → pair_at (words.flows_at xs n) ≡ inlets_at (pairs xs) n
  at_place xs n = sym (get_or-map pair_at xs n words.bare)

  enter_at : (xs : List Flows) (n : ℕ) (q : Port) (w : ℕ) → pairs (words.enter xs n q w) ≡ enter (pairs xs) n q (lane_bit k w)
  enter_at xs n q w =
      map-set pair_at xs n (words.flows_with (words.flows_at xs n) q w)
      ∙ ap (set (pairs xs) n) (pair_with (words.flows_at xs n) q w ∙ ap (λ x. inlets_with x q (lane_bit k w)) (at_place xs n))

  each_at : (xs : List Flows) (n w : ℕ) (ds : List Dest) → pairs (words.enter_each xs n w ds) ≡ enter_each (pairs xs) n (lane_bit k w) ds
  each_at xs n w [] = refl
  each_at xs n w (d ∷ ds) =
      each_at (words.enter xs (n + d.ahead) d.port w) n w ds
      ∙ ap (λ ys. enter_each ys n (lane_bit k w) ds) (enter_at xs (n + d.ahead) d.port w)

  row_at : (xs : List Flows) (n w size : ℕ) → pairs (words.enter_row xs n w size) ≡ enter_row (pairs xs) n (lane_bit k w) size
  row_at xs n w zero = refl
  row_at xs n w (suc size) =
      enter_at (words.enter_row xs n w size) (n + size) Left w
      ∙ ap (λ ys. enter ys (n + size) Left (lane_bit k w)) (row_at xs n w size)

  landings_at : (xs : List Flows) (n w size : ℕ) (ds : List Dest) → pairs (words.enter_landings xs n w size ds)
      ≡ enter_landings (pairs xs) n (lane_bit k w) size ds
  landings_at xs n w size [] = refl
  landings_at xs n w size (d ∷ ds) =
      landings_at (words.enter_row xs (n + d.ahead) w size) n w size ds
      ∙ ap (λ ys. enter_landings ys n (lane_bit k w) size ds) (row_at xs (n + d.ahead) w size)

  firsts_at : (p : Plan) (xs : List Flows) (n w : ℕ) (ds : List Dest) (op : Op) → pairs (words.enter_firsts p xs n w ds op)
      ≡ enter_firsts p (pairs xs) n (lane_bit k w) ds op
  firsts_at p xs n w ds (Link t) = landings_at xs n w (landing p t) ds
  firsts_at p xs n w ds op = each_at xs n w ds

  own_each_at : (x : Flows) (w : ℕ) (ds : List Dest) → pair_at (words.own_each x w ds) ≡ own_each (pair_at x) (lane_bit k w) ds
  own_each_at x w [] = refl
  own_each_at x w (d ∷ ds) =
      own_each_at (cond (d.ahead == 0) (words.flows_with x d.port w) x) w ds
      ∙ ap (λ y. own_each y (lane_bit k w) ds)
      (if_at (d.ahead == 0) (words.flows_with x d.port w) x ∙ ap (λ y. cond (d.ahead == 0) y (pair_at x)) (pair_with x d.port w))

  own_landings_at : (x : Flows) (w size : ℕ) (ds : List Dest) → pair_at (words.own_landings x w size ds) ≡ own_landings (pair_at x) (lane_bit k w) size ds
  own_landings_at x w size [] = refl
  own_landings_at x w size (d ∷ ds) =
      own_landings_at (cond ((d.ahead == 0) && nat_lt 0 size) (words.flows_with x Left w) x) w size ds
      ∙ ap (λ y. own_landings y (lane_bit k w) size ds)
      (if_at ((d.ahead == 0) && nat_lt 0 size) (words.flows_with x Left w) x ∙ ap (λ y. cond ((d.ahead == 0) && nat_lt 0 size) y (pair_at x))
      (pair_with x Left w))

  own_firsts_at : (p : Plan) (x : Flows) (w : ℕ) (ds : List Dest) (op : Op) → pair_at (words.own_firsts p x w ds op)
      ≡ own_firsts p (pair_at x) (lane_bit k w) ds op
  own_firsts_at p x w ds (Link t) = own_landings_at x w (landing p t) ds
  own_firsts_at p x w ds op = own_each_at x w ds

  -- AN INSTRUCTION whose arcs are chosen in the lane as the choice says
  module _ (p : Plan) (ch : Chosen) (m : Mark) (i : Instr) (f s : ℕ) (ef : lane_bit k f ≡ is_chosen ch i m false) (es : lane_bit k s
      ≡ is_chosen ch i m true) where
    own_instr_at : (x : Flows) → pair_at (words.own_instr p x f s i) ≡ own_instr p ch (pair_at x) m i
    own_instr_at x =
        own_each_at (words.own_firsts p x f i.firsts i.op) s i.seconds
        ∙ ap (λ y. own_each y (lane_bit k s) i.seconds) (own_firsts_at p x f i.firsts i.op)
        ∙ ap (λ b. own_each (own_firsts p (pair_at x) b i.firsts i.op) (lane_bit k s) i.seconds) ef
        ∙ ap (λ b. own_each (own_firsts p (pair_at x) (is_chosen ch i m false) i.firsts i.op) b i.seconds) es

    lead_at : (xs : List Flows) (n w : ℕ) (b : Bool) → lane_bit k w ≡ b
        → lane_bit k (bit_or (words.some_led (words.own_instr p (words.flows_at xs n) f s i)) w)
        ≡ (some_lead (own_instr p ch (inlets_at (pairs xs) n) m i) || b)
    lead_at xs n w b e =
        lane_or k (words.some_led (words.own_instr p (words.flows_at xs n) f s i)) w
        ∙ ap (λ t. t || lane_bit k w)
        (some_led_at (words.own_instr p (words.flows_at xs n) f s i) ∙ ap some_lead (own_instr_at (words.flows_at xs n)
        ∙ ap (λ x. own_instr p ch x m i) (at_place xs n)))
        ∙ ap (λ t. some_lead (own_instr p ch (inlets_at (pairs xs) n) m i) || t) e

    instr_at : (xs : List Flows) (n : ℕ) → pairs (words.enter_instr p xs n f s i) ≡ enter_instr p ch (pairs xs) n m i
    instr_at xs n =
        let v = bit_or (words.some_led (words.own_instr p (words.flows_at xs n) f s i)) f in
        let w = bit_or (words.some_led (words.own_instr p (words.flows_at xs n) f s i)) s in
        let lead = some_lead (own_instr p ch (inlets_at (pairs xs) n) m i) in
        each_at (words.enter_firsts p xs n v i.firsts i.op) n w i.seconds
        ∙ ap (λ ys. enter_each ys n (lane_bit k w) i.seconds) (firsts_at p xs n v i.firsts i.op)
        ∙ ap (λ b. enter_each (enter_firsts p (pairs xs) n b i.firsts i.op) n (lane_bit k w) i.seconds) (lead_at xs n f (is_chosen ch i m false) ef)
        ∙ ap (λ b. enter_each (enter_firsts p (pairs xs) n (lead || is_chosen ch i m false) i.firsts i.op) n b i.seconds)
        (lead_at xs n s (is_chosen ch i m true) es)

  -- THE PASS AND THE ROW
  module _ (p : Plan) (choice : Choice) (known : List Mark) (ch : Chosen) (says : (i : Instr) (m : Mark) (second : Bool)
      → lane_bit k (words.lanes choice known i m second) ≡ is_chosen ch i m second) (few : k < 64) where
    pass_at : (ms : List Mark) (xs : List Flows) (n : ℕ) (is : List Instr) → pairs (words.pass p choice known ms xs n is) ≡ pass p ch ms (pairs xs) n is
    pass_at ms xs n [] = refl
    pass_at ms xs n (i ∷ is) =
        let m = mark_of ms n in
        let f = words.lanes choice known i m false in
        let s = words.lanes choice known i m true in
        pass_at ms (words.enter_instr p xs n f s i) (n + 1) is
        ∙ ap (λ ys. pass p ch ms ys (n + 1) is) (instr_at p ch m i f s (says i m false) (says i m true) xs n)

    abbrev row_bits : List ℕ → List Bool
    row_bits row = map (lane_bit k) row

    ports_at : (op : Op) (x : Flows) → lane_bit k (words.ports_led op x) ≡ ports_lead op (pair_at x)
    ports_at (Open t) x = led_at x.left
    ports_at (Take t) x = lane_all k few
    ports_at (Give t) x = lane_all k few
    ports_at (Drain t) x = lane_all k few
    ports_at op x = lane_and k (words.led x.left) (words.led x.right) ∙ ap (λ b. b && lane_bit k (words.led x.right)) (led_at x.left)
        ∙ ap (λ b. all_lead (flow_at x.left) && b) (led_at x.right)

    set_at : (row : List Bool) (h : ℕ) (b : Bool) → set row h (get_or row h false && b) ≡ cond b row (set row h false)
    set_at row h true = ap (set row h) (and_true (get_or row h false)) ∙ set-get_or row h false
    set_at row h false = ap (set row h) (and_false (get_or row h false))

    kept_at : (row : List ℕ) (o : Option ℕ) (w : ℕ) → row_bits (words.kept row o w) ≡ cond (lane_bit k w) (row_bits row) (crossed (row_bits row) o)
    kept_at row None w = go (lane_bit k w)
      where
        go : (b : Bool) → row_bits row ≡ cond b (row_bits row) (row_bits row)
        go true = refl
        go false = refl
    kept_at row (Some h) w =
        let old : lane_bit k (get_or row h 0) ≡ get_or (row_bits row) h false = sym (get_or-map (lane_bit k) row h 0)
        ∙ ap (get_or (row_bits row) h) (lane_zero k) in
        map-set (lane_bit k) row h (bit_and (get_or row h 0) w)
        ∙ ap (set (row_bits row) h) (lane_and k (get_or row h 0) w ∙ ap (λ b. b && lane_bit k w) old)
        ∙ set_at (row_bits row) h (lane_bit k w)

    noted_at : (row : List ℕ) (i : Instr) (x : Flows) → row_bits (words.noted row i x) ≡ noted (row_bits row) i (pair_at x)
    noted_at row i x = kept_at row (slot_of i i.op) (words.ports_led i.op x)
        ∙ ap (λ b. cond b (row_bits row) (crossed (row_bits row) (slot_of i i.op))) (ports_at i.op x)

    row_from_at : (row : List ℕ) (xs : List Flows) (n : ℕ) (is : List Instr) → row_bits (words.row_from row xs n is) ≡ row_from (row_bits row) (pairs xs) n is
    row_from_at row xs n [] = refl
    row_from_at row xs n (i ∷ is) =
        row_from_at (words.noted row i (words.flows_at xs n)) xs (n + 1) is
        ∙ ap (λ r. row_from r (pairs xs) (n + 1) is) (noted_at row i (words.flows_at xs n) ∙ ap (noted (row_bits row) i) (at_place xs n))

    alike : {A B : Type 0} (f : A → B) (n : ℕ) (x : A) → map f (replicate n x) ≡ replicate n (f x)
    alike f zero x = refl
    alike f (suc n) x = ap (λ xs. f x ∷ xs) (alike f n x)

    pub row_of_at : (ms : List Mark) (c : CodeBlock) → row_bits (words.row_of p choice known ms c) ≡ row_of p ch ms c
    row_of_at ms c =
        let start = replicate (length c.instrs) words.bare in
        row_from_at (replicate c.slots words.all_lanes) (words.pass p choice known ms start 0 c.instrs) 0 c.instrs
        ∙ ap (λ r. row_from r (pairs (words.pass p choice known ms start 0 c.instrs)) 0 c.instrs) (alike (lane_bit k) c.slots words.all_lanes
        ∙ ap (replicate c.slots) (lane_all k few))
        ∙ ap (λ xs. row_from (replicate c.slots true) xs 0 c.instrs) (pass_at ms start 0 c.instrs
        ∙ ap (λ ys. pass p ch ms ys 0 c.instrs) (alike pair_at (length c.instrs) words.bare))

    -- the lane of each holder's word
    pub bit_at_row : (ms : List Mark) (c : CodeBlock) (g : ℕ) → lane_bit k (get_or (words.row_of p choice known ms c) g 0) ≡ get_or (row_of p ch ms c) g false
    bit_at_row ms c g =
        sym (get_or-map (lane_bit k) (words.row_of p choice known ms c) g 0)
        ∙ ap (get_or (row_bits (words.row_of p choice known ms c)) g) (lane_zero k)
        ∙ ap (λ r. get_or r g false) (row_of_at ms c)
