-- What a token, a slot and a cell may still cause besides the tokens that reach a port once: an event weighs no more after it
-- than before it and the charge of its token's port.
use Rattle.std.proofs.Common.{◌≡◌, refl, sym, ◌∙◌, ℕ, zero, suc, ◌+◌, ◌-◌, ◌≤◌, Bool, true, false, List, [], ◌∷◌, ◌++◌, length, Option, Some, None, arith}
use Rattle.std.specs.Prelude.{if◌then◌else◌, nat_lt, ◌==◌, take, sum_by, IsPermutation}
use Rattle.std.proofs.lemmas.List.Recursion.{is_sum_by}
use Rattle.std.proofs.lemmas.List.Sorted.{sum_by-IsPermutation}
use Rattle.tags.specs.declared.value.Value.{Value}
use Rattle.tags.specs.declared.value.Value.TheVariants.{Int}
use Rattle.tags.specs.declared.token.Port.{Port}
use Rattle.tags.specs.declared.token.Port.TheVariants.{Left, Right}
use Rattle.tags.specs.declared.token.Cont.{Cont}
use Rattle.tags.specs.declared.token.Word.{Word}
use Rattle.tags.specs.declared.token.To.{To}
use Rattle.tags.specs.declared.token.Token.{Token}
use Rattle.tags.specs.declared.slot.SlotState.{SlotState}
use Rattle.tags.specs.declared.slot.SlotState.TheVariants as Slot
use Rattle.tags.specs.declared.slot.SlotState.TheVariants.{Empty, Credits, Waiter, Draining}
use Rattle.operators.specs.Values.{truth, apply1, apply2, Indexed, Place, Outside, index_in}
use Rattle.semantics.specs.declared.program.Dest.{Dest}
use Rattle.semantics.specs.declared.program.Op.{Op}
use Rattle.semantics.specs.declared.program.Op.TheVariants.{Apply1, Apply2, Apply2Right, Apply2Left, Lit, Copy, Sync, Switch, Fetch, Store, Frame, Link, Send}
use Rattle.semantics.specs.declared.program.Op.TheVariants.{Return, Ask, Open, Take, Give, Drain, Release}
use Rattle.semantics.specs.Program.{Instr, Program, first_of, instr_at}
use Rattle.semantics.specs.Rule.{signal, Point, to_each, to_all, beyond, back_to, answer_to, landing_at, Outcome, Becomes, Excluded, fires, asks_for, puts}
use Rattle.semantics.specs.Rule.{fire_one, fire_two, meets, array_len, opens, takes, gives, drains, alone, outcome_of}

-- ---- TOTALS
abbrev pub tot : {X : Type 0} → (X → ℕ) → List X → ℕ
tot f [] = 0
tot f (x ∷ xs) = f x + tot f xs

pub tot_append : {X : Type 0} (f : X → ℕ) (xs ys : List X) → tot f (xs ++ ys) ≡ tot f xs + tot f ys
tot_append f [] ys = omega arith
tot_append f (x ∷ xs) ys = let h = tot_append f xs ys in omega (arith, h)

tot_sum_by : {X : Type 0} (f : X → ℕ) (xs : List X) → tot f xs ≡ sum_by f xs
tot_sum_by f xs = is_sum_by (tot f) f refl (λ x xs. refl) xs

pub tot_perm : {X : Type 0} (f : X → ℕ) (xs ys : List X) → IsPermutation xs ys → tot f xs ≡ tot f ys
tot_perm f xs ys p = tot_sum_by f xs ∙ sym (sum_by-IsPermutation f xs ys p) ∙ sym (tot_sum_by f ys)

-- ---- WEIGHTS
abbrev pub word_weight : Word → ℕ
word_weight (Word.Back c) = 2
word_weight (Word.Val v) = 1
word_weight (Word.Frame f) = 1

abbrev pub op_weight : Op → Word → ℕ
op_weight (Give k) w = 1
op_weight (Take k) w = word_weight w
op_weight op w = 0

abbrev pub instr_weight : Option Instr → Word → ℕ
instr_weight None w = 0
instr_weight (Some i) w = op_weight i.op w

abbrev pub to_weight : Program → To → Word → ℕ
to_weight p (To.Instr f ip q) w = instr_weight (instr_at p ip) w
to_weight p (To.Fetch x) w = 2
to_weight p (To.Store x v) w = 2
to_weight p To.Manager w = 2
to_weight p (To.Release f) w = 1
to_weight p (To.Host j) w = 1

abbrev pub weight : Program → Token → ℕ
weight p t = to_weight p t.to t.word

abbrev pub weights : Program → List Token → ℕ
weights p ts = tot (weight p) ts

abbrev pub slot_weight : SlotState → ℕ
slot_weight (Slot.Left w) = 2
slot_weight (Slot.Right w) = 2
slot_weight (Waiter c) = 1
slot_weight (Draining n) = 2
slot_weight Empty = 0
slot_weight (Credits n) = 0

-- what a token at a port brings with it, if the port gets it once
abbrev pub op_charge : Op → Port → ℕ
op_charge (Apply2 op) q = 3
op_charge Sync q = 3
op_charge Switch q = 3
op_charge (Store a) q = 3
op_charge (Send b e) q = 3
op_charge (Return o) q = 3
op_charge (Ask o) q = 3
op_charge (Release o) q = 3
op_charge (Give k) q = 0
op_charge (Take k) q = 0
op_charge op Left = 6
op_charge op Right = 0

abbrev pub instr_charge : Option Instr → Port → ℕ
instr_charge None q = 0
instr_charge (Some i) q = op_charge i.op q

abbrev pub charge : Program → To → ℕ
charge p (To.Instr f ip q) = instr_charge (instr_at p ip) q
charge p to = 0

-- ---- THE TOKENS THAT AN INSTRUCTION MAKES
some_word : (w : Word) → 1 ≤ word_weight w
some_word (Word.Back c) = omega arith
some_word (Word.Val v) = omega arith
some_word (Word.Frame f) = omega arith

word_few : (w : Word) → word_weight w ≤ 2
word_few (Word.Back c) = omega arith
word_few (Word.Val v) = omega arith
word_few (Word.Frame f) = omega arith

op_few : (op : Op) (w : Word) → op_weight op w ≤ word_weight w
op_few (Give k) w = some_word w
op_few (Take k) w = omega arith
op_few op w = omega arith

pub instr_few : (o : Option Instr) (w : Word) → instr_weight o w ≤ word_weight w
instr_few None w = omega arith
instr_few (Some i) w = op_few i.op w

module _ (p : Program) where
  abbrev W : List Token → ℕ
  W ts = weights p ts

  each_few : (s : Point) (w : Word) (ds : List Dest) → length ds ≤ 1 → W (to_each s w ds) ≤ word_weight w
  each_few s w [] h = omega arith
  each_few s w (d ∷ []) h = let k = instr_few (instr_at p (s.ip + d.ahead)) w in omega (arith, k)
  each_few s w (d ∷ e ∷ ds) h = absurd (omega (arith, h))

  each_append : (s : Point) (w : Word) (ds es : List Dest) → W (to_each s w (ds ++ es)) ≡ W (to_each s w ds) + W (to_each s w es)
  each_append s w [] es = omega arith
  each_append s w (d ∷ ds) es = let h = each_append s w ds es in omega (arith, h)

  all_few : (s : Point) (w : Word) (i : Instr) → length i.firsts ≤ 1 → length i.seconds ≤ 1 → W (to_all s w i) ≤ word_weight w + word_weight w
  all_few s w i a b =
      let x = each_few s w i.firsts a in let y = each_few s w i.seconds b in let z = each_append s w i.firsts i.seconds in omega (arith, x, y, z)

  first_few : (s : Point) (w : Word) (ds : List Dest) → W (to_each s w (take 1 ds)) ≤ word_weight w
  first_few s w [] = omega arith
  first_few s w (d ∷ ds) = let k = instr_few (instr_at p (s.ip + d.ahead)) w in omega (arith, k)

  beyond_few : (c : Cont) (o : ℕ) (w : Word) → to_weight p (beyond c o) w ≤ word_weight w
  beyond_few (Cont.Frame f ip q) o w = instr_few (instr_at p (ip + o)) w
  beyond_few (Cont.Host j) o w = some_word w

  pub back_few : (c : Cont) (w : Word) → to_weight p (back_to c) w ≤ word_weight w
  back_few (Cont.Frame f ip q) w = instr_few (instr_at p ip) w
  back_few (Cont.Host j) w = some_word w

  asks_few : (s : Point) (i : Instr) (a : ℕ) (x : Indexed) → W (asks_for p s i a x) ≤ 2
  asks_few s i a (Outside v) = let k = first_few s (Word.Val v) i.firsts in omega (arith, k)
  asks_few s i a (Place x) = omega arith

  puts_few : (s : Point) (i : Instr) (a : ℕ) (v : Value) (x : Indexed) → W (puts p s i a v x) ≤ 2
  puts_few s i a v (Outside w) = let k = first_few s (Word.Val w) i.firsts in omega (arith, k)
  puts_few s i a v (Place x) = omega arith

  abbrev made_weight : Option (List Token) → ℕ
  made_weight None = 0
  made_weight (Some ts) = W ts

  one_few : (s : Point) (i : Instr) → length i.firsts ≤ 1 → length i.seconds ≤ 1 → (op : Op) (w : Word) → made_weight (fire_one p s i op w) ≤ 5
  one_few s i a b (Apply1 op) (Word.Val v) = let k = all_few s (Word.Val (apply1 op v)) i a b in omega (arith, k)
  one_few s i a b (Apply2Right op z) (Word.Val v) = let k = all_few s (Word.Val (apply2 op v (Int z) i.origin)) i a b in omega (arith, k)
  one_few s i a b (Apply2Left op z) (Word.Val v) = let k = all_few s (Word.Val (apply2 op (Int z) v i.origin)) i a b in omega (arith, k)
  one_few s i a b (Lit z) w = let k = all_few s (Word.Val (Int z)) i a b in omega (arith, k)
  one_few s i a b Copy w = let k = all_few s w i a b in let l = word_few w in omega (arith, k, l)
  one_few s i a b (Fetch n) (Word.Val v) = let k = asks_few s i n (index_in (array_len p n) v i.origin) in omega (arith, k)
  one_few s i a b Frame w = omega arith
  one_few s i a b (Link n) (Word.Frame f) =
      let k = each_few s signal i.seconds b in let l = instr_few (instr_at p (first_of p n)) (Word.Back (landing_at s i.firsts)) in omega (arith, k, l)
  one_few s i a b op w = omega arith

  side_few : (s : Point) (w : Word) (i : Instr) → length i.firsts ≤ 1 → length i.seconds ≤ 1 → (b : Bool)
      → W (to_each s w (if b then i.firsts else i.seconds)) ≤ word_weight w
  side_few s w i a b true = each_few s w i.firsts a
  side_few s w i a b false = each_few s w i.seconds b

  two_few : (s : Point) (i : Instr) → length i.firsts ≤ 1 → length i.seconds ≤ 1 → (op : Op) (l r : Word) → made_weight (fire_two p s i op l r) ≤ 4
  two_few s i a b (Apply2 op) (Word.Val v) (Word.Val w) = let k = all_few s (Word.Val (apply2 op v w i.origin)) i a b in omega (arith, k)
  two_few s i a b Sync l r = let k = all_few s signal i a b in omega (arith, k)
  two_few s i a b Switch l (Word.Val v) = let k = side_few s l i a b (truth v) in let n = word_few l in omega (arith, k, n)
  two_few s i a b (Store n) (Word.Val v) (Word.Val w) = let k = puts_few s i n w (index_in (array_len p n) v i.origin) in omega (arith, k)
  two_few s i a b (Send n e) (Word.Frame f) w =
      let k = all_few s signal i a b in let l = instr_few (instr_at p (first_of p n + e)) w in let m = word_few w in omega (arith, k, l, m)
  two_few s i a b (Return o) (Word.Back c) (Word.Val v) = let k = all_few s signal i a b in let l = beyond_few c o (Word.Val v) in omega (arith, k, l)
  two_few s i a b (Ask o) (Word.Back c) w = let l = beyond_few c o (Word.Back (answer_to s i.firsts)) in omega (arith, l)
  two_few s i a b (Release o) (Word.Back c) w = let l = beyond_few c o signal in omega (arith, l)
  two_few s i a b op l r = omega arith

  -- ---- WHAT AN INSTRUCTION'S EVENT COSTS
  abbrev pub cost : Outcome → ℕ
  cost (Becomes v ts) = 1 + slot_weight v + W ts
  cost (Excluded n) = 0

  fires_cost : (v : SlotState) (o : Option (List Token)) (n : ℕ) → made_weight o ≤ n → cost (fires v o) ≤ 1 + slot_weight v + n
  fires_cost v None n h = omega arith
  fires_cost v (Some ts) n h = omega (arith, h)

  meets_cost : (s : Point) (i : Instr) → length i.firsts ≤ 1 → length i.seconds ≤ 1 → (slot : SlotState) (q : Port) (w : Word)
      → cost (meets p s i slot q w) ≤ slot_weight slot + 3
  meets_cost s i a b Empty Left w = omega arith
  meets_cost s i a b Empty Right w = omega arith
  meets_cost s i a b (Slot.Left l) Right r = let k = fires_cost Empty (fire_two p s i i.op l r) 4 (two_few s i a b i.op l r) in omega (arith, k)
  meets_cost s i a b (Slot.Right r) Left l = let k = fires_cost Empty (fire_two p s i i.op l r) 4 (two_few s i a b i.op l r) in omega (arith, k)
  meets_cost s i a b slot q w = omega arith

  open_cost : (s : Point) (i : Instr) → length i.firsts ≤ 1 → length i.seconds ≤ 1 → (k : ℕ) (slot : SlotState) → cost (opens s i k slot) ≤ slot_weight slot + 6
  open_cost s i a b k Empty = let n = all_few s signal i a b in omega (arith, n)
  open_cost s i a b k slot = omega arith

  take_cost : (slot : SlotState) (w : Word) → cost (takes slot w) ≤ slot_weight slot + word_weight w
  take_cost (Credits zero) (Word.Back c) = omega arith
  take_cost (Credits (suc n)) (Word.Back c) = let k = back_few c signal in omega (arith, k)
  take_cost (Credits zero) w = omega arith
  take_cost (Credits (suc n)) w = omega arith
  take_cost slot w = omega arith

  if_cost : (t : Bool) (x y : Outcome) (n : ℕ) → cost x ≤ n → cost y ≤ n → cost (if t then x else y) ≤ n
  if_cost true x y n a b = a
  if_cost false x y n a b = b

  give_cost : (s : Point) (i : Instr) → length i.firsts ≤ 1 → length i.seconds ≤ 1 → (k : ℕ) (slot : SlotState) → cost (gives s i k slot) ≤ slot_weight slot + 1
  give_cost s i a b k (Credits n) = if_cost (nat_lt n k) (Becomes (Credits (n + 1)) []) (Excluded 3) _ (omega arith) (omega arith)
  give_cost s i a b k (Waiter c) = let n = back_few c signal in omega (arith, n)
  give_cost s i a b k (Draining zero) = omega arith
  give_cost s i a b k (Draining (suc zero)) = let n = all_few s signal i a b in omega (arith, n)
  give_cost s i a b k (Draining (suc (suc n))) = omega arith
  give_cost s i a b k slot = omega arith

  drain_cost : (s : Point) (i : Instr) → length i.firsts ≤ 1 → length i.seconds ≤ 1 → (k : ℕ) (slot : SlotState)
      → cost (drains s i k slot) ≤ slot_weight slot + 6
  drain_cost s i a b k (Credits n) =
      let h = all_few s signal i a b in
      if_cost (n == k) (Becomes Empty (to_all s signal i)) (if nat_lt n k then Becomes (Draining (k - n)) [] else Excluded 3) _ (omega (arith, h))
      (if_cost (nat_lt n k) (Becomes (Draining (k - n)) []) (Excluded 3) _ (omega arith) (omega arith))
  drain_cost s i a b k slot = omega arith

  alone_cost : (s : Point) (i : Instr) → length i.firsts ≤ 1 → length i.seconds ≤ 1 → (slot : SlotState) (w : Word)
      → cost (alone p s i slot Left w) ≤ slot_weight slot + 6
  alone_cost s i a b slot w = let k = fires_cost slot (fire_one p s i i.op w) 5 (one_few s i a b i.op w) in omega (arith, k)

  pub outcome_cost : (s : Point) (i : Instr) → length i.firsts ≤ 1 → length i.seconds ≤ 1 → (op : Op) (slot : SlotState) (q : Port) (w : Word)
      → cost (outcome_of p s i op slot q w) ≤ slot_weight slot + (op_weight op w + op_charge op q)
  outcome_cost s i a b (Apply2 op) slot q w = meets_cost s i a b slot q w
  outcome_cost s i a b Sync slot q w = meets_cost s i a b slot q w
  outcome_cost s i a b Switch slot q w = meets_cost s i a b slot q w
  outcome_cost s i a b (Store n) slot q w = meets_cost s i a b slot q w
  outcome_cost s i a b (Send n e) slot q w = meets_cost s i a b slot q w
  outcome_cost s i a b (Return o) slot q w = meets_cost s i a b slot q w
  outcome_cost s i a b (Ask o) slot q w = meets_cost s i a b slot q w
  outcome_cost s i a b (Release o) slot q w = meets_cost s i a b slot q w
  outcome_cost s i a b (Open k) slot Left w = open_cost s i a b k slot
  outcome_cost s i a b (Open k) slot Right w = omega arith
  outcome_cost s i a b (Take k) slot Left w = let h = take_cost slot w in omega (arith, h)
  outcome_cost s i a b (Take k) slot Right w = omega arith
  outcome_cost s i a b (Give k) slot Left w = let h = give_cost s i a b k slot in omega (arith, h)
  outcome_cost s i a b (Give k) slot Right w = omega arith
  outcome_cost s i a b (Drain k) slot Left w = drain_cost s i a b k slot
  outcome_cost s i a b (Drain k) slot Right w = omega arith
  outcome_cost s i a b op slot Left w = alone_cost s i a b slot w
  outcome_cost s i a b op slot Right w = omega arith
