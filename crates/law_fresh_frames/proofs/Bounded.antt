-- The runs of an orderly plan that use each frame once are bounded.
use Rattle.std.proofs.Common.{◌≡◌, refl, sym, ap, ◌∙◌, subst, ℕ, zero, suc, ◌+◌, ◌*◌, ◌<◌, ◌≤◌, ◌⊎◌, inl, inr, Bool, true, false, true≢false, ℤ, List, [], ◌∷◌}
use Rattle.std.proofs.Common.{◌++◌, map, length, Option, Some, None, Contains, eq-eqb, eqb-true, arith}
use Rattle.std.specs.Prelude.{◌==◌, ◌&&◌, All}
use Rattle.std.proofs.lemmas.Bool.{cases_Bool}
use Rattle.std.proofs.lemmas.List.Elements.{Contains-append_left, All-nil, All-cons}
use Rattle.std.proofs.Math.Nat.{mul-le-mul_left, mul-le-mul_right, mul_comm}
use Rattle.lemmas.proofs.Permutations.{Each, each_append}
use Rattle.lemmas.proofs.Contains.{contains_cases, contains_head, contains_none, contains_tail}
use Rattle.tags.specs.declared.value.Value.TheVariants.{Int}
use Rattle.tags.specs.declared.token.Port.{Port}
use Rattle.tags.specs.declared.token.Port.TheVariants.{Left, Right}
use Rattle.tags.specs.declared.token.Cont.{Cont}
use Rattle.tags.specs.declared.token.Word.{Word}
use Rattle.tags.specs.declared.token.To.{To}
use Rattle.tags.specs.declared.token.Token.{Token}
use Rattle.semantics.specs.declared.program.Op.{Op}
use Rattle.semantics.specs.declared.program.Op.TheVariants.{Apply2, Sync, Switch, Store, Send, Return, Ask, Take, Give, Release}
use Rattle.semantics.specs.Program.{Instr, Program, first_of, instr_at}
use Rattle.semantics.specs.Rule.{token}
use Rattle.semantics.specs.Machine.{Machine, Size, Events, Run, input_tokens, at_start, slot_used}
use Rattle.semantics.specs.Cause.{request_count}
use Rattle.semantics.specs.Faithful.{largest, IsBounded}
use Rattle.semantics.specs.Handed.{handed, UsesEachOnce}
use Rattle.semantics.specs.Plan.{Plan}
use Rattle.semantics.specs.Orderly.{Orderly, IsOrderlyRun, IsStart, met, eq_port, is_at, often}
use Rattle.law_fresh_frames.specs.Bounded.{HasFewDests, OrderlyIsBounded}
use Rattle.law_fresh_frames.proofs.BoundedWeights.{tot, tot_append, op_weight, instr_weight, weight, op_charge, instr_charge, charge, instr_few}
use Rattle.law_fresh_frames.proofs.BoundedSpending.{below, slot_below, IsBelow, run_pays}
use Rattle.law_fresh_frames.proofs.BoundedRows.{unit, unless, tot_map, tot_zero, count_tot, once_tot, rows, block_from, block_size, size_few, block_range}
use Rattle.law_fresh_frames.proofs.BoundedRows.{HasGroup, groups}
use Rattle.law_fresh_frames.proofs.BoundedCovered.{InFrame, few_handed, framed, still_met}

-- ---- A BOUND ON THE PLACES OF EVENTS
abbrev reach_slot : Option ℕ → ℕ
reach_slot None = 0
reach_slot (Some r) = suc r

abbrev reach : Program → To → ℕ
reach p (To.Instr f ip q) = suc f + reach_slot (slot_used (instr_at p ip))
reach p (To.Fetch x) = suc x
reach p (To.Store x v) = suc x
reach p to = 0

reached : (p : Program) (N : ℕ) (to : To) → reach p to ≤ N → IsBelow p N to
reached p N (To.Instr f ip q) h = (omega (arith, h), go (slot_used (instr_at p ip)) h)
  where
    go : (o : Option ℕ) → suc f + reach_slot o ≤ N → slot_below N o
    go None h = tt
    go (Some r) h = omega (arith, h)
reached p N (To.Fetch x) h = omega (arith, h)
reached p N (To.Store x v) h = omega (arith, h)
reached p N To.Manager h = tt
reached p N (To.Release f) h = tt
reached p N (To.Host j) h = tt

all_reached : (p : Program) (N : ℕ) (events : Events) → tot (λ (ev : ℕ × Token). reach p ev.1.to) events ≤ N
    → All (λ (ev : ℕ × Token). IsBelow p N ev.1.to) events
all_reached p N [] h = All-nil (λ (ev : ℕ × Token). IsBelow p N ev.1.to)
all_reached p N (ev ∷ events) h =
    All-cons (λ (ev : ℕ × Token). IsBelow p N ev.1.to) ev events (reached p N ev.1.to (omega (arith, h))) (all_reached p N events (omega (arith, h)))

nothing_below : (n : ℕ) → below n (λ y. 0) ≡ 0
nothing_below zero = refl
nothing_below (suc n) = let a = nothing_below n in omega (arith, a)

empty_below : (N n : ℕ) → below n (λ f. below N (λ r. 0)) ≡ 0
empty_below N zero = refl
empty_below N (suc n) = let a = empty_below N n in let b = nothing_below N in omega (arith, a, b)

-- ---- ITEMS: a port, and what a token there brings
abbrev Thing : Type 0
Thing = To × ℕ

abbrev frame_is : ℕ → To → Bool
frame_is f (To.Instr g ip q) = g == f
frame_is f to = false

abbrev ip_in : To → ℕ
ip_in (To.Instr g ip q) = ip
ip_in to = 0

abbrev of_frame : ℕ → Thing → Bool
of_frame f x = frame_is f x.0

abbrev amount : Thing → ℕ
amount x = x.1

-- ---- ONE ROW
module _ (p : Program) where
  abbrev row : ℕ → ℕ → To → ℕ → ℕ
  row f k to n = unless (ip_in to == k) (unless (frame_is f to) n)

  row_le : (f k : ℕ) (to : To) (n : ℕ) → row f k to n ≤ n
  row_le f k to n = go (ip_in to == k) (frame_is f to)
    where
      go : (a b : Bool) → unless a (unless b n) ≤ n
      go true true = omega arith
      go true false = omega arith
      go false b = omega arith

  port_charge : (g ip : ℕ) (q : Port) (f k : ℕ) → unless (ip == k) (unless (g == f) (instr_charge (instr_at p ip) q))
      ≤ unless ((g == f) && (ip == k) && eq_port Left q) (instr_charge (instr_at p k) Left)
      + unless ((g == f) && (ip == k) && eq_port Right q) (instr_charge (instr_at p k) Right)
  port_charge g ip q f k = go (g == f) (ip == k) refl q
    where
      go : (a b : Bool) → (ip == k) ≡ b → (q : Port) → unless b (unless a (instr_charge (instr_at p ip) q))
          ≤ unless (a && b && eq_port Left q) (instr_charge (instr_at p k) Left) + unless (a && b && eq_port Right q) (instr_charge (instr_at p k) Right)
      go a false e q = omega arith
      go false true e q = omega arith
      go true true e Left =
          let s : instr_charge (instr_at p ip) Left ≡ instr_charge (instr_at p k) Left = ap (λ (n : ℕ). instr_charge (instr_at p n) Left) (eqb-true ip k e) in
          omega (arith, s)
      go true true e Right =
          let s : instr_charge (instr_at p ip) Right ≡ instr_charge (instr_at p k) Right =
          ap (λ (n : ℕ). instr_charge (instr_at p n) Right) (eqb-true ip k e) in omega (arith, s)

  abbrev left_charge : ℕ → ℕ
  left_charge k = instr_charge (instr_at p k) Left

  abbrev right_charge : ℕ → ℕ
  right_charge k = instr_charge (instr_at p k) Right

  to_charge : (to : To) (f k : ℕ) → row f k to (charge p to) ≤ unless (is_at f k Left to) (left_charge k) + unless (is_at f k Right to) (right_charge k)
  to_charge (To.Instr g ip q) f k = port_charge g ip q f k
  to_charge (To.Fetch x) f k = let a = row_le f k (To.Fetch x) 0 in omega (arith, a)
  to_charge (To.Store x v) f k = let a = row_le f k (To.Store x v) 0 in omega (arith, a)
  to_charge To.Manager f k = let a = row_le f k To.Manager 0 in omega (arith, a)
  to_charge (To.Release g) f k = let a = row_le f k (To.Release g) 0 in omega (arith, a)
  to_charge (To.Host j) f k = let a = row_le f k (To.Host j) 0 in omega (arith, a)

  each_charge : (f k : ℕ) (events : Events) → tot (λ (ev : ℕ × Token). row f k ev.1.to (charge p ev.1.to)) events
      ≤ tot (λ (ev : ℕ × Token). unless (is_at f k Left ev.1.to) (left_charge k)) events
      + tot (λ (ev : ℕ × Token). unless (is_at f k Right ev.1.to) (right_charge k)) events
  each_charge f k [] = omega arith
  each_charge f k (ev ∷ events) = let a = to_charge ev.1.to f k in let b = each_charge f k events in omega (arith, a, b)

  both_charges : (op : Op) → op_charge op Left + op_charge op Right ≤ 6
  both_charges (Apply2 op) = omega arith
  both_charges Sync = omega arith
  both_charges Switch = omega arith
  both_charges (Store a) = omega arith
  both_charges (Send b e) = omega arith
  both_charges (Return o) = omega arith
  both_charges (Ask o) = omega arith
  both_charges (Release o) = omega arith
  both_charges (Give k) = omega arith
  both_charges (Take k) = omega arith
  both_charges op = omega arith

  two_charges : (o : Option Instr) → instr_charge o Left + instr_charge o Right ≤ 6
  two_charges None = omega arith
  two_charges (Some i) = both_charges i.op

  often_charges : (o : Option Instr) (q : Port) → often o ≡ true → instr_charge o q ≡ 0
  often_charges None q e = refl
  often_charges (Some i) q e = go i.op q e
    where
      go : (op : Op) (q : Port) → (elim op as (λ x. Bool) [ Give k ↦ true | Take k ↦ true | _ ↦ false ]) ≡ true → op_charge op q ≡ 0
      go (Give k) q e = refl
      go (Take k) q e = refl
      go op q e = absurd (true≢false (sym e))

  seldom_weights : (o : Option Instr) (w : Word) → often o ≡ false → instr_weight o w ≡ 0
  seldom_weights None w e = refl
  seldom_weights (Some i) w e = go i.op e
    where
      go : (op : Op) → (elim op as (λ x. Bool) [ Give k ↦ true | Take k ↦ true | _ ↦ false ]) ≡ false → op_weight op w ≡ 0
      go (Give k) e = absurd (true≢false e)
      go (Take k) e = absurd (true≢false e)
      go op e = refl

  -- the start
  seldom_row : (f k : ℕ) → often (instr_at p k) ≡ false → (g ip : ℕ) (q : Port) (w : Word)
      → row f k (To.Instr g ip q) (weight p (token (To.Instr g ip q) w)) ≡ 0
  seldom_row f k seldom g ip q w = go (ip == k) refl (g == f)
    where
      go : (b : Bool) → (ip == k) ≡ b → (a : Bool) → unless b (unless a (instr_weight (instr_at p ip) w)) ≡ 0
      go false e a = refl
      go true e false = refl
      go true e true = seldom_weights (instr_at p ip) w (ap (λ (n : ℕ). often (instr_at p n)) (eqb-true ip k e) ∙ seldom)

  seldom_inputs : (f k : ℕ) → often (instr_at p k) ≡ false → (ip : ℕ) (xs : List ℤ) → tot (λ (t : Token). row f k t.to (weight p t)) (input_tokens ip xs) ≡ 0
  seldom_inputs f k seldom ip [] = refl
  seldom_inputs f k seldom ip (x ∷ xs) =
      let a = seldom_row f k seldom 0 ip Left (Word.Val (Int x)) in let b = seldom_inputs f k seldom (ip + 1) xs in omega (arith, a, b)

  past_inputs : (f k ip : ℕ) (xs : List ℤ) → k < ip → tot (λ (t : Token). row f k t.to (weight p t)) (input_tokens ip xs) ≡ 0
  past_inputs f k ip [] l = refl
  past_inputs f k ip (x ∷ xs) l = go (cases_Bool (ip == k)) (past_inputs f k (ip + 1) xs (omega (arith, l)))
    where
      n : ℕ
      n = weight p (token (To.Instr 0 ip Left) (Word.Val (Int x)))

      go : (ip == k ≡ true) ⊎ (ip == k ≡ false) → tot (λ (t : Token). row f k t.to (weight p t)) (input_tokens (ip + 1) xs) ≡ 0
          → tot (λ (t : Token). row f k t.to (weight p t)) (input_tokens ip (x ∷ xs)) ≡ 0
      go (inl e) more = let d = eqb-true ip k e in absurd (omega (arith, d, l))
      go (inr e) more = let a = ap (λ (b : Bool). unless b (unless (0 == f) n)) e in omega (arith, a, more)

  few_inputs : (f k ip : ℕ) (xs : List ℤ) → tot (λ (t : Token). row f k t.to (weight p t)) (input_tokens ip xs) ≤ 1
  few_inputs f k ip [] = omega arith
  few_inputs f k ip (x ∷ xs) = go (cases_Bool (ip == k)) (few_inputs f k (ip + 1) xs)
    where
      n : ℕ
      n = weight p (token (To.Instr 0 ip Left) (Word.Val (Int x)))

      go : (ip == k ≡ true) ⊎ (ip == k ≡ false) → tot (λ (t : Token). row f k t.to (weight p t)) (input_tokens (ip + 1) xs) ≤ 1
          → tot (λ (t : Token). row f k t.to (weight p t)) (input_tokens ip (x ∷ xs)) ≤ 1
      go (inl e) more =
          let d = eqb-true ip k e in let a = past_inputs f k (ip + 1) xs (omega (arith, d)) in let b = row_le f k (To.Instr 0 ip Left) n in
          let c = instr_few (instr_at p ip) (Word.Val (Int x)) in omega (arith, a, b, c)
      go (inr e) more = let a = ap (λ (b : Bool). unless b (unless (0 == f) n)) e in omega (arith, a, more)

module _ (p : Plan) (inputs : List ℤ) (z : Size) (start : IsStart p z inputs) (orderly : Orderly p) (few : HasFewDests p.program)
    (events : Events) (m : Machine) (run : Run p.program z (at_start p.program inputs) events m) (once : UsesEachOnce p.program z inputs events m run) where
  abbrev P : Program
  P = p.program

  abbrev first : Machine
  first = at_start P inputs

  O : IsOrderlyRun p z first events m run
  O = orderly inputs z events m start run once

  abbrev from_events : List Thing
  from_events = map (λ (ev : ℕ × Token). (ev.1.to, charge P ev.1.to)) events

  abbrev from_start : List Thing
  from_start = map (λ (t : Token). (t.to, weight P t)) first.pool

  abbrev things : List Thing
  things = from_events ++ from_start

  -- each row has at most six
  port_once : (f k : ℕ) (q : Port) → often (instr_at P k) ≡ false → tot (λ (ev : ℕ × Token). unit (is_at f k q ev.1.to)) events ≤ 1
  port_once f k q seldom =
      let a = O.once f k q seldom in
      let b = count_tot (λ (t : Token). is_at f k q t.to) (met events m) in
      let c = tot_append (λ (t : Token). unit (is_at f k q t.to)) (map (λ (ev : ℕ × Token). ev.1) events) m.pool in
      let d = tot_map (λ (ev : ℕ × Token). ev.1) (λ (t : Token). unit (is_at f k q t.to)) events in
      omega (arith, a, b, c, d)

  abbrev in_row : ℕ → ℕ → Thing → ℕ
  in_row f k x = unless (ip_in x.0 == k) (unless (of_frame f x) (amount x))

  row_few : (f k : ℕ) → tot (in_row f k) things ≤ 6
  row_few f k =
      let a = tot_append (in_row f k) from_events from_start in
      let b = tot_map (λ (ev : ℕ × Token). (ev.1.to, charge P ev.1.to)) (in_row f k) events in
      let c = tot_map (λ (t : Token). (t.to, weight P t)) (in_row f k) first.pool in
      let d = each_charge P f k events in
      go (cases_Bool (often (instr_at P k))) a b c d
    where
      go : (often (instr_at P k) ≡ true) ⊎ (often (instr_at P k) ≡ false)
          → tot (in_row f k) things ≡ tot (in_row f k) from_events + tot (in_row f k) from_start
          → tot (in_row f k) from_events ≡ tot (λ (ev : ℕ × Token). row P f k ev.1.to (charge P ev.1.to)) events
          → tot (in_row f k) from_start ≡ tot (λ (t : Token). row P f k t.to (weight P t)) first.pool
          → tot (λ (ev : ℕ × Token). row P f k ev.1.to (charge P ev.1.to)) events
          ≤ tot (λ (ev : ℕ × Token). unless (is_at f k Left ev.1.to) (left_charge P k)) events
          + tot (λ (ev : ℕ × Token). unless (is_at f k Right ev.1.to) (right_charge P k)) events
          → tot (in_row f k) things ≤ 6
      go (inr seldom) a b c d =
          let l = once_tot (λ (ev : ℕ × Token). is_at f k Left ev.1.to) (left_charge P k) events (port_once f k Left seldom) in
          let r = once_tot (λ (ev : ℕ × Token). is_at f k Right ev.1.to) (right_charge P k) events (port_once f k Right seldom) in
          let s = two_charges P (instr_at P k) in
          let u = seldom_row P f k seldom 0 (first_of P P.main) Left (Word.Back (Cont.Host 0)) in
          let v = seldom_inputs P f k seldom (first_of P P.main + 1) inputs in
          omega (arith, a, b, c, d, l, r, s, u, v)
      go (inl much) a b c d =
          let none : (q : Port) (n : ℕ) → n ≡ 0
          → tot (λ (ev : ℕ × Token). unless (is_at f k q ev.1.to) n) events ≡ 0 =
          (λ q n e. tot_zero (λ (ev : ℕ × Token). unless (is_at f k q ev.1.to) n) events (λ ev. nothing (is_at f k q ev.1.to) n e)) in
          let l = none Left (left_charge P k) (often_charges P (instr_at P k) Left much) in
          let r = none Right (right_charge P k) (often_charges P (instr_at P k) Right much) in
          let u = row_le P f k (To.Instr 0 (first_of P P.main) Left) (weight P (token (To.Instr 0 (first_of P P.main) Left) (Word.Back (Cont.Host 0)))) in
          let v = few_inputs P f k (first_of P P.main + 1) inputs in
          let w = instr_few (instr_at P (first_of P P.main)) (Word.Back (Cont.Host 0)) in
          omega (arith, a, b, c, d, l, r, u, v, w)
        where
          nothing : (b : Bool) (n : ℕ) → n ≡ 0 → unless b n ≡ 0
          nothing true n e = e
          nothing false n e = refl

  -- what is met
  abbrev IsMet : Thing → Type 0
  IsMet x = (w : Word) × Contains (met events m) (token x.0 w)

  events_met : (later : Events) → ((t : Token) → Contains (map (λ (ev : ℕ × Token). ev.1) later) t → Contains (met events m) t)
      → Each IsMet (map (λ (ev : ℕ × Token). (ev.1.to, charge P ev.1.to)) later)
  events_met [] h = tt
  events_met (ev ∷ later) h = (
    (ev.1.word, h ev.1 (contains_head ev.1 (map (λ (ev : ℕ × Token). ev.1) later))),
    events_met later (λ t inside. h t (contains_tail ev.1 (map (λ (ev : ℕ × Token). ev.1) later) t inside)),
  )

  tokens_met : (ts : List Token) → ((t : Token) → Contains ts t → Contains (met events m) t) → Each IsMet (map (λ (t : Token). (t.to, weight P t)) ts)
  tokens_met [] h = tt
  tokens_met (t ∷ ts) h = ((t.word, h t (contains_head t ts)), tokens_met ts (λ u inside. h u (contains_tail t ts u inside)))

  things_met : Each IsMet things
  things_met =
      each_append IsMet from_events from_start (events_met events (λ t inside. Contains-append_left (map (λ (ev : ℕ × Token). ev.1) events) m.pool t inside))
      (tokens_met first.pool (λ t inside. still_met P z first events m run t inside))

  -- one frame's tokens are of one block
  of_instr : (f : ℕ) (to : To) → frame_is f to ≡ true → (ip : ℕ) × (q : Port) × (to ≡ To.Instr f ip q)
  of_instr f (To.Instr g ip q) e = (ip, q, ap (λ (x : ℕ). To.Instr x ip q) (eqb-true g f e))
  of_instr f (To.Fetch x) e = absurd (true≢false (sym e))
  of_instr f (To.Store x v) e = absurd (true≢false (sym e))
  of_instr f To.Manager e = absurd (true≢false (sym e))
  of_instr f (To.Release g) e = absurd (true≢false (sym e))
  of_instr f (To.Host j) e = absurd (true≢false (sym e))

  some_or_none : (f : ℕ) (xs : List Thing) → Each IsMet xs
      → ((ip : ℕ) × (q : Port) × (w : Word) × Contains (met events m) (token (To.Instr f ip q) w)) ⊎ (tot (λ x. unless (of_frame f x) (amount x)) xs ≡ 0)
  some_or_none f [] h = inr refl
  some_or_none f (x ∷ xs) h = go (cases_Bool (frame_is f x.0)) (some_or_none f xs h.1)
    where
      go : (frame_is f x.0 ≡ true) ⊎ (frame_is f x.0 ≡ false)
          → ((ip : ℕ) × (q : Port) × (w : Word) × Contains (met events m) (token (To.Instr f ip q) w)) ⊎ (tot (λ x. unless (of_frame f x) (amount x)) xs ≡ 0)
          → ((ip : ℕ) × (q : Port) × (w : Word) × Contains (met events m) (token (To.Instr f ip q) w))
          ⊎ (tot (λ x. unless (of_frame f x) (amount x)) (x ∷ xs) ≡ 0)
      go (inl e) more = let o = of_instr f x.0 e in inl (o.0, o.1, h.0.0, subst (λ (to : To). Contains (met events m) (token to h.0.0)) o.2 h.0.1)
      go (inr e) (inl some) = inl some
      go (inr e) (inr none) = let a = ap (λ (b : Bool). unless b x.1) e in inr (omega (arith, a, none))

  in_block : (f ip : ℕ) (q : Port) (w : Word) → Contains (met events m) (token (To.Instr f ip q) w) → (xs : List Thing) → Each IsMet xs
      → Each (λ x. (unless (of_frame f x) (amount x) ≡ 0)
      ⊎ ((block_from P.blocks ip ≤ ip_in x.0) × (ip_in x.0 < block_from P.blocks ip + block_size P.blocks ip))) xs
  in_block f ip q w here [] h = tt
  in_block f ip q w here (x ∷ xs) h = (go (cases_Bool (frame_is f x.0)), in_block f ip q w here xs h.1)
    where
      go : (frame_is f x.0 ≡ true) ⊎ (frame_is f x.0 ≡ false)
          → (unless (of_frame f x) (amount x) ≡ 0) ⊎ ((block_from P.blocks ip ≤ ip_in x.0) × (ip_in x.0 < block_from P.blocks ip + block_size P.blocks ip))
      go (inr e) = inl (ap (λ (b : Bool). unless b x.1) e)
      go (inl e) =
          let o = of_instr f x.0 e in
          let there : Contains (met events m) (token (To.Instr f o.0 o.1) h.0.0) = subst (λ (to : To). Contains (met events m) (token to h.0.0)) o.2 h.0.1 in
          let r = block_range P.blocks ip o.0 (O.block f ip o.0 q o.1 w h.0.0 here there) in
          let s : ip_in x.0 ≡ o.0 = ap ip_in o.2 in
          let r0 = r.0 in let r1 = r.1 in
          inr (omega (arith, r0, s), omega (arith, r1, s))

  abbrev most : ℕ
  most = 6 * largest P.blocks

  frame_few : (f : ℕ) → tot (λ x. unless (of_frame f x) (amount x)) things ≤ most
  frame_few f = go (some_or_none f things things_met)
    where
      go : ((ip : ℕ) × (q : Port) × (w : Word) × Contains (met events m) (token (To.Instr f ip q) w)) ⊎ (tot (λ x. unless (of_frame f x) (amount x)) things ≡ 0)
          → tot (λ x. unless (of_frame f x) (amount x)) things ≤ most
      go (inr none) = omega (arith, none)
      go (inl (ip, q, w, here)) =
          let a = rows (λ x. ip_in x.0) (λ x. unless (of_frame f x) (amount x)) (block_from P.blocks ip) (block_size P.blocks ip) things
          (in_block f ip q w here things things_met) (row_few f) in
          let b = size_few P.blocks ip in
          omega (arith, a, b)

  -- and there are few frames
  abbrev gone : List ℕ
  gone = 0 ∷ handed P z first events m run

  no_amount : (gs : List ℕ) (x : Thing) → amount x ≡ 0 → HasGroup amount of_frame gs x
  no_amount [] x e = e
  no_amount (g ∷ gs) x e = inr (no_amount gs x e)

  its_group : (gs : List ℕ) (f ip : ℕ) (q : Port) (n : ℕ) → Contains gs f → HasGroup amount of_frame gs (To.Instr f ip q, n)
  its_group [] f ip q n c = absurd (contains_none f c)
  its_group (g ∷ gs) f ip q n c = go (contains_cases g gs f c) (λ c. its_group gs f ip q n c)
    where
      go : (g ≡ f) ⊎ Contains gs f → (Contains gs f → HasGroup amount of_frame gs (To.Instr f ip q, n)) → HasGroup amount of_frame (g ∷ gs) (To.Instr f ip q, n)
      go (inl e) more = inl (eq-eqb f g (sym e))
      go (inr c) more = inr (more c)

  event_group : (gs : List ℕ) (to : To) → InFrame gs to → HasGroup amount of_frame gs (to, charge P to)
  event_group gs (To.Instr f ip q) c = its_group gs f ip q (charge P (To.Instr f ip q)) c
  event_group gs (To.Fetch x) c = no_amount gs (To.Fetch x, 0) refl
  event_group gs (To.Store x v) c = no_amount gs (To.Store x v, 0) refl
  event_group gs To.Manager c = no_amount gs (To.Manager, 0) refl
  event_group gs (To.Release f) c = no_amount gs (To.Release f, 0) refl
  event_group gs (To.Host j) c = no_amount gs (To.Host j, 0) refl

  events_group : (gs : List ℕ) (later : Events) → Each (λ (ev : ℕ × Token). InFrame gs ev.1.to) later
      → Each (HasGroup amount of_frame gs) (map (λ (ev : ℕ × Token). (ev.1.to, charge P ev.1.to)) later)
  events_group gs [] h = tt
  events_group gs (ev ∷ later) h = (event_group gs ev.1.to h.0, events_group gs later h.1)

  inputs_group : (ip : ℕ) (xs : List ℤ) → Each (HasGroup amount of_frame gone) (map (λ (t : Token). (t.to, weight P t)) (input_tokens ip xs))
  inputs_group ip [] = tt
  inputs_group ip (x ∷ xs) = (inl (eq-eqb 0 0 refl), inputs_group (ip + 1) xs)

  things_group : Each (HasGroup amount of_frame gone) things
  things_group =
      each_append (HasGroup amount of_frame gone) from_events from_start (events_group gone events (framed p z inputs start orderly events m run))
      (inl (eq-eqb 0 0 refl), inputs_group (first_of P P.main + 1) inputs)

  pub bounded : IsBounded P events
  bounded =
      let N : ℕ = tot (λ (ev : ℕ × Token). reach P ev.1.to) events in
      let a = run_pays P few N z first events m run (all_reached P N events (omega arith)) in
      let b = groups amount of_frame most gone things things_group frame_few in
      let c = tot_append amount from_events from_start in
      let d = tot_map (λ (ev : ℕ × Token). (ev.1.to, charge P ev.1.to)) amount events in
      let e = tot_map (λ (t : Token). (t.to, weight P t)) amount first.pool in
      let f = few_handed P z first events m run in
      let g = empty_below N N in
      let h = nothing_below N in
      let many : length gone ≤ 1 + request_count events = omega (arith, f) in
      let wide : most ≤ 6 * (largest P.blocks + 1) = omega arith in
      let k : length gone * most ≤ (1 + request_count events) * most = mul-le-mul_right most many in
      let l : (1 + request_count events) * most ≤ (1 + request_count events) * (6 * (largest P.blocks + 1)) = mul-le-mul_left (1 + request_count events) wide in
      let q : (1 + request_count events) * (6 * (largest P.blocks + 1)) ≡ 6 * (largest P.blocks + 1) * (1 + request_count events) =
      mul_comm (1 + request_count events) (6 * (largest P.blocks + 1)) in
      omega (arith, a, b, c, d, e, g, h, k, l, q)

pub orderly_is_bounded : OrderlyIsBounded
orderly_is_bounded p orderly few inputs z events m start run once = bounded p inputs z start orderly few events m run once
