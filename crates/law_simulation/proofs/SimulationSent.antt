-- What an instruction sends in its new place, beside what it sent: to its destinations, and to others.
use Rattle.std.proofs.Common.{◌≡◌, refl, sym, ap, ◌∙◌, subst, ℕ, zero, suc, ◌+◌, ◌-◌, Bool, true, false, List, [], ◌∷◌, ◌++◌, map, Option, Some, None}
use Rattle.std.specs.Prelude.{if◌then◌else◌, nat_lt, ◌==◌, take, ⊤}
use Rattle.tags.specs.declared.value.Value.{Value}
use Rattle.tags.specs.declared.value.Value.TheVariants.{Int}
use Rattle.tags.specs.declared.value.Origin.{Origin}
use Rattle.tags.specs.declared.token.Port.{Port}
use Rattle.tags.specs.declared.token.Port.TheVariants.{Left, Right}
use Rattle.tags.specs.declared.token.Cont.{Cont}
use Rattle.tags.specs.declared.token.Word.{Word}
use Rattle.tags.specs.declared.token.To.{To}
use Rattle.tags.specs.declared.token.Token.{Token}
use Rattle.tags.specs.declared.slot.SlotState.{SlotState}
use Rattle.tags.specs.declared.slot.SlotState.TheVariants as Slot
use Rattle.tags.specs.declared.slot.SlotState.TheVariants.{Empty, Credits, Waiter, Draining}
use Rattle.operators.specs.Values.{truth, apply1, apply2, Indexed, Place, Outside, index_in}
use Rattle.semantics.specs.declared.program.Dest.{Dest}
use Rattle.semantics.specs.declared.program.Op.{Op}
use Rattle.semantics.specs.declared.program.Op.TheVariants.{Apply1, Apply2, Apply2Right, Apply2Left, Lit, Copy, Sync, Switch, Fetch, Store, Frame, Link, Send}
use Rattle.semantics.specs.declared.program.Op.TheVariants.{Return, Ask, Open, Take, Give, Drain, Release}
use Rattle.semantics.specs.Program.{Instr, Program, first_of}
use Rattle.semantics.specs.Rule.{token, signal, Point, at_dest, to_each, to_all, beyond, answer_to, landing_at, Outcome, Becomes, Excluded, fires, array_len}
use Rattle.semantics.specs.Rule.{asks_for, puts, fire_one, fire_two, meets, signal_to, opens, takes, gives, drains, alone, on_left, outcome_of}
use Rattle.std.proofs.Common.{◌≡◌, refl, sym, ap, ◌∙◌, subst, ℕ, zero, suc, ◌+◌, ◌-◌, Bool, true, false, List, [], ◌∷◌, ◌++◌, map, Option, Some, None}
use Rattle.std.specs.Prelude.{if◌then◌else◌, nat_lt, ◌==◌, take, sum, slice_index_or, ⊤}
use Rattle.semantics.specs.Program.{Instr, Program, first_of}
use Rattle.semantics.specs.Rule.{token, signal, Point, at_dest, to_each, to_all, beyond, back_to, answer_to, landing_at, Outcome, Becomes, Excluded, fires}
use Rattle.semantics.specs.Rule.{array_base, array_len, asks_for, puts, fire_one, fire_two, meets, signal_to, opens, takes, gives, drains, alone, on_left}
use Rattle.semantics.specs.Rule.{outcome_of}
use Rattle.law_fresh_frames.specs.Alike.{plain_dests}
use Rattle.lemmas.proofs.Contains.{contains_cases, contains_head, contains_none, contains_tail}
use Rattle.std.proofs.Common.{Contains, ◌⊎◌, inl, inr}
use Rattle.law_simulation.specs.Places.{ip_cont, ip_slot, ip_token, ip_word, is_answered}
use Rattle.law_simulation.specs.Simulates.{Arrives, Enters, Fits, FitsSlot, FitsWord, Goes, IsMoved}
use Rattle.law_simulation.proofs.SimulationRules.{Made, Matches, back_moved, cons_clumped, none_clumped, one_clumped}

-- it sends to all its destinations, except for a `give` that leaves its slot filled
abbrev pub SendsAll : Op → SlotState → Type 0
SendsAll (Give k) v = v ≡ Empty
SendsAll Switch v = ⊥
SendsAll (Fetch n) v = ⊥
SendsAll (Store n) v = ⊥
SendsAll Frame v = ⊥
SendsAll (Ask o) v = ⊥
SendsAll (Link b) v = ⊥
SendsAll (Take k) v = ⊥
SendsAll (Release o) v = ⊥
SendsAll op v = ⊤

-- it sends to none of them
abbrev pub SendsNone : Op → SlotState → Type 0
SendsNone (Give k) v = v ≡ Empty → ⊥
SendsNone (Take k) v = ⊤
SendsNone (Release o) v = ⊤
SendsNone op v = ⊥

-- it asks one other for an answer
abbrev pub AsksOne : Op → Type 0
AsksOne (Fetch n) = ⊤
AsksOne (Store n) = ⊤
AsksOne Frame = ⊤
AsksOne (Ask o) = ⊤
AsksOne op = ⊥

-- what others get is at what stands for itself
module _ (p q : Program) (h : ℕ → ℕ) where
  abbrev pub AllFits : List Token → Type 0
  AllFits ts = (t : Token) → Contains ts t → Fits p q h t.to

  none_fit : AllFits []
  none_fit t k = absurd (contains_none t k)

  more_fit : (u : Token) (ts : List Token) → Fits p q h u.to → AllFits ts → AllFits (u ∷ ts)
  more_fit u ts one all t k = go (contains_cases u ts t k)
    where
      go : (u ≡ t) ⊎ Contains ts t → Fits p q h t.to
      go (inl e) = subst (λ (t : Token). Fits p q h t.to) e one
      go (inr c) = all t c

  pub one_fits : (u : Token) → Fits p q h u.to → AllFits (u ∷ [])
  one_fits u one = more_fit u [] one none_fit

module _ (p q : Program) (g h : ℕ → ℕ) (arrays : q.arrays ≡ p.arrays) (f a : ℕ) (i : Instr) (M : IsMoved p q g h a i) where
  abbrev s : Point
  s = record { frame = f; ip = a }

  abbrev s2 : Point
  s2 = record { frame = f; ip = h a }

  abbrev j : Instr
  j = M.j

  answer_moved : is_answered i.op ≡ true → answer_to s2 j.firsts ≡ ip_cont h (answer_to s i.firsts)
  answer_moved is =
      let m = M.answered is in
      ap (answer_to s2) m.3 ∙ (λ k. Cont.Frame f (sym m.4 k) (m.5 k)) ∙ sym (ap (λ (l : List Dest). ip_cont h (answer_to s l)) m.2)

  landing_moved : is_answered i.op ≡ true → landing_at s2 j.firsts ≡ ip_cont h (landing_at s i.firsts)
  landing_moved is =
      let m = M.answered is in
      ap (landing_at s2) m.3 ∙ (λ k. Cont.Frame f (sym m.4 k) Left) ∙ sym (ap (λ (l : List Dest). ip_cont h (landing_at s l)) m.2)

  lens : (n : ℕ) → array_len q n ≡ array_len p n
  lens n = ap (λ (l : List ℕ). slice_index_or l n 0) arrays

  bases : (n : ℕ) → array_base q n ≡ array_base p n
  bases n = ap (λ (l : List ℕ). sum (take n l)) arrays

  index_moved : (n : ℕ) (v : Value) → index_in (array_len q n) v j.origin ≡ index_in (array_len p n) v i.origin
  index_moved n v = (λ k. index_in (lens n k) v (M.origin k))

  beyond_moved : (c : Cont) (o : ℕ) (w : Word) → Goes p q h (Return o) (Word.Back c)
      → token (beyond (ip_cont h c) o) (ip_word h w) ≡ ip_token h (token (beyond c o) w)
  beyond_moved (Cont.Frame g base r) o w G = (λ k. token (To.Instr g (sym G.0 k) Left) (ip_word h w))
  beyond_moved (Cont.Host n) o w G = refl

  abbrev pub moved_all : List Token → List Token
  moved_all ts = map (ip_token h) ts

  -- what it makes in its new place, beside what it made
  pub data Sent (v : SlotState) (old new : List Token) : Type 0 where
    quiet : old ≡ [] → new ≡ [] → Sent v old new
    sends : (w : Word) (pre : List Token) → AllFits p q h pre → SendsAll i.op v → old ≡ pre ++ to_all s w i
        → new ≡ moved_all pre ++ to_all s2 (ip_word h w) j → Sent v old new
    turns : (b : Bool) (w : Word) → i.op ≡ Switch → old ≡ to_each s w (if b then i.firsts else i.seconds)
        → new ≡ to_each s2 (ip_word h w) (if b then j.firsts else j.seconds) → Sent v old new
    -- an answered instruction asks, or answers itself
    asks : (u : Token) → Fits p q h u.to → AsksOne i.op → old ≡ u ∷ [] → new ≡ ip_token h u ∷ [] → Sent v old new
    links : (b k : ℕ) → i.op ≡ Link b → old ≡ token (To.Instr k (first_of p b) Left) (Word.Back (landing_at s i.firsts)) ∷ to_each s signal i.seconds
        → new ≡ ip_token h (token (To.Instr k (first_of p b) Left) (Word.Back (landing_at s i.firsts))) ∷ to_each s2 signal j.seconds → Sent v old new
    skips : AllFits p q h old → SendsNone i.op v → new ≡ moved_all old → Sent v old new

  abbrev pub SentAs : SlotState → Option (List Token) → Option (List Token) → Type 0
  SentAs v None o = o ≡ None
  SentAs v (Some old) o = (new : List Token) × (o ≡ Some new) × Sent v old new

  abbrev pub Tells : Outcome → Outcome → Type 0
  Tells (Excluded n) o = o ≡ Excluded n
  Tells (Becomes v old) o = (new : List Token) × (o ≡ Becomes (ip_slot h v) new) × Sent v old new

  fires_tells : (v : SlotState) (o n : Option (List Token)) → SentAs v o n → Tells (fires v o) (fires (ip_slot h v) n)
  fires_tells v None n e = ap (fires (ip_slot h v)) e
  fires_tells v (Some old) n e = (e.0, ap (fires (ip_slot h v)) e.1, e.2)

  all_by : (v : SlotState) (w u : Word) → SendsAll i.op v → u ≡ ip_word h w → SentAs v (Some (to_all s w i)) (Some (to_all s2 u j))
  all_by v w u S e = (to_all s2 (ip_word h w) j, ap (λ (u : Word). Some (to_all s2 u j)) e, sends w [] (none_fit p q h) S refl refl)

  first_sent : is_answered i.op ≡ true → AsksOne i.op → (v : SlotState) (w : Word)
      → SentAs v (Some (to_each s w (take 1 i.firsts))) (Some (to_each s2 (ip_word h w) (take 1 j.firsts)))
  first_sent is A v w =
      let m = M.answered is in (
        to_each s2 (ip_word h w) (take 1 j.firsts),
        refl,
        asks (at_dest s w m.0) m.6 A (ap (λ (l : List Dest). to_each s w (take 1 l)) m.2)
            (ap (λ (l : List Dest). to_each s2 (ip_word h w) (take 1 l)) m.3 ∙ (λ k. token (To.Instr f (sym m.4 k) (m.5 k)) (ip_word h w) ∷ [])),
      )

  one_sent : (v : SlotState) (u : Token) (t : Token) → Fits p q h u.to → AsksOne i.op → t ≡ ip_token h u → SentAs v (Some (u ∷ [])) (Some (t ∷ []))
  one_sent v u t F A e = (t ∷ [], refl, asks u F A refl (ap (λ (t : Token). t ∷ []) e))

  asks_sent : is_answered i.op ≡ true → AsksOne i.op → (v : SlotState) (n : ℕ) (x : Indexed) → SentAs v (Some (asks_for p s i n x)) (Some (asks_for q s2 j n x))
  asks_sent is A v n (Outside w) = first_sent is A v (Word.Val w)
  asks_sent is A v n (Place x) = one_sent v _ _ tt A (λ k. token (To.Fetch (bases n k + x)) (Word.Back (answer_moved is k)))

  puts_sent : is_answered i.op ≡ true → AsksOne i.op → (v : SlotState) (n : ℕ) (u : Value) (x : Indexed)
      → SentAs v (Some (puts p s i n u x)) (Some (puts q s2 j n u x))
  puts_sent is A v n u (Outside w) = first_sent is A v (Word.Val w)
  puts_sent is A v n u (Place x) = one_sent v _ _ tt A (λ k. token (To.Store (bases n k + x) u) (Word.Back (answer_moved is k)))

  asking : (op : Op) → i.op ≡ op → AsksOne op → AsksOne i.op
  asking op e A = subst AsksOne (sym e) A

  by_op : (op : Op) (v : SlotState) → i.op ≡ op → SendsAll op v → SendsAll i.op v
  by_op op v e S = subst (λ (op : Op). SendsAll op v) (sym e) S

  one_tells : (v : SlotState) (op : Op) → i.op ≡ op → (w : Word) → SentAs v (fire_one p s i op w) (fire_one q s2 j op (ip_word h w))
  one_tells v (Apply1 op) e (Word.Val u) = all_by v (Word.Val (apply1 op u)) _ (by_op (Apply1 op) v e tt) refl
  one_tells v (Apply2Right op z) e (Word.Val u) =
      all_by v (Word.Val (apply2 op u (Int z) i.origin)) (Word.Val (apply2 op u (Int z) j.origin)) (by_op (Apply2Right op z) v e tt)
      (ap (λ (o : Origin). Word.Val (apply2 op u (Int z) o)) M.origin)
  one_tells v (Apply2Left op z) e (Word.Val u) =
      all_by v (Word.Val (apply2 op (Int z) u i.origin)) (Word.Val (apply2 op (Int z) u j.origin)) (by_op (Apply2Left op z) v e tt)
      (ap (λ (o : Origin). Word.Val (apply2 op (Int z) u o)) M.origin)
  one_tells v (Lit z) e w = all_by v (Word.Val (Int z)) _ (by_op (Lit z) v e tt) refl
  one_tells v Copy e w = all_by v w _ (by_op Copy v e tt) refl
  one_tells v (Fetch n) e (Word.Val u) =
      subst (λ (x : Indexed). SentAs v (Some (asks_for p s i n (index_in (array_len p n) u i.origin))) (Some (asks_for q s2 j n x))) (sym (index_moved n u))
      (asks_sent (ap is_answered e) (asking (Fetch n) e tt) v n (index_in (array_len p n) u i.origin))
  one_tells v Frame e w = one_sent v _ _ tt (asking Frame e tt) (ap (λ (c : Cont). token To.Manager (Word.Back c)) (answer_moved (ap is_answered e)))
  one_tells v (Link b) e (Word.Frame k) =
      let en = (subst (Enters p q h) e M.enters).0 in (
        token (To.Instr k (first_of q b) Left) (Word.Back (landing_at s2 j.firsts)) ∷ to_each s2 signal j.seconds,
        refl,
        links b k e refl (λ n. token (To.Instr k (sym en n) Left) (Word.Back (landing_moved (ap is_answered e) n)) ∷ to_each s2 signal j.seconds),
      )
  one_tells v op e w = refl

  goes_fits : (o : ℕ) (c : Cont) → Goes p q h (Return o) (Word.Back c) → Fits p q h (beyond c o)
  goes_fits o (Cont.Frame k n t) G = G.1
  goes_fits o (Cont.Host m) G = tt

  goes_ask : (o : ℕ) (c : Cont) → Goes p q h (Ask o) (Word.Back c) → Goes p q h (Return o) (Word.Back c)
  goes_ask o (Cont.Frame k n t) G = G
  goes_ask o (Cont.Host m) G = G

  goes_release : (o : ℕ) (c : Cont) → Goes p q h (Release o) (Word.Back c) → Goes p q h (Return o) (Word.Back c)
  goes_release o (Cont.Frame k n t) G = G
  goes_release o (Cont.Host m) G = G

  two_tells : (op : Op) → i.op ≡ op → (l r : Word) → Goes p q h op l → SentAs Empty (fire_two p s i op l r) (fire_two q s2 j op (ip_word h l) (ip_word h r))
  two_tells (Apply2 op) e (Word.Val v) (Word.Val w) G =
      all_by Empty (Word.Val (apply2 op v w i.origin)) (Word.Val (apply2 op v w j.origin)) (by_op (Apply2 op) Empty e tt)
      (ap (λ (o : Origin). Word.Val (apply2 op v w o)) M.origin)
  two_tells Sync e l r G = all_by Empty signal _ (by_op Sync Empty e tt) refl
  two_tells Switch e l (Word.Val v) G = (to_each s2 (ip_word h l) (if truth v then j.firsts else j.seconds), refl, turns (truth v) l e refl refl)
  two_tells (Store n) e (Word.Val v) (Word.Val w) G =
      subst (λ (x : Indexed). SentAs Empty (Some (puts p s i n w (index_in (array_len p n) v i.origin))) (Some (puts q s2 j n w x))) (sym (index_moved n v))
      (puts_sent (ap is_answered e) (asking (Store n) e tt) Empty n w (index_in (array_len p n) v i.origin))
  two_tells (Send b n) e (Word.Frame k) w G =
      let here = subst (Enters p q h) e M.enters in
      let en = here.0 in (
        token (To.Instr k (first_of q b + n) Left) (ip_word h w) ∷ to_all s2 signal j,
        refl,
        sends signal (token (To.Instr k (first_of p b + n) Left) w ∷ []) (one_fits p q h _ here.1) (by_op (Send b n) Empty e tt) refl
            (λ n. token (To.Instr k (sym en n) Left) (ip_word h w) ∷ to_all s2 signal j),
      )
  two_tells (Return o) e (Word.Back c) (Word.Val v) G = (
    token (beyond (ip_cont h c) o) (Word.Val v) ∷ to_all s2 signal j,
    refl,
    sends signal (token (beyond c o) (Word.Val v) ∷ []) (one_fits p q h _ (goes_fits o c G)) (by_op (Return o) Empty e tt) refl
        (ap (λ (t : Token). t ∷ to_all s2 signal j) (beyond_moved c o (Word.Val v) G)),
  )
  two_tells (Ask o) e (Word.Back c) w G =
      one_sent Empty (token (beyond c o) (Word.Back (answer_to s i.firsts))) (token (beyond (ip_cont h c) o) (Word.Back (answer_to s2 j.firsts)))
      (goes_fits o c (goes_ask o c G)) (asking (Ask o) e tt)
      (ap (λ (k : Cont). token (beyond (ip_cont h c) o) (Word.Back k)) (answer_moved (ap is_answered e))
      ∙ beyond_moved c o (Word.Back (answer_to s i.firsts)) (goes_ask o c G))
  two_tells (Release o) e (Word.Back c) w G = (
    token (To.Release f) signal ∷ token (beyond (ip_cont h c) o) signal ∷ [],
    refl,
    skips (more_fit p q h (token (To.Release f) signal) (token (beyond c o) signal ∷ []) tt
        (one_fits p q h (token (beyond c o) signal) (goes_fits o c (goes_release o c G)))) (subst (λ (op : Op). SendsNone op Empty) (sym e) tt)
        (ap (λ (t : Token). token (To.Release f) signal ∷ t ∷ []) (beyond_moved c o signal (goes_release o c G))),
  )
  two_tells op e l r G = refl

  one_here : (v : SlotState) (w : Word) → SentAs v (fire_one p s i i.op w) (fire_one q s2 j j.op (ip_word h w))
  one_here v w = subst (λ (op : Op). SentAs v (fire_one p s i i.op w) (fire_one q s2 j op (ip_word h w))) (sym M.op) (one_tells v i.op refl w)

  two_here : (l r : Word) → Goes p q h i.op l → SentAs Empty (fire_two p s i i.op l r) (fire_two q s2 j j.op (ip_word h l) (ip_word h r))
  two_here l r G =
      subst (λ (op : Op). SentAs Empty (fire_two p s i i.op l r) (fire_two q s2 j op (ip_word h l) (ip_word h r))) (sym M.op) (two_tells i.op refl l r G)

  meets_tells : (slot : SlotState) (r : Port) (w : Word) → Arrives p q h i.op slot r w
      → Tells (meets p s i slot r w) (meets q s2 j (ip_slot h slot) r (ip_word h w))
  meets_tells Empty Left w A = ([], refl, quiet refl refl)
  meets_tells Empty Right w A = ([], refl, quiet refl refl)
  meets_tells (Slot.Left l) Right w A = fires_tells Empty (fire_two p s i i.op l w) (fire_two q s2 j j.op (ip_word h l) (ip_word h w)) (two_here l w A)
  meets_tells (Slot.Right l) Left w A = fires_tells Empty (fire_two p s i i.op w l) (fire_two q s2 j j.op (ip_word h w) (ip_word h l)) (two_here w l A)
  meets_tells (Slot.Left l) Left w A = refl
  meets_tells (Slot.Right l) Right w A = refl
  meets_tells (Credits n) r w A = refl
  meets_tells (Waiter c) r w A = refl
  meets_tells (Draining n) r w A = refl

  if_tells : (b : Bool) (x y u v : Outcome) → Tells x u → Tells y v → Tells (if b then x else y) (if b then u else v)
  if_tells true x y u v m n = m
  if_tells false x y u v m n = n

  opens_tells : (k : ℕ) → i.op ≡ Open k → (slot : SlotState) → Tells (opens s i k slot) (opens s2 j k (ip_slot h slot))
  opens_tells k e Empty = (to_all s2 signal j, refl, sends signal [] (none_fit p q h) (by_op (Open k) (Credits (k - 1)) e tt) refl refl)
  opens_tells k e slot = refl

  signal_sent : (v : SlotState) (c : Cont) → Fits p q h (back_to c) → SendsNone i.op v → Sent v (signal_to c) (signal_to (ip_cont h c))
  signal_sent v c F S = skips (one_fits p q h _ F) S (ap (λ (t : Token). t ∷ []) (back_moved p q g h c signal))

  takes_tells : (k : ℕ) → i.op ≡ Take k → (slot : SlotState) (w : Word) → FitsWord p q h w → Tells (takes slot w) (takes (ip_slot h slot) (ip_word h w))
  takes_tells k e (Credits zero) (Word.Back c) F = ([], refl, quiet refl refl)
  takes_tells k e (Credits (suc n)) (Word.Back c) F =
      (signal_to (ip_cont h c), refl, signal_sent (Credits n) c F (subst (λ (op : Op). SendsNone op (Credits n)) (sym e) tt))
  takes_tells k e (Credits n) w F = refl
  takes_tells k e slot w F = refl

  full_credits : (n : ℕ) → Credits n ≡ Empty → ⊥
  full_credits n e = cc

  gives_tells : (k : ℕ) → i.op ≡ Give k → (slot : SlotState) → FitsSlot p q h slot → Tells (gives s i k slot) (gives s2 j k (ip_slot h slot))
  gives_tells k e (Credits n) F = if_tells (nat_lt n k) (Becomes (Credits (n + 1)) []) (Excluded 3) _ _ ([], refl, quiet refl refl) refl
  gives_tells k e (Waiter c) F =
      (signal_to (ip_cont h c), refl, signal_sent (Credits 0) c F (subst (λ (op : Op). SendsNone op (Credits 0)) (sym e) (full_credits 0)))
  gives_tells k e (Draining zero) F = refl
  gives_tells k e (Draining (suc zero)) F = (to_all s2 signal j, refl, sends signal [] (none_fit p q h) (by_op (Give k) Empty e refl) refl refl)
  gives_tells k e (Draining (suc (suc n))) F = ([], refl, quiet refl refl)
  gives_tells k e slot F = refl

  drains_tells : (k : ℕ) → i.op ≡ Drain k → (slot : SlotState) → Tells (drains s i k slot) (drains s2 j k (ip_slot h slot))
  drains_tells k e (Credits n) =
      if_tells (n == k) (Becomes Empty (to_all s signal i)) (if nat_lt n k then Becomes (Draining (k - n)) [] else Excluded 3) _ _
      (to_all s2 signal j, refl, sends signal [] (none_fit p q h) (by_op (Drain k) Empty e tt) refl refl)
      (if_tells (nat_lt n k) (Becomes (Draining (k - n)) []) (Excluded 3) _ _ ([], refl, quiet refl refl) refl)
  drains_tells k e slot = refl

  alone_tells : (slot : SlotState) (r : Port) (w : Word) → Tells (alone p s i slot r w) (alone q s2 j (ip_slot h slot) r (ip_word h w))
  alone_tells slot Left w = fires_tells slot (fire_one p s i i.op w) (fire_one q s2 j j.op (ip_word h w)) (one_here slot w)
  alone_tells slot Right w = refl

  left_tells : (r : Port) (x y : Outcome) → Tells x y → Tells (on_left r x) (on_left r y)
  left_tells Left x y m = m
  left_tells Right x y m = refl

  pub outcome_tells : (op : Op) → i.op ≡ op → (slot : SlotState) (r : Port) (w : Word) → Arrives p q h i.op slot r w → FitsSlot p q h slot → FitsWord p q h w
      → Tells (outcome_of p s i op slot r w) (outcome_of q s2 j op (ip_slot h slot) r (ip_word h w))
  outcome_tells (Apply2 op) e slot r w A B C = meets_tells slot r w A
  outcome_tells Sync e slot r w A B C = meets_tells slot r w A
  outcome_tells Switch e slot r w A B C = meets_tells slot r w A
  outcome_tells (Store n) e slot r w A B C = meets_tells slot r w A
  outcome_tells (Send b n) e slot r w A B C = meets_tells slot r w A
  outcome_tells (Return o) e slot r w A B C = meets_tells slot r w A
  outcome_tells (Ask o) e slot r w A B C = meets_tells slot r w A
  outcome_tells (Release o) e slot r w A B C = meets_tells slot r w A
  outcome_tells (Open k) e slot r w A B C = left_tells r (opens s i k slot) (opens s2 j k (ip_slot h slot)) (opens_tells k e slot)
  outcome_tells (Take k) e slot r w A B C = left_tells r (takes slot w) (takes (ip_slot h slot) (ip_word h w)) (takes_tells k e slot w C)
  outcome_tells (Give k) e slot r w A B C = left_tells r (gives s i k slot) (gives s2 j k (ip_slot h slot)) (gives_tells k e slot B)
  outcome_tells (Drain k) e slot r w A B C = left_tells r (drains s i k slot) (drains s2 j k (ip_slot h slot)) (drains_tells k e slot)
  outcome_tells op e slot r w A B C = alone_tells slot r w

  -- what it sends in its new place
  pub rule_tells : (slot : SlotState) (r : Port) (w : Word) → Arrives p q h i.op slot r w → FitsSlot p q h slot → FitsWord p q h w
      → Tells (outcome_of p s i i.op slot r w) (outcome_of q s2 j j.op (ip_slot h slot) r (ip_word h w))
  rule_tells slot r w A B C =
      subst (λ (op : Op). Tells (outcome_of p s i i.op slot r w) (outcome_of q s2 j op (ip_slot h slot) r (ip_word h w))) (sym M.op)
      (outcome_tells i.op refl slot r w A B C)

  -- WHAT IT STANDS FOR
  pre_made : (pre new old : List Token) → AllFits p q h pre → Made p q g h new old → Made p q g h (moved_all pre ++ new) (pre ++ old)
  pre_made [] new old F K = K
  pre_made (t ∷ pre) new old F K =
      cons_clumped p q g h t (moved_all pre ++ new) (pre ++ old) (pre_made pre new old (λ u k. F u (contains_tail t pre u k)) K) (F t (contains_head t pre))

  all_made : (ts : List Token) → AllFits p q h ts → Made p q g h (moved_all ts) ts
  all_made [] F = none_clumped p q g h
  all_made (t ∷ ts) F = cons_clumped p q g h t (moved_all ts) ts (all_made ts (λ u k. F u (contains_tail t ts u k))) (F t (contains_head t ts))

  both : {old new : List Token} (us ts : List Token) → old ≡ us → new ≡ ts → Made p q g h ts us → Made p q g h new old
  both {old = old} us ts eo en K = subst (λ (l : List Token). Made p q g h l old) (sym en) (subst (Made p q g h ts) (sym eo) K)

  sent_made : (v : SlotState) (old new : List Token) → Sent v old new → Made p q g h new old
  sent_made v old new (quiet eo en) = both [] [] eo en (none_clumped p q g h)
  sent_made v old new (sends w pre F S eo en) = both _ _ eo en (pre_made pre (to_all s2 (ip_word h w) j) (to_all s w i) F (w, M.all.made f w))
  sent_made v old new (turns b w e eo en) = both _ _ eo en (side b)
    where
      side : (b : Bool) → Made p q g h (to_each s2 (ip_word h w) (if b then j.firsts else j.seconds)) (to_each s w (if b then i.firsts else i.seconds))
      side true = (w, (M.firsts e).made f w)
      side false = (w, (M.seconds.0 e).made f w)
  sent_made v old new (asks u F A eo en) = both (u ∷ []) (ip_token h u ∷ []) eo en (one_clumped p q g h u F)
  sent_made v old new (links b k e eo en) =
      both _ _ eo en (cons_clumped p q g h _ (to_each s2 signal j.seconds) (to_each s signal i.seconds) (signal, (M.seconds.1 b e).made f signal)
      (subst (Enters p q h) e M.enters).1)
  sent_made v old new (skips F S en) = subst (λ (l : List Token). Made p q g h l old) (sym en) (all_made old F)

  matches : (x y : Outcome) → Tells x y → Matches p q g h x y
  matches (Excluded n) y T = T
  matches (Becomes v old) y T = (T.0, T.1, sent_made v old T.0 T.2)

  -- the rule of the instruction in its new place
  pub rule_match : (slot : SlotState) (r : Port) (w : Word) → Arrives p q h i.op slot r w → FitsSlot p q h slot → FitsWord p q h w
      → Matches p q g h (outcome_of p s i i.op slot r w) (outcome_of q s2 j j.op (ip_slot h slot) r (ip_word h w))
  rule_match slot r w A B C = matches _ _ (rule_tells slot r w A B C)

  -- where it sends to all its destinations
  pub sends_plain : (op : Op) (v : SlotState) → SendsAll op v → (d : Dest) → Contains (j.firsts ++ j.seconds) d → Contains (plain_dests j op) d
  sends_plain (Link b) v S d c = absurd S
  sends_plain op v S d c = c

  pub sends_give : (op : Op) (v : SlotState) → SendsAll op v → (k : ℕ) → op ≡ Give k → v ≡ Empty
  sends_give op v S k e = subst (λ (op : Op). SendsAll op v) e S
