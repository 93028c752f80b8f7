-- Each continuation that a run of the old code carries names an instruction that stands for itself.
use Rattle.std.proofs.Common.{◌≡◌, refl, sym, ap, subst, ℕ, zero, suc, ◌+◌, ◌⊎◌, inl, inr, Bool, true, false, ℤ, List, [], ◌∷◌, ◌++◌, Option, Some, None}
use Rattle.std.proofs.Common.{Contains}
use Rattle.std.specs.Prelude.{if◌then◌else◌, nat_lt, ◌==◌, take, ⊤}
use Rattle.std.proofs.lemmas.List.Sorted.{Contains-permutation, IsPermutation-sym}
use Rattle.lemmas.proofs.Contains.{contains_cases, contains_none, contains_tail}
use Rattle.tags.specs.declared.value.Value.{Value}
use Rattle.tags.specs.declared.value.Value.TheVariants.{Int}
use Rattle.tags.specs.declared.token.Port.{Port}
use Rattle.tags.specs.declared.token.Port.TheVariants.{Left, Right}
use Rattle.tags.specs.declared.token.Cont.{Cont}
use Rattle.tags.specs.declared.token.Word.{Word}
use Rattle.tags.specs.declared.token.To.{To}
use Rattle.tags.specs.declared.token.Token.{Token}
use Rattle.tags.specs.declared.slot.SlotState.{SlotState}
use Rattle.tags.specs.declared.slot.SlotState.TheVariants as Slot
use Rattle.tags.specs.declared.slot.SlotState.TheVariants.{Empty, Credits, Waiter, Draining}
use Rattle.operators.specs.Values.{truth, Indexed, Place, Outside}
use Rattle.semantics.specs.declared.program.Dest.{Dest}
use Rattle.semantics.specs.declared.program.Op.{Op}
use Rattle.semantics.specs.declared.program.Op.TheVariants.{Apply1, Apply2, Apply2Right, Apply2Left, Lit, Copy, Sync, Switch, Fetch, Store, Frame, Link, Send}
use Rattle.semantics.specs.declared.program.Op.TheVariants.{Return, Ask, Open, Take, Give, Drain, Release}
use Rattle.semantics.specs.Program.{Instr, Program, first_of, instr_at}
use Rattle.semantics.specs.Rule.{token, signal, Point, at_dest, to_each, to_all, beyond, back_to, answer_to, landing_at, Outcome, Becomes, Excluded, fires}
use Rattle.semantics.specs.Rule.{asks_for, puts, fire_one, fire_two, meets, opens, takes, gives, drains, alone, on_left, outcome_of, rule_at, slot_of}
use Rattle.semantics.specs.Machine.{CellState, Vacant, Full, Deferred, Store as MStore, input_tokens, at_start, answer, answers, put_at, with_slot_in}
use Rattle.semantics.specs.Machine.{with_cell, slot_in, slot_used, Fires, Fetches, Stores, Happens}
use Rattle.law_simulation.specs.Places.{is_answered}
use Rattle.law_simulation.specs.Simulates.{Fits, FitsSlot, FitsWord, Plain}
use Rattle.law_simulation.proofs.SimulationEvents.{FitsAll, FitsCell, fits_more}

module _ (p q : Program) (g h : ℕ → ℕ) where
  abbrev pub AllFit : List Token → Type 0
  AllFit ts = (t : Token) → Contains ts t → FitsWord p q h t.word

  none_fit : AllFit []
  none_fit t k = absurd (contains_none t k)

  cons_fit : (t : Token) (ts : List Token) → FitsWord p q h t.word → AllFit ts → AllFit (t ∷ ts)
  cons_fit t ts one all x k = go (contains_cases t ts x k)
    where
      go : (t ≡ x) ⊎ Contains ts x → FitsWord p q h x.word
      go (inl e) = subst (λ (t : Token). FitsWord p q h t.word) e one
      go (inr k) = all x k

  pub all_one : (t : Token) → FitsWord p q h t.word → AllFit (t ∷ [])
  all_one t one = cons_fit t [] one none_fit

  each_fit : (s : Point) (w : Word) (ds : List Dest) → FitsWord p q h w → AllFit (to_each s w ds)
  each_fit s w [] fits = none_fit
  each_fit s w (d ∷ ds) fits = cons_fit (at_dest s w d) (to_each s w ds) fits (each_fit s w ds fits)

  answers_fit : (cs : List Cont) (v : Value) → AllFit (answers cs v)
  answers_fit [] v = none_fit
  answers_fit (c ∷ cs) v = cons_fit (answer c (Word.Val v)) (answers cs v) tt (answers_fit cs v)

  abbrev OutFits : Outcome → Type 0
  OutFits (Excluded n) = ⊤
  OutFits (Becomes v ts) = FitsSlot p q h v × AllFit ts

  abbrev MadeFits : Option (List Token) → Type 0
  MadeFits None = ⊤
  MadeFits (Some ts) = AllFit ts

  fires_fit : (v : SlotState) (o : Option (List Token)) → FitsSlot p q h v → MadeFits o → OutFits (fires v o)
  fires_fit v None a b = tt
  fires_fit v (Some ts) a b = (a, b)

  module _ (f a : ℕ) (i : Instr) (answered : is_answered i.op ≡ true → (d : Dest) × (i.firsts ≡ d ∷ []) × Plain p q h (a + d.ahead)) where
    abbrev s : Point
    s = record { frame = f; ip = a }

    answer_fits : is_answered i.op ≡ true → FitsWord p q h (Word.Back (answer_to s i.firsts))
    answer_fits is = let m = answered is in subst (λ (ds : List Dest). FitsWord p q h (Word.Back (answer_to s ds))) (sym m.1) m.2

    landing_fits : is_answered i.op ≡ true → FitsWord p q h (Word.Back (landing_at s i.firsts))
    landing_fits is = let m = answered is in subst (λ (ds : List Dest). FitsWord p q h (Word.Back (landing_at s ds))) (sym m.1) m.2

    asks_fit : is_answered i.op ≡ true → (n : ℕ) (x : Indexed) → AllFit (asks_for p s i n x)
    asks_fit is n (Outside v) = each_fit s (Word.Val v) (take 1 i.firsts) tt
    asks_fit is n (Place x) = all_one _ (answer_fits is)

    puts_fit : is_answered i.op ≡ true → (n : ℕ) (v : Value) (x : Indexed) → AllFit (puts p s i n v x)
    puts_fit is n v (Outside w) = each_fit s (Word.Val w) (take 1 i.firsts) tt
    puts_fit is n v (Place x) = all_one _ (answer_fits is)

    all_fit : (w : Word) → FitsWord p q h w → AllFit (to_all s w i)
    all_fit w fits = each_fit s w (i.firsts ++ i.seconds) fits

    one_fits : (op : Op) → i.op ≡ op → (w : Word) → FitsWord p q h w → MadeFits (fire_one p s i op w)
    one_fits (Apply1 op) e (Word.Val v) fits = all_fit _ tt
    one_fits (Apply2Right op z) e (Word.Val v) fits = all_fit _ tt
    one_fits (Apply2Left op z) e (Word.Val v) fits = all_fit _ tt
    one_fits (Lit z) e w fits = all_fit _ tt
    one_fits Copy e w fits = all_fit w fits
    one_fits (Fetch n) e (Word.Val v) fits = asks_fit (ap is_answered e) n _
    one_fits Frame e w fits = all_one _ (answer_fits (ap is_answered e))
    one_fits (Link b) e (Word.Frame g) fits = cons_fit _ (to_each s signal i.seconds) (landing_fits (ap is_answered e)) (each_fit s signal i.seconds tt)
    one_fits op e w fits = tt

    side_fits : (b : Bool) (w : Word) → FitsWord p q h w → AllFit (to_each s w (if b then i.firsts else i.seconds))
    side_fits true w fits = each_fit s w i.firsts fits
    side_fits false w fits = each_fit s w i.seconds fits

    two_fits : (op : Op) → i.op ≡ op → (l r : Word) → FitsWord p q h l → FitsWord p q h r → MadeFits (fire_two p s i op l r)
    two_fits (Apply2 op) e (Word.Val v) (Word.Val w) a b = all_fit _ tt
    two_fits Sync e l r a b = all_fit _ tt
    two_fits Switch e l (Word.Val v) a b = side_fits (truth v) l a
    two_fits (Store n) e (Word.Val v) (Word.Val w) a b = puts_fit (ap is_answered e) n w _
    two_fits (Send k n) e (Word.Frame g) w a b = cons_fit _ (to_all s signal i) b (all_fit signal tt)
    two_fits (Return o) e (Word.Back c) (Word.Val v) a b = cons_fit _ (to_all s signal i) tt (all_fit signal tt)
    two_fits (Ask o) e (Word.Back c) w a b = all_one _ (answer_fits (ap is_answered e))
    two_fits (Release o) e (Word.Back c) w a b = cons_fit _ (token (beyond c o) signal ∷ []) tt (all_one _ tt)
    two_fits op e l r a b = tt

    meets_fit : (slot : SlotState) (r : Port) (w : Word) → FitsSlot p q h slot → FitsWord p q h w → OutFits (meets p s i slot r w)
    meets_fit Empty Left w a b = (b, none_fit)
    meets_fit Empty Right w a b = (b, none_fit)
    meets_fit (Slot.Left l) Right w a b = fires_fit Empty (fire_two p s i i.op l w) tt (two_fits i.op refl l w a b)
    meets_fit (Slot.Right l) Left w a b = fires_fit Empty (fire_two p s i i.op w l) tt (two_fits i.op refl w l b a)
    meets_fit (Slot.Left l) Left w a b = tt
    meets_fit (Slot.Right l) Right w a b = tt
    meets_fit (Credits n) r w a b = tt
    meets_fit (Waiter c) r w a b = tt
    meets_fit (Draining n) r w a b = tt

    if_fits : (b : Bool) (x y : Outcome) → OutFits x → OutFits y → OutFits (if b then x else y)
    if_fits true x y m n = m
    if_fits false x y m n = n

    opens_fit : (k : ℕ) (slot : SlotState) → OutFits (opens s i k slot)
    opens_fit k Empty = (tt, all_fit signal tt)
    opens_fit k slot = tt

    takes_fit : (slot : SlotState) (w : Word) → FitsWord p q h w → OutFits (takes slot w)
    takes_fit (Credits zero) (Word.Back c) b = (b, none_fit)
    takes_fit (Credits (suc n)) (Word.Back c) b = (tt, all_one (token (back_to c) signal) tt)
    takes_fit (Credits n) w b = tt
    takes_fit slot w b = tt

    gives_fit : (k : ℕ) (slot : SlotState) → OutFits (gives s i k slot)
    gives_fit k (Credits n) = if_fits (nat_lt n k) (Becomes (Credits (n + 1)) []) (Excluded 3) (tt, none_fit) tt
    gives_fit k (Waiter c) = (tt, all_one (token (back_to c) signal) tt)
    gives_fit k (Draining zero) = tt
    gives_fit k (Draining (suc zero)) = (tt, all_fit signal tt)
    gives_fit k (Draining (suc (suc n))) = (tt, none_fit)
    gives_fit k slot = tt

    drains_fit : (k : ℕ) (slot : SlotState) → OutFits (drains s i k slot)
    drains_fit k (Credits n) =
        if_fits (n == k) (Becomes Empty (to_all s signal i)) _ (tt, all_fit signal tt)
        (if_fits (nat_lt n k) (Becomes (Draining _) []) (Excluded 3) (tt, none_fit) tt)
    drains_fit k slot = tt

    alone_fits : (slot : SlotState) (r : Port) (w : Word) → FitsSlot p q h slot → FitsWord p q h w → OutFits (alone p s i slot r w)
    alone_fits slot Left w a b = fires_fit slot (fire_one p s i i.op w) a (one_fits i.op refl w b)
    alone_fits slot Right w a b = tt

    left_fits : (r : Port) (x : Outcome) → OutFits x → OutFits (on_left r x)
    left_fits Left x m = m
    left_fits Right x m = tt

    out_fits : (op : Op) (slot : SlotState) (r : Port) (w : Word) → FitsSlot p q h slot → FitsWord p q h w → OutFits (outcome_of p s i op slot r w)
    out_fits (Apply2 op) slot r w a b = meets_fit slot r w a b
    out_fits Sync slot r w a b = meets_fit slot r w a b
    out_fits Switch slot r w a b = meets_fit slot r w a b
    out_fits (Store n) slot r w a b = meets_fit slot r w a b
    out_fits (Send k n) slot r w a b = meets_fit slot r w a b
    out_fits (Return o) slot r w a b = meets_fit slot r w a b
    out_fits (Ask o) slot r w a b = meets_fit slot r w a b
    out_fits (Release o) slot r w a b = meets_fit slot r w a b
    out_fits (Open k) slot r w a b = left_fits r (opens s i k slot) (opens_fit k slot)
    out_fits (Take k) slot r w a b = left_fits r (takes slot w) (takes_fit slot w b)
    out_fits (Give k) slot r w a b = left_fits r (gives s i k slot) (gives_fit k slot)
    out_fits (Drain k) slot r w a b = left_fits r (drains s i k slot) (drains_fit k slot)
    out_fits op slot r w a b = alone_fits slot r w a b

  -- ---- STORES
  pub record Worded (s : MStore) : Type 0 where
    pub slots : (f r : ℕ) → FitsSlot p q h (s.slots f r)
    pub cells : (x : ℕ) → FitsCell p q g h (s.cells x)
    pub asks : FitsAll p q g h s.requests

  in_fits : (s : MStore) (f : ℕ) (o : Option ℕ) → Worded s → FitsSlot p q h (slot_in s f o)
  in_fits s f None W = tt
  in_fits s f (Some r) W = W.slots f r

  put_fits : (s : MStore) (f : ℕ) (o : Option ℕ) (v : SlotState) → Worded s → FitsSlot p q h v → Worded (with_slot_in s f o v)
  put_fits s f None v W fits = W
  put_fits s f (Some r) v W fits = record { slots = λ x y. outer (f == x) x y; cells = W.cells; asks = W.asks }
    where
      inner : (b : Bool) (y : ℕ) → FitsSlot p q h (if b then v else s.slots f y)
      inner true y = fits
      inner false y = W.slots f y

      outer : (b : Bool) (x y : ℕ) → FitsSlot p q h ((if b then put_at (s.slots f) r v else s.slots x) y)
      outer true x y = inner (r == y) y
      outer false x y = W.slots x y

  cell_fits : (s : MStore) (x : ℕ) (v : CellState) → Worded s → FitsCell p q g h v → Worded (with_cell s x v)
  cell_fits s x v W fits = record { slots = W.slots; cells = λ y. go (x == y) y; asks = W.asks }
    where
      go : (b : Bool) (y : ℕ) → FitsCell p q g h (if b then v else s.cells y)
      go true y = fits
      go false y = W.cells y

  one_asks : (c : Cont) → Fits p q h (back_to c) → FitsAll p q g h (c ∷ [])
  one_asks c fits x k = go (contains_cases c [] x k)
    where
      go : (c ≡ x) ⊎ Contains [] x → Fits p q h (back_to x)
      go (inl e) = subst (λ (c : Cont). Fits p q h (back_to c)) e fits
      go (inr k) = absurd (contains_none x k)

  module _ (answered : (a : ℕ) (i : Instr) → instr_at p a ≡ Some i → is_answered i.op ≡ true → (d : Dest) × (i.firsts ≡ d ∷ []) × Plain p q h (a + d.ahead))
      (total : ℕ) (old : MStore) (W : Worded old) where
    abbrev Both : List Token → MStore → Type 0
    Both made new = AllFit made × Worded new

    both_of : (ts made : List Token) (s new : MStore) → made ≡ ts → new ≡ s → AllFit ts → Worded s → Both made new
    both_of ts made s new a b x y = (subst AllFit (sym a) x, subst Worded (sym b) y)

    instr_fits : (f a : ℕ) (r : Port) (w : Word) (made : List Token) (new : MStore) (o : Option Instr) → instr_at p a ≡ o → FitsWord p q h w
        → Fires old f (slot_used o) (rule_at p record { frame = f; ip = a } o (slot_in old f (slot_used o)) r w) made new → Both made new
    instr_fits f a r w made new None at fits e = absurd e
    instr_fits f a r w made new (Some i) at fits e =
        go (outcome_of p record { frame = f; ip = a } i i.op (slot_in old f (slot_of i i.op)) r w)
        (out_fits f a i (answered a i at) i.op (slot_in old f (slot_of i i.op)) r w (in_fits old f (slot_of i i.op) W) fits) e
      where
        go : (x : Outcome) → OutFits x → Fires old f (slot_of i i.op) x made new → Both made new
        go (Excluded n) m e = absurd e
        go (Becomes v ts) m e = both_of ts made (with_slot_in old f (slot_of i i.op) v) new e.0 e.1 m.1 (put_fits old f (slot_of i i.op) v W m.0)

    fetch_fits : (x : ℕ) (c : Cont) (made : List Token) (new : MStore) (y : CellState) → FitsCell p q g h y → Fits p q h (back_to c)
        → Fetches old x c y made new → Both made new
    fetch_fits x c made new Vacant B fits e = both_of [] made _ new e.0 e.1 none_fit (cell_fits old x (Deferred (c ∷ [])) W (one_asks c fits))
    fetch_fits x c made new (Deferred cs) B fits e =
        both_of [] made _ new e.0 e.1 none_fit (cell_fits old x (Deferred (cs ++ c ∷ [])) W (fits_more p q g h cs c B fits))
    fetch_fits x c made new (Full v) B fits e = both_of _ made old new e.0 e.1 (all_one (answer c (Word.Val v)) tt) W

    store_fits : (x : ℕ) (v : Value) (c : Cont) (made : List Token) (new : MStore) (y : CellState) → Stores old x v c y made new → Both made new
    store_fits x v c made new Vacant e = both_of _ made _ new e.0 e.1 (all_one (answer c (Word.Val v)) tt) (cell_fits old x (Full v) W tt)
    store_fits x v c made new (Deferred cs) e = both_of _ made _ new e.0 e.1 (answers_fit (cs ++ c ∷ []) v) (cell_fits old x (Full v) W tt)
    store_fits x v c made new (Full u) e = absurd e

    pub happens_fits : (to : To) (w : Word) (made : List Token) (new : MStore) → FitsWord p q h w → Happens p total old to w made new → Both made new
    happens_fits (To.Instr f a r) w made new fits e = instr_fits f a r w made new (instr_at p a) refl fits e
    happens_fits (To.Fetch x) (Word.Back c) made new fits e = fetch_fits x c made new (old.cells x) (W.cells x) fits e
    happens_fits (To.Store x v) (Word.Back c) made new fits e = store_fits x v c made new (old.cells x) e
    happens_fits To.Manager (Word.Back c) made new fits (inl e) =
        both_of _ made _ new e.3 e.4 (all_one (answer c (Word.Frame e.0)) tt) record { slots = W.slots; cells = W.cells; asks = W.asks }
    happens_fits To.Manager (Word.Back c) made new fits (inr e) =
        both_of [] made _ new e.1 e.2 none_fit record { slots = W.slots; cells = W.cells; asks = fits_more p q g h old.requests c W.asks fits }
    happens_fits (To.Release f) w made new fits (out, inl e) = both_of [] made _ new e.1 e.2 none_fit record { slots = W.slots; cells = W.cells; asks = W.asks }
    happens_fits (To.Release f) w made new fits (out, inr (c, rest, moved, makes, is)) =
        both_of _ made _ new makes is (all_one
        (answer c (Word.Frame f))
        tt) record {
          slots = W.slots;
          cells = W.cells;
          asks = λ x k. W.asks x (Contains-permutation _ _ x (IsPermutation-sym _ _ moved) (contains_tail c rest x k));
        }
    happens_fits (To.Host j) w made new fits (inl e) = both_of [] made _ new e.2.2 e.2.3 none_fit record { slots = W.slots; cells = W.cells; asks = W.asks }
    happens_fits (To.Host j) w made new fits (inr e) = both_of [] made _ new e.2 e.3 none_fit record { slots = W.slots; cells = W.cells; asks = W.asks }
    happens_fits to w made new fits e = absurd e

  -- ---- THE START
  inputs_fit : (ip : ℕ) (xs : List ℤ) → AllFit (input_tokens ip xs)
  inputs_fit ip [] = none_fit
  inputs_fit ip (x ∷ xs) = cons_fit (token (To.Instr 0 ip Left) (Word.Val (Int x))) (input_tokens (ip + 1) xs) tt (inputs_fit (ip + 1) xs)

  pub start_fits : (inputs : List ℤ) → AllFit (at_start p inputs).pool × Worded (at_start p inputs).store
  start_fits inputs = (
    cons_fit (token (To.Instr 0 (first_of p p.main) Left) (Word.Back (Cont.Host 0))) (input_tokens (first_of p p.main + 1) inputs) tt
        (inputs_fit (first_of p p.main + 1) inputs),
    record { slots = λ f r. tt; cells = λ x. tt; asks = λ c k. absurd (contains_none c k) },
  )
