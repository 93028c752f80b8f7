-- What a turn by depth spends of the queue, and what it makes.
use Rattle.std.proofs.Common.{◌≡◌, refl, sym, ◌∙◌, ap, subst, ℕ, zero, suc, ◌+◌, ◌-◌, ◌*◌, ◌%◌, ◌<◌, ◌≤◌, ◌⊎◌, inl, inr, Bool, true, false, List, [], ◌∷◌, ◌++◌}
use Rattle.std.proofs.Common.{length, Option, Some, None, arith, append_assoc}
use Rattle.std.specs.Prelude.{All, IsPermutation, map, not, slice_get, slice_index_or, remove, min, take, if◌then◌else◌}
use Rattle.std.proofs.lemmas.List.{append-nil, length-append, length-map, map-append, nil_from_length}
use Rattle.std.proofs.lemmas.List.Elements.{All-nil, All-append, All-filter}
use Rattle.std.proofs.lemmas.List.Edits.{remove-append_left, remove-append_right}
use Rattle.std.proofs.lemmas.List.Sorted.{IsPermutation-refl, IsPermutation-trans, IsPermutation-append_left, IsPermutation-append_right, IsPermutation-remove}
use Rattle.std.proofs.lemmas.Option.{get_or_from_slice_get, slice_get_within}
use Rattle.std.proofs.Math.Nat.{mod-eq_of_lt}
use Rattle.lemmas.proofs.SliceGet.{get_append_cases}
use Rattle.law_confluence.proofs.Orders.{at_first, at_last}
use Rattle.tags.specs.declared.value.Value.{Value}
use Rattle.tags.specs.declared.slot.SlotState.TheVariants.{Empty}
use Rattle.tags.specs.declared.token.Cont.{Cont}
use Rattle.tags.specs.declared.token.Word.{Word}
use Rattle.tags.specs.declared.token.To.{To}
use Rattle.tags.specs.declared.token.Token.{Token}
use Rattle.tags.specs.Addresses.{element_of}
use Rattle.semantics.specs.Program.{Program}
use Rattle.semantics.specs.Machine.{Store, Machine, CellState, Vacant, Happens, answer}
use Rattle.istructure.specs.OwnCells.{cell_at}
use Rattle.istructure.specs.Holds.{HoldsCells}
use Rattle.frame_manager.specs.Managed.{Managed, is_out}
use Rattle.frame_manager.specs.Answered.{request_tokens}
use Rattle.element.specs.Near.{Bounds, IsNearToken}
use Rattle.element.specs.Parts.{Shape, Part, Manages, IsPart, IsSoundManager, bounds, slot_place}
use Rattle.element.specs.Holding.{Holding, here, elsewhere, is_here, IsSoundLane}
use Rattle.element.specs.Acts.{ServesFirst}
use Rattle.element.specs.Requests.{is_for_manager, held_back}
use Rattle.element.specs.Steps as one
use Rattle.element.specs.Steps.{place_of, HoldsTokens, IsAfter}
use Rattle.element.proofs.HeldBack.{held_within}
use Rattle.element.proofs.Stepping.{placed}
use Rattle.schedule.specs.declared.halt.Halt.{Halt}
use Rattle.schedule.specs.Setting.{Setting}
use Rattle.schedule.specs.State.{IsPlaced}
use Rattle.schedule.proofs.Stepping.{bounds_are}
use Rattle.rounds.specs.ByDepth.{Takes, MayGrant, MayTake}
use Rattle.rounds.proofs.Taking.{grown_any}
use Rattle.law_linearization.specs.History.{Act, Chain, Flows, bounds_of}
use Rattle.law_linearization.proofs.HistoryActing.{steps_act}
use Rattle.law_linearization.proofs.Ends.{own_part}
use Rattle.machine.specs.ByDepth.{besides, TakesSpending}
use Rattle.machine.specs.Runners.{Made, Spends}
use Rattle.machine.proofs.Flowing.{next_placed}

abbrev Ts : Type 0
Ts = List Token

-- REQUESTS IN A QUEUE
one_besides : (t : Token) (ts : Ts) → is_for_manager t.to ≡ false → besides (t ∷ ts) ≡ suc (besides ts)
one_besides t ts other = ap (λ (b : Bool). if b then besides ts else suc (besides ts)) other

none_besides : (t : Token) (ts : Ts) → is_for_manager t.to ≡ true → besides (t ∷ ts) ≡ besides ts
none_besides t ts asks = ap (λ (b : Bool). if b then besides ts else suc (besides ts)) asks

one_held : (t : Token) (ts : Ts) → is_for_manager t.to ≡ true → held_back (t ∷ ts) ≡ suc (held_back ts)
one_held t ts asks = ap (λ (b : Bool). if b then suc (held_back ts) else 0) asks

none_held : (t : Token) (ts : Ts) → is_for_manager t.to ≡ false → held_back (t ∷ ts) ≡ 0
none_held t ts other = ap (λ (b : Bool). if b then suc (held_back ts) else 0) other

besides_within : (ts : Ts) → besides ts ≤ length ts
besides_within [] = omega arith
besides_within (t ∷ ts) = by_case (is_for_manager t.to) refl (besides_within ts)
  where
    by_case : (b : Bool) → is_for_manager t.to ≡ b → besides ts ≤ length ts → besides (t ∷ ts) ≤ length (t ∷ ts)
    by_case true is rest = let e = none_besides t ts is in omega (arith, e, rest)
    by_case false is rest = let e = one_besides t ts is in omega (arith, e, rest)

besides_append : (xs ys : Ts) → besides (xs ++ ys) ≡ besides xs + besides ys
besides_append [] ys = omega arith
besides_append (x ∷ xs) ys = by_case (is_for_manager x.to) refl (besides_append xs ys)
  where
    by_case : (b : Bool) → is_for_manager x.to ≡ b → besides (xs ++ ys) ≡ besides xs + besides ys → besides (x ∷ (xs ++ ys)) ≡ besides (x ∷ xs) + besides ys
    by_case true is rest = let a = none_besides x (xs ++ ys) is in let b = none_besides x xs is in omega (arith, a, b, rest)
    by_case false is rest = let a = one_besides x (xs ++ ys) is in let b = one_besides x xs is in omega (arith, a, b, rest)

-- where one is taken out
besides_remove : (ts : Ts) (i : ℕ) (t : Token) → slice_get ts i ≡ Some t → besides ts ≡ besides (t ∷ remove ts i)
besides_remove [] i t is = absurd (let no : ⊥ = cc in no)
besides_remove (x ∷ xs) zero t is = let same : x ≡ t = cc in ap (λ (y : Token). besides (y ∷ xs)) same
besides_remove (x ∷ xs) (suc i) t is = by_case (is_for_manager x.to) refl (is_for_manager t.to) refl (besides_remove xs i t is)
  where
    by_case : (b : Bool) → is_for_manager x.to ≡ b → (d : Bool) → is_for_manager t.to ≡ d → besides xs ≡ besides (t ∷ remove xs i)
        → besides (x ∷ xs) ≡ besides (t ∷ (x ∷ remove xs i))
    by_case true is true also rest =
        let a = none_besides x xs is in
        let b = none_besides t (x ∷ remove xs i) also in
        let c = none_besides x (remove xs i) is in
        let d = none_besides t (remove xs i) also in
        omega (arith, a, b, c, d, rest)
    by_case true is false also rest =
        let a = none_besides x xs is in
        let b = one_besides t (x ∷ remove xs i) also in
        let c = none_besides x (remove xs i) is in
        let d = one_besides t (remove xs i) also in
        omega (arith, a, b, c, d, rest)
    by_case false is true also rest =
        let a = one_besides x xs is in
        let b = none_besides t (x ∷ remove xs i) also in
        let c = one_besides x (remove xs i) is in
        let d = none_besides t (remove xs i) also in
        omega (arith, a, b, c, d, rest)
    by_case false is false also rest =
        let a = one_besides x xs is in
        let b = one_besides t (x ∷ remove xs i) also in
        let c = one_besides x (remove xs i) is in
        let d = one_besides t (remove xs i) also in
        omega (arith, a, b, c, d, rest)

-- a token among those that are held back is a request, and the first one behind them is none
held_asks : (ts : Ts) (i : ℕ) (t : Token) → i < held_back ts → slice_get ts i ≡ Some t → is_for_manager t.to ≡ true
held_asks [] i t low is = absurd (omega (arith, low))
held_asks (x ∷ xs) i t low is = by_case (is_for_manager x.to) refl i low is (λ k less at. held_asks xs k t less at)
  where
    by_case : (b : Bool) → is_for_manager x.to ≡ b → (k : ℕ) → k < held_back (x ∷ xs) → slice_get (x ∷ xs) k ≡ Some t
        → ((j : ℕ) → j < held_back xs → slice_get xs j ≡ Some t → is_for_manager t.to ≡ true) → is_for_manager t.to ≡ true
    by_case true asks zero less at rest = let same : x ≡ t = cc in ap (λ (y : Token). is_for_manager y.to) (sym same) ∙ asks
    by_case true asks (suc k) less at rest = let e = one_held x xs asks in rest k (omega (arith, less, e)) at
    by_case false asks k less at rest = let e = none_held x xs asks in absurd (omega (arith, less, e))

next_other : (ts : Ts) (t : Token) → slice_get ts (held_back ts) ≡ Some t → is_for_manager t.to ≡ false
next_other [] t is = absurd (let no : ⊥ = cc in no)
next_other (x ∷ xs) t is = by_case (is_for_manager x.to) refl (λ at. next_other xs t at)
  where
    by_case : (b : Bool) → is_for_manager x.to ≡ b → (slice_get xs (held_back xs) ≡ Some t → is_for_manager t.to ≡ false) → is_for_manager t.to ≡ false
    by_case true asks rest = rest (subst (λ (n : ℕ). slice_get (x ∷ xs) n ≡ Some t) (one_held x xs asks) is)
    by_case false other rest =
        let first : Some x ≡ Some t = subst (λ (n : ℕ). slice_get (x ∷ xs) n ≡ Some t) (none_held x xs other) is in
        let same : x ≡ t = cc in
        ap (λ (y : Token). is_for_manager y.to) (sym same) ∙ other

-- behind tokens without a request none is held back more
held_front : (xs ys : Ts) → besides ys ≡ length ys → held_back (xs ++ ys) ≤ length xs
held_front [] [] none = omega arith
held_front [] (y ∷ ys) none = by_case (is_for_manager y.to) refl
  where
    by_case : (b : Bool) → is_for_manager y.to ≡ b → held_back (y ∷ ys) ≤ 0
    by_case true asks = let e = none_besides y ys asks in let w = besides_within ys in absurd (omega (arith, e, w, none))
    by_case false other = let e = none_held y ys other in omega (arith, e)
held_front (x ∷ xs) ys none = by_case (is_for_manager x.to) refl (held_front xs ys none)
  where
    by_case : (b : Bool) → is_for_manager x.to ≡ b → held_back (xs ++ ys) ≤ length xs → held_back (x ∷ (xs ++ ys)) ≤ length (x ∷ xs)
    by_case true asks rest = let e = one_held x (xs ++ ys) asks in omega (arith, e, rest)
    by_case false other rest = let e = none_held x (xs ++ ys) other in omega (arith, e)

-- where all of them are, none is an other one
none_other : (xs ys : Ts) → length xs ≤ held_back (xs ++ ys) → besides xs ≡ 0
none_other [] ys all = refl
none_other (x ∷ xs) ys all = by_case (is_for_manager x.to) refl (λ less. none_other xs ys less)
  where
    by_case : (b : Bool) → is_for_manager x.to ≡ b → (length xs ≤ held_back (xs ++ ys) → besides xs ≡ 0) → besides (x ∷ xs) ≡ 0
    by_case true asks rest = none_besides x xs asks ∙ rest (let e = one_held x (xs ++ ys) asks in omega (arith, e, all))
    by_case false other rest = let e = none_held x (xs ++ ys) other in absurd (omega (arith, e, all))

-- A REQUEST MAKES NO REQUEST

-- a store of which the part is the element's
state_or : Option CellState → CellState
state_or (Some state) = state
state_or None = Vacant

outs : Option Managed → ℕ → Bool
outs (Some m) f = is_out m f
outs None f = false

asked : Option Managed → List Cont
asked (Some m) = m.requests
asked None = []

store_with : Part → Store
store_with h = record {
  slots = λ f r. slice_index_or h.states (slot_place h.shape f r) Empty;
  cells = λ x. state_or (cell_at h.cells x);
  out = outs h.manager;
  requests = asked h.manager;
  outputs = λ j. slice_index_or h.outputs j None;
  done = h.done;
}

managed_so : (b : Bounds) (m : Option Managed) (s : Store) → IsSoundManager b m → s.out ≡ outs m → s.requests ≡ asked m → Manages m s
unfolding outs asked
managed_so b None s sound out requests = absurd sound
managed_so b (Some m) s sound out requests = record { out = λ f. ap (λ (k : ℕ → Bool). k f) out; requests = requests }

part_with : (p : Program) (h : Holding) → IsSoundLane p h → IsPart h.part (store_with h.part)
unfolding store_with state_or
part_with p h sound = record {
  slots = λ f r own there low. refl;
  cells = λ x state is. ap (λ (o : Option CellState). state_or o) is;
  manager = λ first. managed_so (bounds p h.part.shape) h.part.manager (store_with h.part) (sound.part.manager first) refl refl;
  outputs = λ first j. refl;
  done = λ first. refl;
}

answers_other : (c : Cont) (w : Word) → besides (answer c w ∷ []) ≡ 1
answers_other (Cont.Frame f ip port) w = refl
answers_other (Cont.Host j) w = refl

asks_none : (p : Program) (old : Holding) (pick : ℕ) (before : Ts) (new : Holding) (after : Ts) → IsSoundLane p old
    → (does : one.Does p old pick before new after) → is_for_manager does.token.to ≡ true → besides does.made ≡ length does.made
asks_none p old pick before new after sound does asks = by_token does.token.to does.token.word refl refl asks does.first
  where
    pool : Ts
    pool = old.queue ++ (before ++ [])

    m : Machine
    m = record { store = store_with old.part; pool = pool }

    after_it : IsAfter p old does.token new after [] does.made m
    after_it = does.event m [] (part_with p old sound) (IsPermutation-refl pool)

    happened : (to : To) (w : Word) → does.token.to ≡ to → does.token.word ≡ w
        → Happens p (old.part.shape.elements * old.part.shape.frames) (store_with old.part) to w after_it.event.made after_it.next.store
    happened to w at is =
        subst (λ (x : To). Happens p (old.part.shape.elements * old.part.shape.frames) (store_with old.part) x w after_it.event.made after_it.next.store) at
        (subst (λ (x : Word). Happens p (old.part.shape.elements * old.part.shape.frames) (store_with old.part) does.token.to x after_it.event.made
        after_it.next.store) is after_it.event.happens)

    by_given : (c : Cont) (given : Option ℕ) → does.made ≡ request_tokens c given → besides does.made ≡ length does.made
    by_given c (Some f) is =
        ap (λ (l : Ts). besides l) is ∙ answers_other c (Word.Frame f) ∙ sym (ap (λ (l : Ts). length l) is)
    by_given c None is = ap (λ (l : Ts). besides l) is ∙ sym (ap (λ (l : Ts). length l) is)

    by_token : (to : To) (w : Word) → does.token.to ≡ to → does.token.word ≡ w → is_for_manager to ≡ true
        → ServesFirst old.part does.token.to does.token.word does.made new.part → besides does.made ≡ length does.made
    by_token To.Manager (Word.Back c) at is for_it first =
        let served : ServesFirst old.part To.Manager (Word.Back c) does.made new.part
        = subst (λ (x : To). ServesFirst old.part x (Word.Back c) does.made new.part) at
        (subst (λ (x : Word). ServesFirst old.part does.token.to x does.made new.part) is first) in
        by_given c served.0 served.1
    by_token To.Manager (Word.Val v) at is for_it first = absurd (happened To.Manager (Word.Val v) at is)
    by_token To.Manager (Word.Frame f) at is for_it first = absurd (happened To.Manager (Word.Frame f) at is)
    by_token (To.Instr f ip port) w at is for_it first = absurd (let no : ⊥ = cc in no)
    by_token (To.Fetch x) w at is for_it first = absurd (let no : ⊥ = cc in no)
    by_token (To.Store x v) w at is for_it first = absurd (let no : ⊥ = cc in no)
    by_token (To.Release f) w at is for_it first = absurd (let no : ⊥ = cc in no)
    by_token (To.Host j) w at is for_it first = absurd (let no : ⊥ = cc in no)

none_here : (z : Shape) (ts : Ts) → besides ts ≡ length ts → besides (here z ts) ≡ length (here z ts)
none_here z [] none = refl
none_here z (t ∷ ts) none = by_case (is_for_manager t.to) refl (λ all. none_here z ts all)
  where
    kept : (b : Bool) → is_here z t ≡ b → is_for_manager t.to ≡ false → besides (here z ts) ≡ length (here z ts) → besides (here z (t ∷ ts))
        ≡ length (here z (t ∷ ts))
    kept true is other rest =
        let e : here z (t ∷ ts) ≡ t ∷ here z ts = ap (λ (b : Bool). if b then t ∷ here z ts else here z ts) is in
        let o = one_besides t (here z ts) other in
        ap (λ (l : Ts). besides l) e ∙ o ∙ ap (λ (n : ℕ). suc n) rest ∙ sym (ap (λ (l : Ts). length l) e)
    kept false is other rest =
        let e : here z (t ∷ ts) ≡ here z ts = ap (λ (b : Bool). if b then t ∷ here z ts else here z ts) is in
        ap (λ (l : Ts). besides l) e ∙ rest ∙ sym (ap (λ (l : Ts). length l) e)

    by_case : (b : Bool) → is_for_manager t.to ≡ b → (besides ts ≡ length ts → besides (here z ts) ≡ length (here z ts))
        → besides (here z (t ∷ ts)) ≡ length (here z (t ∷ ts))
    by_case true asks rest = let e = none_besides t ts asks in let w = besides_within ts in absurd (omega (arith, e, w, none))
    by_case false other rest =
        let e = one_besides t ts other in
        kept (is_here z t) refl other (rest (omega (arith, e, none)))

-- WHERE THE TOKENS GO. The queue begins with `tail`, which was there before the turn, and behind it is what was made in it.
pub record Flowed (tail got before : Ts) (acts : List Act) (ts : Ts) (n : ℕ) (queue after : Ts) : Type 0 where
  pub gone : Ts
  pub later : Ts
  pub keep : Ts
  pub more : Ts
  pub first : ts ≡ gone ++ later
  pub count : n ≡ length gone
  pub old : IsPermutation tail (gone ++ keep)
  pub new : queue ≡ keep ++ more
  pub flows : (extra start : Ts) → IsPermutation start (gone ++ (got ++ (before ++ extra))) → Flows start acts (more ++ (after ++ extra))

flowed_none : (tail got before queue after : Ts) → queue ≡ tail ++ got → after ≡ before → Flowed tail got before [] [] 0 queue after
flowed_none tail got before queue after is same = record {
  gone = [];
  later = [];
  keep = tail;
  more = got;
  first = refl;
  count = refl;
  old = IsPermutation-refl tail;
  new = is;
  flows = λ extra start perm. at_last perm (ap (λ (l : Ts). got ++ (l ++ extra)) (sym same));
}

-- an event with a token that was there
flowed_old : (z : Shape) (t : Token) (made tail got before : Ts) (acts : List Act) (ts : Ts) (n : ℕ) (queue after : Ts) (i : ℕ) → slice_get tail i ≡ Some t
    → Flowed (remove tail i) (got ++ here z made) (before ++ elsewhere z made) acts ts n queue after
    → Flowed tail got before ((let a : Act = record { token = t; made = made } in a) ∷ acts) (t ∷ ts) (suc n) queue after
flowed_old z t made tail got before acts ts n queue after i is f =
    let low = slice_get_within tail i t is in
    let place : t ≡ slice_index_or tail i t = sym (get_or_from_slice_get tail i t t is) in
    let out : IsPermutation tail (t ∷ remove tail i) = IsPermutation-remove tail i t low place in
    record {
      gone = t ∷ f.gone;
      later = f.later;
      keep = f.keep;
      more = f.more;
      first = ap (λ (l : Ts). t ∷ l) f.first;
      count = ap (λ (k : ℕ). suc k) f.count;
      old = IsPermutation-trans _ _ _ out (IsPermutation-append_right (t ∷ []) (remove tail i) (f.gone ++ f.keep) f.old);
      new = f.new;
      flows = λ extra start perm. (
        f.gone ++ (got ++ (before ++ extra)),
        perm,
        f.flows extra (made ++ (f.gone ++ (got ++ (before ++ extra)))) (next extra),
      );
    }
  where
    next : (extra : Ts) → IsPermutation (made ++ (f.gone ++ (got ++ (before ++ extra)))) (f.gone ++ ((got ++ here z made)
        ++ ((before ++ elsewhere z made) ++ extra)))
    next extra =
        at_first (ap (λ (l : Ts). made ++ l) (sym (append_assoc f.gone got (before ++ extra))))
        (at_last (placed z made (f.gone ++ got) before extra)
        (ap (λ (l : Ts). l ++ ((before ++ elsewhere z made) ++ extra)) (append_assoc f.gone got (here z made))
        ∙ append_assoc f.gone (got ++ here z made) ((before ++ elsewhere z made) ++ extra)))

-- an event with one that was made in the turn
flowed_new : (z : Shape) (t : Token) (made tail got before : Ts) (acts : List Act) (ts : Ts) (queue after : Ts) (j : ℕ) → slice_get got j ≡ Some t
    → Flowed tail (remove got j ++ here z made) (before ++ elsewhere z made) acts ts 0 queue after
    → Flowed tail got before ((let a : Act = record { token = t; made = made } in a) ∷ acts) (t ∷ ts) 0 queue after
flowed_new z t made tail got before acts ts queue after j is f =
    let low = slice_get_within got j t is in
    let place : t ≡ slice_index_or got j t = sym (get_or_from_slice_get got j t t is) in
    let out : IsPermutation got (t ∷ remove got j) = IsPermutation-remove got j t low place in
    record {
      gone = [];
      later = t ∷ ts;
      keep = f.keep;
      more = f.more;
      first = refl;
      count = refl;
      old = subst (λ (l : Ts). IsPermutation tail (l ++ f.keep)) nothing f.old;
      new = f.new;
      flows = λ extra start perm. (
        remove got j ++ (before ++ extra),
        IsPermutation-trans _ _ _ perm (IsPermutation-append_left (before ++ extra) got (t ∷ remove got j) out),
        f.flows extra (made ++ (remove got j ++ (before ++ extra))) (next extra),
      );
    }
  where
    nothing : f.gone ≡ []
    nothing = nil_from_length f.gone (sym f.count)

    next : (extra : Ts) → IsPermutation (made ++ (remove got j ++ (before ++ extra))) (f.gone ++ ((remove got j ++ here z made)
        ++ ((before ++ elsewhere z made) ++ extra)))
    next extra = at_last (placed z made (remove got j) before extra)
        (ap (λ (l : Ts). l ++ ((remove got j ++ here z made) ++ ((before ++ elsewhere z made) ++ extra))) (sym nothing))

-- THE EVENTS
abbrev pub acts_in : (may : ℕ → Holding → ℕ → Type 0) (p : Program) (steps k : ℕ) (old : Holding) (before ts : Ts) (new : Holding) (after : Ts)
    → Takes may p steps k old before ts new after → List Act
acts_in may p steps k old before [] new after takes = []
acts_in may p steps k old before (t ∷ ts) new after (pick, allowed, mid, sent, does, is, few, sound, rest) =
    (let a : Act = record { token = does.token; made = does.made } in a) ∷ acts_in may p steps (suc k) mid sent ts new after rest

-- the place of a pick that is below the length
place_is : (h : Holding) (pick : ℕ) → pick < length h.queue → place_of h pick ≡ pick
place_is h pick low = mod-eq_of_lt low

-- GRANTS: each takes a request that was there
pub grants_flow : (ordinary : ℕ) (p : Program) (steps k : ℕ) (old : Holding) (before ts : Ts) (mid : Holding) (sent : Ts)
    (takes : Takes (MayGrant ordinary) p steps k old before ts mid sent) → IsSoundLane p old → (tail got : Ts) → old.queue ≡ tail ++ got
    → besides got ≡ length got → (acts : List Act) (later : Ts) (n : ℕ) (queue after : Ts)
    → ((now new : Ts) → mid.queue ≡ now ++ new → besides now ≡ besides tail → Flowed now new sent acts later n queue after)
    → Flowed tail got before (acts_in (MayGrant ordinary) p steps k old before ts mid sent takes ++ acts) (ts ++ later) (length ts + n) queue after
grants_flow ordinary p steps k old before [] mid sent takes sound tail got is none acts later n queue after go =
    let zero_more : n ≡ 0 + n = omega arith in
    subst (λ (m : ℕ). Flowed tail got before acts later m queue after) zero_more
    (subst (λ (l : Ts). Flowed tail got l acts later n queue after) takes.1
    (go tail got (ap (λ (h : Holding). h.queue) takes.0 ∙ is) refl))
grants_flow ordinary p steps k old before (t ∷ ts) mid sent (pick, (low, few), next, out, does, same, less, sound_next, rest) sound tail got is none acts later n
    queue after go =
    let z = old.part.shape in
    let within = held_within old.queue in
    let place : place_of old pick ≡ pick = place_is old pick (omega (arith, low, within)) in
    let held : held_back old.queue ≡ held_back (tail ++ got) = ap (λ (l : Ts). held_back l) is in
    let front = held_front tail got none in
    let below : place_of old pick < length tail = omega (arith, place, low, held, front) in
    let picked : slice_get (tail ++ got) (place_of old pick) ≡ Some does.token = subst (λ (l : Ts). slice_get l (place_of old pick) ≡ Some does.token) is does.picks.token in
    let there : slice_get tail (place_of old pick) ≡ Some does.token = in_front (get_append_cases tail got (place_of old pick) does.token picked) below in
    let asks = held_asks old.queue (place_of old pick) does.token (omega (arith, place, low)) does.picks.token in
    let made = none_here z does.made (asks_none p old pick before next out sound does asks) in
    let i = place_of old pick in
    let queue_next : next.queue ≡ remove tail i ++ (got ++ here z does.made) = does.queue
    ∙ ap (λ (l : Ts). remove l i ++ here z does.made) is ∙ ap (λ (l : Ts). l ++ here z does.made) (remove-append_left tail got i below)
    ∙ append_assoc (remove tail i) got (here z does.made) in
    let still : besides (remove tail i) ≡ besides tail = sym (besides_remove tail i does.token there ∙ none_besides does.token (remove tail i) asks) in
    let none_more : besides (got ++ here z does.made) ≡ length (got ++ here z does.made) = (let a = besides_append got (here z does.made)
    in let b = length-append got (here z does.made) in omega (arith, a, b, none, made)) in
    let on = grants_flow ordinary p steps (suc k) next out ts mid sent rest sound_next (remove tail i) (got ++ here z does.made) queue_next none_more acts later n
    queue after (λ now new at same. go now new at (same ∙ still)) in
    let more = subst (λ (l : Ts). Flowed (remove tail i) (got ++ here z does.made) l
    (acts_in (MayGrant ordinary) p steps (suc k) next out ts mid sent rest ++ acts) (ts ++ later) (length ts + n) queue after) does.sent on in
    let count : suc (length ts + n) ≡ length (t ∷ ts) + n = omega arith in
    subst (λ (m : ℕ). Flowed tail got before ((let a : Act = record { token = does.token; made = does.made } in a)
    ∷ (acts_in (MayGrant ordinary) p steps (suc k) next out ts mid sent rest ++ acts)) (t ∷ (ts ++ later)) m queue after) count
    (subst (λ (x : Token). Flowed tail got before ((let a : Act = record { token = does.token; made = does.made } in a)
    ∷ (acts_in (MayGrant ordinary) p steps (suc k) next out ts mid sent rest ++ acts)) (x ∷ (ts ++ later)) (suc (length ts + n)) queue after) same
    (flowed_old z does.token does.made tail got before (acts_in (MayGrant ordinary) p steps (suc k) next out ts mid sent rest ++ acts) (ts ++ later)
    (length ts + n) queue after i there more))
  where
    in_front : {i : ℕ} (c : (slice_get tail i ≡ Some does.token) ⊎ ((j : ℕ) × (i ≡ length tail + j) × (slice_get got j ≡ Some does.token)))
        → i < length tail → slice_get tail i ≡ Some does.token
    in_front (inl at) low = at
    in_front (inr (j, at, found)) low = absurd (omega (arith, at, low))

-- OTHERS: each takes the first one that is no request, at first of those that were there
pub others_flow : (p : Program) (steps k : ℕ) (old : Holding) (before ts : Ts) (new : Holding) (after : Ts) (takes : Takes MayTake p steps k old before ts new after)
    (tail got : Ts) → old.queue ≡ tail ++ got
    → Flowed tail got before (acts_in MayTake p steps k old before ts new after takes) ts (min (length ts) (besides tail)) new.queue after
others_flow p steps k old before [] new after takes tail got is =
    let none : 0 ≡ min (length {A = Token} []) (besides tail) = omega arith in
    subst (λ (m : ℕ). Flowed tail got before [] [] m new.queue after) none
    (flowed_none tail got before new.queue after (ap (λ (h : Holding). h.queue) takes.0 ∙ is) takes.1)
others_flow p steps k old before (t ∷ ts) new after (pick, (first, low), next, out, does, same, less, sound_next, rest) tail got is =
    let place : place_of old pick ≡ held_back old.queue = place_is old pick (omega (arith, first, low)) ∙ first in
    let picked : slice_get (tail ++ got) (place_of old pick) ≡ Some does.token = subst (λ (l : Ts). slice_get l (place_of old pick) ≡ Some does.token) is does.picks.token in
    let other : is_for_manager does.token.to ≡ false = next_other old.queue does.token (subst (λ (n : ℕ). slice_get old.queue n ≡ Some does.token) place
    does.picks.token) in
    by_case (get_append_cases tail got (place_of old pick) does.token picked) place other
    (λ now more at. others_flow p steps (suc k) next out ts new after rest now more at)
  where
    z : Shape
    z = old.part.shape

    i : ℕ
    i = place_of old pick

    acts : List Act
    acts = acts_in MayTake p steps (suc k) next out ts new after rest

    a : Act
    a = record { token = does.token; made = does.made }

    by_case : (slice_get tail i ≡ Some does.token) ⊎ ((j : ℕ) × (i ≡ length tail + j) × (slice_get got j ≡ Some does.token)) → i ≡ held_back old.queue
        → is_for_manager does.token.to ≡ false
        → ((now more : Ts) → next.queue ≡ now ++ more → Flowed now more out acts ts (min (length ts) (besides now)) new.queue after)
        → Flowed tail got before (a ∷ acts) (t ∷ ts) (min (suc (length ts)) (besides tail)) new.queue after
    by_case (inl there) place other go =
        let below = slice_get_within tail i does.token there in
        let queue_next : next.queue ≡ remove tail i ++ (got ++ here z does.made) = does.queue
        ∙ ap (λ (l : Ts). remove l i ++ here z does.made) is ∙ ap (λ (l : Ts). l ++ here z does.made) (remove-append_left tail got i below)
        ∙ append_assoc (remove tail i) got (here z does.made) in
        let count : besides tail ≡ suc (besides (remove tail i)) = besides_remove tail i does.token there ∙ one_besides does.token (remove tail i) other in
        let on = go (remove tail i) (got ++ here z does.made) queue_next in
        let more = subst (λ (l : Ts). Flowed (remove tail i) (got ++ here z does.made) l acts ts (min (length ts) (besides (remove tail i))) new.queue after) does.sent on in
        let n : suc (min (length ts) (besides (remove tail i))) ≡ min (suc (length ts)) (besides tail) = omega (arith, count) in
        subst (λ (x : Token). Flowed tail got before (a ∷ acts) (x ∷ ts) (min (suc (length ts)) (besides tail)) new.queue after) same
        (subst (λ (m : ℕ). Flowed tail got before (a ∷ acts) (does.token ∷ ts) m new.queue after) n
        (flowed_old z does.token does.made tail got before acts ts (min (length ts) (besides (remove tail i))) new.queue after i there more))
    by_case (inr (j, at, there)) place other go =
        let held : held_back old.queue ≡ held_back (tail ++ got) = ap (λ (l : Ts). held_back l) is in
        let none : besides tail ≡ 0 = none_other tail got (omega (arith, at, place, held)) in
        let queue_next : next.queue ≡ tail ++ (remove got j ++ here z does.made) = does.queue
        ∙ ap (λ (l : Ts). remove l i ++ here z does.made) is ∙ ap (λ (l : Ts). l ++ here z does.made)
        (remove-append_right tail got (length tail) i refl (omega (arith, at)) ∙ ap (λ (m : ℕ). tail ++ remove got m) (let e : i - length tail ≡ j = omega (arith, at) in e))
        ∙ append_assoc tail (remove got j) (here z does.made) in
        let on = go tail (remove got j ++ here z does.made) queue_next in
        let zero_more : min (length ts) (besides tail) ≡ 0 = omega (arith, none) in
        let more = subst (λ (l : Ts). Flowed tail (remove got j ++ here z does.made) l acts ts 0 new.queue after) does.sent
        (subst (λ (m : ℕ). Flowed tail (remove got j ++ here z does.made) out acts ts m new.queue after) zero_more on) in
        let n : 0 ≡ min (suc (length ts)) (besides tail) = omega (arith, none) in
        subst (λ (x : Token). Flowed tail got before (a ∷ acts) (x ∷ ts) (min (suc (length ts)) (besides tail)) new.queue after) same
        (subst (λ (m : ℕ). Flowed tail got before (a ∷ acts) (does.token ∷ ts) m new.queue after) n
        (flowed_new z does.token does.made tail got before acts ts new.queue after j there more))

-- A TURN BY DEPTH

-- The events of element e, in whichever order it took its tokens.
module _ (may : ℕ → Holding → ℕ → Type 0) (g : Setting) (e : ℕ) where
  pub taking_placed : (k : ℕ) (old : Holding) (before ts : Ts) (new : Holding) (after : Ts) → IsPlaced g e old
      → Takes may g.program g.steps k old before ts new after → IsPlaced g e new
  taking_placed k old before [] new after start takes = subst (λ (h : Holding). IsPlaced g e h) (sym takes.0) start
  taking_placed k old before (t ∷ ts) new after start (pick, allowed, mid, sent, does, is, few, sound, rest) =
      let made : mid.made ≤ g.steps = (let c = does.count in omega arith) in
      taking_placed (suc k) mid sent ts new after (next_placed g e old mid before sent start does sound made) rest

  pub taking_chain : (k : ℕ) (old : Holding) (before ts : Ts) (new : Holding) (after : Ts) → IsPlaced g e old
      → (takes : Takes may g.program g.steps k old before ts new after)
      → Chain g e old.part (acts_in may g.program g.steps k old before ts new after takes) new.part
  taking_chain k old before [] new after start takes = ap (λ (h : Holding). h.part) takes.0
  taking_chain k old before (t ∷ ts) new after start (pick, allowed, mid, sent, does, is, few, sound, rest) =
      let made : mid.made ≤ g.steps = (let c = does.count in omega arith) in
      let next = next_placed g e old mid before sent start does sound made in
      let at = place_of old pick in
      let all = start.sound.addressed in
      let there : element_of old.part.shape.elements does.token.to ≡ old.part.shape.element = subst
      (λ (x : Token). element_of old.part.shape.elements x.to ≡ old.part.shape.element)
      (get_or_from_slice_get old.queue at does.token does.token does.picks.token)
      (all at does.token (slice_get_within old.queue at does.token does.picks.token)) in
      let addressed : element_of g.elements does.token.to ≡ e = subst (λ (n : ℕ). element_of n does.token.to ≡ e) start.elements (there ∙ start.element) in
      let near : All (IsNearToken (bounds_of g)) does.made = subst (λ (b : Bounds). All (IsNearToken b) does.made) (bounds_are g e old start) does.near in
      (mid.part, own_part g e mid next, addressed, near, steps_act g.program old mid pick before sent does, taking_chain (suc k) mid sent ts new after next rest)

  -- what is sent names what there is, if what was sent before does
  pub taking_near : (k : ℕ) (old : Holding) (before ts : Ts) (new : Holding) (after : Ts) → IsPlaced g e old
      → Takes may g.program g.steps k old before ts new after → All (IsNearToken (bounds_of g)) before → All (IsNearToken (bounds_of g)) after
  taking_near k old before [] new after start takes near = subst (λ (l : Ts). All (IsNearToken (bounds_of g)) l) (sym takes.1) near
  taking_near k old before (t ∷ ts) new after start (pick, allowed, mid, sent, does, is, few, sound, rest) near =
      let count : mid.made ≤ g.steps = (let c = does.count in omega arith) in
      let next = next_placed g e old mid before sent start does sound count in
      let made : All (IsNearToken (bounds_of g)) does.made = subst (λ (b : Bounds). All (IsNearToken b) does.made) (bounds_are g e old start) does.near in
      let left : All (IsNearToken (bounds_of g)) (elsewhere old.part.shape does.made) = All-filter (λ (t : Token). not (is_here old.part.shape t)) (IsNearToken (bounds_of g)) does.made made in
      taking_near (suc k) mid sent ts new after next rest (subst (λ (l : Ts). All (IsNearToken (bounds_of g)) l) (sym does.sent)
      (All-append (IsNearToken (bounds_of g)) before (elsewhere old.part.shape does.made) near left))

-- the events took these tokens
acts_took : (may : ℕ → Holding → ℕ → Type 0) (p : Program) (steps k : ℕ) (old : Holding) (before ts : Ts) (new : Holding) (after : Ts)
    (takes : Takes may p steps k old before ts new after) → map (λ (a : Act). a.token) (acts_in may p steps k old before ts new after takes) ≡ ts
acts_took may p steps k old before [] new after takes = refl
acts_took may p steps k old before (t ∷ ts) new after (pick, allowed, mid, sent, does, is, few, sound, rest) = ap (λ (x : Token). x
    ∷ map (λ (a : Act). a.token) (acts_in may p steps (suc k) mid sent ts new after rest)) is
    ∙ ap (λ (l : Ts). t ∷ l) (acts_took may p steps (suc k) mid sent ts new after rest)

chain_append : (g : Setting) (e : ℕ) (old : Part) (xs : List Act) (mid : Part) (ys : List Act) (new : Part) → Chain g e old xs mid → Chain g e mid ys new
    → Chain g e old (xs ++ ys) new
chain_append g e old [] mid ys new first later = subst (λ (p : Part). Chain g e p ys new) first later
chain_append g e old (x ∷ xs) mid ys new (next, own, addressed, near, act, rest) later =
    (next, own, addressed, near, act, chain_append g e next xs mid ys new rest later)

module _ (g : Setting) (e turn ordinary : ℕ) (old : Holding) (taken : Ts) (new : Holding) (after : Ts) (halt : Option Halt) (spent : ℕ)
    (start : IsPlaced g e old) (takes : TakesSpending g.program g.steps turn ordinary old [] taken new after halt spent) where
  abbrev grants : List Act
  grants = acts_in (MayGrant ordinary) g.program g.steps 0 old [] takes.turns.granted takes.turns.mid takes.turns.sent takes.turns.grants

  abbrev others : List Act
  others = acts_in MayTake g.program g.steps 0 takes.turns.mid takes.turns.sent takes.turns.later new after takes.turns.takes

  abbrev pub acts_by_depth : List Act
  acts_by_depth = grants ++ others

  between : IsPlaced g e takes.turns.mid
  between = taking_placed (MayGrant ordinary) g e 0 old [] takes.turns.granted takes.turns.mid takes.turns.sent start takes.turns.grants

  pub made_by_depth : Made g e old acts_by_depth taken new
  made_by_depth =
      let first = acts_took (MayGrant ordinary) g.program g.steps 0 old [] takes.turns.granted takes.turns.mid takes.turns.sent takes.turns.grants in
      let last = acts_took MayTake g.program g.steps 0 takes.turns.mid takes.turns.sent takes.turns.later new after takes.turns.takes in
      let all : map (λ (a : Act). a.token) acts_by_depth ≡ taken = map-append (λ (a : Act). a.token) grants others
      ∙ ap (λ (l : Ts). l ++ map (λ (a : Act). a.token) others) first ∙ ap (λ (l : Ts). takes.turns.granted ++ l) last ∙ sym takes.turns.all in
      record {
        placed = taking_placed MayTake g e 0 takes.turns.mid takes.turns.sent takes.turns.later new after between takes.turns.takes;
        chain = chain_append g e old.part grants takes.turns.mid.part others new.part
            (taking_chain (MayGrant ordinary) g e 0 old [] takes.turns.granted takes.turns.mid takes.turns.sent start takes.turns.grants)
            (taking_chain MayTake g e 0 takes.turns.mid takes.turns.sent takes.turns.later new after between takes.turns.takes);
        takes = all;
        count =
            let c = grown_any (MayGrant ordinary) g.program g.steps 0 old [] takes.turns.granted takes.turns.mid takes.turns.sent takes.turns.grants in
            let d = grown_any MayTake g.program g.steps 0 takes.turns.mid takes.turns.sent takes.turns.later new after takes.turns.takes in
            let l = sym (length-map acts_by_depth (λ (a : Act). a.token)) ∙ ap (λ (l : Ts). length l) all in
            let k = ap (λ (l : Ts). length l) takes.turns.all ∙ length-append takes.turns.granted takes.turns.later in
            omega (arith, c, d, l, k);
      }

  pub near_by_depth : All (IsNearToken (bounds_of g)) after
  near_by_depth = taking_near MayTake g e 0 takes.turns.mid takes.turns.sent takes.turns.later new after between takes.turns.takes
      (taking_near (MayGrant ordinary) g e 0 old [] takes.turns.granted takes.turns.mid takes.turns.sent start takes.turns.grants
      (All-nil (IsNearToken (bounds_of g))))

  pub spends_by_depth : Spends old new after acts_by_depth taken spent
  spends_by_depth =
      let n = min (length takes.turns.later) (besides old.queue) in
      let f = grants_flow ordinary g.program g.steps 0 old [] takes.turns.granted takes.turns.mid takes.turns.sent takes.turns.grants start.sound old.queue []
      (sym (append-nil old.queue)) refl others takes.turns.later n new.queue after
      (λ now more at same. subst (λ (m : ℕ). Flowed now more takes.turns.sent others takes.turns.later (min (length takes.turns.later) m) new.queue after)
      same (others_flow g.program g.steps 0 takes.turns.mid takes.turns.sent takes.turns.later new after takes.turns.takes now more at)) in
      record {
        gone = f.gone;
        later = f.later;
        keep = f.keep;
        more = f.more;
        first = takes.turns.all ∙ f.first;
        count = takes.spends ∙ f.count;
        before = f.old;
        after = f.new;
        flows = subst (λ (l : Ts). Flows f.gone acts_by_depth (f.more ++ l)) (append-nil after)
            (f.flows [] f.gone (at_last (IsPermutation-refl f.gone) (sym (append-nil f.gone))));
      }

-- COUNTING
pub besides_first : (q : Ts) (k : ℕ) → besides (take k q) ≤ besides q
besides_first [] zero = omega arith
besides_first [] (suc k) = omega arith
besides_first (t ∷ q) zero = omega arith
besides_first (t ∷ q) (suc k) = by_case (is_for_manager t.to) refl (besides_first q k)
  where
    by_case : (b : Bool) → is_for_manager t.to ≡ b → besides (take k q) ≤ besides q → besides (t ∷ take k q) ≤ besides (t ∷ q)
    by_case true asks rest = let a = none_besides t (take k q) asks in let b = none_besides t q asks in omega (arith, a, b, rest)
    by_case false other rest = let a = one_besides t (take k q) other in let b = one_besides t q other in omega (arith, a, b, rest)

-- one more of them is looked at
besides_more : (q : Ts) (k : ℕ) (t : Token) → k < length q → t ≡ slice_index_or q k t → besides (take (suc k) q) ≡ besides (take k q) + besides (t ∷ [])
besides_more [] k t low is = absurd (omega (arith, low))
besides_more (x ∷ q) zero t low is = let e : besides (x ∷ []) ≡ besides (t ∷ []) = ap (λ (y : Token). besides (y ∷ [])) (sym is) in omega (arith, e)
besides_more (x ∷ q) (suc k) t low is = by_case (is_for_manager x.to) refl (besides_more q k t (omega (arith, low)) is)
  where
    by_case : (b : Bool) → is_for_manager x.to ≡ b → besides (take (suc k) q) ≡ besides (take k q) + besides (t ∷ [])
        → besides (x ∷ take (suc k) q) ≡ besides (x ∷ take k q) + besides (t ∷ [])
    by_case true asks rest = let a = none_besides x (take (suc k) q) asks in let b = none_besides x (take k q) asks in omega (arith, a, b, rest)
    by_case false other rest = let a = one_besides x (take (suc k) q) other in let b = one_besides x (take k q) other in omega (arith, a, b, rest)

pub besides_next : (q : Ts) (k : ℕ) (t : Token) → k < length q → t ≡ slice_index_or q k t → besides (take (k + 1) q) ≡ besides (take k q) + besides (t ∷ [])
besides_next q k t low is =
    let place : suc k ≡ k + 1 = omega arith in
    subst (λ (n : ℕ). besides (take n q) ≡ besides (take k q) + besides (t ∷ [])) place (besides_more q k t low is)

pub request_besides : (t : Token) → is_for_manager t.to ≡ true → besides (t ∷ []) ≡ 0
request_besides t asks = none_besides t [] asks

pub other_besides : (t : Token) → is_for_manager t.to ≡ false → besides (t ∷ []) ≡ 1
other_besides t other = one_besides t [] other
