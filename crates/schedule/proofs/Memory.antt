-- Lanes in memory, and what they hold.
use Rattle.std.proofs.Common.{◌≡◌, refl, sym, ◌∙◌, ap, subst, ℕ, ◌+◌, ◌<◌, Bool, true, false, ◌||◌, cond, List, [], ◌∷◌, ◌++◌, length, map, drop}
use Rattle.std.proofs.Common.{get_or, Option, Some, Result, arith}
use Rattle.std.specs.Prelude.{slice_get, slice_set, OnOk, OnErr, ◌==◌}
use Rattle.std.specs.List.{filter, list_any}
use Rattle.std.specs.Option.{option_map}
use Rattle.std.specs.Result.{is_err}
use Rattle.std.proofs.lemmas.List.{map-set, drop_more, length-append, length-map}
use Rattle.std.proofs.lemmas.List.Elements.{filter_agree}
use Rattle.std.proofs.lemmas.Option.{slice_get-map, slice_get_read}
use Rattle.tags.specs.declared.token.Token.{Token}
use Rattle.tags.specs.Addresses.{element_of}
use Rattle.element.specs.Holding.{Holding, LaneView, held_of, is_here, here, with_queue, queued}
use Rattle.schedule.specs.Setting.{Setting}
use Rattle.semantics.specs.Program.{Program}
use Rattle.schedule.specs.declared.elements.Elements.{Elements}
use Rattle.schedule.specs.State.{AllFrom, IsAt, IsPlaced, IsSoundState, IsWell, delivered, lanes_of, state_of}
use Rattle.schedule.proofs.Places.{first_get, from_map, to_map}
use Rattle.schedule.proofs.Tokens.{set_same, delivered_none, delivered_twice, delivered_one}

pub ok_then : {X Y : Type 0} (r : Result X Y) (P Q : Type 0) → (P → Q) → OnOk r P → OnOk r Q
ok_then (Result.Ok x) P Q f p = f p
ok_then (Result.Err e) P Q f p = tt

pub err_then : {X Y : Type 0} (r : Result X Y) (P Q : Type 0) → (P → Q) → OnErr r P → OnErr r Q
err_then (Result.Ok x) P Q f p = tt
err_then (Result.Err e) P Q f p = f p

-- what follows either way
pub ok_or_err : {X Y : Type 0} (r : Result X Y) (P Q R : Type 0) → (P → R) → (Q → R) → OnOk r P → OnErr r Q → R
ok_or_err (Result.Ok x) P Q R f k p q = f p
ok_or_err (Result.Err e) P Q R f k p q = k q

pub when_ok : {X Y : Type 0} (r : Result X Y) (P : Type 0) → is_err r ≡ false → OnOk r P → P
when_ok (Result.Ok x) P good p = p
when_ok (Result.Err e) P good p = absurd (let no : ⊥ = cc in no)

some_is : {X : Type 0} (o : Option X) (x y : X) → o ≡ Some x → o ≡ Some y → x ≡ y
some_is o x y e f = cc

any_true : {X : Type 0} (p : X → Bool) (xs : List X) → list_any p xs ≡ true → 0 < length (filter p xs)
any_true p [] e = absurd (let no : ⊥ = cc in no)
any_true p (x ∷ xs) e = by_case (p x) e (any_true p xs)
  where
    by_case : (t : Bool) → (t || list_any p xs) ≡ true → (list_any p xs ≡ true → 0 < length (filter p xs)) → 0 < length (cond t (x ∷ filter p xs) (filter p xs))
    by_case true e rest = omega arith
    by_case false e rest = rest e

any_false : {X : Type 0} (p : X → Bool) (xs : List X) → list_any p xs ≡ false → filter p xs ≡ []
any_false p [] e = refl
any_false p (x ∷ xs) e = by_case (p x) e (any_false p xs)
  where
    by_case : (t : Bool) → (t || list_any p xs) ≡ false → (list_any p xs ≡ false → filter p xs ≡ []) → cond t (x ∷ filter p xs) (filter p xs) ≡ []
    by_case true e rest = absurd (let no : ⊥ = cc in no)
    by_case false e rest = rest e

pub delivered_at : (n k : ℕ) (ts : List Token) (lanes : List Holding) → AllFrom (IsAt n) k lanes → AllFrom (IsAt n) k (delivered ts lanes)
delivered_at n k ts lanes all = from_map (IsAt n) (IsAt n) (λ (h : Holding). queued h ts) (λ (i : ℕ) (h : Holding) a. a) k lanes all

mine : (n i : ℕ) (x : Holding) (ts : List Token) → IsAt n i x → here x.part.shape ts ≡ filter (λ (t : Token). element_of n t.to == i) ts
mine n i x ts at = filter_agree (is_here x.part.shape) (λ (t : Token). element_of n t.to == i)
    (λ (t : Token). ap (λ (m : ℕ). element_of m t.to == x.part.shape.element) at.1 ∙ ap (λ (m : ℕ). element_of n t.to == m) at.0) ts

pub held_at : (items : List LaneView) (i : ℕ) (x : LaneView) → i < length items → x ≡ get_or items i x → slice_get (map held_of items) i ≡ Some (held_of x)
held_at items i x low is = slice_get-map held_of items i ∙ ap (λ (o : Option (LaneView)). option_map held_of o)
    (slice_get_read items (length items) i x refl low is)

pub received : (items : List LaneView) (n i : ℕ) (x new : LaneView) (t : Token) → AllFrom (IsAt n) 0 (map held_of items) → element_of n t.to ≡ i
    → i < length items → x ≡ get_or items i x
    → held_of new ≡ with_queue (held_of x) (x.held.queue ++ t ∷ []) → map held_of (slice_set items i new) ≡ delivered (t ∷ []) (map held_of items)
received items n i x new t all at low is e =
    let place : element_of n t.to ≡ 0 + i = omega arith in
    map-set held_of items i new ∙ ap (λ (h : Holding). slice_set (map held_of items) i h) e
    ∙ sym (delivered_one n 0 (map held_of items) i t (held_of x) all place (held_at items i x low is))

pub unreceived : (items : List LaneView) (i : ℕ) (x new : LaneView) → i < length items → x ≡ get_or items i x → held_of new ≡ held_of x
    → map held_of (slice_set items i new) ≡ map held_of items
unreceived items i x new low is e = map-set held_of items i new ∙ ap (λ (h : Holding). slice_set (map held_of items) i h) e
    ∙ set_same (map held_of items) i (held_of x) (held_at items i x low is)

-- one more token has arrived
pub arrived_more : (items new : List LaneView) (sent : List Token) (k : ℕ) (t : Token) → k < length sent → t ≡ get_or sent k t → map held_of new
    ≡ delivered (t ∷ []) (map held_of items)
    → lanes_of new (drop (k + 1) sent) ≡ lanes_of items (drop k sent)
arrived_more items new sent k t low is e =
    ap (λ (l : List Holding). delivered (drop (k + 1) sent) l) e ∙ delivered_twice (t ∷ []) (drop (k + 1) sent) (map held_of items)
    ∙ ap (λ (l : List Token). delivered l (map held_of items)) (ap (λ (u : Token). u ∷ drop (k + 1) sent) is ∙ sym (drop_more sent k t low))

pub raw_at : (g : Setting) (items : List LaneView) (ts : List Token) → AllFrom (IsPlaced g) 0 (lanes_of items ts)
    → AllFrom (IsAt g.elements) 0 (map held_of items)
raw_at g items ts all = to_map (IsAt g.elements) (IsPlaced g) (λ (h : Holding). queued h ts)
    (λ (i : ℕ) (h : Holding) (p : IsPlaced g i (queued h ts)). (p.element, p.elements)) 0 (map held_of items) all

pub none_arriving : (items : List LaneView) (sent : List Token) (arrived : ℕ) → sent ≡ [] → arrived ≡ 0 → lanes_of items (drop arrived sent) ≡ map held_of items
none_arriving items sent arrived none first = ap (λ (n : ℕ). lanes_of items (drop n sent)) first ∙ ap (λ (ts : List Token). lanes_of items ts) none
    ∙ delivered_none (map held_of items)

-- what is seen of one lane
pub seen_at : (items : List LaneView) (ts : List Token) (i : ℕ) (x : LaneView) → i < length items → x ≡ get_or items i x
    → slice_get (lanes_of items ts) i ≡ Some (queued (held_of x) ts)
seen_at items ts i x low is = slice_get-map (λ (h : Holding). queued h ts) (map held_of items) i
    ∙ ap (λ (o : Option Holding). option_map (λ (h : Holding). queued h ts) o) (held_at items i x low is)

pub seen : (items : List LaneView) (ts : List Token) (i : ℕ) (x : LaneView) (h : Holding) → i < length items → x ≡ get_or items i x
    → slice_get (lanes_of items ts) i ≡ Some h → h ≡ queued (held_of x) ts
seen items ts i x h low is there = some_is (slice_get (lanes_of items ts) i) h (queued (held_of x) ts) there (seen_at items ts i x low is)

-- whether one has a token
pub has_waiting : (items : List LaneView) (ts : List Token) (i : ℕ) (x : LaneView) (h : Holding) → i < length items → x ≡ get_or items i x
    → slice_get (lanes_of items ts) i ≡ Some h → 0 < length x.held.queue → 0 < length h.queue
has_waiting items ts i x h low is there some =
    let e : h.queue ≡ x.held.queue ++ here (held_of x).part.shape ts = ap (λ (k : Holding). k.queue) (seen items ts i x h low is there) in
    let l : length h.queue ≡ length x.held.queue + length (here (held_of x).part.shape ts) = ap (λ (q : List Token). length q) e
    ∙ length-append x.held.queue (here (held_of x).part.shape ts) in
    omega arith

pub has_arriving : (items : List LaneView) (ts : List Token) (n i : ℕ) (x : LaneView) (h : Holding) → i < length items → x ≡ get_or items i x
    → IsAt n i (held_of x) → slice_get (lanes_of items ts) i ≡ Some h
    → list_any (λ (t : Token). element_of n t.to == i) ts ≡ true → 0 < length h.queue
has_arriving items ts n i x h low is at there any =
    let e : h.queue ≡ x.held.queue ++ here (held_of x).part.shape ts = ap (λ (k : Holding). k.queue) (seen items ts i x h low is there) in
    let l : length h.queue ≡ length x.held.queue + length (here (held_of x).part.shape ts) = ap (λ (q : List Token). length q) e
    ∙ length-append x.held.queue (here (held_of x).part.shape ts) in
    let m : length (here (held_of x).part.shape ts) ≡ length (filter (λ (t : Token). element_of n t.to == i) ts) = ap (λ (q : List Token). length q)
    (mine n i (held_of x) ts at) in
    let a : 0 < length (filter (λ (t : Token). element_of n t.to == i) ts) = any_true (λ (t : Token). element_of n t.to == i) ts any in
    omega arith

pub has_none : (items : List LaneView) (ts : List Token) (n i : ℕ) (x : LaneView) (h : Holding) → i < length items → x ≡ get_or items i x
    → IsAt n i (held_of x) → slice_get (lanes_of items ts) i ≡ Some h
    → x.held.queue ≡ [] → list_any (λ (t : Token). element_of n t.to == i) ts ≡ false → h.queue ≡ []
has_none items ts n i x h low is at there none any =
    ap (λ (k : Holding). k.queue) (seen items ts i x h low is there) ∙ ap (λ (q : List Token). q ++ here (held_of x).part.shape ts) none
    ∙ mine n i (held_of x) ts at ∙ any_false (λ (t : Token). element_of n t.to == i) ts any

pub lane_count : (items : List LaneView) (ts : List Token) (n : ℕ) → length (lanes_of items ts) ≡ n → length items ≡ n
lane_count items ts n e = sym (length-map items held_of) ∙ sym (length-map (map held_of items) (λ (h : Holding). queued h ts)) ∙ e

-- after the step of one lane
pub state_next : (items : List LaneView) (sent after : List Token) (arrived e : ℕ) (new : LaneView) → sent ≡ [] → arrived ≡ 0
    → delivered after (slice_set (lanes_of items (drop arrived sent)) e (held_of new)) ≡ lanes_of (slice_set items e new) (drop arrived after)
state_next items sent after arrived e new none first =
    ap (λ (l : List Holding). delivered after (slice_set l e (held_of new))) (none_arriving items sent arrived none first)
    ∙ ap (λ (l : List Holding). delivered after l) (sym (map-set held_of items e new))
    ∙ ap (λ (n : ℕ). delivered (drop n after) (map held_of (slice_set items e new))) (sym first)

-- where no token is on its way
pub lane_there : {C A : Type 0} (program : C → Program) (width : C → ℕ) (m : Elements C A) (e : ℕ) (x : LaneView) → IsWell program width m
    → e < m.shape.elements → m.sent.items ≡ [] → m.arrived ≡ 0 → x ≡ get_or m.lanes.items e x
    → slice_get (state_of program width m).lanes e ≡ Some (held_of x)
lane_there program width m e x well low none first is =
    let count = lane_count m.lanes.items (drop m.arrived m.sent.items) m.shape.elements well.sound.count in
    let within : e < length m.lanes.items = omega arith in
    subst (λ (l : List Holding). slice_get l e ≡ Some (held_of x)) (sym (none_arriving m.lanes.items m.sent.items m.arrived none first))
    (held_at m.lanes.items e x within is)

-- what is so of a lane, with the tokens that are on their way
pub raw_placed : {C A : Type 0} (program : C → Program) (width : C → ℕ) (m : Elements C A) (i : ℕ) (x : LaneView)
    → IsSoundState (state_of program width m) → i < m.shape.elements → x ≡ get_or m.lanes.items i x
    → IsPlaced (state_of program width m).setting i (queued (held_of x) (drop m.arrived m.sent.items))
raw_placed program width m i x sound low is =
    let count = lane_count m.lanes.items (drop m.arrived m.sent.items) m.shape.elements sound.count in
    let within : i < length m.lanes.items = omega arith in
    first_get (IsPlaced (state_of program width m).setting) (state_of program width m).lanes i (queued (held_of x) (drop m.arrived m.sent.items))
    sound.lanes (seen_at m.lanes.items (drop m.arrived m.sent.items) i x within is)
