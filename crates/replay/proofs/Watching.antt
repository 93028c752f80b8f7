-- Runs and their moments, event by event.
use Rattle.std.proofs.Common.{◌≡◌, refl, sym, ◌∙◌, ap, subst, ℕ, zero, suc, ◌+◌, ◌*◌, ◌<◌, ◌≤◌, take, take_all, drop, get_or, true, false, ℤ, List, [], ◌∷◌}
use Rattle.std.proofs.Common.{◌++◌, length, length-append, arith, IsPermutation}
use Rattle.std.specs.Prelude.{All, ◌==◌, Result, Err, Vec}
use Rattle.std.specs.Result.{result_map_both}
use Rattle.std.proofs.lemmas.List.Elements.{All-nil, All-cons, All-head, All-tail, All-append}
use Rattle.std.proofs.lemmas.List.Sorted.{All-permutation, length_permutation, IsPermutation-refl, IsPermutation-trans, IsPermutation-sym}
use Rattle.std.proofs.lemmas.Bool.{ne_eqb}
use Rattle.std.proofs.lemmas.List.{take_more, drop_more, drop_all}
use Rattle.tags.specs.declared.token.Token.{Token}
use Rattle.tags.specs.declared.slot.SlotState.TheVariants.{Empty}
use Rattle.semantics.specs.Program.{Program, first_of}
use Rattle.semantics.specs.Machine.{Store, Machine, Size, Event, Events, Run, Happens, at_start, input_tokens}
use Rattle.semantics.specs.Report.{sum_below, one_if}
use Rattle.element.specs.Near.{Bounds, IsNearCont, IsNearToken}
use Rattle.replay.specs.declared.cells.Cell.TheVariants.{Vacant}
use Rattle.replay.specs.declared.moment.Moment.{Moment}
use Rattle.replay.specs.declared.state.State.{State}
use Rattle.replay.specs.declared.state.Did.{Did}
use Rattle.replay.specs.Moments.{count_full, count_out, IsMoment, Watches, deed_of}
use Rattle.replay.specs.Known.{held, kept}
use Rattle.replay.specs.Nearby.{bounds_of, IsNearStore}
use Rattle.replay.specs.DoesAs.{OfRun, IsCounted, IsDone, KnowsAll}
use Rattle.replay.specs.declared.fault.ReplayRefusal.{ReplayRefusal}
use Rattle.replay.specs.declared.fault.ReplayRefusal.TheVariants.{NotARun, Memory}

-- A RUN AND ITS NEXT EVENT
event_from : (p : Program) (z : Size) (e : ℕ) (t : Token) (a b c : Machine) → IsPermutation a.pool b.pool → b.store ≡ a.store → Event p z e t b c
    → Event p z e t a c
event_from p z e t a b c perm same ev = record {
  made = ev.made;
  rest = ev.rest;
  addressed = ev.addressed;
  takes = IsPermutation-trans a.pool b.pool (t ∷ ev.rest) perm ev.takes;
  happens = subst (λ (s : Store). Happens p (z.elements * z.frames) s t.to t.word ev.made c.store) same ev.happens;
  leaves = ev.leaves;
}

-- a moment says the same of a machine with the same store
moment_from : (p : Program) (z : Size) (t : Token) (made : List Token) (a b c : Machine) (x : Moment) → b.store ≡ a.store → IsMoment p z t made b c x
    → IsMoment p z t made a c x
moment_from p z t made a b c x same m = record {
  deed = m.deed ∙ ap (λ (s : Store). deed_of p s c.store t.to made) same;
  tokens = m.tokens;
  full_slots = m.full_slots;
  frames_out = m.frames_out;
}

pub watch_push : (p : Program) (z : Size) (a b c : Machine) (events : Events) (xs : List Moment) (ev : ℕ × Token) (x : Moment) → Watches p z a events xs b
    → (e : Event p z ev.0 ev.1 b c) → IsMoment p z ev.1 e.made b c x
    → Watches p z a (events ++ ev ∷ []) (xs ++ x ∷ []) c
unfolding event_from
watch_push p z a b c [] [] ev x w e m = (
  c,
  event_from p z ev.0 ev.1 a b c w.0 w.1 e,
  moment_from p z ev.1 e.made a b c x w.1 m,
  (IsPermutation-refl c.pool, refl),
)
watch_push p z a b c [] (y ∷ ys) ev x w e m = absurd w
watch_push p z a b c (f ∷ events) [] ev x w e m = absurd w
watch_push p z a b c (f ∷ events) (y ∷ ys) ev x w e m = (w.0, w.1, w.2, watch_push p z w.0 b c events ys ev x w.3 e m)

store_end : (a b c : Machine) → b.store ≡ a.store → c.store ≡ b.store → c.store ≡ a.store
store_end a b c e f = f ∙ e

pub watch_end : (p : Program) (z : Size) (a b c : Machine) (events : Events) (xs : List Moment) → Watches p z a events xs b → IsPermutation b.pool c.pool
    → c.store ≡ b.store → Watches p z a events xs c
watch_end p z a b c [] [] w perm same = (IsPermutation-trans a.pool b.pool c.pool w.0 perm, store_end a b c w.1 same)
watch_end p z a b c [] (y ∷ ys) w perm same = absurd w
watch_end p z a b c (f ∷ events) [] w perm same = absurd w
watch_end p z a b c (f ∷ events) (y ∷ ys) w perm same = (w.0, w.1, w.2, watch_end p z w.0 b c events ys w.3 perm same)

-- ONE EVENT
-- the token that an event takes is near
pub token_near : {A : Type 0} (p : Program) (h : State A) (z : Size) (e : ℕ) (t : Token) (m n : Machine) → KnowsAll p h m → Event p z e t m n
    → IsNearToken (bounds_of p h.frames) t
token_near p h z e t m n stands ev = All-head (IsNearToken (bounds_of p h.frames)) t ev.rest
    (All-permutation (IsNearToken (bounds_of p h.frames)) m.pool (t ∷ ev.rest) ev.takes stands.near)

-- what the token does, with the number of frames that is held
pub event_happens : (p : Program) (z : Size) (e : ℕ) (t : Token) (m n : Machine) (frames : ℕ) → z.elements * z.frames ≡ frames → (ev : Event p z e t m n)
    → Happens p frames m.store t.to t.word ev.made n.store
event_happens p z e t m n frames is ev = subst (λ (k : ℕ). Happens p k m.store t.to t.word ev.made n.store) is ev.happens

pub some_token : {A : Type 0} (p : Program) (h : State A) (z : Size) (e : ℕ) (t : Token) (m n : Machine) → KnowsAll p h m → Event p z e t m n → 0 < h.tokens
some_token p h z e t m n stands ev = let count = length_permutation m.pool (t ∷ ev.rest) ev.takes in let is = stands.tokens in let one : length
    (t ∷ ev.rest) ≡ suc (length ev.rest) = refl in omega (arith, count, is, one)

pub moves : {A : Type 0} (p : Program) (old mid new : State A) (z : Size) (e : ℕ) (t : Token) (m n : Machine) (did : Did) (x : Moment)
    → z.elements * z.frames ≡ old.frames → KnowsAll p old m → (ev : Event p z e t m n)
    → IsDone p old.frames did t.to ev.made m.store mid n.store → mid.frames ≡ old.frames → mid.tokens ≡ old.tokens → old.tokens + did.made ≡ new.tokens + 1
    → new ≡ record { slots = mid.slots; cells = mid.cells; tokens = new.tokens; frames = mid.frames; frames_out = mid.frames_out; requests = mid.requests }
    → x ≡ record { deed = did.deed; tokens = new.tokens; full_slots = mid.slots.full; frames_out = mid.frames_out }
    → IsMoment p z t ev.made m n x × KnowsAll p new n
moves {A} p old mid new z e t m n did x frames stands ev done same_frames same_tokens counted new_is x_is = (
  subst (λ (y : Moment). IsMoment p z t ev.made m n y) (sym x_is) (record {
    deed = done.deed;
    tokens = count;
    full_slots = done.holds.full ∙ ap (λ (k : ℕ). count_full k n.store) all_frames;
    frames_out = done.holds.out ∙ ap (λ (k : ℕ). count_out k n.store) all_frames;
  }),
  subst (λ (h : State A). KnowsAll p h n) (sym new_is) (record {
    holds = record { slots = done.holds.slots; cells = done.holds.cells; full = done.holds.full; out = done.holds.out; requests = done.holds.requests };
    tokens = count;
    near_store = subst (λ (k : ℕ). IsNearStore (bounds_of p k) n.store) (sym same_frames) done.near_store;
    near = subst (λ (k : ℕ). All (IsNearToken (bounds_of p k)) n.pool) (sym same_frames) all_near;
  }),
)
  where
    all_frames : mid.frames ≡ z.elements * z.frames
    all_frames = same_frames ∙ sym frames

    taken : suc (length ev.rest) ≡ length m.pool
    taken = length_permutation m.pool (t ∷ ev.rest) ev.takes

    left : length (ev.made ++ ev.rest) ≡ length n.pool
    left = length_permutation n.pool (ev.made ++ ev.rest) ev.leaves

    both : length (ev.made ++ ev.rest) ≡ length ev.made + length ev.rest
    both = length-append ev.made ev.rest

    count : new.tokens ≡ length n.pool
    count = let was = stands.tokens in let made = done.made in omega (arith, taken, left, both, was, made, counted)

    all_near : All (IsNearToken (bounds_of p old.frames)) n.pool
    all_near = All-permutation (IsNearToken (bounds_of p old.frames)) (ev.made ++ ev.rest) n.pool (IsPermutation-sym n.pool (ev.made ++ ev.rest) ev.leaves)
        (All-append (IsNearToken (bounds_of p old.frames)) ev.made ev.rest done.near
        (All-tail (IsNearToken (bounds_of p old.frames)) t ev.rest
        (All-permutation (IsNearToken (bounds_of p old.frames)) m.pool (t ∷ ev.rest) ev.takes stands.near)))

-- THE START
inputs_length : (ip : ℕ) (xs : List ℤ) → length (input_tokens ip xs) ≡ length xs
inputs_length ip [] = refl
inputs_length ip (x ∷ xs) = ap suc (inputs_length (ip + 1) xs)

inputs_near : (b : Bounds) (ip : ℕ) (xs : List ℤ) → 0 < b.frames → All (IsNearToken b) (input_tokens ip xs)
inputs_near b ip [] some = All-nil (IsNearToken b)
inputs_near b ip (x ∷ xs) some = All-cons (IsNearToken b) _ (input_tokens (ip + 1) xs) (record { to = some; word = tt }) (inputs_near b (ip + 1) xs some)

sum_none : (n : ℕ) → sum_below n (λ k. 0) ≡ 0
sum_none zero = refl
sum_none (suc n) = let before = sum_none n in omega (arith, before)

none_full : (n w : ℕ) → sum_below n (λ f. sum_below w (λ r. 0)) ≡ 0
none_full zero w = refl
none_full (suc n) w = let before = none_full n w in let row = sum_none w in omega (arith, before, row)

not_main : (n : ℕ) → (suc n == 0) ≡ false
not_main n = ne_eqb (suc n) 0 (λ (e : suc n ≡ 0). let no : ⊥ = omega (arith, e) in no)

main_out : (n : ℕ) → 0 < n → sum_below n (λ f. one_if (f == 0)) ≡ 1
main_out zero some = absurd (let no : ⊥ = omega (arith, some) in no)
main_out (suc zero) some = refl
main_out (suc (suc n)) some = let before = main_out (suc n) (omega arith) in let here : one_if (suc n == 0) ≡ 0 = ap one_if (not_main n) in omega
    (arith, before, here)

first_is_out : (f frames : ℕ) → 0 < frames → (f == 0) ≡ true → f < frames
first_is_out zero frames some e = some
first_is_out (suc f) frames some e = absurd (let no = not_main f in let both : true ≡ false = sym e ∙ no in let bad : ⊥ = cc in bad)

pub stands_first : {A : Type 0} (p : Program) (h : State A) (frames : ℕ) (xs : List ℤ) → 0 < frames → h.frames ≡ frames
    → ((f r : ℕ) → held h.slots f r ≡ Empty) → h.slots.full ≡ 0 → ((x : ℕ) → kept h.cells x ≡ Vacant)
    → h.tokens ≡ length xs + 1 → h.frames_out ≡ 1 → h.requests ≡ 0 → KnowsAll p h (at_start p xs)
stands_first p h frames xs some is empty none vacant tokens out requests = record {
  holds = record { slots = empty; cells = vacant; full = none ∙ sym (none_full h.frames 512); out = out ∙ sym (main_out h.frames there); requests = requests };
  tokens = (let count = inputs_length (first_of p p.main + 1) xs in omega (arith, count, tokens));
  near_store = record {
    slots = λ f r. tt;
    cells = λ x. tt;
    requests = All-nil
        (IsNearCont (bounds_of p h.frames));
    out = λ f e. first_is_out f h.frames there e;
  };
  near = All-cons (IsNearToken (bounds_of p h.frames)) _ (input_tokens (first_of p p.main + 1) xs) (record { to = there; word = omega arith })
      (inputs_near (bounds_of p h.frames) (first_of p p.main + 1) xs there);
}
  where
    there : 0 < h.frames
    there = omega (arith, is, some)

-- FAULTS
-- a fault that is passed on is said of a run where it was said before
pub same_fault : {T U : Type 0} (P : T → Type 0) (Q : U → Type 0) (fault : ReplayRefusal) (result : Result U ReplayRefusal) → result ≡ Err fault
    → OfRun {T = T} (Err fault) P → OfRun result Q
same_fault P Q NotARun result e h = absurd h
same_fault {T} {U} P Q Memory result e h = subst (λ (r : Result U ReplayRefusal). OfRun r Q) (sym e) tt

-- where there is a token there is no fault but memory
pub no_count : {U : Type 0} (tokens made : ℕ) (Q : U → Type 0) (fault : ReplayRefusal) (result : Result U ReplayRefusal) → result ≡ Err fault → 0 < tokens
    → IsCounted tokens made (Err fault) → OfRun result Q
no_count tokens made Q NotARun result e some none = absurd (let no : ⊥ = omega (arith, some, none) in no)
no_count {U} tokens made Q Memory result e some none = subst (λ (r : Result U ReplayRefusal). OfRun r Q) (sym e) tt

-- A LIST OF EVENTS, FROM ONE TO THE NEXT
pub next_event : (p : Program) (z : Size) (mid last : Machine) (events : Events) (i : ℕ) (ev : ℕ × Token) → i < length events → ev ≡ get_or events i ev
    → Run p z mid (drop i events) last
    → (next : Machine) × Event p z ev.0 ev.1 mid next × Run p z next (drop (i + 1) events) last
next_event p z mid last events i ev low is run = subst (λ (es : Events). Run p z mid es last)
    (drop_more events i ev low ∙ ap (λ (x : ℕ × Token). x ∷ drop (i + 1) events) (sym is)) run

pub watch_next : (p : Program) (z : Size) (a b c : Machine) (events : Events) (i : ℕ) (ev : ℕ × Token) (xs ys : List Moment) (x : Moment) → i < length events
    → ev ≡ get_or events i ev → ys ≡ xs ++ x ∷ []
    → Watches p z a (take i events) xs b → (e : Event p z ev.0 ev.1 b c) → IsMoment p z ev.1 e.made b c x → Watches p z a (take (i + 1) events) ys c
watch_next p z a b c events i ev xs ys x low is pushed w e m =
    subst (λ (zs : List Moment). Watches p z a (take (i + 1) events) zs c) (sym pushed)
    (subst (λ (es : Events). Watches p z a es (xs ++ x ∷ []) c) (sym (take_more events i ev low ∙ ap (λ (y : ℕ × Token). take i events ++ y ∷ []) (sym is)))
    (watch_push p z a b c (take i events) xs ev x w e m))

pub watch_all : (p : Program) (z : Size) (a b c : Machine) (events : Events) (i : ℕ) (xs : List Moment) → length events ≤ i
    → Watches p z a (take i events) xs b → Run p z b (drop i events) c → Watches p z a events xs c
watch_all p z a b c events i xs past w run =
    let all : Watches p z a events xs b = subst (λ (es : Events). Watches p z a es xs b) (take_all i events past) w in
    let none : Run p z b [] c = subst (λ (es : Events). Run p z b es c) (drop_all i events past) run in
    watch_end p z a b c events xs all none.0 none.1

-- the same of lists in vectors
pub passed_on : {T A : Type 0} (P : T → Type 0) (Q : List Moment → Type 0) (fault : ReplayRefusal) (result : Result (Vec Moment A) ReplayRefusal)
    → result ≡ Err fault → OfRun {T = T} (Err fault) P → OfRun (result_map_both (λ v. v.items) (λ e. e) result) Q
passed_on {T} {A} P Q NotARun result e h = absurd h
passed_on {T} {A} P Q Memory result e h = subst (λ (r : Result (Vec Moment A) ReplayRefusal). OfRun (result_map_both (λ v. v.items) (λ e. e) r) Q) (sym e) tt
