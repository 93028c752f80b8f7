-- Requests that are put aside while other tokens are taken.
use Rattle.std.proofs.Common.{◌≡◌, refl, sym, ◌∙◌, ap, subst, ℕ, zero, suc, ◌+◌, ◌-◌, ◌%◌, ◌<◌, ◌≤◌, inl, inr, Bool, true, false, List, [], ◌∷◌, ◌++◌}
use Rattle.std.proofs.Common.{length, get_or, Option, Some, arith, append_assoc, length-append}
use Rattle.std.specs.Prelude.{All, take, remove, slice_get, slice_set, slice_index_or, IsPermutation, if◌then◌else◌}
use Rattle.std.proofs.Math.Nat.{zero-mod, mod-eq_of_lt}
use Rattle.std.proofs.lemmas.List.{get_or_append_left, append-nil}
use Rattle.std.proofs.lemmas.List.Edits.{length-remove}
use Rattle.std.proofs.lemmas.Option.{get_or_from_slice_get, slice_get-get_or}
use Rattle.std.proofs.lemmas.List.Elements.{All-append, All-tail}
use Rattle.std.proofs.lemmas.List.Sorted.{IsPermutation-refl, IsPermutation-trans, IsPermutation-remove, IsPermutation-append_left, All-permutation}
use Rattle.std.proofs.lemmas.List.Sorted.{IsPermutation-append_comm}
use Rattle.tags.specs.declared.token.Token.{Token}
use Rattle.tags.specs.Addresses.{element_of}
use Rattle.semantics.specs.Program.{Program}
use Rattle.semantics.specs.Machine.{Machine}
use Rattle.element.specs.declared.lane.Stepped.TheVariants.{Did}
use Rattle.element.specs.Acts.{Acts}
use Rattle.element.specs.Parts.{Shape, IsPart, bounds}
use Rattle.element.specs.Near.{IsNearToken}
use Rattle.element.specs.Holding.{Holding, here, taken, IsSoundLane}
use Rattle.element.specs.Steps.{place_of, Picks, HoldsTokens, IsAfter, Does}
use Rattle.element.specs.Requests.{is_for_manager, held_back, asks_first}
use Rattle.element.specs.ByDepth.{TakesByDepth, MakesByDepth, SendsOthers, whole, offered, AreAside}
use Rattle.element.proofs.Stepping.{steps_as, sound_as}
use Rattle.element.proofs.Turns.{oldest, oldest_acts, does_alone, sends_none}

-- WHAT A QUEUE BEGINS WITH
all_more : (t : Token) (ts : List Token) → held_back (t ∷ ts) ≡ length (t ∷ ts) → (is_for_manager t.to ≡ true) × (held_back ts ≡ length ts)
all_more t ts all = by_case (is_for_manager t.to) refl all
  where
    by_case : (b : Bool) → is_for_manager t.to ≡ b → (if b then suc (held_back ts) else 0) ≡ length (t ∷ ts)
        → (is_for_manager t.to ≡ true) × (held_back ts ≡ length ts)
    by_case true is e = (is, omega arith)
    by_case false is e = absurd (omega arith)

one_more : (t : Token) (ts : List Token) → is_for_manager t.to ≡ true → held_back (t ∷ ts) ≡ suc (held_back ts)
one_more t ts asks = ap (λ (b : Bool). if b then suc (held_back ts) else 0) asks

pub held_append : (aside q : List Token) → held_back aside ≡ length aside → held_back (aside ++ q) ≡ length aside + held_back q
held_append [] q all = omega arith
held_append (t ∷ ts) q all =
    let first = all_more t ts all in
    let rest = held_append ts q first.1 in
    let e : held_back (t ∷ (ts ++ q)) ≡ suc (held_back (ts ++ q)) = one_more t (ts ++ q) first.0 in
    omega arith

pub held_other : (q : List Token) → asks_first q ≡ false → held_back q ≡ 0
held_other [] other = refl
held_other (t ∷ ts) other = ap (λ (b : Bool). if b then suc (held_back ts) else 0) other

pub held_snoc : (aside : List Token) (t : Token) → held_back aside ≡ length aside → is_for_manager t.to ≡ true
    → held_back (aside ++ t ∷ []) ≡ length (aside ++ t ∷ [])
held_snoc aside t all asks =
    let a = held_append aside (t ∷ []) all in
    let b : held_back (t ∷ []) ≡ suc 0 = one_more t [] asks in
    let l : length (aside ++ t ∷ []) ≡ length aside + length (t ∷ []) = length-append aside (t ∷ []) in
    omega arith

-- the token that a list begins with
pub asks_at : (q : List Token) (t : Token) → slice_get q 0 ≡ Some t → asks_first q ≡ is_for_manager t.to
asks_at [] t e = absurd (let no : ⊥ = cc in no)
asks_at (x ∷ xs) t e = let same : x ≡ t = cc in ap (λ (y : Token). is_for_manager y.to) same

-- EVENTS WITH TOKENS THAT ARE NO REQUESTS
pub one_other_more : (p : Program) (steps n : ℕ) (start old new : Holding) (t : Token) (first before after : List Token)
    → SendsOthers p steps n start first old before → IsSoundLane p old → 0 < length old.queue → t ≡ get_or old.queue 0 t → old.made < steps
    → Acts p old 0 t before new after → is_for_manager t.to ≡ false → SendsOthers p steps (suc n) start first new after
one_other_more p steps n start old new t first before after so_far sound some is few acts other =
    let there = oldest old t is in
    let at = oldest_acts p old t before Did new after acts in
    let count : new.made ≡ old.made + 1 = ap (λ (h : Holding). h.made) acts.held in
    let most : new.made ≤ steps = omega arith in
    let does : Does p old 0 before new after = steps_as p old 0 t before sound some there Did new after at in
    let same : t ≡ does.token = there ∙ get_or_from_slice_get old.queue (place_of old 0) does.token t does.picks.token in (
      old,
      before,
      so_far,
      few,
      sound_as p old 0 t before sound some there Did new after at,
      most,
      (does, ap (λ (u : Token). is_for_manager u.to) (sym same) ∙ other),
    )

pub others_more : (p : Program) (steps n m : ℕ) (start mid new : Holding) (first before after : List Token) → SendsOthers p steps n start first mid before
    → SendsOthers p steps m mid before new after → (k : ℕ) × SendsOthers p steps k start first new after
others_more p steps n zero start mid new first before after so_far same = (
  n,
  subst (λ (h : Holding). SendsOthers p steps n start first h after) (sym same.0)
      (subst (λ (ts : List Token). SendsOthers p steps n start first mid ts) (sym same.1) so_far),
)
others_more p steps n (suc m) start mid new first before after so_far (last, sent, between, few, sound, most, does) =
    let all = others_more p steps n m start mid last first before sent so_far between in
    (suc all.0, (last, sent, all.1, few, sound, most, does))

-- AN EVENT BESIDE TOKENS THAT STAY. The tokens `stay` stay with the element; so do the others of its queue `q`, of which the token in the place j is taken.
module _ (p : Program) (old new : Holding) (stay q : List Token) (j n : ℕ) (does : Does p old 0 [] new []) (below : j < length q)
    (at : slice_get q j ≡ Some does.token) (rest : remove q j ≡ stay ++ remove old.queue 0) (same : IsPermutation q (stay ++ old.queue)) where
  abbrev outer : Holding
  outer = record { part = old.part; queue = q; made = n; answered = old.answered }

  abbrev after : Holding
  after = record { part = new.part; queue = stay ++ new.queue; made = n + 1; answered = new.answered }

  place : j % length q ≡ j
  place = mod-eq_of_lt below

  abbrev is : {xs ys : List Token} → xs ≡ ys → IsPermutation xs ys
  is {xs} d = subst (λ (l : List Token). IsPermutation xs l) d (IsPermutation-refl xs)

  -- the same tokens, the element's queue first
  turned : (queue others : List Token) → IsPermutation ((stay ++ queue) ++ others) (queue ++ (stay ++ others))
  turned queue others =
      IsPermutation-trans _ _ _ (IsPermutation-append_left others (stay ++ queue) (queue ++ stay) (IsPermutation-append_comm stay queue))
      (is (append_assoc queue stay others))

  turned_back : (queue others : List Token) → IsPermutation (queue ++ (stay ++ others)) ((stay ++ queue) ++ others)
  turned_back queue others =
      IsPermutation-trans _ _ _ (is (sym (append_assoc queue stay others)))
      (IsPermutation-append_left others (queue ++ stay) (stay ++ queue) (IsPermutation-append_comm queue stay))

  queue_is : after.queue ≡ remove q j ++ here old.part.shape does.made
  queue_is =
      ap (λ (l : List Token). stay ++ l) (does.queue ∙ ap (λ (i : ℕ). remove old.queue i ++ here old.part.shape does.made) (zero-mod (length old.queue)))
      ∙ sym (append_assoc stay (remove old.queue 0) (here old.part.shape does.made))
      ∙ ap (λ (l : List Token). l ++ here old.part.shape does.made) (sym rest)

  after_event : (m : Machine) (others : List Token) → IsPart old.part m.store → HoldsTokens outer [] others m
      → IsAfter p outer does.token after [] others does.made m
  after_event m others part pool =
      let a = does.event m (stay ++ others) part (IsPermutation-trans _ _ _ pool (IsPermutation-trans _ _ _ (IsPermutation-append_left others q
      (stay ++ old.queue) same) (turned old.queue others))) in
      record {
        next = a.next;
        event = a.event;
        makes = a.makes;
        part = a.part;
        same = a.same;
        tokens = IsPermutation-trans _ _ _ a.tokens (turned_back new.queue others);
      }

  pub does_beside : Does p outer j [] after []
  does_beside = record {
    token = does.token;
    picks = record { some = (let s = below in omega arith); token = subst (λ (i : ℕ). slice_get q i ≡ Some does.token) (sym place) at };
    made = does.made;
    queue = queue_is ∙ ap (λ (i : ℕ). remove q i ++ here old.part.shape does.made) (sym place);
    sent = does.sent;
    near = does.near;
    first = does.first;
    count = refl;
    shape = does.shape;
    event = λ m others part pool. after_event m others part pool;
  }

-- AN OTHER TOKEN IS TAKEN
remove_after : (aside q : List Token) → 0 < length q → remove (aside ++ q) (length aside) ≡ aside ++ remove q 0
remove_after [] q some = refl
remove_after (t ∷ ts) q some = ap (λ (l : List Token). t ∷ l) (remove_after ts q some)

get_after : (aside q : List Token) → slice_get (aside ++ q) (length aside) ≡ slice_get q 0
get_after [] q = refl
get_after (t ∷ ts) q = get_after ts q

-- what is so of the tokens that stay, and of those after the event
pub sound_with : (p : Program) (stay : List Token) (z : Shape) (new : Holding) → All (IsNearToken (bounds p z)) stay
    → All (λ (t : Token). element_of z.elements t.to ≡ z.element) stay → IsSoundLane p new → new.part.shape ≡ z → IsSoundLane p (whole stay new)
sound_with p stay z new near ours sound shape = record {
  part = sound.part;
  near = All-append (IsNearToken (bounds p new.part.shape)) stay new.queue
      (subst (λ (x : Shape). All (IsNearToken (bounds p x)) stay) (sym shape) near) sound.near;
  addressed = All-append (λ (t : Token). element_of new.part.shape.elements t.to ≡ new.part.shape.element) stay new.queue
      (subst (λ (x : Shape). All (λ (t : Token). element_of x.elements t.to ≡ x.element) stay) (sym shape) ours) sound.addressed;
  answered = sound.answered;
}

first_all : (P : Token → Type 0) (xs ys : List Token) → All P (xs ++ ys) → All P xs
first_all P xs ys all = λ k d low. subst P (get_or_append_left xs ys d k low) (all k d (let l = length-append xs ys in omega arith))

sound_after : (p : Program) (aside : List Token) (old new : Holding) → IsSoundLane p (whole aside old) → IsSoundLane p new
    → new.part.shape ≡ old.part.shape → IsSoundLane p (whole aside new)
sound_after p aside old new before sound shape = sound_with p aside old.part.shape new
    (first_all (IsNearToken (bounds p old.part.shape)) aside old.queue before.near)
    (first_all (λ (t : Token). element_of old.part.shape.elements t.to ≡ old.part.shape.element) aside old.queue before.addressed) sound shape

pub event_aside : (p : Program) (aside : List Token) (old new : Holding) → AreAside p aside old → (does : Does p old 0 [] new [])
    → is_for_manager does.token.to ≡ false → IsSoundLane p new
    → AreAside p aside new × (TakesByDepth (whole aside old).queue (length aside)) × Does p (whole aside old) (length aside) [] (whole aside new) []
event_aside p aside old new are does other sound =
    let some = does.picks.some in
    let first : slice_get old.queue 0 ≡ Some does.token = subst (λ (i : ℕ). slice_get old.queue i ≡ Some does.token) (zero-mod (length old.queue)) does.picks.token in
    let long : length (aside ++ old.queue) ≡ length aside + length old.queue = length-append aside old.queue in
    let none : held_back old.queue ≡ 0 = held_other old.queue (asks_at old.queue does.token first ∙ other) in
    let held : held_back (aside ++ old.queue) ≡ length aside + held_back old.queue = held_append aside old.queue are.requests in
    let count : new.made ≡ old.made + 1 = does.count in
    let counted = are.counted in
    let below : length aside < length (aside ++ old.queue) = omega arith in
    let made : old.made - length aside + 1 ≡ new.made - length aside = omega arith in
    let outer = does_beside p old new aside (aside ++ old.queue) (length aside) (old.made - length aside) does below
    (get_after aside old.queue ∙ first) (remove_after aside old.queue some) (IsPermutation-refl (aside ++ old.queue)) in (
      record { sound = sound_after p aside old new are.sound sound does.shape; requests = are.requests; counted = omega arith },
      inr (omega arith, omega arith),
      subst (λ (n : ℕ). Does p (whole aside old) (length aside) [] (record { part = new.part; queue = aside ++ new.queue; made = n; answered = new.answered }) [])
          made outer,
    )

same_token : (h : Holding) (t u : Token) → Picks h 0 t → Picks h 0 u → t ≡ u
same_token h t u a b = some_is (slice_get h.queue (place_of h 0)) t u a.token b.token
  where
    some_is : (o : Option Token) (x y : Token) → o ≡ Some x → o ≡ Some y → x ≡ y
    some_is o x y e f = cc

-- so of many events
pub events_aside : (p : Program) (steps n : ℕ) (aside : List Token) (old new : Holding) (before after : List Token) → old.part.shape.elements ≡ 1
    → AreAside p aside old → SendsOthers p (steps + length aside) n old before new after
    → AreAside p aside new × MakesByDepth p steps n (whole aside old) (whole aside new) × (after ≡ before) × (new.part.shape ≡ old.part.shape)
events_aside p steps zero aside old new before after single are same = (
  subst (λ (h : Holding). AreAside p aside h) (sym same.0) are,
  ap (λ (h : Holding). whole aside h) same.0,
  same.1,
  ap (λ (h : Holding). h.part.shape) same.0,
)
events_aside p steps (suc n) aside old new before last single are (mid, sent, events, few, sound, most, (does, other)) =
    let first = events_aside p steps n aside old mid before sent single are events in
    let mid_single = ap (λ (z : Shape). z.elements) first.3 ∙ single in
    let there = first.0.sound.part.there in
    let alone = does_alone p mid new sent last mid_single there does in
    let same : alone.token ≡ does.token = same_token mid alone.token does.token alone.picks does.picks in
    let one = event_aside p aside mid new first.0 alone (ap (λ (u : Token). is_for_manager u.to) same ∙ other) sound in
    let counted = first.0.counted in
    let counted_new = one.0.counted in
    let few_made : (whole aside mid).made < steps = omega arith in
    let most_made : (whole aside new).made ≤ steps = omega arith in (
      one.0,
      (whole aside mid, first.1, few_made, one.0.sound, most_made, (length aside, one.1, one.2)),
      sends_none p mid new sent last mid_single there does ∙ first.2,
      does.shape ∙ first.3,
    )

-- THE OLDEST TOKEN IS PUT ASIDE
first_rest : (q : List Token) (t : Token) → 0 < length q → t ≡ get_or q 0 t → t ∷ remove q 0 ≡ q
first_rest [] t some is = absurd (omega arith)
first_rest (x ∷ xs) t some is = ap (λ (y : Token). y ∷ xs) is

asks_is : (q : List Token) (t : Token) → 0 < length q → t ≡ get_or q 0 t → asks_first q ≡ true → is_for_manager t.to ≡ true
asks_is [] t some is asks = absurd (omega arith)
asks_is (x ∷ xs) t some is asks = ap (λ (y : Token). is_for_manager y.to) is ∙ asks

abbrev with_made : Holding → List Token → ℕ → Holding
with_made h q n = record { part = h.part; queue = q; made = n; answered = h.answered }

pub hold_whole : (aside : List Token) (h : Holding) (t : Token) → 0 < length h.queue → t ≡ get_or h.queue 0 t
    → whole (aside ++ t ∷ []) (taken h 0) ≡ whole aside h
hold_whole aside h t some is =
    let queue : (aside ++ t ∷ []) ++ remove h.queue 0 ≡ aside ++ h.queue = append_assoc aside (t ∷ []) (remove h.queue 0)
    ∙ ap (λ (q : List Token). aside ++ q) (first_rest h.queue t some is) in
    let long : length (aside ++ t ∷ []) ≡ length aside + length (t ∷ []) = length-append aside (t ∷ []) in
    let made : h.made + 1 - length (aside ++ t ∷ []) ≡ h.made - length aside = omega arith in
    ap (λ (q : List Token). with_made h q (h.made + 1 - length (aside ++ t ∷ []))) queue ∙ ap (λ (n : ℕ). with_made h (aside ++ h.queue) n) made

pub hold_aside : (p : Program) (aside : List Token) (h : Holding) (t : Token) → 0 < length h.queue → t ≡ get_or h.queue 0 t → asks_first h.queue ≡ true
    → AreAside p aside h → AreAside p (aside ++ t ∷ []) (taken h 0)
hold_aside p aside h t some is asks are =
    let long : length (aside ++ t ∷ []) ≡ length aside + length (t ∷ []) = length-append aside (t ∷ []) in
    let counted = are.counted in
    record {
      sound = subst (λ (x : Holding). IsSoundLane p x) (sym (hold_whole aside h t some is)) are.sound;
      requests = held_snoc aside t are.requests (asks_is h.queue t some is asks);
      counted = omega arith;
    }

-- THE LAST ONE OF THOSE ASIDE COMES BACK
pub offered_whole : (aside : List Token) (t : Token) (h : Holding) → whole aside (offered t h) ≡ whole (aside ++ t ∷ []) h
offered_whole aside t h =
    let queue : aside ++ (t ∷ h.queue) ≡ (aside ++ t ∷ []) ++ h.queue = sym (append_assoc aside (t ∷ []) h.queue) in
    let long : length (aside ++ t ∷ []) ≡ length aside + length (t ∷ []) = length-append aside (t ∷ []) in
    let made : h.made - 1 - length aside ≡ h.made - length (aside ++ t ∷ []) = omega arith in
    ap (λ (q : List Token). with_made h q (h.made - 1 - length aside)) queue ∙ ap (λ (n : ℕ). with_made h ((aside ++ t ∷ []) ++ h.queue) n) made

pub whole_none : (aside : List Token) (h : Holding) → aside ≡ [] → whole aside h ≡ h
whole_none aside h none =
    let made : h.made - 0 ≡ h.made = omega arith in
    ap (λ (q : List Token). whole q h) none ∙ ap (λ (n : ℕ). with_made h h.queue n) made

pub offered_taken : (t : Token) (h : Holding) → 0 < h.made → taken (offered t h) 0 ≡ h
offered_taken t h some = let made : h.made - 1 + 1 ≡ h.made = omega arith in ap (λ (n : ℕ). with_made h h.queue n) made

-- ONE OF THOSE ASIDE IS GRANTED
-- the last one, or the last but one, is taken out by one move
pub out_of_last_two : {X : Type 0} (xs : List X) (i n : ℕ) (d : X) → length xs ≡ suc n → i < length xs → length xs ≤ i + 2
    → take n (slice_set xs i (slice_index_or xs n d)) ≡ remove xs i
out_of_last_two [] i n d long low two = absurd (omega arith)
out_of_last_two (x ∷ []) zero zero d long low two = refl
out_of_last_two (x ∷ []) zero (suc n) d long low two = absurd (omega arith)
out_of_last_two (x ∷ []) (suc i) n d long low two = absurd (omega arith)
out_of_last_two (x ∷ y ∷ []) zero zero d long low two = absurd (omega arith)
out_of_last_two (x ∷ y ∷ []) zero (suc zero) d long low two = refl
out_of_last_two (x ∷ y ∷ []) zero (suc (suc n)) d long low two = absurd (omega arith)
out_of_last_two (x ∷ y ∷ z ∷ zs) zero n d long low two = absurd (omega arith)
out_of_last_two (x ∷ y ∷ ys) (suc i) zero d long low two = absurd (omega arith)
out_of_last_two (x ∷ y ∷ ys) (suc i) (suc n) d long low two =
    ap (λ (l : List _). x ∷ l) (out_of_last_two (y ∷ ys) i n d (omega arith) (omega arith) (omega arith))

one_all : (P : Token → Type 0) (t : Token) (q : List Token) → q ≡ [] → P t → All P (t ∷ q)
one_all P t q none is = subst (λ (l : List Token). All P (t ∷ l)) (sym none) (λ k d low. by_place k d low)
  where
    by_place : (k : ℕ) (d : Token) → k < length (t ∷ []) → P (get_or (t ∷ []) k d)
    by_place zero d low = is
    by_place (suc k) d low = absurd (omega arith)

pub offered_sound : (p : Program) (aside : List Token) (h : Holding) (at : ℕ) (t : Token) → AreAside p aside h → h.queue ≡ [] → at < length aside
    → t ≡ get_or aside at t → IsSoundLane p (offered t h)
offered_sound p aside h at t are none low is =
    let near = first_all (IsNearToken (bounds p h.part.shape)) aside h.queue are.sound.near in
    let ours = first_all (λ (u : Token). element_of h.part.shape.elements u.to ≡ h.part.shape.element) aside h.queue are.sound.addressed in
    record {
      part = are.sound.part;
      near = one_all (IsNearToken (bounds p h.part.shape)) t h.queue none (subst (IsNearToken (bounds p h.part.shape)) (sym is) (near at t low));
      addressed = one_all (λ (u : Token). element_of h.part.shape.elements u.to ≡ h.part.shape.element) t h.queue none
          (subst (λ (u : Token). element_of h.part.shape.elements u.to ≡ h.part.shape.element) (sym is) (ours at t low));
      answered = are.sound.answered;
    }

held_remove : (aside : List Token) (at : ℕ) → at < length aside → held_back aside ≡ length aside
    → held_back (remove aside at) ≡ length (remove aside at)
held_remove [] at low all = absurd (omega arith)
held_remove (t ∷ ts) zero low all = (all_more t ts all).1
held_remove (t ∷ ts) (suc at) low all =
    let first = all_more t ts all in
    let rest = held_remove ts at (omega arith) first.1 in
    one_more t (remove ts at) first.0 ∙ ap (λ (n : ℕ). suc n) rest

pub granted : (p : Program) (aside : List Token) (at : ℕ) (t : Token) (h new : Holding) → AreAside p aside h → h.queue ≡ [] → at < length aside
    → t ≡ get_or aside at t → Does p (offered t h) 0 [] new [] → IsSoundLane p new
    → AreAside p (remove aside at) new × TakesByDepth (whole aside h).queue at
    × Does p (whole aside h) at [] (whole (remove aside at) new) []
granted p aside at t h new are none low is does sound =
    let all : aside ++ h.queue ≡ aside = ap (λ (q : List Token). aside ++ q) none ∙ append-nil aside in
    let long = ap (λ (q : List Token). length q) all in
    let fewer = length-remove aside at low in
    let counted = are.counted in
    let count : new.made ≡ h.made - 1 + 1 = does.count in
    let near = first_all (IsNearToken (bounds p h.part.shape)) aside h.queue are.sound.near in
    let ours = first_all (λ (u : Token). element_of h.part.shape.elements u.to ≡ h.part.shape.element) aside h.queue are.sound.addressed in
    let parted : IsPermutation aside (t ∷ remove aside at) = IsPermutation-remove aside at t low is in
    let first : slice_get (t ∷ h.queue) 0 ≡ Some does.token
    = subst (λ (i : ℕ). slice_get (t ∷ h.queue) i ≡ Some does.token) (zero-mod (length (t ∷ h.queue))) does.picks.token in
    let taken_is : slice_get aside at ≡ Some does.token = slice_get-get_or aside at t low ∙ ap (λ (u : Token). Some u) (sym is) ∙ first in
    let rest : remove aside at ≡ remove aside at ++ remove (t ∷ h.queue) 0 = sym (ap (λ (q : List Token). remove aside at ++ q) none ∙ append-nil (remove aside at)) in
    let same : IsPermutation aside (remove aside at ++ (t ∷ h.queue))
    = subst (λ (q : List Token). IsPermutation aside (remove aside at ++ (t ∷ q))) (sym none)
    (IsPermutation-trans aside (t ∷ remove aside at) (remove aside at ++ t ∷ []) parted (IsPermutation-append_comm (t ∷ []) (remove aside at))) in
    let outer = does_beside p (offered t h) new (remove aside at) aside at (h.made - length aside) does low taken_is rest same in
    let made : h.made - length aside + 1 ≡ new.made - length (remove aside at) = omega arith in
    let held = held_append aside h.queue are.requests in
    let zero_held : held_back h.queue ≡ 0 = ap (λ (q : List Token). held_back q) none in (
      record {
        sound = sound_with p (remove aside at) h.part.shape new
            (All-tail (IsNearToken (bounds p h.part.shape)) t (remove aside at) (All-permutation (IsNearToken (bounds p h.part.shape)) aside
            (t ∷ remove aside at) parted near))
            (All-tail (λ (u : Token). element_of h.part.shape.elements u.to ≡ h.part.shape.element) t (remove aside at)
            (All-permutation (λ (u : Token). element_of h.part.shape.elements u.to ≡ h.part.shape.element) aside (t ∷ remove aside at) parted ours))
            sound does.shape;
        requests = held_remove aside at low are.requests;
        counted = omega arith;
      },
      inl (omega arith, omega arith),
      subst
          (λ (n : ℕ). Does p (whole aside h) at [] (with_made new (remove aside at ++ new.queue) n) [])
          made
          (subst
          (λ (q : List Token). Does p (with_made h q (h.made - length aside)) at []
          (with_made new (remove aside at ++ new.queue) (h.made - length aside + 1)) [])
          (sym all) outer),
    )

-- by an event of the lane as it lies in memory
pub grant_acts : (p : Program) (h new : Holding) (aside : List Token) (at : ℕ) (t : Token) (before last : List Token) → h.part.shape.elements ≡ 1
    → AreAside p aside h → h.queue ≡ [] → at < length aside → t ≡ get_or aside at t → Acts p (offered t h) 0 t before new last
    → AreAside p (remove aside at) new × ((pick : ℕ) × TakesByDepth (whole aside h).queue pick
    × Does p (whole aside h) pick [] (whole (remove aside at) new) []) × (last ≡ before)
grant_acts p h new aside at t before last single are none low is acts =
    let mid = offered t h in
    let sound = offered_sound p aside h at t are none low is in
    let some : 0 < length (t ∷ h.queue) = omega arith in
    let there = oldest mid t refl in
    let acts_there = oldest_acts p mid t before Did new last acts in
    let does : Does p mid 0 before new last = steps_as p mid 0 t before sound some there Did new last acts_there in
    let sound_new = sound_as p mid 0 t before sound some there Did new last acts_there in
    let lives = are.sound.part.there in
    let alone = does_alone p mid new before last single lives does in
    let all = granted p aside at t h new are none low is alone sound_new in
    (all.0, (at, all.1, all.2), sends_none p mid new before last single lives does)

-- MANY
pub maybe_one : (p : Program) (steps : ℕ) (aside later : List Token) (h new : Holding) (did : Bool)
    → (did ≡ true → (pick : ℕ) × TakesByDepth (whole aside h).queue pick × Does p (whole aside h) pick [] (whole later new) [])
    → (did ≡ false → new ≡ h) → (did ≡ false → later ≡ aside) → AreAside p later new → (whole aside h).made < steps
    → (n : ℕ) × MakesByDepth p steps n (whole aside h) (whole later new)
maybe_one p steps aside later h new true takes same rest are few =
    let x = takes refl in
    let count : (whole later new).made ≡ (whole aside h).made + 1 = x.2.count in
    let most : (whole later new).made ≤ steps = omega arith in
    (suc zero, (whole aside h, refl, few, are.sound, most, x))
maybe_one p steps aside later h new false takes same rest are few =
    (zero, ap (λ (x : Holding). whole later x) (same refl) ∙ ap (λ (ts : List Token). whole ts h) (rest refl))

pub by_depth_more : (p : Program) (steps n m : ℕ) (start mid new : Holding) → MakesByDepth p steps n start mid → MakesByDepth p steps m mid new
    → (k : ℕ) × MakesByDepth p steps k start new
by_depth_more p steps n zero start mid new before same = (n, subst (λ (h : Holding). MakesByDepth p steps n start h) (sym same) before)
by_depth_more p steps n (suc m) start mid new before (last, between, few, sound, most, takes) =
    let all = by_depth_more p steps n m start mid last before between in
    (suc all.0, (last, all.1, few, sound, most, takes))

-- WITHOUT THEM, and where there are none
pub inner_sound : (p : Program) (aside : List Token) (h : Holding) → AreAside p aside h → IsSoundLane p h
inner_sound p aside h are = record {
  part = are.sound.part;
  near = last_all (IsNearToken (bounds p h.part.shape)) aside h.queue are.sound.near;
  addressed = last_all (λ (t : Token). element_of h.part.shape.elements t.to ≡ h.part.shape.element) aside h.queue are.sound.addressed;
  answered = are.sound.answered;
}
  where
    last_all : (P : Token → Type 0) (xs ys : List Token) → All P (xs ++ ys) → All P ys
    last_all P xs ys all = first_all P ys xs (All-permutation P (xs ++ ys) (ys ++ xs) (IsPermutation-append_comm xs ys) all)

pub none_aside : (p : Program) (aside : List Token) (h : Holding) → aside ≡ [] → IsSoundLane p h → AreAside p aside h
none_aside p aside h none sound = record {
  sound = subst (λ (x : Holding). IsSoundLane p x) (sym (whole_none aside h none)) sound;
  requests = ap (λ (ts : List Token). held_back ts) none ∙ sym (ap (λ (ts : List Token). length ts) none);
  counted = (let l : length aside ≡ 0 = ap (λ (ts : List Token). length ts) none in omega arith);
}
