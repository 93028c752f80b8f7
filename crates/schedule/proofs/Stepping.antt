-- A step is an event of the machine.
use Rattle.std.proofs.Common.{◌≡◌, ◌≢◌, refl, sym, ◌∙◌, ap, subst, ℕ, zero, suc, ◌+◌, ◌*◌, ◌<◌, ◌≤◌, true, List, [], ◌∷◌, ◌++◌, length, Some, None}
use Rattle.std.proofs.Common.{arith, get_or, not}
use Rattle.std.specs.Prelude.{All, sum, slice_get, slice_set, remove, IsPermutation}
use Rattle.std.proofs.lemmas.Bool.{eqb-true}
use Rattle.std.proofs.lemmas.List.{length-map, length-set}
use Rattle.std.proofs.lemmas.List.Elements.{All-append, All-filter, All-weaker, filter_passes}
use Rattle.std.proofs.lemmas.List.Sorted.{IsPermutation-sym, IsPermutation-trans, IsPermutation-append_left}
use Rattle.std.proofs.lemmas.Option.{slice_get_within, get_or_from_slice_get}
use Rattle.tags.specs.declared.token.Token.{Token}
use Rattle.tags.specs.Addresses.{element_of}
use Rattle.semantics.specs.Machine.{Machine, Size}
use Rattle.element.specs.Near.{Bounds, IsNearToken}
use Rattle.element.specs.Parts.{Shape, IsPart, bounds}
use Rattle.element.specs.Holding.{Holding, is_here, here, queued, IsSoundLane}
use Rattle.element.specs.Steps as one
use Rattle.element.specs.Steps.{size_of, place_of, HoldsTokens, IsAfter}
use Rattle.frame_order.specs.InOrder.{OrderedEvent}
use Rattle.element.proofs.Opening.{others_stay}
use Rattle.frame_order.proofs.InOrder.{does_in_order}
use Rattle.schedule.specs.Setting.{Setting, size, total}
use Rattle.schedule.specs.State.{State, AllFrom, IsAt, delivered, tokens_in, IsPlaced, IsSoundState, AreParts}
use Rattle.element.specs.declared.lane.Stepped.{Stepped}
use Rattle.element.specs.declared.lane.Stepped.TheVariants.{Idle, Did, Clash, Stuck, Memory}
use Rattle.schedule.specs.Steps.{Does, Steps, events_of}
use Rattle.schedule.proofs.Places.{first_get, first_set, from_map, from_weaker, from_both}
use Rattle.schedule.proofs.Tokens.{tokens_delivered, tokens_set, tokens_first, append_twice, delivered_none, set_same}
use Rattle.schedule.proofs.Bounding.{bounded_after}

-- what a placed lane's tokens name
abbrev pub bounds_in : Setting → Bounds
bounds_in g = record { frames = total g; cells = sum g.program.arrays }

pub bounds_are : (g : Setting) (i : ℕ) (h : Holding) → IsPlaced g i h → bounds g.program h.part.shape ≡ bounds_in g
bounds_are g i h p = ap (λ (n : ℕ). let b : Bounds = record { frames = n * h.part.shape.frames; cells = sum g.program.arrays } in b) p.elements
    ∙ ap (λ (n : ℕ). let b : Bounds = record { frames = g.elements * n; cells = sum g.program.arrays } in b) p.frames

pub at_place : (g : Setting) (i : ℕ) (h : Holding) → IsPlaced g i h → IsAt g.elements i h
at_place g i h p = (p.element, p.elements)

-- a lane that gets tokens stays sound
pub queued_placed : (g : Setting) (ts : List Token) → All (IsNearToken (bounds_in g)) ts → (i : ℕ) (h : Holding) → IsPlaced g i h → IsPlaced g i (queued h ts)
queued_placed g ts near i h p =
    let z : Shape = h.part.shape in
    let mine : List Token = here z ts in
    let near_here : All (IsNearToken (bounds g.program z)) mine = subst (λ (b : Bounds). All (IsNearToken b) mine) (sym (bounds_are g i h p))
    (All-filter (is_here z) (IsNearToken (bounds_in g)) ts near) in
    let addressed_here : All (λ (t : Token). element_of z.elements t.to ≡ z.element) mine = All-weaker (λ (t : Token). is_here z t ≡ true)
    (λ (t : Token). element_of z.elements t.to ≡ z.element) (λ (t : Token) e. eqb-true (element_of z.elements t.to) z.element e) mine
    (filter_passes (is_here z) ts) in
    record {
      element = p.element;
      elements = p.elements;
      frames = p.frames;
      width = p.width;
      made = p.made;
      sound = record {
        part = p.sound.part;
        near = All-append (IsNearToken (bounds g.program z)) h.queue mine p.sound.near near_here;
        addressed = All-append (λ (t : Token). element_of z.elements t.to ≡ z.element) h.queue mine p.sound.addressed addressed_here;
        answered = p.sound.answered;
      };
    }

pub delivered_sound : (s : State) (ts : List Token) → All (IsNearToken (bounds_in s.setting)) ts → IsSoundState s
    → IsSoundState (record { setting = s.setting; lanes = delivered ts s.lanes })
delivered_sound s ts near sound = record {
  setting = sound.setting;
  count = length-map s.lanes (λ (h : Holding). queued h ts) ∙ sound.count;
  lanes = from_map (IsPlaced s.setting) (IsPlaced s.setting) (λ (h : Holding). queued h ts) (queued_placed s.setting ts near) 0 s.lanes sound.lanes;
}

-- one lane is another, and what holds of the others may change
pub set_others : (P Q : ℕ → Holding → Type 0) (e : ℕ) → ((i : ℕ) (h : Holding) → i ≢ e → P i h → Q i h)
    → (k : ℕ) (xs : List Holding) (i : ℕ) (x : Holding) → e ≡ k + i → AllFrom P k xs → Q e x → AllFrom Q k (slice_set xs i x)
set_others P Q e step k [] i x is all q = tt
set_others P Q e step k (y ∷ ys) zero x is all q =
    let here : e ≡ k = omega arith in
    let low : e < suc k = omega arith in
    (subst (λ (n : ℕ). Q n x) here q, later (suc k) ys low all.1)
  where
    later : (k : ℕ) (ys : List Holding) → e < k → AllFrom P k ys → AllFrom Q k ys
    later k [] low all = tt
    later k (z ∷ zs) low all = let ne : k ≢ e = λ (s : k ≡ e). omega arith in let lower : e < suc k = omega arith
        in (step k z ne all.0, later (suc k) zs lower all.1)
set_others P Q e step k (y ∷ ys) (suc i) x is all q =
    let ne : k ≢ e = λ (s : k ≡ e). omega arith in
    let there : e ≡ suc k + i = omega arith in
    (step k y ne all.0, set_others P Q e step (suc k) ys i x there all.1 q)

module _ (old : State) (e pick : ℕ) (lane next : Holding) (sent : List Token) (sound : IsSoundState old) (there : slice_get old.lanes e ≡ Some lane)
    (step : one.Does old.setting.program lane pick [] next sent) where
  abbrev g : Setting
  g = old.setting

  placed : IsPlaced g e lane
  placed = first_get (IsPlaced g) old.lanes e lane sound.lanes there

  near_sent : All (IsNearToken (bounds_in g)) sent
  near_sent =
      let all = subst (λ (b : Bounds). All (IsNearToken b) step.made) (bounds_are g e lane placed) step.near in
      subst (λ (ts : List Token). All (IsNearToken (bounds_in g)) ts) (sym step.sent) (All-filter (λ (t : Token). not (is_here lane.part.shape t))
      (IsNearToken (bounds_in g)) step.made all)

  next_placed : IsSoundLane g.program next → next.made ≤ g.steps → IsPlaced g e next
  next_placed next_sound few = record {
    element = ap (λ (z : Shape). z.element) step.shape ∙ placed.element;
    elements = ap (λ (z : Shape). z.elements) step.shape ∙ placed.elements;
    frames = ap (λ (z : Shape). z.frames) step.shape ∙ placed.frames;
    width = ap (λ (z : Shape). z.width) step.shape ∙ placed.width;
    made = few;
    sound = next_sound;
  }

  abbrev pub after : State
  after = record { setting = old.setting; lanes = delivered sent (slice_set old.lanes e next) }

  pub sound_after : IsSoundLane g.program next → next.made ≤ g.steps → IsSoundState after
  sound_after next_sound few = delivered_sound (record { setting = g; lanes = slice_set old.lanes e next }) sent near_sent (record {
    setting = sound.setting;
    count = length-set old.lanes e next ∙ sound.count;
    lanes = first_set (IsPlaced g) old.lanes e next sound.lanes (next_placed next_sound few);
  })

  abbrev others : List Token
  others = tokens_in (remove old.lanes e)

  module _ (m : Machine) (stands : AreParts old m) where
    holds : HoldsTokens lane [] others m
    holds = IsPermutation-trans m.pool (tokens_in old.lanes) (lane.queue ++ others) stands.tokens (tokens_first old.lanes e lane there)

    part : IsPart lane.part m.store
    part = first_get (λ (i : ℕ) (h : Holding). IsPart h.part m.store) old.lanes e lane stands.parts there

    made_it : IsAfter g.program lane step.token next sent others step.made m
    made_it = step.event m others part holds

    size_is : size_of lane.part.shape ≡ size g
    size_is = ap (λ (n : ℕ). let z : Size = record { elements = n; frames = lane.part.shape.frames } in z) placed.elements
        ∙ ap (λ (n : ℕ). let z : Size = record { elements = g.elements; frames = n } in z) placed.frames

    ordered : OrderedEvent g.program (size g) e step.token m made_it.next
    unfolding made_it
    ordered = subst (λ (z : Size). OrderedEvent g.program z e step.token m made_it.next) size_is
        (subst (λ (n : ℕ). OrderedEvent g.program (size_of lane.part.shape) n step.token m made_it.next) placed.element
        (does_in_order g.program lane pick [] next sent step m others part holds))

    parts : AllFrom (λ (i : ℕ) (h : Holding). IsPart h.part made_it.next.store) 0 (slice_set old.lanes e next)
    parts = let at : e ≡ 0 + e = omega arith in set_others (λ (i : ℕ) (h : Holding). IsPlaced g i h × IsPart h.part m.store)
        (λ (i : ℕ) (h : Holding). IsPart h.part made_it.next.store) e
        (λ (i : ℕ) (h : Holding) ne both. others_stay g.program lane.part.shape h.part m.store made_it.next.store made_it.same (both.0.elements
        ∙ sym placed.elements) (λ (same : h.part.shape.element ≡ lane.part.shape.element). ne (sym both.0.element ∙ same ∙ placed.element))
        both.0.sound.part.own_element both.0.sound.part.own_elements both.1)
        0 old.lanes e next at
        (from_both (IsPlaced g) (λ (i : ℕ) (h : Holding). IsPart h.part m.store) (λ (i : ℕ) (h : Holding). IsPlaced g i h × IsPart h.part m.store)
        (λ (i : ℕ) (h : Holding) a b. (a, b)) 0 old.lanes sound.lanes stands.parts)
        made_it.part

    at_places : AllFrom (IsAt g.elements) 0 (slice_set old.lanes e next)
    at_places = first_set (IsAt g.elements) old.lanes e next (from_weaker (IsPlaced g) (IsAt g.elements) (at_place g) 0 old.lanes sound.lanes)
        (ap (λ (z : Shape). z.element) step.shape ∙ placed.element, ap (λ (z : Shape). z.elements) step.shape ∙ placed.elements)

    tokens : IsPermutation made_it.next.pool (tokens_in after.lanes)
    tokens =
        let set : List Holding = slice_set old.lanes e next in
        let first : IsPermutation (tokens_in after.lanes) (tokens_in set ++ sent) = tokens_delivered g.elements set sent sound.setting.some
        (length-set old.lanes e next ∙ sound.count) at_places in
        let second : IsPermutation (tokens_in set ++ sent) ((next.queue ++ others) ++ sent) = IsPermutation-append_left sent _ _
        (tokens_set old.lanes e lane next there) in
        let third : IsPermutation ((next.queue ++ others) ++ sent) (next.queue ++ (sent ++ others)) = append_twice next.queue others sent in
        IsPermutation-trans made_it.next.pool (next.queue ++ (sent ++ others)) (tokens_in after.lanes) made_it.tokens
        (IsPermutation-sym (tokens_in after.lanes) (next.queue ++ (sent ++ others)) (IsPermutation-trans _ _ _ first (IsPermutation-trans _ _ _ second third)))

    near_token : IsNearToken (bounds_in g) step.token
    near_token =
        let place : ℕ = place_of lane pick in
        let is : get_or lane.queue place step.token ≡ step.token = get_or_from_slice_get lane.queue place step.token step.token step.picks.token in
        let near : IsNearToken (bounds g.program lane.part.shape) step.token = subst (λ (t : Token). IsNearToken (bounds g.program lane.part.shape) t)
        is (placed.sound.near place step.token (slice_get_within lane.queue place step.token step.picks.token)) in
        subst (λ (b : Bounds). IsNearToken b step.token) (bounds_are g e lane placed) near

    pub stands_after : (n : Machine) × OrderedEvent g.program (size g) e step.token m n × AreParts after n
    stands_after = (
      made_it.next,
      ordered,
      record {
        parts = from_map (λ (i : ℕ) (h : Holding). IsPart h.part made_it.next.store) (λ (i : ℕ) (h : Holding). IsPart h.part made_it.next.store)
            (λ (h : Holding). queued h sent) (λ (i : ℕ) (h : Holding) p. p) 0 (slice_set old.lanes e next) parts;
        tokens = tokens;
        bounded = bounded_after g m.store stands.bounded sound.setting.fits step.token.to step.token.word ordered.event.made made_it.next.store
            near_token.to ordered.event.happens;
      },
    )

  pub does : (allowed : lane.made < g.steps) → Does old e pick after ((e, step.token) ∷ [])
  does allowed = record {
    lane = lane;
    there = there;
    allowed = allowed;
    next = next;
    sent = sent;
    step = step;
    setting = refl;
    lanes = refl;
    events = refl;
    event = λ m stands. stands_after m stands;
  }

-- THE ANSWERS OF A STEP
pub unchanged : (old : State) (e : ℕ) (lane next : Holding) (sent : List Token) → slice_get old.lanes e ≡ Some lane → next ≡ lane → sent ≡ []
    → (let s : State = record { setting = old.setting; lanes = delivered sent (slice_set old.lanes e next) } in s) ≡ old
unchanged old e lane next sent there same none =
    let lanes : delivered sent (slice_set old.lanes e next) ≡ old.lanes = ap (λ (ts : List Token). delivered ts (slice_set old.lanes e next)) none
    ∙ delivered_none (slice_set old.lanes e next) ∙ ap (λ (h : Holding). slice_set old.lanes e h) same ∙ set_same old.lanes e lane there in
    ap (λ (l : List Holding). let s : State = record { setting = old.setting; lanes = l } in s) lanes

one_token : (lane : Holding) (pick : ℕ) (t u : Token) → one.Picks lane pick t → one.Picks lane pick u → t ≡ u
one_token lane pick t u p q = let a = p.token in let b = q.token in cc

pub answered : (old : State) (e pick : ℕ) (lane next : Holding) (t : Token) (sent : List Token) (result : Stepped) → IsSoundState old
    → slice_get old.lanes e ≡ Some lane → 0 < length lane.queue → lane.made < old.setting.steps
    → one.Picks lane pick t → one.Steps old.setting.program lane pick [] result next sent → IsSoundLane old.setting.program next → next.made ≤ old.setting.steps
    → (let s : State = record { setting = old.setting; lanes = delivered sent (slice_set old.lanes e next) } in IsSoundState s
    × Steps old e pick (Some result) s (events_of result e t))
answered old e pick lane next t sent Idle sound there some few picks step next_sound most = absurd (let l : length lane.queue
    ≡ 0 = ap (λ (q : List Token). length q) step.0 in omega arith)
answered old e pick lane next t sent Did sound there some few picks step next_sound most =
    let same : step.token ≡ t = one_token lane pick step.token t step.picks picks in (
      sound_after old e pick lane next sent sound there step next_sound most,
      subst (λ (u : Token). Does old e pick (record { setting = old.setting; lanes = delivered sent (slice_set old.lanes e next) }) ((e, u) ∷ []))
          same (does old e pick lane next sent sound there step few),
    )
answered old e pick lane next t sent (Clash cell) sound there some few picks step next_sound most =
    let same = unchanged old e lane next sent there step.1.held step.1.sent in
    (subst (λ (s : State). IsSoundState s) (sym same) sound, ((lane, (record { there = there }, some, few), step.0), (same, refl)))
answered old e pick lane next t sent (Stuck rule) sound there some few picks step next_sound most =
    let same = unchanged old e lane next sent there step.1.held step.1.sent in
    (subst (λ (s : State). IsSoundState s) (sym same) sound, ((lane, (record { there = there }, some, few), step.0), (same, refl)))
answered old e pick lane next t sent Memory sound there some few picks step next_sound most =
    let same = unchanged old e lane next sent there step.1.held step.1.sent in
    (subst (λ (s : State). IsSoundState s) (sym same) sound, ((lane, (record { there = there }, some, few)), (same, refl)))

-- nothing happens
pub is_idle : (old new : State) (e pick : ℕ) (lane : Holding) → new ≡ old → slice_get old.lanes e ≡ Some lane → lane.queue ≡ []
    → Steps old e pick (Some Idle) new []
is_idle old new e pick lane same there none = ((lane, record { there = there }, none), (same, refl))

pub is_used_up : (old new : State) (e pick : ℕ) (lane : Holding) → new ≡ old → slice_get old.lanes e ≡ Some lane → 0 < length lane.queue → lane.made
    ≡ old.setting.steps → Steps old e pick None new []
is_used_up old new e pick lane same there some all = ((lane, record { there = there }, some, all), (same, refl))

pub is_refused : (old new : State) (e pick : ℕ) (lane : Holding) → new ≡ old → slice_get old.lanes e ≡ Some lane → 0 < length lane.queue
    → lane.made < old.setting.steps → Steps old e pick (Some Memory) new []
is_refused old new e pick lane same there some few = ((lane, (record { there = there }, some, few)), (same, refl))
