-- A step is an event of the machine.
use Rattle.std.proofs.Common.{◌≡◌, refl, sym, ◌∙◌, ap, subst, ℕ, ◌+◌, ◌<◌, ◌≤◌, true, not, List, ◌∷◌, ◌++◌, length, get_or, Some, arith, append_assoc}
use Rattle.std.specs.Prelude.{All, remove, IsPermutation}
use Rattle.std.proofs.Math.Nat.{mod-lt}
use Rattle.std.proofs.lemmas.Bool.{eqb-true}
use Rattle.std.proofs.lemmas.List.Elements.{All-append, All-tail, All-filter, All-weaker, filter_passes}
use Rattle.std.proofs.lemmas.List.Sorted.{IsPermutation-refl, IsPermutation-trans, IsPermutation-remove, IsPermutation-append_left}
use Rattle.std.proofs.lemmas.List.Sorted.{IsPermutation-append_right, IsPermutation-append_comm, IsPermutation-filter_both, All-permutation}
use Rattle.std.proofs.lemmas.Option.{slice_get-get_or}
use Rattle.tags.specs.declared.token.Token.{Token}
use Rattle.tags.specs.Addresses.{element_of}
use Rattle.semantics.specs.Program.{Program}
use Rattle.semantics.specs.Machine.{Machine}
use Rattle.element.specs.declared.lane.Stepped.{Stepped}
use Rattle.element.specs.declared.lane.Stepped.TheVariants.{Idle, Did, Clash, Stuck, Memory}
use Rattle.element.specs.Near.{Bounds, IsNearToken}
use Rattle.element.specs.Parts.{Shape, Part, IsPart, bounds}
use Rattle.element.specs.Holding.{Holding, is_here, here, elsewhere, queued, taken, with_part, IsSoundLane}
use Rattle.element.specs.Acts.{Changes, Acts, ActsAs, ServesFirst}
use Rattle.element.specs.Steps.{place_of, Picks, HoldsTokens, IsAfter, Does, Steps}

-- WHERE TOKENS ARE
module _ (z : Shape) (made : List Token) where
  parted : IsPermutation made (here z made ++ elsewhere z made)
  parted = IsPermutation-filter_both (is_here z) (λ (t : Token). not (is_here z t)) (λ t. refl) made

  -- what was made goes after the queue and after those for others
  pub placed : (q before others : List Token) → IsPermutation (made ++ (q ++ (before ++ others))) ((q ++ here z made)
      ++ ((before ++ elsewhere z made) ++ others))
  placed q before others =
      IsPermutation-trans _ _ _ (IsPermutation-append_left (q ++ (before ++ others)) made (here z made ++ elsewhere z made) parted) by_parts
    where
      h : List Token
      h = here z made

      e : List Token
      e = elsewhere z made

      -- (h ++ e) ++ (q ++ (b ++ o)) is (q ++ h) ++ ((b ++ e) ++ o) in another order
      first : IsPermutation (e ++ (q ++ (before ++ others))) (q ++ ((before ++ e) ++ others))
      first = IsPermutation-trans _ _ _ (same (sym (append_assoc e q (before ++ others))))
          (IsPermutation-trans _ _ _ (IsPermutation-append_left (before ++ others) (e ++ q) (q ++ e) (IsPermutation-append_comm e q))
          (IsPermutation-trans _ _ _ (same (append_assoc q e (before ++ others)))
          (IsPermutation-append_right q _ _ (IsPermutation-trans _ _ _ (same (sym (append_assoc e before others)))
          (IsPermutation-append_left others (e ++ before) (before ++ e) (IsPermutation-append_comm e before))))))
        where
          same : {xs ys : List Token} → xs ≡ ys → IsPermutation xs ys
          same {xs} d = subst (λ (l : List Token). IsPermutation xs l) d (IsPermutation-refl xs)

      by_parts : IsPermutation ((h ++ e) ++ (q ++ (before ++ others))) ((q ++ h) ++ ((before ++ e) ++ others))
      by_parts = subst (λ (l : List Token). IsPermutation l ((q ++ h) ++ ((before ++ e) ++ others))) (sym (append_assoc h e (q ++ (before ++ others))))
          (IsPermutation-trans _ _ _ (IsPermutation-append_right h _ _ first)
          (subst (λ (l : List Token). IsPermutation l ((q ++ h) ++ ((before ++ e) ++ others))) (append_assoc h q ((before ++ e) ++ others))
          (IsPermutation-append_left ((before ++ e) ++ others) (h ++ q) (q ++ h) (IsPermutation-append_comm h q))))

module _ (p : Program) (old : Holding) (pick : ℕ) (t : Token) (before : List Token) (sound : IsSoundLane p old) (some : 0 < length old.queue)
    (is : t ≡ get_or old.queue (place_of old pick) t) where
  abbrev z : Shape
  z = old.part.shape

  within : place_of old pick < length old.queue
  within = mod-lt pick some

  picks : Picks old pick t
  picks = record { some = some; token = slice_get-get_or old.queue (place_of old pick) t within ∙ ap (λ (x : Token). Some x) (sym is) }

  abbrev rest : List Token
  rest = remove old.queue (place_of old pick)

  takes : IsPermutation old.queue (t ∷ rest)
  takes = IsPermutation-remove old.queue (place_of old pick) t within is

  addressed : element_of z.elements t.to ≡ z.element
  addressed = subst (λ (x : Token). element_of z.elements x.to ≡ z.element) (sym is) (sound.addressed (place_of old pick) t within)

  after_event : (new : Holding) (after : List Token) (acts : Acts p old (place_of old pick) t before new after) (m : Machine) (others : List Token)
      → IsPart old.part m.store → HoldsTokens old before others m
      → IsAfter p old t new after others acts.made m
  after_event new after acts m others part pool =
      let e = acts.changes.event m.store part in
      let next : Machine = record { store = e.0; pool = acts.made ++ (rest ++ (before ++ others)) } in
      let held_part : new.part ≡ acts.part = ap (λ (h : Holding). h.part) acts.held in
      let z_same : acts.part.shape ≡ z = acts.changes.shape in
      let queue_is : new.queue ≡ rest ++ here z acts.made = ap (λ (h : Holding). h.queue) acts.held ∙ ap (λ (s : Shape). rest ++ here s acts.made) z_same in
      record {
        next = next;
        event = record {
          made = acts.made;
          rest = rest ++ (before ++ others);
          addressed = addressed;
          takes = IsPermutation-trans m.pool (old.queue ++ (before ++ others)) (t ∷ (rest ++ (before ++ others))) pool
              (IsPermutation-append_left (before ++ others) old.queue (t ∷ rest) takes);
          happens = e.1;
          leaves = IsPermutation-refl (acts.made ++ (rest ++ (before ++ others)));
        };
        makes = refl;
        part = subst (λ (k : Part). IsPart k e.0) (sym held_part) e.2;
        same = e.3;
        tokens = subst (λ (q : List Token). IsPermutation next.pool (q ++ (after ++ others))) (sym queue_is)
            (subst (λ (a : List Token). IsPermutation next.pool ((rest ++ here z acts.made) ++ (a ++ others))) (sym acts.sent)
            (placed z acts.made rest before others));
      }

  does : (new : Holding) (after : List Token) → Acts p old (place_of old pick) t before new after → Does p old pick before new after
  does new after acts = record {
    token = t;
    picks = picks;
    made = acts.made;
    queue = ap (λ (h : Holding). h.queue) acts.held ∙ ap (λ (s : Shape). rest ++ here s acts.made) acts.changes.shape;
    sent = acts.sent;
    near = acts.changes.near;
    first = subst (λ (k : Part). ServesFirst old.part t.to t.word acts.made k) (sym (ap (λ (h : Holding). h.part) acts.held)) acts.changes.first;
    count = ap (λ (h : Holding). h.made) acts.held;
    shape = ap (λ (h : Holding). h.part.shape) acts.held ∙ acts.changes.shape;
    event = λ m others part pool. after_event new after acts m others part pool;
  }

  pub steps_as : (result : Stepped) (new : Holding) (after : List Token) → ActsAs p old (place_of old pick) t before result new after
      → Steps p old pick before result new after
  steps_as Idle new after acts = absurd acts
  steps_as Did new after acts = does new after acts
  steps_as (Clash cell) new after acts = (record { token = t; picks = picks; second = acts.0 }, record { held = acts.1.0; sent = acts.1.1 })
  steps_as (Stuck rule) new after acts = (record { token = t; picks = picks; excluded = acts.0 }, record { held = acts.1.0; sent = acts.1.1 })
  steps_as Memory new after acts = (some, record { held = acts.0; sent = acts.1 })

  sound_after : (part : Part) (made : List Token) → Changes p old.part t made part
      → IsSoundLane p (queued (taken (with_part old part) (place_of old pick)) made)
  sound_after part made changes = record {
    part = changes.sound;
    near = All-append (IsNearToken b) rest (here part.shape made) rest_near (All-filter (is_here part.shape) (IsNearToken b) made
        (at_shape (λ (s : Shape). All (IsNearToken (bounds p s)) made) changes.near));
    addressed = All-append IsOurs rest (here part.shape made) rest_ours here_ours;
    answered = sound.answered;
  }
    where
      b : Bounds
      b = bounds p part.shape

      at_shape : (P : Shape → Type 0) → P z → P part.shape
      at_shape P h = subst P (sym changes.shape) h

      IsOurs : Token → Type 0
      IsOurs x = element_of part.shape.elements x.to ≡ part.shape.element

      rest_near : All (IsNearToken b) rest
      rest_near = All-tail (IsNearToken b) t rest (All-permutation (IsNearToken b) old.queue (t ∷ rest) takes
          (at_shape (λ (s : Shape). All (IsNearToken (bounds p s)) old.queue) sound.near))

      rest_ours : All IsOurs rest
      rest_ours = All-tail IsOurs t rest (All-permutation IsOurs old.queue (t ∷ rest) takes
          (at_shape (λ (s : Shape). All (λ (x : Token). element_of s.elements x.to ≡ s.element) old.queue) sound.addressed))

      here_ours : All IsOurs (here part.shape made)
      here_ours = All-weaker (λ (x : Token). is_here part.shape x ≡ true) IsOurs (λ x e. eqb-true (element_of part.shape.elements x.to)
          part.shape.element e) (here part.shape made) (filter_passes (is_here part.shape) made)

  pub sound_as : (result : Stepped) (new : Holding) (after : List Token) → ActsAs p old (place_of old pick) t before result new after → IsSoundLane p new
  sound_as Idle new after acts = absurd acts
  sound_as Did new after acts = subst (λ (h : Holding). IsSoundLane p h) (sym acts.held) (sound_after acts.part acts.made acts.changes)
  sound_as (Clash cell) new after acts = subst (λ (h : Holding). IsSoundLane p h) (sym acts.1.0) sound
  sound_as (Stuck rule) new after acts = subst (λ (h : Holding). IsSoundLane p h) (sym acts.1.0) sound
  sound_as Memory new after acts = subst (λ (h : Holding). IsSoundLane p h) (sym acts.0) sound

  pub shape_as : (result : Stepped) (new : Holding) (after : List Token) → ActsAs p old (place_of old pick) t before result new after → new.part.shape
      ≡ old.part.shape
  shape_as Idle new after acts = absurd acts
  shape_as Did new after acts = ap (λ (h : Holding). h.part.shape) acts.held ∙ acts.changes.shape
  shape_as (Clash cell) new after acts = ap (λ (h : Holding). h.part.shape) acts.1.0
  shape_as (Stuck rule) new after acts = ap (λ (h : Holding). h.part.shape) acts.1.0
  shape_as Memory new after acts = ap (λ (h : Holding). h.part.shape) acts.0

  pub made_as : (result : Stepped) (new : Holding) (after : List Token) → ActsAs p old (place_of old pick) t before result new after → new.made ≤ old.made + 1
  made_as Idle new after acts = absurd acts
  made_as Did new after acts = let e : new.made ≡ old.made + 1 = ap (λ (h : Holding). h.made) acts.held in omega arith
  made_as (Clash cell) new after acts = let e : new.made ≡ old.made = ap (λ (h : Holding). h.made) acts.1.0 in omega arith
  made_as (Stuck rule) new after acts = let e : new.made ≡ old.made = ap (λ (h : Holding). h.made) acts.1.0 in omega arith
  made_as Memory new after acts = let e : new.made ≡ old.made = ap (λ (h : Holding). h.made) acts.0 in omega arith
