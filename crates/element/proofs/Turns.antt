-- Events of a lane, one after another, each with its oldest token.
use Rattle.std.proofs.Common.{◌≡◌, refl, sym, ◌∙◌, ap, subst, ℕ, zero, suc, ◌+◌, ◌*◌, ◌<◌, ◌≤◌, true, Bool, cond, List, [], ◌∷◌, ◌++◌, length, get_or, arith}
use Rattle.std.proofs.Common.{append_assoc, length-append}
use Rattle.std.proofs.lemmas.List.Edits.{length-remove}
use Rattle.std.specs.Prelude.{All, remove, IsPermutation}
use Rattle.std.proofs.Math.Nat.{zero-mod, mod-lt}
use Rattle.std.proofs.lemmas.Bool.{eq-eqb, not_from_true}
use Rattle.std.proofs.lemmas.List.{append-nil}
use Rattle.std.proofs.lemmas.List.Elements.{All-append}
use Rattle.std.proofs.lemmas.List.Sorted.{IsPermutation-refl, IsPermutation-trans, IsPermutation-remove, IsPermutation-append_left}
use Rattle.std.proofs.lemmas.List.Sorted.{IsPermutation-append_right, IsPermutation-append_comm}
use Rattle.std.proofs.lemmas.Option.{get_or_from_slice_get}
use Rattle.tags.specs.declared.token.Token.{Token}
use Rattle.tags.specs.Addresses.{element_of}
use Rattle.tags.proofs.Elements.{element_below}
use Rattle.semantics.specs.Program.{Program}
use Rattle.semantics.specs.Machine.{Machine, Happens}
use Rattle.element.specs.declared.lane.Stepped.{Stepped}
use Rattle.element.specs.declared.lane.Stepped.TheVariants.{Did}
use Rattle.element.specs.Parts.{Shape, IsPart, bounds}
use Rattle.element.specs.Near.{IsNearToken}
use Rattle.element.specs.Holding.{Holding, LaneView, Fixed, fixed_of, with_more, is_here, here, elsewhere, IsFor, IsRunnable, IsSoundLane}
use Rattle.element.specs.Acts.{Acts, ActsAs}
use Rattle.element.specs.Steps.{place_of, HoldsTokens, IsAfter, Does, MakesEvents, SendsEvents}
use Rattle.element.proofs.Stepping.{placed, steps_as, sound_as}

-- the pick 0 names the oldest token
first_place : (h : Holding) → 0 ≡ place_of h 0
first_place h = sym (zero-mod (length h.queue))

pub oldest : (h : Holding) (t : Token) → t ≡ get_or h.queue 0 t → t ≡ get_or h.queue (place_of h 0) t
oldest h t is = subst (λ (i : ℕ). t ≡ get_or h.queue i t) (first_place h) is

pub oldest_acts : (p : Program) (old : Holding) (t : Token) (before : List Token) (result : Stepped) (new : Holding) (after : List Token)
    → ActsAs p old 0 t before result new after → ActsAs p old (place_of old 0) t before result new after
oldest_acts p old t before result new after acts = subst (λ (i : ℕ). ActsAs p old i t before result new after) (first_place old) acts

-- one event more
pub one_event_more : (p : Program) (steps n : ℕ) (start old new : Holding) (t : Token) (first before after : List Token)
    → SendsEvents p steps n start first old before → IsSoundLane p old → 0 < length old.queue → t ≡ get_or old.queue 0 t → old.made < steps
    → Acts p old 0 t before new after → SendsEvents p steps (suc n) start first new after
one_event_more p steps n start old new t first before after so_far sound some is few acts =
    let there = oldest old t is in
    let at = oldest_acts p old t before Did new after acts in
    let count : new.made ≡ old.made + 1 = ap (λ (h : Holding). h.made) acts.held in
    let most : new.made ≤ steps = omega arith in
    (old, before, so_far, few, sound_as p old 0 t before sound some there Did new after at, most, steps_as p old 0 t before sound some there Did new after at)

-- so many after others
pub sends_more : (p : Program) (steps n m : ℕ) (start mid new : Holding) (first before after : List Token) → SendsEvents p steps n start first mid before
    → SendsEvents p steps m mid before new after → (k : ℕ) × SendsEvents p steps k start first new after
sends_more p steps n zero start mid new first before after so_far same = (
  n,
  subst (λ (h : Holding). SendsEvents p steps n start first h after) (sym same.0)
      (subst (λ (ts : List Token). SendsEvents p steps n start first mid ts) (sym same.1) so_far),
)
sends_more p steps n (suc m) start mid new first before after so_far (last, sent, between, few, sound, most, does) =
    let all = sends_more p steps n m start mid last first before sent so_far between in
    (suc all.0, (last, sent, all.1, few, sound, most, does))

-- it takes one token out of the queue, and no more
pub fewer_by_one : (p : Program) (old : Holding) (t : Token) (before : List Token) (new : Holding) (after : List Token) → Acts p old 0 t before new after
    → 0 < length old.queue → length old.queue ≤ length new.queue + 1
fewer_by_one p old t before new after acts some =
    let made = here acts.part.shape acts.made in
    let queue : new.queue ≡ remove old.queue 0 ++ made = ap (λ (h : Holding). h.queue) acts.held in
    let long : length new.queue ≡ length (remove old.queue 0) + length made = ap (λ (ts : List Token). length ts) queue ∙ length-append (remove old.queue 0) made in
    omega (arith, long, length-remove old.queue 0 some)

-- and many more
pub events_more : (p : Program) (steps n m : ℕ) (start mid new : Holding) → MakesEvents p steps n start mid → MakesEvents p steps m mid new
    → (k : ℕ) × MakesEvents p steps k start new
events_more p steps n zero start mid new before same = (n, subst (λ (h : Holding). MakesEvents p steps n start h) (sym same) before)
events_more p steps n (suc m) start mid new before (last, between, few, sound, most, does) =
    let all = events_more p steps n m start mid last before between in
    (suc all.0, (last, all.1, few, sound, most, does))

-- so of a lane as it lies in memory
pub lane_events_more : (start mid new : LaneView) → fixed_of mid ≡ fixed_of start → (n : ℕ) × MakesEvents start.program start.steps n start.held mid.held
    → (n : ℕ) × MakesEvents mid.program mid.steps n mid.held new.held → (n : ℕ) × MakesEvents start.program start.steps n start.held new.held
lane_events_more start mid new fixed (n, before) (m, more) =
    let program = ap (λ (f : Fixed). f.program) fixed in
    let steps = ap (λ (f : Fixed). f.steps) fixed in
    let here = subst (λ (k : ℕ). MakesEvents start.program k m mid.held new.held) steps
    (subst (λ (p : Program). MakesEvents p mid.steps m mid.held new.held) program more) in
    events_more start.program start.steps n m start.held mid.held new.held before here

-- each event is counted
pub events_grow : (p : Program) (steps n : ℕ) (old new : Holding) → MakesEvents p steps n old new → old.made ≤ new.made
events_grow p steps zero old new same = let e : new.made ≡ old.made = ap (λ (h : Holding). h.made) same in omega arith
events_grow p steps (suc n) old new (mid, before, few, sound, most, does) =
    let more = events_grow p steps n old mid before in
    let one : new.made ≡ mid.made + 1 = does.count in
    omega arith

-- THE ONLY ELEMENT. No token is for another element
pub none_elsewhere : (z : Shape) (ts : List Token) → z.elements ≡ 1 → z.element < z.elements → elsewhere z ts ≡ []
none_elsewhere z [] single there = refl
none_elsewhere z (t ∷ ts) single there =
    let some : 0 < z.elements = omega arith in
    let ours : is_here z t ≡ true = eq-eqb (element_of z.elements t.to) z.element (omega (arith, element_below z.elements t.to some)) in
    ap (λ (b : Bool). cond b (t ∷ elsewhere z ts) (elsewhere z ts)) (not_from_true (is_here z t) ours) ∙ none_elsewhere z ts single there

-- So an event sends nothing, and is one whatever was sent before.
module _ (p : Program) (old new : Holding) (before after : List Token) (single : old.part.shape.elements ≡ 1)
    (there : old.part.shape.element < old.part.shape.elements) (does : Does p old 0 before new after) where
  abbrev z : Shape
  z = old.part.shape

  abbrev rest : List Token
  rest = remove old.queue (place_of old 0)

  none : elsewhere z does.made ≡ []
  none = none_elsewhere z does.made single there

  pub sends_none : after ≡ before
  sends_none = does.sent ∙ ap (λ (ts : List Token). before ++ ts) none ∙ append-nil before

  within : place_of old 0 < length old.queue
  within = mod-lt 0 does.picks.some

  takes : IsPermutation old.queue (does.token ∷ rest)
  takes = IsPermutation-remove old.queue (place_of old 0) does.token within
      (sym (get_or_from_slice_get old.queue (place_of old 0) does.token does.token does.picks.token))

  -- the same tokens with those that were sent before
  beside : (m : Machine) (others : List Token) → HoldsTokens old [] others m → IsPermutation (before ++ m.pool) (old.queue ++ (before ++ others))
  beside m others pool =
      IsPermutation-trans _ _ _ (IsPermutation-append_right before m.pool (old.queue ++ others) pool)
      (IsPermutation-trans _ _ _ (same (sym (append_assoc before old.queue others)))
      (IsPermutation-trans _ _ _ (IsPermutation-append_left others (before ++ old.queue) (old.queue ++ before) (IsPermutation-append_comm before old.queue))
      (same (append_assoc old.queue before others))))
    where
      same : {xs ys : List Token} → xs ≡ ys → IsPermutation xs ys
      same {xs} d = subst (λ (l : List Token). IsPermutation xs l) d (IsPermutation-refl xs)

  after_event : (m : Machine) (others : List Token) → IsPart old.part m.store → HoldsTokens old [] others m
      → IsAfter p old does.token new [] others does.made m
  after_event m others part pool =
      let all : Machine = record { store = m.store; pool = before ++ m.pool } in
      let a = does.event all others part (beside m others pool) in
      let next : Machine = record { store = a.next.store; pool = does.made ++ (rest ++ others) } in
      record {
        next = next;
        event = record {
          made = does.made;
          rest = rest ++ others;
          addressed = a.event.addressed;
          takes = IsPermutation-trans m.pool (old.queue ++ others) (does.token ∷ (rest ++ others)) pool
              (IsPermutation-append_left others old.queue (does.token ∷ rest) takes);
          happens = subst (λ (ts : List Token). Happens p (z.elements * z.frames) m.store does.token.to does.token.word ts a.next.store) a.makes
              a.event.happens;
          leaves = IsPermutation-refl (does.made ++ (rest ++ others));
        };
        makes = refl;
        part = a.part;
        same = a.same;
        tokens = subst (λ (q : List Token). IsPermutation next.pool (q ++ others)) (sym does.queue)
            (subst (λ (ts : List Token). IsPermutation next.pool ((rest ++ here z does.made) ++ (ts ++ others))) none
            (placed z does.made rest [] others));
      }

  pub does_alone : Does p old 0 [] new []
  does_alone = record {
    token = does.token;
    picks = does.picks;
    made = does.made;
    queue = does.queue;
    sent = sym none;
    near = does.near;
    first = does.first;
    count = does.count;
    shape = does.shape;
    event = λ m others part pool. after_event m others part pool;
  }

-- so of many
pub alone_events : (p : Program) (steps n : ℕ) (old new : Holding) (before after : List Token) → old.part.shape.elements ≡ 1
    → old.part.shape.element < old.part.shape.elements → SendsEvents p steps n old before new after
    → MakesEvents p steps n old new × (after ≡ before) × (new.part.shape ≡ old.part.shape)
alone_events p steps zero old new before after single there same = (same.0, same.1, ap (λ (h : Holding). h.part.shape) same.0)
alone_events p steps (suc n) old new before after single there (mid, sent, events, few, sound, most, does) =
    let first = alone_events p steps n old mid before sent single there events in
    let mid_single = ap (λ (z : Shape). z.elements) first.2 ∙ single in
    let mid_there = subst (λ (z : Shape). z.element < z.elements) (sym first.2) there in
    let last = does_alone p mid new sent after mid_single mid_there does in (
      (mid, first.0, few, sound, most, last),
      sends_none p mid new sent after mid_single mid_there does ∙ first.1,
      does.shape ∙ first.2,
    )

-- and of a lane as it lies in memory, after others
pub lane_alone_more : (start mid new : LaneView) (first before after : List Token) → start.held.part.shape.elements ≡ 1 → fixed_of mid ≡ fixed_of start
    → fixed_of new ≡ fixed_of mid → IsSoundLane new.program new.held → (n : ℕ) × MakesEvents start.program start.steps n start.held mid.held
    → before ≡ first → (n : ℕ) × SendsEvents mid.program mid.steps n mid.held before new.held after
    → ((n : ℕ) × MakesEvents start.program start.steps n start.held new.held) × (after ≡ first)
lane_alone_more start mid new first before after single fixed stays sound so_far none (n, sends) =
    let there = subst (λ (z : Shape). z.element < z.elements) (ap (λ (f : Fixed). f.shape) stays) sound.part.there in
    let all = alone_events mid.program mid.steps n mid.held new.held before after (ap (λ (f : Fixed). f.shape.elements) fixed ∙ single) there sends in
    (lane_events_more start mid new fixed so_far (n, all.0), all.1 ∙ none)

-- A TOKEN MORE
all_one : {X : Type 0} (P : X → Type 0) (x : X) → P x → All P (x ∷ [])
all_one P x is zero d low = is
all_one P x is (suc k) d low = absurd (omega arith)

-- a lane that may run goes on so
pub received : (slots : ℕ) (l : LaneView) (t : Token) → IsRunnable slots l → IsFor (fixed_of l) t → IsRunnable slots (with_more l (t ∷ []))
received slots l t ok fit = record {
  sound = record {
    part = ok.sound.part;
    near = All-append (IsNearToken (bounds l.program l.held.part.shape)) l.held.queue (t ∷ []) ok.sound.near (all_one (IsNearToken (bounds l.program l.held.part.shape)) t fit.near);
    addressed =
        All-append (λ (u : Token). element_of l.held.part.shape.elements u.to ≡ l.held.part.shape.element) l.held.queue (t ∷ [])
        ok.sound.addressed (all_one (λ (u : Token). element_of l.held.part.shape.elements u.to ≡ l.held.part.shape.element) t fit.addressed);
    answered = ok.sound.answered;
  };
  width = ok.width;
  made = ok.made;
  few = ok.few;
}
