-- Turns, and rounds of them.
use Rattle.std.proofs.Common.{◌≡◌, refl, sym, ◌∙◌, ap, subst, ℕ, zero, suc, ◌+◌, ◌<◌, ◌≤◌, Bool, true, false, ℤ, List, [], ◌∷◌, ◌++◌, length, Some}
use Rattle.std.proofs.Common.{arith, append_assoc}
use Rattle.std.specs.Prelude.{All, slice_get, slice_set}
use Rattle.std.proofs.lemmas.List.{append-nil, length-set, length-append, map-append}
use Rattle.std.proofs.lemmas.List.Elements.{All-append, All-nil}
use Rattle.tags.specs.declared.token.Token.{Token}
use Rattle.semantics.specs.Program.{Program}
use Rattle.semantics.specs.Machine.{Events}
use Rattle.element.specs.Near.{IsNearToken}
use Rattle.element.specs.Holding.{Holding, LaneView, Fixed, fixed_of, IsSoundLane}
use Rattle.element.specs.Steps as one
use Rattle.schedule.specs.Setting.{Setting, IsGoodSetting}
use Rattle.schedule.specs.State.{AllFrom, IsPlaced}
use Rattle.schedule.specs.Runs.{Began}
use Rattle.schedule.proofs.Places.{first_get, first_set}
use Rattle.schedule.proofs.Tokens.{set_same}
use Rattle.schedule.proofs.Stepping.{bounds_in}
use Rattle.schedule.specs.Steps.{logged}
use Rattle.rounds.specs.Turns.{by, Turns, Turned, helds, all_sent, all_noted, arriving}
use Rattle.rounds.specs.ByDepth.{Takes}
use Rattle.rounds.proofs.Taking.{Any, AnyRound, made_any}
use Rattle.rounds.proofs.Going.{began_one, near_sent, next_placed}

-- one event more at the end of a turn
pub turns_more : (p : Program) (steps : ℕ) (old : Holding) (before : List Token) (ts : List Token) (mid : Holding) (sent : List Token)
    (next : Holding) (after : List Token) → Turns p steps old before ts mid sent
    → (does : one.Does p mid 0 sent next after) → mid.made < steps → IsSoundLane p next → Turns p steps old before (ts ++ does.token ∷ []) next after
turns_more p steps old before [] mid sent next after so_far does few sound =
    subst (λ (h : Holding). Turns p steps h before (does.token ∷ []) next after) so_far.0
    (subst (λ (l : List Token). Turns p steps mid l (does.token ∷ []) next after) so_far.1 (next, after, does, refl, few, sound, (refl, refl)))
turns_more p steps old before (t ∷ ts) mid sent next after (m, s, d, is, low, good, rest) does few sound =
    (m, s, d, is, low, good, turns_more p steps m s ts mid sent next after rest does few sound)

-- and many more
pub turns_append : (p : Program) (steps : ℕ) (old : Holding) (before ts : List Token) (mid : Holding) (sent us : List Token) (next : Holding)
    (after : List Token) → Turns p steps old before ts mid sent → Turns p steps mid sent us next after → Turns p steps old before (ts ++ us) next after
turns_append p steps old before [] mid sent us next after so_far more =
    subst (λ (h : Holding). Turns p steps h before us next after) so_far.0
    (subst (λ (l : List Token). Turns p steps mid l us next after) so_far.1 more)
turns_append p steps old before (t ∷ ts) mid sent us next after (m, s, d, is, low, good, rest) more =
    (m, s, d, is, low, good, turns_append p steps m s ts mid sent us next after rest more)

-- what the events of a lane took, and how many there were
pub turns_of : (p : Program) (steps n : ℕ) (old new : Holding) (before after : List Token) → one.SendsEvents p steps n old before new after
    → (ts : List Token) × Turns p steps old before ts new after × (new.made ≡ old.made + length ts)
turns_of p steps zero old new before after same =
    let count : new.made ≡ old.made = ap (λ (h : Holding). h.made) same.0 in
    ([], (same.0, same.1), omega (arith, count))
turns_of p steps (suc n) old new before after (mid, sent, events, few, sound, most, does) =
    let so_far = turns_of p steps n old mid before sent events in
    let one_more : new.made ≡ mid.made + 1 = does.count in
    let length_is = length-append so_far.0 (does.token ∷ []) in
    let turns = turns_more p steps old before so_far.0 mid sent new after so_far.1 does few sound in
    (so_far.0 ++ does.token ∷ [], turns, omega (arith, one_more, length_is, so_far.2))

-- A LANE AS IT LIES IN MEMORY, and what it took so far in its turn
abbrev pub Took : LaneView → List Token → Holding → List Token → Type 0
Took start before h sent = (ts : List Token) × Turns start.program start.steps start.held before ts h sent × (h.made ≡ start.held.made + length ts)

-- one event more
pub took_more : (start mid next : LaneView) (before sent after : List Token) → fixed_of mid ≡ fixed_of start → fixed_of next ≡ fixed_of mid
    → IsSoundLane next.program next.held → (0 < length mid.held.queue → mid.held.made < mid.steps)
    → one.Does mid.program mid.held 0 sent next.held after → Took start before mid.held sent → Took start before next.held after
took_more start mid next before sent after fixed stays sound allowed does (ts, turns, count) =
    let steps : mid.steps ≡ start.steps = ap (λ (f : Fixed). f.steps) fixed in
    let now : one.Does start.program mid.held 0 sent next.held after = subst (λ (p : Program). one.Does p mid.held 0 sent next.held after)
    (ap (λ (f : Fixed). f.program) fixed) does in
    let may : mid.held.made < mid.steps = allowed does.picks.some in
    let few : mid.held.made < start.steps = omega arith in
    let sound_now = subst (λ (p : Program). IsSoundLane p next.held) (ap (λ (f : Fixed). f.program) (stays ∙ fixed)) sound in
    let one_more : next.held.made ≡ mid.held.made + 1 = does.count in
    let length_is : length (ts ++ now.token ∷ []) ≡ length ts + 1 = length-append ts (now.token ∷ []) in (
      ts ++ now.token ∷ [],
      turns_more start.program start.steps start.held before ts mid.held sent next.held after turns now few sound_now,
      omega (arith, one_more, length_is, count),
    )

-- many more
pub took_all : (start mid : LaneView) (before sent : List Token) (next : Holding) (after : List Token) → fixed_of mid ≡ fixed_of start
    → Took start before mid.held sent → Took mid sent next after → Took start before next after
took_all start mid before sent next after fixed (ts, turns, count) (us, more, count_more) =
    let more_now = subst (λ (k : ℕ). Turns start.program k mid.held sent us next after) (ap (λ (f : Fixed). f.steps) fixed)
    (subst (λ (p : Program). Turns p mid.steps mid.held sent us next after) (ap (λ (f : Fixed). f.program) fixed) more) in
    let length_is : length (ts ++ us) ≡ length ts + length us = length-append ts us in (
      ts ++ us,
      turns_append start.program start.steps start.held before ts mid.held sent us next after turns more_now,
      omega (arith, count, count_more, length_is),
    )

-- none more
pub took_same : (start : LaneView) (before : List Token) (mid : Holding) (sent : List Token) (next : Holding) (after : List Token)
    → one.Stays mid sent next after → Took start before mid sent → Took start before next after
took_same start before mid sent next after stays took =
    subst (λ (h : Holding). Took start before h after) (sym stays.held)
    (subst (λ (l : List Token). Took start before mid l) (sym stays.sent) took)

get_set : (xs : List Holding) (i : ℕ) (x y : Holding) → slice_get xs i ≡ Some x → slice_get (slice_set xs i y) i ≡ Some y
get_set [] i x y e = absurd (let no : ⊥ = cc in no)
get_set (z ∷ zs) zero x y e = refl
get_set (z ∷ zs) (suc i) x y e = get_set zs i x y e

set_twice : (xs : List Holding) (i : ℕ) (x y : Holding) → slice_set (slice_set xs i x) i y ≡ slice_set xs i y
set_twice [] i x y = refl
set_twice (z ∷ zs) zero x y = refl
set_twice (z ∷ zs) (suc i) x y = ap (λ (l : List Holding). z ∷ l) (set_twice zs i x y)

-- What happened is known after a turn, and what it made is near.
pub began_turn : (inputs : List ℤ) (g : Setting) (good : IsGoodSetting g) (e : ℕ) (others : List Token) (ts : List Token) (raw : List Holding)
    (lane new : Holding) (before after : List Token) → length raw ≡ g.elements → AllFrom (IsPlaced g) 0 raw
    → slice_get raw e ≡ Some lane → (k : ℕ) → Takes Any g.program g.steps k lane before ts new after → (evs : Events) → Began inputs (arriving g raw (others ++ before)) evs
    → Began inputs (arriving g (slice_set raw e new) (others ++ after)) (evs ++ by e ts)
began_turn inputs g good e others [] raw lane new before after count sound there k turns evs b =
    let lanes : raw ≡ slice_set raw e new = sym (set_same raw e lane there) ∙ ap (λ (h : Holding). slice_set raw e h) (sym turns.0) in
    let one : Began inputs (arriving g (slice_set raw e new) (others ++ before)) evs = subst
    (λ (l : List Holding). Began inputs (arriving g l (others ++ before)) evs) lanes b in
    let two : Began inputs (arriving g (slice_set raw e new) (others ++ after)) evs = subst
    (λ (l : List Token). Began inputs (arriving g (slice_set raw e new) (others ++ l)) evs) (sym turns.1) one in
    subst (λ (l : Events). Began inputs (arriving g (slice_set raw e new) (others ++ after)) l) (sym (append-nil evs)) two
began_turn inputs g good e others (t ∷ ts) raw lane new before after count sound there k (pick, may, mid, sent, does, is, few, mid_sound, rest) evs b =
    let set : List Holding = slice_set raw e mid in
    let made : mid.made ≤ g.steps = (let c = does.count in omega arith) in
    let placed : AllFrom (IsPlaced g) 0 set = first_set (IsPlaced g) raw e mid sound (next_placed g good raw count sound e lane mid others before sent
    there pick does mid_sound made) in
    let one : Began inputs (arriving g set (others ++ sent)) (evs ++ (e, does.token) ∷ []) = began_one inputs g good raw count sound e lane mid others
    before sent there pick does evs b in
    let now : Events = evs ++ (e, t) ∷ [] in
    let here : Began inputs (arriving g set (others ++ sent)) now = subst (λ (u : Token). Began inputs (arriving g set (others ++ sent))
    (evs ++ (e, u) ∷ [])) is one in
    let all : Began inputs (arriving g (slice_set set e new) (others ++ after)) (now ++ by e ts) = began_turn inputs g good e others ts set mid new
    sent after (length-set raw e mid ∙ count) placed (get_set raw e lane mid there) (suc k) rest now here in
    let last : Began inputs (arriving g (slice_set raw e new) (others ++ after)) (now ++ by e ts) = subst
    (λ (l : List Holding). Began inputs (arriving g l (others ++ after)) (now ++ by e ts)) (set_twice raw e mid new) all in
    subst (λ (l : Events). Began inputs (arriving g (slice_set raw e new) (others ++ after)) l) (append_assoc evs ((e, t) ∷ []) (by e ts)) last

-- the lane is as sound after a turn, and all that it made is near
pub placed_turn : (g : Setting) (good : IsGoodSetting g) (e : ℕ) (ts : List Token) (raw : List Holding) (lane new : Holding)
    (before after : List Token) → length raw ≡ g.elements → AllFrom (IsPlaced g) 0 raw
    → slice_get raw e ≡ Some lane → (k : ℕ) → Takes Any g.program g.steps k lane before ts new after → All (IsNearToken (bounds_in g)) before
    → IsPlaced g e new
    × All (IsNearToken (bounds_in g)) after
placed_turn g good e [] raw lane new before after count sound there k turns near = (
  subst (λ (h : Holding). IsPlaced g e h) (sym turns.0) (first_get (IsPlaced g) raw e lane sound there),
  subst
      (λ (l : List Token). All (IsNearToken (bounds_in g)) l) (sym turns.1) near,
)
placed_turn g good e (t ∷ ts) raw lane new before after count sound there k (pick, may, mid, sent, does, is, few, mid_sound, rest) near =
    let set : List Holding = slice_set raw e mid in
    let made : mid.made ≤ g.steps = (let c = does.count in omega arith) in
    let placed : AllFrom (IsPlaced g) 0 set = first_set (IsPlaced g) raw e mid sound (next_placed g good raw count sound e lane mid [] before sent
    there pick does mid_sound made) in
    placed_turn g good e ts set mid new sent after (length-set raw e mid ∙ count) placed (get_set raw e lane mid there) (suc k) rest
    (near_sent g good raw count sound e lane mid [] before sent there pick does near)

-- A ROUND
get_next : (done : List Holding) (x : Holding) (xs : List Holding) → slice_get (done ++ x ∷ xs) (length done) ≡ Some x
get_next [] x xs = refl
get_next (d ∷ ds) x xs = get_next ds x xs

set_next : (done : List Holding) (x y : Holding) (xs : List Holding) → slice_set (done ++ x ∷ xs) (length done) y ≡ (done ++ y ∷ []) ++ xs
set_next [] x y xs = refl
set_next (d ∷ ds) x y xs = ap (λ (l : List Holding). d ∷ l) (set_next ds x y xs)

pub record Standing (g : Setting) (raw : List Holding) (others : List Token) : Type 0 where
  pub good : IsGoodSetting g
  pub count : length raw ≡ g.elements
  pub sound : AllFrom (IsPlaced g) 0 raw
  pub near : All (IsNearToken (bounds_in g)) others

-- Each of the lanes from the k-th on took its turn, one after the other.
pub stands_round : (g : Setting) (keeps_events may_stop : Bool) (k : ℕ) (done : List Holding) (olds : List Holding) (ts : List Turned)
    (others : List Token) → length done ≡ k → Standing g (done ++ olds) others → (round : AnyRound g keeps_events may_stop olds ts)
    → Standing g (done ++ helds ts) (others ++ all_sent ts)
stands_round g keeps_events may_stop k done [] [] others at s round = record {
  good = s.good;
  count = s.count;
  sound = s.sound;
  near = subst (λ (l : List Token). All (IsNearToken (bounds_in g)) l) (sym (append-nil others)) s.near;
}
stands_round g keeps_events may_stop k done [] (t ∷ ts) others at s round = absurd round
stands_round g keeps_events may_stop k done (h ∷ hs) [] others at s round = absurd round
stands_round g keeps_events may_stop k done (h ∷ hs) (t ∷ ts) others at s (turn, rest) =
    let raw : List Holding = done ++ h ∷ hs in
    let there : slice_get raw k ≡ Some h = subst (λ (n : ℕ). slice_get raw n ≡ Some h) at (get_next done h hs) in
    let both = placed_turn g s.good k turn.taken raw h t.held [] t.sent s.count s.sound there 0 turn.turns (All-nil (IsNearToken (bounds_in g))) in
    let set : slice_set raw k t.held ≡ (done ++ t.held ∷ []) ++ hs = subst (λ (n : ℕ). slice_set raw n t.held ≡ (done ++ t.held ∷ []) ++ hs) at
    (set_next done h t.held hs) in
    let next : Standing g ((done ++ t.held ∷ []) ++ hs) (others ++ t.sent) = subst (λ (l : List Holding). Standing g l (others ++ t.sent)) set (record {
      good = s.good;
      count = length-set raw k t.held ∙ s.count;
      sound = first_set (IsPlaced g) raw k t.held s.sound both.0;
      near = All-append (IsNearToken (bounds_in g)) others t.sent s.near both.1;
    }) in
    let at_next : length (done ++ t.held ∷ []) ≡ suc k = (let l = length-append done (t.held ∷ []) in omega arith) in
    let all : Standing g ((done ++ t.held ∷ []) ++ helds ts) ((others ++ t.sent) ++ all_sent ts) = stands_round g keeps_events may_stop (suc k)
    (done ++ t.held ∷ []) hs ts (others ++ t.sent) at_next next rest in
    subst (λ (l : List Holding). Standing g l (others ++ all_sent (t ∷ ts))) (append_assoc done (t.held ∷ []) (helds ts))
    (subst (λ (l : List Token). Standing g ((done ++ t.held ∷ []) ++ helds ts) l) (append_assoc others t.sent (all_sent ts)) all)

pub began_round : (inputs : List ℤ) (g : Setting) (keeps_events may_stop : Bool) (k : ℕ) (done : List Holding) (olds : List Holding)
    (ts : List Turned) (others : List Token) (evs : Events) → length done ≡ k → Standing g (done ++ olds) others
    → (round : AnyRound g keeps_events may_stop olds ts)
    → Began inputs (arriving g (done ++ olds) others) evs → Began inputs (arriving g (done ++ helds ts) (others ++ all_sent ts))
    (evs ++ made_any g keeps_events may_stop olds ts round)
began_round inputs g keeps_events may_stop k done [] [] others evs at s round b =
    subst (λ (l : Events). Began inputs (arriving g (done ++ []) (others ++ [])) l) (sym (append-nil evs))
    (subst (λ (l : List Token). Began inputs (arriving g (done ++ []) l) evs) (sym (append-nil others)) b)
began_round inputs g keeps_events may_stop k done [] (t ∷ ts) others evs at s round b = absurd round
began_round inputs g keeps_events may_stop k done (h ∷ hs) [] others evs at s round b = absurd round
began_round inputs g keeps_events may_stop k done (h ∷ hs) (t ∷ ts) others evs at s (turn, rest) b =
    let raw : List Holding = done ++ h ∷ hs in
    let there : slice_get raw k ≡ Some h = subst (λ (n : ℕ). slice_get raw n ≡ Some h) at (get_next done h hs) in
    let element : h.part.shape.element ≡ k = (first_get (IsPlaced g) raw k h s.sound there).element in
    let e : ℕ = h.part.shape.element in
    let noted : by k turn.taken ≡ by e turn.taken = ap (λ (n : ℕ). by n turn.taken) (sym element) in
    let set : slice_set raw k t.held ≡ (done ++ t.held ∷ []) ++ hs = subst (λ (n : ℕ). slice_set raw n t.held ≡ (done ++ t.held ∷ []) ++ hs) at
    (set_next done h t.held hs) in
    let start : Began inputs (arriving g raw (others ++ [])) evs =
    subst (λ (l : List Token). Began inputs (arriving g raw l) evs) (sym (append-nil others)) b in
    let one : Began inputs (arriving g (slice_set raw k t.held) (others ++ t.sent)) (evs ++ by k turn.taken) = began_turn inputs g s.good k others
    turn.taken raw h t.held [] t.sent s.count s.sound there 0 turn.turns evs start in
    let two : Began inputs (arriving g ((done ++ t.held ∷ []) ++ hs) (others ++ t.sent)) (evs ++ by e turn.taken)
    = subst (λ (l : Events). Began inputs (arriving g ((done ++ t.held ∷ []) ++ hs) (others ++ t.sent)) (evs ++ l)) noted
    (subst (λ (l : List Holding). Began inputs (arriving g l (others ++ t.sent)) (evs ++ by k turn.taken)) set one) in
    let standing : Standing g ((done ++ t.held ∷ []) ++ hs) (others ++ t.sent) = (let both = placed_turn g s.good k turn.taken raw h t.held [] t.sent
    s.count s.sound there 0 turn.turns (All-nil (IsNearToken (bounds_in g))) in
    subst (λ (l : List Holding). Standing g l (others ++ t.sent)) set (record {
      good = s.good;
      count = length-set raw k t.held ∙ s.count;
      sound = first_set (IsPlaced g) raw k t.held s.sound both.0;
      near = All-append (IsNearToken (bounds_in g)) others t.sent s.near both.1;
    })) in
    let at_next : length (done ++ t.held ∷ []) ≡ suc k = (let l = length-append done (t.held ∷ []) in omega arith) in
    let all = began_round inputs g keeps_events may_stop (suc k) (done ++ t.held ∷ []) hs ts (others ++ t.sent) (evs ++ by e turn.taken) at_next
    standing rest two in
    subst (λ (l : List Holding). Began inputs (arriving g l (others ++ all_sent (t ∷ ts)))
    (evs ++ (by e turn.taken ++ made_any g keeps_events may_stop hs ts rest))) (append_assoc done (t.held ∷ []) (helds ts))
    (subst (λ (l : List Token). Began inputs (arriving g ((done ++ t.held ∷ []) ++ helds ts) l)
    (evs ++ (by e turn.taken ++ made_any g keeps_events may_stop hs ts rest))) (append_assoc others t.sent (all_sent ts))
    (subst (λ (l : Events). Began inputs (arriving g ((done ++ t.held ∷ []) ++ helds ts) ((others ++ t.sent) ++ all_sent ts)) l)
    (append_assoc evs (by e turn.taken) (made_any g keeps_events may_stop hs ts rest)) all))

-- IN MEMORY
pub one_token : (h : Holding) (pick : ℕ) (t u : Token) → one.Picks h pick t → one.Picks h pick u → t ≡ u
one_token h pick t u p q = let a = p.token in let b = q.token in cc

more_at : (first : Events) (at e : ℕ) (ts : List Token) (t u : Token) → e ≡ at → t ≡ u → (first ++ by at ts) ++ (e, u) ∷ [] ≡ first ++ by at (ts ++ t ∷ [])
more_at first at e ts t u place token =
    append_assoc first (by at ts) ((e, u) ∷ [])
    ∙ ap (λ (n : ℕ). first ++ (by at ts ++ (n, u) ∷ [])) place ∙ ap (λ (x : Token). first ++ (by at ts ++ (at, x) ∷ [])) (sym token)
    ∙ ap (λ (l : Events). first ++ l) (sym (map-append (λ (x : Token). (at, x)) ts (t ∷ [])))

-- a list after one event more
pub noted_more : (keeps_events : Bool) (first so_far room last : Events) (e at : ℕ) (ts : List Token) (t u : Token) → so_far
    ≡ logged keeps_events first (by at ts) → room ≡ so_far → last ≡ logged keeps_events room ((e, u) ∷ []) → e ≡ at → t ≡ u
    → last ≡ logged keeps_events first (by at (ts ++ t ∷ []))
noted_more true first so_far room last e at ts t u is same pushed place token =
    pushed ∙ ap (λ (l : Events). l ++ (e, u) ∷ []) (same ∙ is) ∙ more_at first at e ts t u place token
noted_more false first so_far room last e at ts t u is same pushed place token = pushed ∙ same ∙ is

-- what the elements of a round noted
logged_app : (keeps_events : Bool) (a b : Events) → logged keeps_events [] a ++ logged keeps_events [] b ≡ logged keeps_events [] (a ++ b)
logged_app true a b = refl
logged_app false a b = refl

pub noted_round : (g : Setting) (keeps_events may_stop : Bool) (olds : List Holding) (ts : List Turned)
    (round : AnyRound g keeps_events may_stop olds ts) → all_noted ts ≡ logged keeps_events [] (made_any g keeps_events may_stop olds ts round)
noted_round g true may_stop [] [] round = refl
noted_round g false may_stop [] [] round = refl
noted_round g keeps_events may_stop [] (t ∷ ts) round = absurd round
noted_round g keeps_events may_stop (h ∷ hs) [] round = absurd round
noted_round g keeps_events may_stop (h ∷ hs) (t ∷ ts) (turn, rest) =
    ap (λ (l : Events). l ++ all_noted ts) turn.noted ∙ ap (λ (l : Events). logged keeps_events [] (by h.part.shape.element turn.taken) ++ l)
    (noted_round g keeps_events may_stop hs ts rest)
    ∙ logged_app keeps_events (by h.part.shape.element turn.taken) (made_any g keeps_events may_stop hs ts rest)

-- more events at the end of a list
pub logged_from : (keeps_events : Bool) (before made : Events) → before ++ logged keeps_events [] made ≡ logged keeps_events before made
logged_from true before made = refl
logged_from false before made = append-nil before
