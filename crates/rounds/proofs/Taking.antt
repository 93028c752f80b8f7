-- Turns in whichever order a lane takes its tokens.
use Rattle.std.proofs.Common.{◌≡◌, refl, sym, ◌∙◌, ap, subst, ℕ, suc, ◌+◌, ◌%◌, ◌<◌, ◌≤◌, inl, inr, Bool, true, false, List, [], ◌∷◌, ◌++◌, length}
use Rattle.std.proofs.Common.{Option, Some, None, arith, ◌-◌, ◌⊎◌, append_assoc}
use Rattle.std.proofs.lemmas.List.{append-nil, map-append, nil_from_length}
use Rattle.std.specs.Prelude.{⊤, remove, if◌then◌else◌}
use Rattle.std.proofs.Math.Nat.{mod-eq_of_lt}
use Rattle.tags.specs.declared.token.Token.{Token}
use Rattle.semantics.specs.Program.{Program}
use Rattle.semantics.specs.Machine.{Events}
use Rattle.element.specs.Holding.{Holding, LaneView, Fixed, fixed_of, here, IsSoundLane}
use Rattle.element.specs.Requests.{is_for_manager, held_back}
use Rattle.element.specs.Steps as one
use Rattle.schedule.specs.declared.halt.Halt.{Halt}
use Rattle.schedule.specs.declared.take.Take.{Take}
use Rattle.schedule.specs.declared.take.Take.TheVariants.{Oldest, Depth}
use Rattle.schedule.specs.Setting.{Setting}
use Rattle.schedule.specs.Steps.{logged}
use Rattle.schedule.specs.Turns.{others}
use Rattle.rounds.specs.Turns.{by, Turns, HaltsLane, Turned, TakesTurn, Round, made_in}
use Rattle.rounds.specs.ByDepth.{GrantsNone, Takes, MayGrant, MayTake, TurnsByDepth, EndsGranting, IsWholeByDepth, HaltsTaking, TakesTurnByDepth, RoundTaking}
use Rattle.rounds.specs.ByDepth.{made_taking}

-- any token
abbrev pub Any : ℕ → Holding → ℕ → Type 0
Any k h pick = ⊤

pub takes_any : (may : ℕ → Holding → ℕ → Type 0) (p : Program) (steps k j : ℕ) (old : Holding) (before ts : List Token) (new : Holding) (after : List Token)
    → Takes may p steps k old before ts new after → Takes Any p steps j old before ts new after
takes_any may p steps k j old before [] new after takes = takes
takes_any may p steps k j old before (t ∷ ts) new after (pick, allowed, mid, sent, does, is, few, sound, rest) =
    (pick, tt, mid, sent, does, is, few, sound, takes_any may p steps (suc k) (suc j) mid sent ts new after rest)

pub turns_any : (p : Program) (steps j : ℕ) (old : Holding) (before ts : List Token) (new : Holding) (after : List Token)
    → Turns p steps old before ts new after → Takes Any p steps j old before ts new after
turns_any p steps j old before [] new after turns = turns
turns_any p steps j old before (t ∷ ts) new after (mid, sent, does, is, few, sound, rest) =
    (0, tt, mid, sent, does, is, few, sound, turns_any p steps (suc j) mid sent ts new after rest)

pub any_append : (p : Program) (steps j : ℕ) (old : Holding) (before ts : List Token) (mid : Holding) (sent us : List Token) (new : Holding)
    (after : List Token) → Takes Any p steps j old before ts mid sent → ((i : ℕ) → Takes Any p steps i mid sent us new after)
    → Takes Any p steps j old before (ts ++ us) new after
any_append p steps j old before [] mid sent us new after so_far more =
    subst (λ (h : Holding). Takes Any p steps j h before us new after) so_far.0
    (subst (λ (l : List Token). Takes Any p steps j mid l us new after) so_far.1 (more j))
any_append p steps j old before (t ∷ ts) mid sent us new after (pick, allowed, m, s, d, is, low, good, rest) more =
    (pick, allowed, m, s, d, is, low, good, any_append p steps (suc j) m s ts mid sent us new after rest more)

-- one event more at the end
pub takes_more : (may : ℕ → Holding → ℕ → Type 0) (p : Program) (steps k : ℕ) (old : Holding) (before ts : List Token) (mid : Holding) (sent : List Token)
    (next : Holding) (after : List Token) (pick : ℕ) → Takes may p steps k old before ts mid sent → may (k + length ts) mid pick
    → (does : one.Does p mid pick sent next after) → mid.made < steps → IsSoundLane p next → Takes may p steps k old before (ts ++ does.token ∷ []) next after
takes_more may p steps k old before [] mid sent next after pick so_far allowed does few sound =
    let place : k + 0 ≡ k = omega arith in
    let now : Takes may p steps k mid sent (does.token ∷ []) next after
    = (pick, subst (λ (n : ℕ). may n mid pick) place allowed, next, after, does, refl, few, sound, (refl, refl)) in
    subst (λ (h : Holding). Takes may p steps k h before (does.token ∷ []) next after) so_far.0
    (subst (λ (l : List Token). Takes may p steps k mid l (does.token ∷ []) next after) so_far.1 now)
takes_more may p steps k old before (t ∷ ts) mid sent next after pick (first, was, m, s, d, is, low, good, rest) allowed does few sound =
    let place : k + length (t ∷ ts) ≡ suc k + length ts = omega arith in (
      first,
      was,
      m,
      s,
      d,
      is,
      low,
      good,
      takes_more may p steps (suc k) m s ts mid sent next after pick rest (subst (λ (n : ℕ). may n mid pick) place allowed) does few sound,
    )

pub grown_any : (may : ℕ → Holding → ℕ → Type 0) (p : Program) (steps k : ℕ) (old : Holding) (before ts : List Token) (new : Holding) (after : List Token)
    → Takes may p steps k old before ts new after → new.made ≡ old.made + length ts
grown_any may p steps k old before [] new after takes = let e = ap (λ (h : Holding). h.made) takes.0 in omega (arith, e)
grown_any may p steps k old before (t ∷ ts) new after (pick, allowed, mid, sent, does, is, few, sound, rest) =
    let e = grown_any may p steps (suc k) mid sent ts new after rest in
    let c = does.count in
    omega (arith, e, c)

-- WHY A LANE HALTS
abbrev pub AnyPlace : Holding → ℕ → Type 0
AnyPlace h pick = ⊤

pub halts_taking : (p : Program) (steps : ℕ) (may_stop : Bool) (h : Holding) (halt : Option Halt) → HaltsLane p steps may_stop h halt
    → HaltsTaking AnyPlace p steps may_stop h halt
halts_taking p steps may_stop h None halts = halts
halts_taking p steps may_stop h (Some Halt.NoToken) halts = halts
halts_taking p steps may_stop h (Some (Halt.Clash cell)) (some, few, clash) = (some, few, (0, tt, clash))
halts_taking p steps may_stop h (Some Halt.Steps) halts = halts
halts_taking p steps may_stop h (Some (Halt.Stuck rule)) (some, few, stuck) = (some, few, (0, tt, stuck))
halts_taking p steps may_stop h (Some Halt.Memory) halts = halts
halts_taking p steps may_stop h (Some Halt.Stop) halts = halts

-- where more may be taken
pub halts_weaker : (may also : Holding → ℕ → Type 0) (p : Program) (steps : ℕ) (may_stop : Bool) (h : Holding) (halt : Option Halt)
    → ((pick : ℕ) → may h pick → also h pick) → HaltsTaking may p steps may_stop h halt → HaltsTaking also p steps may_stop h halt
halts_weaker may also p steps may_stop h None more halts = halts
halts_weaker may also p steps may_stop h (Some Halt.NoToken) more halts = halts
halts_weaker may also p steps may_stop h (Some (Halt.Clash cell)) more (some, few, (pick, allowed, clash)) = (some, few, (pick, more pick allowed, clash))
halts_weaker may also p steps may_stop h (Some Halt.Steps) more halts = halts
halts_weaker may also p steps may_stop h (Some (Halt.Stuck rule)) more (some, few, (pick, allowed, stuck)) = (some, few, (pick, more pick allowed, stuck))
halts_weaker may also p steps may_stop h (Some Halt.Memory) more halts = halts
halts_weaker may also p steps may_stop h (Some Halt.Stop) more halts = halts

-- A TURN, AND A ROUND
pub record AnyTurn (p : Program) (steps : ℕ) (keeps_events may_stop : Bool) (old new : Turned) : Type 0 where
  pub taken : List Token
  pub turns : Takes Any p steps 0 old.held old.sent taken new.held new.sent
  pub noted : new.log ≡ logged keeps_events old.log (by old.held.part.shape.element taken)
  pub halts : HaltsTaking AnyPlace p steps may_stop new.held new.halt

abbrev pub fresh : Holding → Turned
fresh h = record { held = h; sent = []; log = []; halt = None }

abbrev pub AnyRound : Setting → Bool → Bool → List Holding → List Turned → Type 0
AnyRound g keeps_events may_stop [] [] = ⊤
AnyRound g keeps_events may_stop (h ∷ hs) (t ∷ ts) = AnyTurn g.program g.steps keeps_events may_stop (fresh h) t × AnyRound g keeps_events may_stop hs ts
AnyRound g keeps_events may_stop hs ts = ⊥

abbrev pub made_any : (g : Setting) (keeps_events may_stop : Bool) (hs : List Holding) (ts : List Turned) → AnyRound g keeps_events may_stop hs ts → Events
made_any g keeps_events may_stop [] [] round = []
made_any g keeps_events may_stop [] (t ∷ ts) round = []
made_any g keeps_events may_stop (h ∷ hs) [] round = []
made_any g keeps_events may_stop (h ∷ hs) (t ∷ ts) (turn, rest) = by h.part.shape.element turn.taken ++ made_any g keeps_events may_stop hs ts rest

any_turn : (p : Program) (steps turn : ℕ) (keeps_events may_stop : Bool) (old new : Turned) → TakesTurn p steps turn keeps_events may_stop old new
    → AnyTurn p steps keeps_events may_stop old new
any_turn p steps turn keeps_events may_stop old new takes = record {
  taken = takes.taken;
  turns = turns_any p steps 0 old.held old.sent takes.taken new.held new.sent takes.turns;
  noted = takes.noted;
  halts = halts_taking p steps may_stop new.held new.halt takes.halts;
}

pub depth_any : (p : Program) (steps turn ordinary : ℕ) (may_stop : Bool) (old : Holding) (before taken : List Token) (new : Holding) (after : List Token)
    (halt : Option Halt) → TurnsByDepth p steps turn ordinary may_stop old before taken new after halt → Takes Any p steps 0 old before taken new after
depth_any p steps turn ordinary may_stop old before taken new after halt turns =
    subst (λ (l : List Token). Takes Any p steps 0 old before l new after) (sym turns.all)
    (any_append p steps 0 old before turns.granted turns.mid turns.sent turns.later new after
    (takes_any (MayGrant ordinary) p steps 0 0 old before turns.granted turns.mid turns.sent turns.grants)
    (λ i. takes_any MayTake p steps 0 i turns.mid turns.sent turns.later new after turns.takes))

depth_halts : (p : Program) (steps turn ordinary : ℕ) (may_stop : Bool) (old : Holding) (before taken : List Token) (new : Holding) (after : List Token)
    (halt : Option Halt) → TurnsByDepth p steps turn ordinary may_stop old before taken new after halt → HaltsTaking AnyPlace p steps may_stop new halt
depth_halts p steps turn ordinary may_stop old before taken new after None turns = tt
depth_halts p steps turn ordinary may_stop old before taken new after (Some halt) turns = by_end turns.ended
  where
    by_end : (GrantsNone (ordinary + length turns.granted) turns.mid × HaltsTaking (MayTake 0) p steps may_stop new (Some halt))
        ⊎ ((turns.later ≡ []) × EndsGranting (MayGrant ordinary (length turns.granted)) p steps turn may_stop old new (Some halt))
        → HaltsTaking AnyPlace p steps may_stop new (Some halt)
    by_end (inl e) = halts_weaker (MayTake 0) AnyPlace p steps may_stop new (Some halt) (λ pick allowed. tt) e.1
    by_end (inr e) = halts_weaker (MayGrant ordinary (length turns.granted)) AnyPlace p steps may_stop new (Some halt) (λ pick allowed. tt) e.1

any_depth : (p : Program) (steps turn ordinary : ℕ) (keeps_events may_stop : Bool) (old new : Turned)
    → TakesTurnByDepth p steps turn ordinary keeps_events may_stop old new → AnyTurn p steps keeps_events may_stop old new
any_depth p steps turn ordinary keeps_events may_stop old new takes = record {
  taken = takes.taken;
  turns = depth_any p steps turn ordinary may_stop old.held old.sent takes.taken new.held new.sent new.halt takes.turns;
  noted = takes.noted;
  halts = depth_halts p steps turn ordinary may_stop old.held old.sent takes.taken new.held new.sent new.halt takes.turns;
}

any_oldest : (g : Setting) (keeps_events may_stop : Bool) (hs : List Holding) (ts : List Turned) → Round g keeps_events may_stop hs ts
    → AnyRound g keeps_events may_stop hs ts
any_oldest g keeps_events may_stop [] [] round = tt
any_oldest g keeps_events may_stop [] (t ∷ ts) round = absurd round
any_oldest g keeps_events may_stop (h ∷ hs) [] round = absurd round
any_oldest g keeps_events may_stop (h ∷ hs) (t ∷ ts) (turn, rest) =
    (any_turn g.program g.steps g.turn keeps_events may_stop (fresh h) t turn, any_oldest g keeps_events may_stop hs ts rest)

made_oldest : (g : Setting) (keeps_events may_stop : Bool) (hs : List Holding) (ts : List Turned) (round : Round g keeps_events may_stop hs ts)
    → made_any g keeps_events may_stop hs ts (any_oldest g keeps_events may_stop hs ts round) ≡ made_in g keeps_events may_stop hs ts round
unfolding any_oldest any_turn
made_oldest g keeps_events may_stop [] [] round = refl
made_oldest g keeps_events may_stop [] (t ∷ ts) round = absurd round
made_oldest g keeps_events may_stop (h ∷ hs) [] round = absurd round
made_oldest g keeps_events may_stop (h ∷ hs) (t ∷ ts) (turn, rest) =
    ap (λ (l : Events). by h.part.shape.element turn.taken ++ l) (made_oldest g keeps_events may_stop hs ts rest)

pub any_round : (order : Take) (g : Setting) (keeps_events may_stop : Bool) (hs : List Holding) (ts : List Turned)
    → RoundTaking order g keeps_events may_stop hs ts → AnyRound g keeps_events may_stop hs ts
any_round Oldest g keeps_events may_stop hs ts round = any_oldest g keeps_events may_stop hs ts round
any_round Depth g keeps_events may_stop [] [] round = tt
any_round Depth g keeps_events may_stop [] (t ∷ ts) round = absurd round
any_round Depth g keeps_events may_stop (h ∷ hs) [] round = absurd round
any_round Depth g keeps_events may_stop (h ∷ hs) (t ∷ ts) (turn, rest) = (
  any_depth g.program g.steps g.turn (others (h ∷ hs)) keeps_events may_stop (fresh h) t turn,
  any_oldest g keeps_events may_stop hs ts rest,
)

pub made_same_any : (order : Take) (g : Setting) (keeps_events may_stop : Bool) (hs : List Holding) (ts : List Turned)
    (round : RoundTaking order g keeps_events may_stop hs ts)
    → made_any g keeps_events may_stop hs ts (any_round order g keeps_events may_stop hs ts round) ≡ made_taking order g keeps_events may_stop hs ts round
unfolding any_round any_depth
made_same_any Oldest g keeps_events may_stop hs ts round = made_oldest g keeps_events may_stop hs ts round
made_same_any Depth g keeps_events may_stop [] [] round = refl
made_same_any Depth g keeps_events may_stop [] (t ∷ ts) round = absurd round
made_same_any Depth g keeps_events may_stop (h ∷ hs) [] round = absurd round
made_same_any Depth g keeps_events may_stop (h ∷ hs) (t ∷ ts) (turn, rest) =
    ap (λ (l : Events). by h.part.shape.element turn.taken ++ l) (made_oldest g keeps_events may_stop hs ts rest)

-- REQUESTS THAT STAY
pub held_stays : (q ts : List Token) → held_back q ≤ held_back (remove q (held_back q) ++ ts)
held_stays [] ts = omega arith
held_stays (t ∷ q) ts = by_case (is_for_manager t.to) refl (held_stays q ts)
  where
    by_case : (b : Bool) → is_for_manager t.to ≡ b → held_back q ≤ held_back (remove q (held_back q) ++ ts)
        → (if b then suc (held_back q) else 0) ≤ held_back (remove (t ∷ q) (if b then suc (held_back q) else 0) ++ ts)
    by_case true is rest =
        let e : held_back (t ∷ (remove q (held_back q) ++ ts)) ≡ suc (held_back (remove q (held_back q) ++ ts)) = ap
        (λ (b : Bool). if b then suc (held_back (remove q (held_back q) ++ ts)) else 0) is in
        omega arith
    by_case false is rest = omega arith

-- after an event with the oldest other token, those that are held back still are
pub held_after : (p : Program) (old new : Holding) (before after : List Token) (held : ℕ) → held ≡ held_back old.queue → held < length old.queue
    → one.Does p old held before new after → held ≤ held_back new.queue
held_after p old new before after held is low does =
    let made = here old.part.shape does.made in
    let place : held % length old.queue ≡ held_back old.queue = mod-eq_of_lt low ∙ is in
    let queue : new.queue ≡ remove old.queue (held_back old.queue) ++ made = does.queue
    ∙ ap (λ (i : ℕ). remove old.queue i ++ made) place in
    let stays = held_stays old.queue made in
    let same : held_back new.queue ≡ held_back (remove old.queue (held_back old.queue) ++ made) = ap (λ (l : List Token). held_back l) queue in
    omega arith

-- HOW MUCH OF ITS TURN A LANE MADE
pub whole_halting : (may : Holding → ℕ → Type 0) (p : Program) (steps turn : ℕ) (old new : Holding) (halt : Halt) → HaltsTaking may p steps false new (Some halt) → new.made < old.made + turn
    → IsWholeByDepth turn old new (Some halt)
whole_halting may p steps turn old new Halt.NoToken halts few = absurd halts
whole_halting may p steps turn old new (Halt.Clash cell) halts few = few
whole_halting may p steps turn old new Halt.Steps halts few = few
whole_halting may p steps turn old new (Halt.Stuck rule) halts few = few
whole_halting may p steps turn old new Halt.Memory halts few = few
whole_halting may p steps turn old new Halt.Stop halts few = absurd (let no : ⊥ = cc in no)

pub fewer_halting : (may : Holding → ℕ → Type 0) (p : Program) (steps turn : ℕ) (old new : Holding) (halt : Halt) → HaltsTaking may p steps false new (Some halt)
    → IsWholeByDepth turn old new (Some halt) → new.made < old.made + turn
fewer_halting may p steps turn old new Halt.NoToken halts whole = absurd halts
fewer_halting may p steps turn old new (Halt.Clash cell) halts whole = whole
fewer_halting may p steps turn old new Halt.Steps halts whole = whole
fewer_halting may p steps turn old new (Halt.Stuck rule) halts whole = whole
fewer_halting may p steps turn old new Halt.Memory halts whole = whole
fewer_halting may p steps turn old new Halt.Stop halts whole = absurd (let no : ⊥ = cc in no)

-- LANES AS THEY LIE IN MEMORY
pub take_more : (may : ℕ → Holding → ℕ → Type 0) (start mid next : LaneView) (before ts sent after : List Token) (pick : ℕ) → fixed_of mid ≡ fixed_of start
    → fixed_of next ≡ fixed_of mid → IsSoundLane next.program next.held → mid.held.made < mid.steps → may (0 + length ts) mid.held pick
    → (does : one.Does mid.program mid.held pick sent next.held after)
    → Takes may start.program start.steps 0 start.held before ts mid.held sent
    → Takes may start.program start.steps 0 start.held before (ts ++ does.token ∷ []) next.held after
take_more may start mid next before ts sent after pick fixed stays sound few allowed does so_far =
    let program : mid.program ≡ start.program = ap (λ (f : Fixed). f.program) fixed in
    let steps : mid.steps ≡ start.steps = ap (λ (f : Fixed). f.steps) fixed in
    let low : mid.held.made < start.steps = omega arith in
    let sound_now = subst (λ (p : Program). IsSoundLane p next.held) (ap (λ (f : Fixed). f.program) stays) sound in
    let so = subst (λ (p : Program). Takes may p start.steps 0 start.held before ts mid.held sent) (sym program) so_far in
    subst (λ (p : Program). Takes may p start.steps 0 start.held before (ts ++ does.token ∷ []) next.held after) program
    (takes_more may mid.program start.steps 0 start.held before ts mid.held sent next.held after pick so allowed does low sound_now)

pub take_same : (may : ℕ → Holding → ℕ → Type 0) (p : Program) (steps : ℕ) (old mid new : Holding) (before ts sent after : List Token)
    → one.Stays mid sent new after → Takes may p steps 0 old before ts mid sent → Takes may p steps 0 old before ts new after
take_same may p steps old mid new before ts sent after stays takes =
    subst (λ (h : Holding). Takes may p steps 0 old before ts h after) (sym stays.held)
    (subst (λ (l : List Token). Takes may p steps 0 old before ts mid l) (sym stays.sent) takes)

pub halts_start : (may : Holding → ℕ → Type 0) (start mid : LaneView) (h : Holding) (halt : Option Halt) → fixed_of mid ≡ fixed_of start
    → HaltsTaking may mid.program mid.steps false h halt → HaltsTaking may start.program start.steps false h halt
halts_start may start mid h halt fixed halts =
    subst (λ (p : Program). HaltsTaking may p start.steps false h halt) (ap (λ (f : Fixed). f.program) fixed)
    (subst (λ (n : ℕ). HaltsTaking may mid.program n false h halt) (ap (λ (f : Fixed). f.steps) fixed) halts)

-- A WHOLE TURN
unfoldable pub turns_granted : (p : Program) (steps turn ordinary : ℕ) (may_stop : Bool) (old new : Holding) (before granted after : List Token) (halt : Halt)
    → Takes (MayGrant ordinary) p steps 0 old before granted new after → HaltsTaking (MayGrant ordinary (length granted)) p steps may_stop new (Some halt)
    → TurnsByDepth p steps turn ordinary may_stop old before granted new after (Some halt)
turns_granted p steps turn ordinary may_stop old new before granted after halt grants halts = record {
  granted = granted;
  later = [];
  all = sym (append-nil granted);
  mid = new;
  sent = after;
  grants = grants;
  takes = (refl, refl);
  ended = inr (refl, halts);
}

unfoldable pub turns_all : (start mid : LaneView) (turn ordinary n : ℕ) (new : Holding) (before granted sent later after : List Token) (halt : Option Halt)
    → fixed_of mid ≡ fixed_of start → Takes (MayGrant ordinary) start.program start.steps 0 start.held before granted mid.held sent
    → Takes MayTake mid.program mid.steps 0 mid.held sent later new after → HaltsTaking (MayTake 0) mid.program mid.steps false new halt
    → IsWholeByDepth (turn - n) mid.held new halt → mid.held.made ≡ start.held.made + n → n ≤ turn → length later ≤ turn - n
    → GrantsNone (ordinary + n) mid.held ⊎ (n ≡ turn)
    → TurnsByDepth start.program start.steps turn ordinary false start.held before (granted ++ later) new after halt
turns_all start mid turn ordinary n new before granted sent later after halt fixed grants takes halts whole count low few none =
    let grown = grown_any (MayGrant ordinary) start.program start.steps 0 start.held before granted mid.held sent grants in
    let long : length granted ≡ n = omega (arith, grown, count) in
    let takes_now = subst (λ (p : Program). Takes MayTake p start.steps 0 mid.held sent later new after) (ap (λ (f : Fixed). f.program) fixed)
    (subst (λ (k : ℕ). Takes MayTake mid.program k 0 mid.held sent later new after) (ap (λ (f : Fixed). f.steps) fixed) takes) in
    record {
      granted = granted;
      later = later;
      all = refl;
      mid = mid.held;
      sent = sent;
      grants = grants;
      takes = takes_now;
      ended = by_end none long takes_now;
    }
  where
    by_end : GrantsNone (ordinary + n) mid.held ⊎ (n ≡ turn) → length granted ≡ n → Takes MayTake start.program start.steps 0 mid.held sent later new after
        → (GrantsNone (ordinary + length granted) mid.held × HaltsTaking (MayTake 0) start.program start.steps false new halt)
        ⊎ ((later ≡ []) × EndsGranting (MayGrant ordinary (length granted)) start.program start.steps turn false start.held new halt)
    by_end (inl ended) long takes = inl (
      subst (λ (k : ℕ). GrantsNone (ordinary + k) mid.held) (sym long) ended,
      halts_start (MayTake 0) start mid new halt fixed halts,
    )
    by_end (inr all) long takes =
        let nothing : later ≡ [] = nil_from_length later (omega arith) in
        let stays : new ≡ mid.held = (subst (λ (us : List Token). Takes MayTake start.program start.steps 0 mid.held sent us new after) nothing takes).0 in
        let made : new.made ≡ mid.held.made = ap (λ (h : Holding). h.made) stays in
        inr (nothing, by_halt halt halts whole (omega arith))
      where
        by_halt : (halt : Option Halt) → HaltsTaking (MayTake 0) mid.program mid.steps false new halt → IsWholeByDepth (turn - n) mid.held new halt
            → new.made ≡ mid.held.made
            → EndsGranting (MayGrant ordinary (length granted)) start.program start.steps turn false start.held new halt
        by_halt None halts whole made = omega arith
        by_halt (Some h) halts whole made =
            let few = fewer_halting (MayTake 0) mid.program mid.steps (turn - n) mid.held new h halts whole in
            absurd (omega arith)

pub whole_all : (may : Holding → ℕ → Type 0) (p : Program) (steps turn n : ℕ) (old mid new : Holding) (halt : Option Halt) → mid.made ≡ old.made + n
    → n ≤ turn → HaltsTaking may p steps false new halt → IsWholeByDepth (turn - n) mid new halt → IsWholeByDepth turn old new halt
whole_all may p steps turn n old mid new None count low halts (inl all) = inl (omega arith)
whole_all may p steps turn n old mid new None count low halts (inr held) = inr held
whole_all may p steps turn n old mid new (Some halt) count low halts whole =
    let few = fewer_halting may p steps (turn - n) mid new halt halts whole in
    whole_halting may p steps turn old new halt halts (omega arith)

-- how the events of both parts are noted
pub noted_both : (keeps_events : Bool) (first mid last : Events) (e at : ℕ) (ts us : List Token) → mid ≡ logged keeps_events first (by at ts)
    → last ≡ logged keeps_events mid (by e us) → e ≡ at → last ≡ logged keeps_events first (by at (ts ++ us))
noted_both true first mid last e at ts us is more place =
    more ∙ ap (λ (l : Events). l ++ by e us) is ∙ ap (λ (n : ℕ). (first ++ by at ts) ++ by n us) place
    ∙ append_assoc first (by at ts) (by at us) ∙ ap (λ (l : Events). first ++ l) (sym (map-append (λ (x : Token). (at, x)) ts us))
noted_both false first mid last e at ts us is more place = more ∙ is
