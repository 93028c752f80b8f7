-- What a round does.
use Rattle.std.proofs.Common.{◌≡◌, ◌≢◌, refl, sym, ◌∙◌, ap, subst, ℕ, zero, suc, ◌+◌, ◌%◌, ◌<◌, ◌≤◌, ◌⊎◌, inl, inr, Bool, List, [], ◌∷◌, ◌++◌}
use Rattle.std.proofs.Common.{length, map, drop, get_or, Option, Some, None, Result, arith}
use Rattle.std.specs.Prelude.{All, slice_get, slice_set, OnOk}
use Rattle.std.specs.Result.{IsErr}
use Rattle.tags.specs.Addresses.{element_of}
use Rattle.std.specs.Option.{option_map}
use Rattle.std.proofs.lemmas.List.{nil_from_length, length-append, length-map, map-set, get_or-map, drop_more}
use Rattle.std.proofs.lemmas.List.Elements.{All-nil, All-get_or}
use Rattle.std.proofs.lemmas.Option.{slice_get-map, slice_get_read}
use Rattle.std.proofs.Math.Nat.{mod-lt, mod-eq_of_lt}
use Rattle.tags.specs.declared.token.Token.{Token}
use Rattle.semantics.specs.Program.{Program}
use Rattle.semantics.specs.Machine.{Events}
use Rattle.element.specs.Near.{IsNearToken}
use Rattle.element.specs.Holding.{Holding, Fixed, fixed_of, queued, here, with_queue}
use Rattle.element.specs.Steps as one
use Rattle.schedule.specs.declared.halt.Halt.{Halt}
use Rattle.schedule.specs.Setting.{Setting}
use Rattle.schedule.specs.State.{State, AllFrom, IsAt, IsPlaced, IsSoundState, RunsAs, delivered, tokens_in}
use Rattle.schedule.specs.Runs.{Began}
use Rattle.schedule.proofs.Tokens.{delivered_none, delivered_twice, delivered_one}
use Rattle.schedule.proofs.Stepping.{bounds_in, delivered_sound}
use Rattle.schedule.proofs.Playing.{tokens_none}
use Rattle.std.proofs.lemmas.Bool.{cases_lt}
use Rattle.lemmas.proofs.Lists.{nothing_before, nothing_after}
use Rattle.rounds.specs.declared.turn.Turner.{Turner}
use Rattle.schedule.specs.Steps.{logged}
use Rattle.schedule.specs.declared.take.Take.{Take}
use Rattle.schedule.specs.declared.take.Take.TheVariants.{Oldest, Depth}
use Rattle.schedule.specs.Turns as depth
use Rattle.rounds.specs.Turns.{by, Turns, Turned, turned_of, TakesTurn, HaltsLane, TookTurn, Round, helds, all_sent, all_noted, arriving}
use Rattle.rounds.specs.ByDepth.{TurnsByDepth, HaltsTaking, TakesTurnByDepth, TookTurnByDepth, TookTaking, RoundTaking, made_taking}
use Rattle.rounds.specs.Rounds.{lane_held, lanes_held, lane_fixed, lanes_fixed, tokens_sent, events_noted, halts_in, IsBetween, IsHalted, Leads, MadeRound}
use Rattle.rounds.proofs.Turning.{Standing, stands_round, began_round, noted_round, logged_from}
use Rattle.rounds.proofs.Taking.{AnyPlace, AnyRound, any_round, made_any, made_same_any, halts_taking, fresh}

pub not_none : (n m : ℕ) → n ≡ m → m ≢ 0 → 0 < n
not_none zero m same some = absurd (some (sym same))
not_none (suc n) m same some = omega arith

pub err_any : {X Y : Type 0} (r : Result X Y) (P : Type 0) → IsErr r → OnOk r P
err_any (Result.Ok x) P e = absurd (let no : ⊥ = cc in no)
err_any (Result.Err y) P e = tt

-- WHY A LANE HALTS
first_stays : (q ts : List Token) (i : ℕ) (t : Token) → slice_get q i ≡ Some t → slice_get (q ++ ts) i ≡ Some t
first_stays [] ts i t e = absurd (let no : ⊥ = cc in no)
first_stays (x ∷ xs) ts zero t e = e
first_stays (x ∷ xs) ts (suc i) t e = first_stays xs ts i t e

more_queue : (h : Holding) (ts : List Token) → 0 < length h.queue → 0 < length (queued h ts).queue
more_queue h ts some = let l = length-append h.queue (here h.part.shape ts) in omega arith

-- the same token is named by its place
picks_stay : (h : Holding) (ts : List Token) (pick : ℕ) (t : Token) → one.Picks h pick t → one.Picks (queued h ts) (pick % length h.queue) t
picks_stay h ts pick t p =
    let more = length-append h.queue (here h.part.shape ts) in
    let some = p.some in
    let low : pick % length h.queue < length (queued h ts).queue = (let l = mod-lt pick some in omega arith) in
    record {
      some = more_queue h ts p.some;
      token = subst (λ (n : ℕ). slice_get (queued h ts).queue n ≡ Some t) (sym (mod-eq_of_lt low))
          (first_stays h.queue (here h.part.shape ts) (pick % length h.queue) t p.token);
    }

there_queued : (raw : List Holding) (ts : List Token) (e : ℕ) (h : Holding) → slice_get raw e ≡ Some h → slice_get (delivered ts raw) e ≡ Some (queued h ts)
there_queued raw ts e h is = slice_get-map (λ (x : Holding). queued x ts) raw e ∙ ap (λ (o : Option Holding). option_map (λ (x : Holding). queued x ts) o) is

pub halts_any : (g : Setting) (may_stop : Bool) (raw : List Holding) (ts : List Token) (e : ℕ) (h : Holding) (halt : Halt) → slice_get raw e ≡ Some h
    → HaltsTaking AnyPlace g.program g.steps may_stop h (Some halt) → IsHalted (arriving g raw ts) may_stop halt
halts_any g may_stop raw ts e h Halt.NoToken is halts = absurd halts
halts_any g may_stop raw ts e h (Halt.Clash cell) is (some, few, (pick, any, clash)) =
    inl (
      e,
      pick % length h.queue,
      (
        queued h ts,
        (record { there = there_queued raw ts e h is }, more_queue h ts some, few),
        record
            { token = clash.token; picks = picks_stay h ts pick clash.token clash.picks; second = clash.second },
      ),
    )
halts_any g may_stop raw ts e h Halt.Steps is (some, made) = inl
    (inl (e, (queued h ts, record { there = there_queued raw ts e h is }, more_queue h ts some, made)))
halts_any g may_stop raw ts e h (Halt.Stuck rule) is (some, few, (pick, any, stuck)) =
    inl (
      e,
      pick % length h.queue,
      (
        queued h ts,
        (record { there = there_queued raw ts e h is }, more_queue h ts some, few),
        record
            { token = stuck.token; picks = picks_stay h ts pick stuck.token stuck.picks; excluded = stuck.excluded },
      ),
    )
halts_any g may_stop raw ts e h Halt.Memory is halts = inl tt
halts_any g may_stop raw ts e h Halt.Stop is halts = inr (refl, halts)

pub halts_as : (g : Setting) (may_stop : Bool) (raw : List Holding) (ts : List Token) (e : ℕ) (h : Holding) (halt : Halt) → slice_get raw e ≡ Some h
    → HaltsLane g.program g.steps may_stop h (Some halt) → IsHalted (arriving g raw ts) may_stop halt
halts_as g may_stop raw ts e h halt is halts = halts_any g may_stop raw ts e h halt is (halts_taking g.program g.steps may_stop h (Some halt) halts)

some_some : (o : Option Halt) (halt : Halt) → Some o ≡ Some (Some halt) → o ≡ Some halt
some_some o halt e = cc

halts_round : (g : Setting) (keeps_events may_stop : Bool) (olds : List Holding) (ts : List Turned) (e : ℕ) (halt : Halt)
    → AnyRound g keeps_events may_stop olds ts → slice_get (map (λ (t : Turned). t.halt) ts) e ≡ Some (Some halt)
    → (h : Holding) × (slice_get (helds ts) e ≡ Some h) × HaltsTaking AnyPlace g.program g.steps may_stop h (Some halt)
halts_round g keeps_events may_stop olds [] e halt round is = absurd (let no : ⊥ = cc in no)
halts_round g keeps_events may_stop [] (t ∷ ts) e halt round is = absurd round
halts_round g keeps_events may_stop (o ∷ os) (t ∷ ts) zero halt round is =
    (t.held, refl, subst (λ (w : Option Halt). HaltsTaking AnyPlace g.program g.steps may_stop t.held w) (some_some t.halt halt is) round.0.halts)
halts_round g keeps_events may_stop (o ∷ os) (t ∷ ts) (suc e) halt round is = halts_round g keeps_events may_stop os ts e halt round.1 is

-- THE ROUND IN MEMORY
module _ {C A L : Type 0} where
  fresh_turn : (p : Program) (steps turns : ℕ) (keeps_events may_stop : Bool) (x : Turner C A L) (t : Turned) → x.sent.items ≡ [] → x.log.events.items
      ≡ [] → TakesTurn p steps turns keeps_events may_stop (turned_of x) t → TakesTurn p steps turns keeps_events may_stop
      (record { held = lane_held x; sent = []; log = []; halt = None }) t
  fresh_turn p steps turns keeps_events may_stop x t sent log turn = record {
    taken = turn.taken;
    turns = subst (λ (l : List Token). Turns p steps (lane_held x) l turn.taken t.held t.sent) sent turn.turns;
    noted = turn.noted ∙ ap (λ (l : Events). logged keeps_events l (by (lane_held x).part.shape.element turn.taken)) log;
    few = turn.few;
    whole = turn.whole;
    halts = turn.halts;
  }

  to_round : (g : Setting) (keeps_events may_stop : Bool) (olds news : List (Turner C A L)) → length news ≡ length olds → tokens_sent olds ≡ []
      → events_noted olds ≡ []
      → ((i : ℕ) (d : Turner C A L) → i < length olds → TakesTurn g.program g.steps g.turn keeps_events may_stop (turned_of (get_or olds i d))
      (turned_of (get_or news i d))) → Round g keeps_events may_stop (lanes_held olds) (map turned_of news)
  to_round g keeps_events may_stop [] [] count sent noted each = tt
  to_round g keeps_events may_stop [] (y ∷ ys) count sent noted each = absurd (omega (arith, count))
  to_round g keeps_events may_stop (x ∷ xs) [] count sent noted each = absurd (omega (arith, count))
  to_round g keeps_events may_stop (x ∷ xs) (y ∷ ys) count sent noted each = (
    fresh_turn g.program g.steps g.turn keeps_events may_stop x (turned_of y) (nothing_before x.sent.items (tokens_sent xs) sent)
        (nothing_before x.log.events.items (events_noted xs) noted) (each 0 x (omega arith)),
    to_round g keeps_events may_stop xs ys (omega arith) (nothing_after x.sent.items (tokens_sent xs) sent)
        (nothing_after x.log.events.items (events_noted xs) noted) (λ i d low. each (suc i) d (omega arith)),
  )

  fresh_depth : (p : Program) (steps turns ordinary : ℕ) (keeps_events may_stop : Bool) (x : Turner C A L) (t : Turned) → x.sent.items ≡ [] → x.log.events.items
      ≡ [] → TakesTurnByDepth p steps turns ordinary keeps_events may_stop (turned_of x) t
      → TakesTurnByDepth p steps turns ordinary keeps_events may_stop (fresh (lane_held x)) t
  fresh_depth p steps turns ordinary keeps_events may_stop x t sent log turn = record {
    taken = turn.taken;
    turns = subst (λ (l : List Token). TurnsByDepth p steps turns ordinary may_stop (lane_held x) l turn.taken t.held t.sent t.halt) sent turn.turns;
    noted = turn.noted ∙ ap (λ (l : Events). logged keeps_events l (by (lane_held x).part.shape.element turn.taken)) log;
    few = turn.few;
    whole = turn.whole;
  }

  -- how a lane took its turn, in the machine's code
  abbrev TakesTaking : Take → Setting → ℕ → Bool → Bool → Turner C A L → Turner C A L → Type 0
  TakesTaking Oldest g ordinary keeps_events may_stop x y = TakesTurn g.program g.steps g.turn keeps_events may_stop (turned_of x) (turned_of y)
  TakesTaking Depth g ordinary keeps_events may_stop x y =
      ((lane_held x).part.shape.element ≡ 0 → TakesTurnByDepth g.program g.steps g.turn ordinary keeps_events may_stop (turned_of x) (turned_of y))
      × (((lane_held x).part.shape.element ≡ 0 → ⊥) → TakesTurn g.program g.steps g.turn keeps_events may_stop (turned_of x) (turned_of y))

  -- the lanes besides element 0
  others_take : (g : Setting) (ordinary : ℕ) (keeps_events may_stop : Bool) (k : ℕ) (olds news : List (Turner C A L)) → AllFrom (IsPlaced g) (suc k) (lanes_held olds)
      → ((i : ℕ) (d : Turner C A L) → i < length olds → TakesTaking Depth g ordinary keeps_events may_stop (get_or olds i d) (get_or news i d))
      → (i : ℕ) (d : Turner C A L) → i < length olds
      → TakesTurn g.program g.steps g.turn keeps_events may_stop (turned_of (get_or olds i d)) (turned_of (get_or news i d))
  others_take g ordinary keeps_events may_stop k [] news placed each i d low = absurd (omega (arith, low))
  others_take g ordinary keeps_events may_stop k (x ∷ xs) news placed each zero d low =
      (each 0 d low).1 (λ zero_is. let at : (lane_held x).part.shape.element ≡ suc k = placed.0.element in absurd (omega (arith, at, zero_is)))
  others_take g ordinary keeps_events may_stop k (x ∷ xs) [] placed each (suc i) d low =
      others_take g ordinary keeps_events may_stop (suc k) xs [] placed.1 (λ j e l. each (suc j) e (omega (arith, l))) i d (omega (arith, low))
  others_take g ordinary keeps_events may_stop k (x ∷ xs) (y ∷ ys) placed each (suc i) d low =
      others_take g ordinary keeps_events may_stop (suc k) xs ys placed.1 (λ j e l. each (suc j) e (omega (arith, l))) i d (omega (arith, low))

  to_taking : (order : Take) (g : Setting) (ordinary : ℕ) (keeps_events may_stop : Bool) (olds news : List (Turner C A L)) → length news ≡ length olds
      → tokens_sent olds ≡ [] → events_noted olds ≡ [] → AllFrom (IsPlaced g) 0 (lanes_held olds) → (order ≡ Depth → ordinary ≡ depth.others (lanes_held olds))
      → ((i : ℕ) (d : Turner C A L) → i < length olds → TakesTaking order g ordinary keeps_events may_stop (get_or olds i d) (get_or news i d))
      → RoundTaking order g keeps_events may_stop (lanes_held olds) (map turned_of news)
  to_taking Oldest g ordinary keeps_events may_stop olds news count sent noted placed is each = to_round g keeps_events may_stop olds news count sent noted each
  to_taking Depth g ordinary keeps_events may_stop [] [] count sent noted placed is each = tt
  to_taking Depth g ordinary keeps_events may_stop [] (y ∷ ys) count sent noted placed is each = absurd (omega (arith, count))
  to_taking Depth g ordinary keeps_events may_stop (x ∷ xs) [] count sent noted placed is each = absurd (omega (arith, count))
  to_taking Depth g ordinary keeps_events may_stop (x ∷ xs) (y ∷ ys) count sent noted placed is each = (
    subst (λ (n : ℕ). TakesTurnByDepth g.program g.steps g.turn n keeps_events may_stop (fresh (lane_held x)) (turned_of y)) (is refl)
        (fresh_depth g.program g.steps g.turn ordinary keeps_events may_stop x (turned_of y) (nothing_before x.sent.items (tokens_sent xs) sent)
        (nothing_before x.log.events.items (events_noted xs) noted) ((each 0 x (omega arith)).0 placed.0.element)),
    to_round g keeps_events may_stop xs ys (omega arith) (nothing_after x.sent.items (tokens_sent xs) sent)
        (nothing_after x.log.events.items (events_noted xs) noted)
        (others_take g ordinary keeps_events may_stop 0 xs ys placed.1 (λ i d low. each (suc i) d (omega arith))),
  )

  -- the lanes run the code of the machine
  took_program : (g : Setting) (keeps_events may_stop : Bool) (x y : Turner C A L) → RunsAs g (fixed_of x.lane) → TookTurn g.turn keeps_events may_stop x y
      → TakesTurn g.program g.steps g.turn keeps_events may_stop (turned_of x) (turned_of y)
  took_program g keeps_events may_stop x y run turn =
      subst (λ (p : Program). TakesTurn p g.steps g.turn keeps_events may_stop (turned_of x) (turned_of y)) run.program
      (subst (λ (n : ℕ). TakesTurn x.lane.program n g.turn keeps_events may_stop (turned_of x) (turned_of y)) run.steps turn.takes)

  took_depth : (g : Setting) (ordinary : ℕ) (keeps_events may_stop : Bool) (x y : Turner C A L) → RunsAs g (fixed_of x.lane)
      → TookTurnByDepth g.turn ordinary keeps_events may_stop x y
      → TakesTurnByDepth g.program g.steps g.turn ordinary keeps_events may_stop (turned_of x) (turned_of y)
  took_depth g ordinary keeps_events may_stop x y run turn =
      subst (λ (p : Program). TakesTurnByDepth p g.steps g.turn ordinary keeps_events may_stop (turned_of x) (turned_of y)) run.program
      (subst (λ (n : ℕ). TakesTurnByDepth x.lane.program n g.turn ordinary keeps_events may_stop (turned_of x) (turned_of y)) run.steps turn.takes)

  took_taking : (order : Take) (g : Setting) (ordinary : ℕ) (keeps_events may_stop : Bool) (x y : Turner C A L) → RunsAs g (fixed_of x.lane)
      → TookTaking order g.turn ordinary keeps_events may_stop x y → TakesTaking order g ordinary keeps_events may_stop x y
  took_taking Oldest g ordinary keeps_events may_stop x y run turn = took_program g keeps_events may_stop x y run turn
  took_taking Depth g ordinary keeps_events may_stop x y run turn = (
    λ first. took_depth g ordinary keeps_events may_stop x y run (turn.0 first),
    λ other. took_program g keeps_events may_stop x y run (turn.1 other),
  )

  took : (order : Take) (g : Setting) (ordinary : ℕ) (keeps_events may_stop : Bool) (olds news : List (Turner C A L)) → All (RunsAs g) (lanes_fixed olds)
      → ((i : ℕ) (d : Turner C A L) → i < length olds → TookTaking order g.turn ordinary keeps_events may_stop (get_or olds i d) (get_or news i d))
      → (i : ℕ) (d : Turner C A L) → i < length olds → TakesTaking order g ordinary keeps_events may_stop (get_or olds i d) (get_or news i d)
  took order g ordinary keeps_events may_stop olds news runs each i d low =
      let x : Turner C A L = get_or olds i d in
      let y : Turner C A L = get_or news i d in
      let count = length-map olds lane_fixed in
      let within : i < length (lanes_fixed olds) = omega arith in
      let run : RunsAs g (fixed_of x.lane) = subst (λ (f : Fixed). RunsAs g f) (get_or-map lane_fixed olds i d (lane_fixed d) low)
      (All-get_or (RunsAs g) (lanes_fixed olds) i (lane_fixed d) within runs) in
      took_taking order g ordinary keeps_events may_stop x y run (each i d low)

  fixed_taking : (order : Take) (turn ordinary : ℕ) (keeps_events may_stop : Bool) (x y : Turner C A L)
      → TookTaking order turn ordinary keeps_events may_stop x y → fixed_of y.lane ≡ fixed_of x.lane
  fixed_taking Oldest turn ordinary keeps_events may_stop x y took_turn = took_turn.fixed
  fixed_taking Depth turn ordinary keeps_events may_stop x y took_turn = by_element x.lane.held.part.shape.element refl
    where
      by_element : (n : ℕ) → x.lane.held.part.shape.element ≡ n → fixed_of y.lane ≡ fixed_of x.lane
      by_element zero is = (took_turn.0 is).fixed
      by_element (suc n) is = (took_turn.1 (λ first. absurd (omega (arith, is, first)))).fixed

  same_fixed : (order : Take) (turn ordinary : ℕ) (keeps_events may_stop : Bool) (olds news : List (Turner C A L)) → length news ≡ length olds
      → ((i : ℕ) (d : Turner C A L) → i < length olds → TookTaking order turn ordinary keeps_events may_stop (get_or olds i d) (get_or news i d))
      → lanes_fixed news ≡ lanes_fixed olds
  same_fixed order turn ordinary keeps_events may_stop [] [] count each = refl
  same_fixed order turn ordinary keeps_events may_stop [] (y ∷ ys) count each = absurd (omega (arith, count))
  same_fixed order turn ordinary keeps_events may_stop (x ∷ xs) [] count each = absurd (omega (arith, count))
  same_fixed order turn ordinary keeps_events may_stop (x ∷ xs) (y ∷ ys) count each =
      ap (λ (f : Fixed). f ∷ lanes_fixed ys) (fixed_taking order turn ordinary keeps_events may_stop x y (each 0 x (omega arith)))
      ∙ ap (λ (l : List Fixed). lane_fixed x ∷ l) (same_fixed order turn ordinary keeps_events may_stop xs ys (omega arith) (λ i d low. each (suc i) d (omega arith)))

  helds_are : (ts : List (Turner C A L)) → helds (map turned_of ts) ≡ lanes_held ts
  helds_are [] = refl
  helds_are (t ∷ ts) = ap (λ (l : List Holding). lane_held t ∷ l) (helds_are ts)

  sent_are : (ts : List (Turner C A L)) → all_sent (map turned_of ts) ≡ tokens_sent ts
  sent_are [] = refl
  sent_are (t ∷ ts) = ap (λ (l : List Token). t.sent.items ++ l) (sent_are ts)

  noted_are : (ts : List (Turner C A L)) → all_noted (map turned_of ts) ≡ events_noted ts
  noted_are [] = refl
  noted_are (t ∷ ts) = ap (λ (l : Events). t.log.events.items ++ l) (noted_are ts)

  halts_are : (ts : List (Turner C A L)) → map (λ (t : Turned). t.halt) (map turned_of ts) ≡ halts_in ts
  halts_are [] = refl
  halts_are (t ∷ ts) = ap (λ (l : List (Option Halt)). t.halt ∷ l) (halts_are ts)

  module _ (order : Take) (g : Setting) (ordinary : ℕ) (keeps_events may_stop : Bool) (olds news : List (Turner C A L)) (between : IsBetween g olds)
      (count : length news ≡ length olds) (is : order ≡ Depth → ordinary ≡ depth.others (lanes_held olds)) (each : (i : ℕ) (d : Turner C A L) → i < length olds
      → TakesTaking order g ordinary keeps_events may_stop (get_or olds i d) (get_or news i d)) where
    placed : AllFrom (IsPlaced g) 0 (lanes_held olds)
    placed = subst (λ (l : List Holding). AllFrom (IsPlaced g) 0 l) (delivered_none (lanes_held olds)) between.sound.lanes

    pub round : RoundTaking order g keeps_events may_stop (lanes_held olds) (map turned_of news)
    round = to_taking order g ordinary keeps_events may_stop olds news count between.sent between.noted placed is each

    abbrev any : AnyRound g keeps_events may_stop (lanes_held olds) (map turned_of news)
    any = any_round order g keeps_events may_stop (lanes_held olds) (map turned_of news) round

    standing : Standing g (lanes_held olds) []
    standing = record {
      good = between.sound.setting;
      count = sym (length-map (lanes_held olds) (λ (h : Holding). queued h [])) ∙ between.sound.count;
      sound = placed;
      near = All-nil (IsNearToken (bounds_in g));
    }

    stood : Standing g (lanes_held news) (tokens_sent news)
    stood = subst (λ (l : List Holding). Standing g l (tokens_sent news)) (helds_are news)
        (subst (λ (l : List Token). Standing g (helds (map turned_of news)) l) (sent_are news)
        (stands_round g keeps_events may_stop 0 [] (lanes_held olds) (map turned_of news) [] refl standing any))

    pub sound_then : IsSoundState (arriving g (lanes_held news) (tokens_sent news))
    sound_then = delivered_sound (record { setting = g; lanes = lanes_held news }) (tokens_sent news) stood.near
        (record { setting = stood.good; count = stood.count; lanes = stood.sound })

    abbrev pub made : Events
    made = made_taking order g keeps_events may_stop (lanes_held olds) (map turned_of news) round

    made_is : made_any g keeps_events may_stop (lanes_held olds) (map turned_of news) any ≡ made
    made_is = made_same_any order g keeps_events may_stop (lanes_held olds) (map turned_of news) round

    pub noted_then : events_noted news ≡ logged keeps_events [] made
    noted_then = sym (noted_are news) ∙ noted_round g keeps_events may_stop (lanes_held olds) (map turned_of news) any
        ∙ ap (λ (l : Events). logged keeps_events [] l) made_is

    pub began_then : Leads g olds news (tokens_sent news) made
    began_then inputs evs b =
        let all = began_round inputs g keeps_events may_stop 0 [] (lanes_held olds) (map turned_of news) [] evs refl standing any b in
        subst (λ (l : List Holding). Began inputs (arriving g l (tokens_sent news)) (evs ++ made)) (helds_are news)
        (subst (λ (l : List Token). Began inputs (arriving g (helds (map turned_of news)) l) (evs ++ made)) (sent_are news)
        (subst (λ (l : Events). Began inputs (arriving g (helds (map turned_of news)) (all_sent (map turned_of news))) (evs ++ l)) made_is all))

    pub halts_then : (e : ℕ) (halt : Halt) → slice_get (halts_in news) e ≡ Some (Some halt)
        → IsHalted (arriving g (lanes_held news) (tokens_sent news)) may_stop halt
    halts_then e halt is =
        let found = halts_round g keeps_events may_stop (lanes_held olds) (map turned_of news) e halt any
        (subst (λ (l : List (Option Halt)). slice_get l e ≡ Some (Some halt)) (sym (halts_are news)) is) in
        halts_any g may_stop (lanes_held news) (tokens_sent news) e found.0 halt (subst (λ (l : List Holding). slice_get l e ≡ Some found.0)
        (helds_are news) found.1) found.2

  pub held_at : (ts : List (Turner C A L)) (i : ℕ) (x : Turner C A L) → i < length ts → x ≡ get_or ts i x → slice_get (lanes_held ts) i ≡ Some (lane_held x)
  held_at ts i x low is = slice_get-map lane_held ts i ∙ ap (λ (o : Option (Turner C A L)). option_map lane_held o)
      (slice_get_read ts (length ts) i x refl low is)

  pub received : (ts : List (Turner C A L)) (n i : ℕ) (x new : Turner C A L) (t : Token) → AllFrom (IsAt n) 0 (lanes_held ts) → element_of n t.to ≡ i
      → i < length ts → x ≡ get_or ts i x
      → lane_held new ≡ with_queue (lane_held x) (x.lane.held.queue ++ t ∷ []) → lanes_held (slice_set ts i new) ≡ delivered (t ∷ []) (lanes_held ts)
  received ts n i x new t all at low is e =
      let place : element_of n t.to ≡ 0 + i = omega arith in
      map-set lane_held ts i new ∙ ap (λ (h : Holding). slice_set (lanes_held ts) i h) e
      ∙ sym (delivered_one n 0 (lanes_held ts) i t (lane_held x) all place (held_at ts i x low is))

  -- one more token has arrived
  pub arrived_more : (items new : List (Turner C A L)) (sent : List Token) (k : ℕ) (t : Token) → k < length sent → t ≡ get_or sent k t
      → lanes_held new ≡ delivered (t ∷ []) (lanes_held items)
      → delivered (drop (k + 1) sent) (lanes_held new) ≡ delivered (drop k sent) (lanes_held items)
  arrived_more items new sent k t low is e =
      ap (λ (l : List Holding). delivered (drop (k + 1) sent) l) e ∙ delivered_twice (t ∷ []) (drop (k + 1) sent) (lanes_held items)
      ∙ ap (λ (l : List Token). delivered l (lanes_held items)) (ap (λ (u : Token). u ∷ drop (k + 1) sent) is ∙ sym (drop_more sent k t low))

  pub halt_at : (ts : List (Turner C A L)) (i : ℕ) (d : Turner C A L) (halt : Halt) → i < length ts → (get_or ts i d).halt ≡ Some halt
      → slice_get (halts_in ts) i ≡ Some (Some halt)
  halt_at [] i d halt low is = absurd (omega (arith, low))
  halt_at (t ∷ ts) zero d halt low is = ap (λ (o : Option Halt). Some o) is
  halt_at (t ∷ ts) (suc i) d halt low is = halt_at ts i d halt (omega arith) is

  -- none of the first k + 1 halts
  pub none_more : (ts : List (Turner C A L)) (k : ℕ) (d : Turner C A L) → k < length ts → (get_or ts k d).halt ≡ None
      → ((i : ℕ) → i < k → slice_get (halts_in ts) i ≡ Some None) → (i : ℕ) → i < k + 1 → slice_get (halts_in ts) i ≡ Some None
  none_more ts k d low none before i within = by_place (cases_lt i k)
    where
      none_at : (ts : List (Turner C A L)) (k : ℕ) → k < length ts → (get_or ts k d).halt ≡ None → slice_get (halts_in ts) k ≡ Some None
      none_at [] k low is = absurd (omega (arith, low))
      none_at (t ∷ ts) zero low is = ap (λ (o : Option Halt). Some o) is
      none_at (t ∷ ts) (suc k) low is = none_at ts k (omega arith) is

      by_place : (i < k) ⊎ (k ≤ i) → slice_get (halts_in ts) i ≡ Some None
      by_place (inl l) = before i l
      by_place (inr l) = let here : i ≡ k = omega arith in subst (λ (n : ℕ). slice_get (halts_in ts) n ≡ Some None) (sym here) (none_at ts k low none)

  queue_at : (ts : List (Turner C A L)) (i : ℕ) (d : Turner C A L) (h : Holding) → slice_get (lanes_held ts) i ≡ Some h
      → h.queue ≡ (get_or ts i d).lane.held.queue
  queue_at [] i d h is = absurd (let no : ⊥ = cc in no)
  queue_at (t ∷ ts) zero d h is = let same : lane_held t ≡ h = cc in sym (ap (λ (x : Holding). x.queue) same)
  queue_at (t ∷ ts) (suc i) d h is = queue_at ts i d h is

  pub idle_more : (ts : List (Turner C A L)) (k : ℕ) (d : Turner C A L) → length (get_or ts k d).lane.held.queue ≡ 0
      → ((i : ℕ) (h : Holding) → i < k → slice_get (lanes_held ts) i ≡ Some h → h.queue ≡ [])
      → (i : ℕ) (h : Holding) → i < k + 1 → slice_get (lanes_held ts) i ≡ Some h → h.queue ≡ []
  idle_more ts k d none before i h low is = by_place (cases_lt i k)
    where
      by_place : (i < k) ⊎ (k ≤ i) → h.queue ≡ []
      by_place (inl l) = before i h l is
      by_place (inr l) =
          let here : i ≡ k = omega arith in
          let q : h.queue ≡ (get_or ts k d).lane.held.queue = queue_at ts k d h (subst (λ (n : ℕ). slice_get (lanes_held ts) n ≡ Some h) here is) in
          q ∙ nil_from_length (get_or ts k d).lane.held.queue none

  -- where a lane has a token there is one
  pub some_token : (ts : List (Turner C A L)) (k : ℕ) (d : Turner C A L) → k < length ts → 0 < length (get_or ts k d).lane.held.queue
      → 0 < length (tokens_in (lanes_held ts))
  some_token [] k d low some = absurd (omega (arith, low))
  some_token (t ∷ ts) zero d low some = let l = length-append t.lane.held.queue (tokens_in (lanes_held ts)) in omega (arith, l, some)
  some_token (t ∷ ts) (suc k) d low some =
      let l = length-append t.lane.held.queue (tokens_in (lanes_held ts)) in
      let m = some_token ts k d (omega arith) some in
      omega (arith, l, m)

  pub idle_all : (ts : List (Turner C A L)) (k : ℕ) → length ts ≤ k → ((i : ℕ) (h : Holding) → i < k → slice_get (lanes_held ts) i ≡ Some h → h.queue
      ≡ []) → tokens_in (lanes_held ts) ≡ []
  idle_all ts k past none = tokens_none (lanes_held ts) (λ i h low is. none i h (let l = length-map ts lane_held in omega arith) is)

  -- the turns, and what was gathered of them
  pub made_round : (order : Take) (g : Setting) (ordinary : ℕ) (keeps_events may_stop : Bool) (olds news last : List (Turner C A L)) (before after : Events) (tokens : List Token)
      → IsBetween g olds → length news ≡ length olds → (order ≡ Depth → ordinary ≡ depth.others (lanes_held olds))
      → ((i : ℕ) (d : Turner C A L) → i < length olds → TookTaking order g.turn ordinary keeps_events may_stop (get_or olds i d) (get_or news i d))
      → lanes_held last ≡ lanes_held news → lanes_fixed last ≡ lanes_fixed news → halts_in last ≡ halts_in news → tokens ≡ tokens_sent news → after
      ≡ before ++ events_noted news → events_noted last ≡ [] → length last ≡ length olds
      → MadeRound order g keeps_events may_stop olds before last after tokens
  made_round order g ordinary keeps_events may_stop olds news last before after tokens between count is_ordinary took_turn lanes fixed halts sent events none length_is =
      let each = took order g ordinary keeps_events may_stop olds news between.runs took_turn in
      let same : arriving g (lanes_held news) (tokens_sent news) ≡ arriving g (lanes_held last) tokens = ap
      (λ (l : List Holding). arriving g l (tokens_sent news)) (sym lanes) ∙ ap (λ (l : List Token). arriving g (lanes_held last) l) (sym sent) in
      record {
        runs = subst (λ (l : List Fixed). All (RunsAs g) l) (sym (fixed ∙ same_fixed order g.turn ordinary keeps_events may_stop olds news count took_turn)) between.runs;
        sound = subst (λ (s : State). IsSoundState s) same (sound_then order g ordinary keeps_events may_stop olds news between count is_ordinary each);
        made = made order g ordinary keeps_events may_stop olds news between count is_ordinary each;
        noted = events ∙ ap (λ (l : Events). before ++ l) (noted_then order g ordinary keeps_events may_stop olds news between count is_ordinary each)
            ∙ logged_from keeps_events before (made order g ordinary keeps_events may_stop olds news between count is_ordinary each);
        leads = λ inputs evs b. subst (λ (s : State). Began inputs s (evs ++ made order g ordinary keeps_events may_stop olds news between count is_ordinary each)) same
            (began_then order g ordinary keeps_events may_stop olds news between count is_ordinary each inputs evs b);
        halts = λ e halt is. subst (λ (s : State). IsHalted s may_stop halt) same (halts_then order g ordinary keeps_events may_stop olds news between count is_ordinary each e
            halt (subst (λ (l : List (Option Halt)). slice_get l e ≡ Some (Some halt)) halts is));
        cleared = none;
        count = length_is;
        turned = map turned_of news;
        round = round order g ordinary keeps_events may_stop olds news between count is_ordinary each;
        events = refl;
        lanes = lanes ∙ sym (helds_are news);
        sent = sent ∙ sym (sent_are news);
        answered = halts ∙ sym (halts_are news);
      }
