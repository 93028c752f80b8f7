-- A run of the one element.
use Rattle.std.proofs.Common.{◌≡◌, refl, sym, ◌∙◌, ap, subst, ℕ, zero, suc, ◌+◌, ◌<◌, ◌≤◌, Bool, true, false, List, [], ◌∷◌, ◌++◌, length}
use Rattle.std.proofs.Common.{map, drop, Option, Some, None, arith, append_assoc}
use Rattle.std.specs.Prelude.{slice_get, slice_set}
use Rattle.std.proofs.lemmas.List.{append-nil, map-set}
use Rattle.tags.specs.declared.token.Token.{Token}
use Rattle.semantics.specs.Program.{Program}
use Rattle.semantics.specs.Machine.{Events}
use Rattle.element.specs.declared.lane.Stepped.{Stepped}
use Rattle.element.specs.declared.lane.Stepped.TheVariants.{Idle, Did, Clash, Stuck, Memory}
use Rattle.element.specs.Parts.{Shape}
use Rattle.element.specs.Holding.{Holding, LaneView, Fixed, held_of, fixed_of, IsSoundLane}
use Rattle.element.specs.Steps as one
use Rattle.element.specs.Steps.{MakesEvents}
use Rattle.element.proofs.Turns.{none_elsewhere}
use Rattle.schedule.specs.declared.halt.Halt.{Halt}
use Rattle.schedule.specs.Setting.{Setting}
use Rattle.schedule.specs.State.{State, RunsAs, IsSoundState, delivered, lanes_of}
use Rattle.schedule.specs.Steps.{Steps, logged}
use Rattle.schedule.specs.Runs.{Advances, Plays, rounds_of}
use Rattle.schedule.specs.Alone.{LaneAnswers, LeadsTo}
use Rattle.schedule.proofs.Tokens.{delivered_none}
use Rattle.schedule.proofs.Memory.{none_arriving}
use Rattle.schedule.proofs.Stepping.{answered, is_idle, is_used_up, is_refused}
use Rattle.schedule.proofs.Playing.{turn_last, turn_on, turn_done}

-- NO TOKEN IS FOR ANOTHER ELEMENT, so a step sends nothing
sends_none : (p : Program) (old new : Holding) (pick : ℕ) (before after : List Token) (answer : Stepped) → old.part.shape.elements ≡ 1
    → old.part.shape.element < old.part.shape.elements → one.Steps p old pick before answer new after → after ≡ before
sends_none p old new pick before after Idle single there step = step.1.sent
sends_none p old new pick before after Did single there step =
    step.sent ∙ ap (λ (ts : List Token). before ++ ts) (none_elsewhere old.part.shape step.made single there) ∙ append-nil before
sends_none p old new pick before after (Clash cell) single there step = step.1.sent
sends_none p old new pick before after (Stuck rule) single there step = step.1.sent
sends_none p old new pick before after Memory single there step = step.1.sent

-- a step before and after which no token is for another element
sent_none : (p : Program) (old new : Holding) (before after : List Token) (answer : Stepped) → before ≡ [] → after ≡ before
    → one.Steps p old 0 before answer new after → one.Steps p old 0 [] answer new []
sent_none p old new before after answer none same step =
    subst (λ (ts : List Token). one.Steps p old 0 [] answer new ts) (same ∙ none) (subst (λ (ts : List Token). one.Steps p old 0 ts answer new after) none step)

-- a step of a lane that is the only one, as it lies in memory
pub one_answer : (start old next : LaneView) (before after : List Token) (answer : Stepped) → fixed_of old ≡ fixed_of start → fixed_of next ≡ fixed_of old
    → start.held.part.shape.elements ≡ 1 → IsSoundLane next.program next.held → before ≡ []
    → (0 < length old.held.queue → old.held.made < old.steps) → one.Steps old.program old.held 0 before answer next.held after
    → (after ≡ []) × LaneAnswers start.program start.steps old.held (Some answer) next.held
one_answer start old next before after answer fixed stays only sound none allowed step =
    let single = ap (λ (f : Fixed). f.shape.elements) fixed ∙ only in
    let there = subst (λ (z : Shape). z.element < z.elements) (ap (λ (f : Fixed). f.shape) stays) sound.part.there in
    let same = sends_none old.program old.held next.held 0 before after answer single there step in
    let steps = ap (λ (f : Fixed). f.steps) fixed in (
      same ∙ none,
      (
        λ some. subst (λ (n : ℕ). old.held.made < n) steps (allowed some),
        subst
            (λ (p : Program). one.Steps p old.held 0 [] answer next.held []) (ap (λ (f : Fixed). f.program) fixed)
            (sent_none old.program old.held next.held before after answer none same step),
      ),
    )

-- so of an event
pub one_more : (start old next : LaneView) (before after : List Token) → fixed_of old ≡ fixed_of start → fixed_of next ≡ fixed_of old
    → start.held.part.shape.elements ≡ 1 → IsSoundLane next.program next.held → next.held.made ≤ next.steps → before ≡ []
    → (0 < length old.held.queue → old.held.made < old.steps) → one.Steps old.program old.held 0 before Did next.held after
    → (after ≡ []) × (old.held.made < start.steps) × IsSoundLane start.program next.held × (next.held.made ≤ start.steps)
    × one.Does start.program old.held 0 [] next.held []
one_more start old next before after fixed stays only sound most none allowed step =
    let answers = one_answer start old next before after Did fixed stays only sound none allowed step in
    let all = stays ∙ fixed in
    let does : one.Does start.program old.held 0 [] next.held [] = answers.1.1 in (
      answers.0,
      answers.1.0 does.picks.some,
      subst (λ (p : Program). IsSoundLane p next.held) (ap (λ (f : Fixed). f.program) all) sound,
      subst (λ (n : ℕ). next.held.made ≤ n) (ap (λ (f : Fixed). f.steps) all) most,
      does,
    )

-- THE MACHINE OF ONE LANE
abbrev pub alone : Setting → Holding → State
alone g h = record { setting = g; lanes = h ∷ [] }

pub is_alone : (s : State) (h : Holding) → length s.lanes ≡ 1 → slice_get s.lanes 0 ≡ Some h → s ≡ alone s.setting h
is_alone s h count there = ap (λ (l : List Holding). let x : State = record { setting = s.setting; lanes = l } in x) (only s.lanes count there)
  where
    only : (lanes : List Holding) → length lanes ≡ 1 → slice_get lanes 0 ≡ Some h → lanes ≡ h ∷ []
    only [] count there = absurd (omega arith)
    only (x ∷ []) count there = let e : x ≡ h = cc in ap (λ (y : Holding). y ∷ []) e
    only (x ∷ y ∷ xs) count there = absurd (omega arith)

-- an event more
pub leads_on : (old mid next : State) (made now : Events) → LeadsTo 1 old made mid → Advances false mid 0 0 next now None → LeadsTo 1 old (made ++ now) next
leads_on old mid next made now leads advances = λ rounds last halt later rest.
    let all = leads (suc rounds) last halt (now ++ later) (turn_on mid next last 0 1 rounds now later halt (omega arith) advances (turn_done next last
    (0 + 1) 1 rounds later halt refl rest)) in
    (all.0, subst (λ (l : Events). Plays false (rounds_of all.0 1) old last halt l) (sym (append_assoc made now later)) all.1)

-- the last event
pub leads_last : (old mid next : State) (made now : Events) (halt : Halt) → LeadsTo 1 old made mid → Advances false mid 0 0 next now (Some halt)
    → (all : ℕ) × Plays false (rounds_of all 1) old next halt (made ++ now)
leads_last old mid next made now halt leads advances = leads 1 next halt now (turn_last mid next 0 1 now halt (omega arith) advances)

-- where events are not listed
pub unlisted : (keeps_events : Bool) (before made other list : Events) → keeps_events ≡ false → list ≡ logged keeps_events before made
    → list ≡ logged keeps_events before other
unlisted true before made other list quiet is = absurd (let no : ⊥ = cc in no)
unlisted false before made other list quiet is = is

module _ (g : Setting) where
  pub settled : (next : Holding) → (let s : State = record { setting = g; lanes = delivered [] (next ∷ []) } in s) ≡ alone g next
  settled next = ap (λ (l : List Holding). let s : State = record { setting = g; lanes = l } in s) (delivered_none (next ∷ []))

  -- an event of the lane
  event : (mid next : Holding) → IsSoundState (alone g mid) → mid.made < g.steps → IsSoundLane g.program next → next.made ≤ g.steps
      → (step : one.Does g.program mid 0 [] next []) → IsSoundState (alone g next) × Steps (alone g mid) 0 0 (Some Did) (alone g next) ((0, step.token) ∷ [])
  event mid next sound few next_sound most step =
      let both = answered (alone g mid) 0 0 mid next step.token [] Did sound refl step.picks.some few step.picks step next_sound most in (
        subst (λ (s : State). IsSoundState s) (settled next) both.0,
        subst
            (λ (s : State). Steps (alone g mid) 0 0 (Some Did) s ((0, step.token) ∷ [])) (settled next) both.1,
      )

  -- the events of the lane are those of the machine
  pub ran : (n : ℕ) (old new : Holding) → IsSoundState (alone g old) → MakesEvents g.program g.steps n old new
      → IsSoundState (alone g new) × ((made : Events) × LeadsTo 1 (alone g old) made (alone g new))
  ran zero old new sound same = (
    subst (λ (h : Holding). IsSoundState (alone g h)) (sym same) sound,
    (
      [],
      (λ rounds last halt later rest. (
        rounds,
        subst
            (λ (h : Holding). Plays false (rounds_of rounds 1) (alone g h) last halt later) same rest,
      )),
    ),
  )
  ran (suc n) old new sound (mid, before, few, next_sound, most, step) =
      let first = ran n old mid sound before in
      let now = event mid new first.0 few next_sound most step in (
        now.0,
        (
          first.1.0 ++ (0, step.token) ∷ [],
          leads_on (alone g old) (alone g mid) (alone g new) first.1.0 ((0, step.token) ∷ []) first.1.1
              (record { answer = Some Did; step = now.1; halts = refl }),
        ),
      )

  -- so is its last answer
  pub answers : (last next : Holding) (answer : Option Stepped) → IsSoundState (alone g last) → IsSoundLane g.program next → next.made ≤ g.steps
      → LaneAnswers g.program g.steps last answer next
      → IsSoundState (alone g next) × ((events : Events) × Steps (alone g last) 0 0 answer (alone g next) events)
  answers last next None sound next_sound most (some, all, same) =
      let e : alone g next ≡ alone g last = ap (λ (h : Holding). alone g h) same in
      (subst (λ (s : State). IsSoundState s) (sym e) sound, ([], is_used_up (alone g last) (alone g next) 0 0 last e refl some all))
  answers last next (Some Idle) sound next_sound most (few, step) =
      let e : alone g next ≡ alone g last = ap (λ (h : Holding). alone g h) step.1.held in
      (subst (λ (s : State). IsSoundState s) (sym e) sound, ([], is_idle (alone g last) (alone g next) 0 0 last e refl step.0))
  answers last next (Some Did) sound next_sound most (few, step) =
      let both = event last next sound (few step.picks.some) next_sound most step in
      (both.0, ((0, step.token) ∷ [], both.1))
  answers last next (Some (Clash cell)) sound next_sound most (few, step) =
      let e : alone g next ≡ alone g last = ap (λ (h : Holding). alone g h) step.1.held in (
        subst (λ (s : State). IsSoundState s) (sym e) sound,
        (
          [],
          (
            (last, (record { there = refl }, step.0.picks.some, few step.0.picks.some), step.0),
            (e, refl),
          ),
        ),
      )
  answers last next (Some (Stuck rule)) sound next_sound most (few, step) =
      let e : alone g next ≡ alone g last = ap (λ (h : Holding). alone g h) step.1.held in (
        subst (λ (s : State). IsSoundState s) (sym e) sound,
        (
          [],
          (
            (last, (record { there = refl }, step.0.picks.some, few step.0.picks.some), step.0),
            (e, refl),
          ),
        ),
      )
  answers last next (Some Memory) sound next_sound most (few, step) =
      let e : alone g next ≡ alone g last = ap (λ (h : Holding). alone g h) step.1.held in
      (subst (λ (s : State). IsSoundState s) (sym e) sound, ([], is_refused (alone g last) (alone g next) 0 0 last e refl step.0 (few step.0)))

  -- so are all that the lane does, as it lies in memory
  pub ran_alone : (x new : LaneView) (answer : Option Stepped) → IsSoundState (alone g x.held) → RunsAs g (fixed_of x) → fixed_of new ≡ fixed_of x
      → IsSoundLane new.program new.held → new.held.made ≤ new.steps
      → (n : ℕ) (last : Holding) → MakesEvents x.program x.steps n x.held last → LaneAnswers x.program x.steps last answer new.held
      → IsSoundState (alone g new.held) × ((made : Events) × (last : State) × LeadsTo 1 (alone g x.held) made last × (events : Events)
      × Steps last 0 0 answer (alone g new.held) events)
  ran_alone x new answer sound runs fixed next_sound most n last made answers_so =
      let program = ap (λ (f : Fixed). f.program) fixed ∙ runs.program in
      let steps = ap (λ (f : Fixed). f.steps) fixed ∙ runs.steps in
      let within : new.held.made ≤ g.steps = omega arith in
      let made_so = subst (λ (k : ℕ). MakesEvents g.program k n x.held last) runs.steps (subst
      (λ (p : Program). MakesEvents p x.steps n x.held last) runs.program made) in
      let last_so = subst (λ (k : ℕ). LaneAnswers g.program k last answer new.held) runs.steps (subst
      (λ (p : Program). LaneAnswers p x.steps last answer new.held) runs.program answers_so) in
      let first = ran n x.held last sound made_so in
      let then = answers last new.held answer first.0 (subst (λ (p : Program). IsSoundLane p new.held) program next_sound) within last_so in
      (then.0, (first.1.0, alone g last, first.1.1, then.1.0, then.1.1))

  pub next_alone : (items : List LaneView) (sent after : List Token) (arrived : ℕ) (x : Holding) (new : LaneView) → sent ≡ [] → after ≡ [] → arrived ≡ 0
      → lanes_of items (drop arrived sent) ≡ x ∷ []
      → (let s : State = record { setting = g; lanes = lanes_of (slice_set items 0 new) (drop arrived after) } in s) ≡ alone g (held_of new)
  next_alone items sent after arrived x new none none_after first lanes =
      let held : map held_of items ≡ x ∷ [] = sym (none_arriving items sent arrived none first) ∙ lanes in
      ap (λ (l : List Holding). let s : State = record { setting = g; lanes = l } in s)
      (none_arriving (slice_set items 0 new) after arrived none_after first ∙ map-set held_of items 0 new
      ∙ ap (λ (l : List Holding). slice_set l 0 (held_of new)) held)
