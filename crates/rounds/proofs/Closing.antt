-- What a round leaves once its tokens are delivered.
use Rattle.std.proofs.Common.{◌≡◌, refl, sym, ◌∙◌, ap, subst, ℕ, ◌+◌, ◌<◌, ◌≤◌, ◌⊎◌, inl, inr, ℤ, List, [], ◌∷◌, ◌++◌, length, map, take, drop}
use Rattle.std.proofs.Common.{append_assoc, Option, Some, None, Bool, true, false, arith}
use Rattle.std.specs.Prelude.{All, slice_get}
use Rattle.std.proofs.lemmas.List.{append-nil, drop_all, take_all, length-map}
use Rattle.lemmas.proofs.Alls.{all_left}
use Rattle.tags.specs.declared.token.Token.{Token}
use Rattle.semantics.specs.Machine.{Events, outputs_of, Machine, Size}
use Rattle.semantics.specs.Program.{Program}
use Rattle.semantics.specs.declared.report.End.{End}
use Rattle.semantics.specs.Report.{Report, HasEnd}
use Rattle.schedule.specs.Shown.{ShowsInOrder}
use Rattle.element.specs.Near.{IsNearToken}
use Rattle.element.specs.Parts.{bounds}
use Rattle.tags.specs.Addresses.{element_of}
use Rattle.element.specs.Holding.{Holding, held_of, here, queued}
use Rattle.schedule.specs.declared.halt.Halt.{Halt}
use Rattle.schedule.specs.Setting.{Setting, size}
use Rattle.schedule.specs.State.{State, AllFrom, IsAt, IsPlaced, IsSoundState, RunsAs, delivered, tokens_in}
use Rattle.schedule.specs.Runs.{Began, HaltsAs, NamesCell}
use Rattle.schedule.specs.Reported.{IsReportOf, opening_picture}
use Rattle.schedule.specs.Unlisted.{with_events, ShowsBut, ShowsQuietly}
use Rattle.schedule.proofs.Reports.{shows_opening, clash_cell}
use Rattle.schedule.proofs.Tokens.{delivered_none}
use Rattle.schedule.proofs.Places.{to_map}
use Rattle.rounds.specs.declared.turn.Turner.{Turner}
use Rattle.schedule.specs.Steps.{logged}
use Rattle.rounds.specs.Turns.{all_sent, arriving}
use Rattle.rounds.specs.Rounds.{lanes_held, lanes_fixed, tokens_sent, events_noted, halts_in, IsBetween, IsHalted, GoesOn, Rounds, Leads, MadeRound, ShowsOn}
use Rattle.rounds.specs.Counted.{answers, IsWhy, MakesRounds, ReportsTaking}
use Rattle.schedule.specs.declared.take.Take.{Take}
use Rattle.schedule.proofs.Playing.{logged_twice}
use Rattle.rounds.proofs.Counting.{one_round, makes_more, reports_rounds}

-- what a slice of a whole vector writes back
pub same_slice : {X : Type 0} (n : ℕ) (new old : List X) → n ≡ length old → length new ≡ length old → take n (new ++ drop (length new) old) ≡ new
same_slice n new old whole same =
    let past : length old ≤ length new = omega (arith, same) in
    let all : length new ≤ n = omega (arith, same, whole) in
    ap (λ (l : List _). take n (new ++ l)) (drop_all (length new) old past) ∙ ap (λ (l : List _). take n l) (append-nil new) ∙ take_all n new all

module _ {C A L : Type 0} where
  pub some_turner : (g : Setting) (ts : List (Turner C A L)) → IsBetween g ts → 0 < length ts
  some_turner g ts between =
      let count : length (delivered [] (lanes_held ts)) ≡ g.elements = between.sound.count in
      let one = length-map (lanes_held ts) (λ (h : Holding). queued h []) in
      let two = length-map ts (λ (t : Turner C A L). held_of t.lane) in
      let some : 0 < g.elements = between.sound.setting.some in
      omega (arith, count, one, two, some)

  -- there are at most 16
  pub few_turners : (g : Setting) (ts : List (Turner C A L)) → IsBetween g ts → length ts ≤ 16
  few_turners g ts between =
      let count : length (delivered [] (lanes_held ts)) ≡ g.elements = between.sound.count in
      let one = length-map (lanes_held ts) (λ (h : Holding). queued h []) in
      let two = length-map ts (λ (t : Turner C A L). held_of t.lane) in
      let few = between.sound.setting.few in
      omega (arith, count, one, two, few)

  module _ (order : Take) (g : Setting) (keeps_events may_stop : Bool) (olds news : List (Turner C A L)) (before after : Events) (tokens : List Token)
      (made : MadeRound order g keeps_events may_stop olds before news after tokens) where
    pub count_all : length news ≡ g.elements
    count_all =
        let count : length (delivered tokens (lanes_held news)) ≡ g.elements = made.sound.count in
        let one = length-map (lanes_held news) (λ (h : Holding). queued h tokens) in
        let two = length-map news (λ (t : Turner C A L). held_of t.lane) in
        omega (arith, count, one, two)

    pub at_all : AllFrom (IsAt g.elements) 0 (lanes_held news)
    at_all = to_map (λ (i : ℕ) (h : Holding). IsAt g.elements i h) (IsPlaced g) (λ (h : Holding). queued h tokens)
        (λ (i : ℕ) (h : Holding) p. (p.element, p.elements)) 0 (lanes_held news) made.sound.lanes

    -- it is a round, whatever tokens were delivered
    makes_one : (last : List (Turner C A L)) (rest : List Token) (halt : Option Halt) → delivered rest (lanes_held last) ≡ delivered tokens (lanes_held news)
        → IsWhy (delivered rest (lanes_held last)) (answers made.turned) halt ⊎ (halt ≡ Some Halt.Memory) → MakesRounds order g may_stop 1 (lanes_held olds)
        (delivered rest (lanes_held last)) made.made halt
    makes_one last rest halt handed halts = one_round order g may_stop (lanes_held olds) (delivered rest (lanes_held last)) made.made halt (record {
      keeps_events = keeps_events;
      turned = made.turned;
      round = made.round;
      handed = handed ∙ ap (λ (l : List Token). delivered l (lanes_held news)) made.sent
          ∙ ap (λ (l : List Holding). delivered (all_sent made.turned) l) made.lanes;
      events = made.events;
      halts = halts;
    })

    -- memory was refused
    pub refused_round : Rounds order g keeps_events may_stop 1 olds before news after (Some Halt.Memory)
    refused_round = record {
      rest = tokens;
      made = made.made;
      goes = (made.sound, inl tt);
      noted = made.noted;
      leads = made.leads;
      makes = makes_one
          news tokens (Some Halt.Memory) refl (inr refl);
    }

    module _ (last : List (Turner C A L)) (rest : List Token) (handed : delivered rest (lanes_held last) ≡ delivered tokens (lanes_held news)) where
      same : arriving g (lanes_held news) tokens ≡ arriving g (lanes_held last) rest
      same = ap (λ (l : List Holding). let s : State = record { setting = g; lanes = l } in s) (sym handed)

      sound_last : IsSoundState (arriving g (lanes_held last) rest)
      sound_last = subst (λ (s : State). IsSoundState s) same made.sound

      leads_last : Leads g olds last rest made.made
      leads_last inputs evs b = subst (λ (s : State). Began inputs s (evs ++ made.made)) same (made.leads inputs evs b)

      -- memory was refused while tokens were delivered
      pub refused_delivering : Rounds order g keeps_events may_stop 1 olds before last after (Some Halt.Memory)
      refused_delivering = record {
        rest = rest;
        made = made.made;
        goes = (sound_last, inl tt);
        noted = made.noted;
        leads = leads_last;
        makes =
            makes_one last rest (Some Halt.Memory) handed (inr refl);
      }

      pub closed_round : All (RunsAs g) (lanes_fixed last) → rest ≡ [] → tokens_sent last ≡ [] → events_noted last ≡ [] → halts_in last
          ≡ halts_in news → (halt : Option Halt) → IsWhy (lanes_held last) (halts_in last) halt
          → Rounds order g keeps_events may_stop 1 olds before last after halt
      closed_round runs none sent noted halts halt why = record {
        rest = rest;
        made = made.made;
        goes = goes halt why;
        noted = made.noted;
        leads =
            leads_last;
        makes = makes_one last rest halt handed (inl why_then);
      }
        where
          why_then : IsWhy (delivered rest (lanes_held last)) (answers made.turned) halt
          why_then = subst (λ (l : List Holding). IsWhy l (answers made.turned) halt)
              (sym (ap (λ (l : List Token). delivered l (lanes_held last)) none ∙ delivered_none (lanes_held last)))
              (subst (λ (l : List (Option Halt)). IsWhy (lanes_held last) l halt) (halts ∙ made.answered) why)

          goes : (halt : Option Halt) → IsWhy (lanes_held last) (halts_in last) halt → GoesOn g may_stop last rest halt
          goes None why = (
            record {
              sound = subst (λ (l : List Token). IsSoundState (arriving g (lanes_held last) l)) none sound_last;
              runs = runs;
              sent = sent;
              noted = noted;
            },
            none,
          )
          goes (Some h) (inl at) = (
            sound_last,
            subst (λ (s : State). IsHalted s may_stop h) same
                (made.halts at.0 h (subst (λ (l : List (Option Halt)). slice_get l at.0 ≡ Some (Some h)) halts at.1)),
          )
          goes (Some h) (inr idle) = (
            sound_last,
            inl (subst (λ (w : Halt). HaltsAs (arriving g (lanes_held last) rest) false w) (sym idle.2)
                (subst (λ (l : List Token). tokens_in (delivered l (lanes_held last)) ≡ []) (sym none)
                (ap (λ (l : List Holding). tokens_in l) (delivered_none (lanes_held last)) ∙ idle.1))),
          )

-- MANY ROUNDS
module _ {C A L : Type 0} where
  pub leads_none : (g : Setting) (ts : List (Turner C A L)) → Leads g ts ts [] []
  leads_none g ts = λ inputs evs b. subst (λ (l : Events). Began inputs (arriving g (lanes_held ts) []) l) (sym (append-nil evs)) b

  -- one more round after others
  pub rounds_twice : (order : Take) (g now : Setting) (setting : now ≡ g) (keeps_events may_stop : Bool) (n : ℕ) (olds mids news : List (Turner C A L))
      (before mid after made : Events) (halt : Option Halt)
      → mid ≡ logged keeps_events before made → Leads g olds mids [] made → MakesRounds order g may_stop n (lanes_held olds) (lanes_held mids) made None
      → Rounds order now keeps_events may_stop 1 mids mid news after halt
      → Rounds order g keeps_events may_stop (n + 1) olds before news after halt
  rounds_twice order g now setting keeps_events may_stop n olds mids news before mid after made halt noted leads makes next = subst
      (λ (x : Setting). Rounds order x keeps_events may_stop (n + 1) olds before news after halt) setting (record {
        rest = next.rest;
        made = made ++ next.made;
        goes = next.goes;
        noted = next.noted ∙ ap (λ (l : Events). logged keeps_events l next.made) noted ∙ logged_twice keeps_events before made next.made;
        leads = λ inputs evs b. subst (λ (l : Events). Began inputs (arriving now (lanes_held news) next.rest) l) (append_assoc evs made next.made)
            (next.leads inputs (evs ++ made) (subst (λ (x : Setting). Leads x olds mids [] made) (sym setting) leads inputs evs b));
        makes = makes_more order now may_stop n (lanes_held olds) (lanes_held mids) (delivered next.rest (lanes_held news)) made next.made halt
            (subst (λ (x : Setting). MakesRounds order x may_stop n (lanes_held olds) (lanes_held mids) made None) (sym setting) makes) next.makes;
      })

  -- what holds between rounds, after those in which nothing halted
  pub leads_on : (order : Take) (g : Setting) (keeps_events may_stop : Bool) (n : ℕ) (olds news : List (Turner C A L)) (before after : Events)
      (rounds : Rounds order g keeps_events may_stop n olds before news after None) → Leads g olds news [] rounds.made
  leads_on order g keeps_events may_stop n olds news before after rounds = subst (λ (l : List Token). Leads g olds news l rounds.made) rounds.goes.1 rounds.leads

  pub makes_on : (order : Take) (g : Setting) (keeps_events may_stop : Bool) (n : ℕ) (olds news : List (Turner C A L)) (before after : Events)
      (rounds : Rounds order g keeps_events may_stop n olds before news after None)
      → MakesRounds order g may_stop n (lanes_held olds) (lanes_held news) rounds.made None
  makes_on order g keeps_events may_stop n olds news before after rounds = subst (λ (l : List Holding). MakesRounds order g may_stop n (lanes_held olds) l rounds.made None)
      (ap (λ (l : List Token). delivered l (lanes_held news)) rounds.goes.1 ∙ delivered_none (lanes_held news)) rounds.makes

pub map_same : {X : Type 0} (xs : List X) → map (λ y. y) xs ≡ xs
map_same [] = refl
map_same (x ∷ xs) = ap (λ (l : List _). x ∷ l) (map_same xs)

-- LANES WITHOUT THE TOKENS THAT ARE ON THEIR WAY
unqueued_placed : (g : Setting) (ts : List Token) (i : ℕ) (h : Holding) → IsPlaced g i (queued h ts) → IsPlaced g i h
unqueued_placed g ts i h p = record {
  element = p.element;
  elements = p.elements;
  frames = p.frames;
  width = p.width;
  made = p.made;
  sound = record {
    part = p.sound.part;
    near = all_left (IsNearToken (bounds g.program h.part.shape)) h.queue (here h.part.shape ts) p.sound.near;
    addressed = all_left (λ (t : Token). element_of h.part.shape.elements t.to ≡ h.part.shape.element) h.queue (here h.part.shape ts) p.sound.addressed;
    answered = p.sound.answered;
  };
}

pub raw_sound : (g : Setting) (raw : List Holding) (ts : List Token) → IsSoundState (arriving g raw ts) → IsSoundState (record { setting = g; lanes = raw })
raw_sound g raw ts sound = record {
  setting = sound.setting;
  count = sym (length-map raw (λ (h : Holding). queued h ts)) ∙ sound.count;
  lanes = to_map (IsPlaced g) (IsPlaced g) (λ (h : Holding). queued h ts) (unqueued_placed g ts) 0 raw sound.lanes;
}

pub none_sound : (g : Setting) (raw : List Holding) → IsSoundState (record { setting = g; lanes = raw }) → IsSoundState (arriving g raw [])
none_sound g raw sound = subst (λ (l : List Holding). IsSoundState (record { setting = g; lanes = l })) (sym (delivered_none raw)) sound

-- THE REPORT
-- an end of which no gate is the cause
end_any : (p : Program) (z : Size) (steps : ℕ) (keeps_events may_stop : Bool) (evs : Events) (m : Machine) (e : End)
    → HasEnd p z steps keeps_events false evs m e → HasEnd p z steps keeps_events may_stop evs m e
end_any p z steps keeps_events may_stop evs m End.Rest h = h
end_any p z steps keeps_events may_stop evs m End.Starved h = h
end_any p z steps keeps_events may_stop evs m (End.Clash a i) h = h
end_any p z steps keeps_events may_stop evs m End.Steps h = h
end_any p z steps keeps_events may_stop evs m (End.Stuck n) h = h
end_any p z steps keeps_events may_stop evs m End.Memory h = h
end_any p z steps keeps_events may_stop evs m End.Stop h = absurd (let no : ⊥ = cc in no)

pub shows_any : (p : Program) (z : Size) (inputs : List ℤ) (steps : ℕ) (keeps_events may_stop : Bool) (r : Report)
    → ShowsInOrder p z inputs steps keeps_events false r → ShowsInOrder p z inputs steps keeps_events may_stop r
shows_any p z inputs steps keeps_events may_stop r s = record {
  last = s.last;
  run = s.run;
  picture = s.picture;
  ends = end_any p z steps keeps_events may_stop r.events s.last r.end s.ends;
  within = s.within;
}

-- the report of the machine before its first event
pub refused_shows : (s : State) (inputs : List ℤ) (keeps_events may_stop : Bool) (kept evs : Events) (r : Report) → IsSoundState s → r
    ≡ opening_picture (outputs_of s.setting.program)
    → ShowsOn keeps_events s.setting.program (size s.setting) inputs s.setting.steps may_stop kept evs r
refused_shows s inputs keeps_events may_stop kept evs r sound is =
    let p = s.setting.program in
    let shown = shows_any p (size s.setting) inputs s.setting.steps false may_stop (opening_picture (outputs_of p))
    (shows_opening s inputs false (outputs_of p) sound refl) in (
      [],
      subst (λ (x : Report). ShowsInOrder p (size s.setting) inputs s.setting.steps false may_stop (with_events x [])) (sym is) shown,
      λ l same. ap
          (λ (x : Report). x.events) is,
    )

-- what is reported of a run whose events are listed, and of one whose events are not
pub reported_run : (p : Program) (z : Size) (inputs : List ℤ) (steps : ℕ) (may_stop : Bool) (evs : Events) (r : Report)
    → ShowsOn true p z inputs steps may_stop evs evs r → ShowsInOrder p z inputs steps false may_stop r
reported_run p z inputs steps may_stop evs r (shown, shows, lists) = subst (λ (l : Events). ShowsInOrder p z inputs steps false may_stop
    (with_events r l)) (sym (lists refl refl)) shows

pub reported_quietly : (p : Program) (z : Size) (inputs : List ℤ) (steps : ℕ) (may_stop : Bool) (kept evs : Events) (r : Report) → r.events ≡ []
    → ShowsOn false p z inputs steps may_stop kept evs r → ShowsQuietly p z inputs steps false may_stop r
reported_quietly p z inputs steps may_stop kept evs r none (shown, shows, lists) = record { unlisted = none; events = shown; shows = shows }

module _ {C A L : Type 0} where
  pub between_start : (g : Setting) (ts : List (Turner C A L)) (raw : List Holding) → lanes_held ts ≡ raw → tokens_sent ts ≡ [] → events_noted ts ≡ []
      → IsSoundState (arriving g raw []) → All (RunsAs g) (lanes_fixed ts) → IsBetween g ts
  between_start g ts raw is sent noted sound runs = record {
    runs = runs;
    sound = subst (λ (l : List Holding). IsSoundState (arriving g l []))
        (sym is) sound;
    sent = sent;
    noted = noted;
  }

  module _ (order : Take) (g now : Setting) (setting : now ≡ g) (keeps_events may_stop : Bool) (n : ℕ) (olds news : List (Turner C A L)) (before after : Events)
      (halt : Halt) (rounds : Rounds order g keeps_events may_stop n olds before news after (Some halt)) (raw : List Holding) (lanes : raw ≡ lanes_held news) where
    same_state : arriving g (lanes_held news) rounds.rest ≡ arriving now raw rounds.rest
    same_state = ap (λ (x : Setting). arriving x (lanes_held news) rounds.rest) (sym setting)
        ∙ ap (λ (l : List Holding). arriving now l rounds.rest) (sym lanes)

    now_sound : IsSoundState (arriving now raw rounds.rest)
    now_sound = subst (λ (s : State). IsSoundState s) same_state rounds.goes.0

    now_halts : IsHalted (arriving now raw rounds.rest) may_stop halt
    now_halts = subst (λ (s : State). IsHalted s may_stop halt) same_state rounds.goes.1

    pub end_sound : IsSoundState (record { setting = now; lanes = raw })
    end_sound = raw_sound now raw rounds.rest now_sound

    pub end_cell : NamesCell now.program halt
    end_cell = by_halt now_halts
      where
        by_halt : IsHalted (arriving now raw rounds.rest) may_stop halt → NamesCell now.program halt
        by_halt (inl halts) = clash_cell (arriving now raw rounds.rest) false halt now_sound halts
        by_halt (inr (stop, may)) = subst (λ (h : Halt). NamesCell now.program h) (sym stop) tt

    -- a list that was empty stays so where no events are listed
    pub end_unlisted : (r : Report) → (after ≡ [] → r.events ≡ []) → keeps_events ≡ false → before ≡ [] → r.events ≡ []
    end_unlisted r unlisted off none = unlisted (rounds.noted ∙ ap (λ (b : Bool). logged b before rounds.made) off ∙ none)

    pub end_reports : (start : List Holding) → lanes_held olds ≡ start → (r : Report)
        → IsReportOf (record { state = record { setting = now; lanes = raw }; events = after }) halt r
        → ReportsTaking order keeps_events may_stop (record { state = record { setting = g; lanes = start }; events = before }) n r
    end_reports start is r reported = reports_rounds order keeps_events may_stop g start raw rounds.rest n before after rounds.made halt r
        (subst (λ (l : List Holding). MakesRounds order g may_stop n l (delivered rounds.rest raw) rounds.made (Some halt)) is
        (subst (λ (l : List Holding). MakesRounds order g may_stop n (lanes_held olds) (delivered rounds.rest l) rounds.made (Some halt)) (sym lanes)
        rounds.makes)) rounds.noted
        (subst (λ (x : Setting). IsReportOf (record { state = record { setting = x; lanes = raw }; events = after }) halt r) setting reported)

    pub end_shows : (start : List Holding) → lanes_held olds ≡ start → (r : Report)
        → ((inputs : List ℤ) (in_list : Bool) (ts : List Token) (evs : Events) → IsSoundState (arriving now raw ts)
        → Began inputs (arriving now raw ts) evs → HaltsAs (arriving now raw ts) in_list halt → ShowsBut now.program (size now) inputs now.steps
        in_list false after evs r)
        → (halt ≡ Halt.Stop → (inputs : List ℤ) (in_list : Bool) (ts : List Token) (evs : Events) → IsSoundState (arriving now raw ts)
        → Began inputs (arriving now raw ts) evs → ShowsBut now.program (size now) inputs now.steps in_list true after evs r)
        → (inputs : List ℤ) (evs : Events) → Began inputs (arriving g start []) evs
        → ShowsOn keeps_events g.program (size g) inputs g.steps may_stop before evs r
    end_shows start is r shows stopped inputs evs b =
        subst (λ (x : Setting). ShowsOn keeps_events x.program (size x) inputs x.steps may_stop before evs r) setting (by_halt now_halts)
      where
        all : Events
        all = evs ++ rounds.made

        last : Began inputs (arriving now raw rounds.rest) all
        last = subst (λ (s : State). Began inputs s all) same_state
            (rounds.leads inputs evs (subst (λ (l : List Holding). Began inputs (arriving g l []) evs) (sym is) b))

        kept : keeps_events ≡ true → before ≡ evs → after ≡ all
        kept on same = rounds.noted ∙ ap (λ (l : Bool). logged l before rounds.made) on ∙ ap (λ (l : Events). l ++ rounds.made) same

        by_halt : IsHalted (arriving now raw rounds.rest) may_stop halt → ShowsOn keeps_events now.program (size now) inputs now.steps may_stop before evs r
        by_halt (inl halts) =
            let s = shows inputs false rounds.rest all now_sound last halts in
            (s.0, shows_any now.program (size now) inputs now.steps false may_stop (with_events r s.0) s.1, λ on same. s.2 (kept on same))
        by_halt (inr (stop, may)) =
            let s = stopped stop inputs false rounds.rest all now_sound last in (
              s.0,
              subst (λ (m : Bool). ShowsInOrder now.program (size now) inputs now.steps false m (with_events r s.0)) (sym may) s.1,
              λ on same. s.2
                  (kept on same),
            )
