-- A run of a machine that started on an object's code is shown of the object.
use Rattle.std.proofs.Common.{◌≡◌, ℕ, ◌++◌, Bool, true, false, ℤ, List, refl, sym, ap, ◌∙◌, subst}
use Rattle.semantics.specs.Program.{Program, Code}
use Rattle.semantics.specs.Bytes.{IsObject}
use Rattle.semantics.specs.Machine.{Events}
use Rattle.semantics.specs.Report.{Report}
use Rattle.schedule.specs.Shown.{ShowsInOrder}
use Rattle.object_view.specs.Reading.{Opened, opened}
use Rattle.schedule.specs.declared.config.Config.{Config}
use Rattle.schedule.specs.Setting.{Setting, size}
use Rattle.schedule.specs.declared.halt.Halt.{Halt}
use Rattle.schedule.specs.declared.take.Take.{Take}
use Rattle.schedule.specs.declared.take.Take.TheVariants.{Oldest, Depth}
use Rattle.schedule.specs.Runs.{SoFar, Began, Plays, rounds_of}
use Rattle.schedule.specs.Reported.{IsReportOf}
use Rattle.schedule.specs.Turns.{AreInTurn}
use Rattle.schedule.specs.Unlisted.{with_events, ShowsQuietly, Quietly, RunsTaking}
use Rattle.schedule.proofs.Showing.{shown}
use Rattle.driver.specs.declared.order.Order.{Order}
use Rattle.rounds.specs.Counted.{ReportsTaking}
use Rattle.driver.specs.Headline.{stops_in}
use Rattle.driver.specs.Objects.{ShowsObject, ShowsObjectIn, RunsObject, StartsObject}
use Rattle.driver.specs.Orders.{size_of, RunsBy, RunsByTurns, RunsByList, RunsByRounds}

-- WHAT THE BYTES OF AN OBJECT SAY of the code that was made of the object
module _ (slice : List ℕ) (o code : Opened) (same : slice ≡ o.bytes) (is : o ≡ code) where
  here : slice ≡ code.bytes
  here = same ∙ ap (λ (x : Opened). x.bytes) is

  pub object_of : IsObject slice o.version o.code → IsObject code.bytes code.version code.code
  unfolding here
  object_of h = subst (λ (x : Opened). IsObject code.bytes x.version x.code) is (subst (λ (bs : List ℕ). IsObject bs o.version o.code) here h)

  pub only_of : ((v : ℕ) (d : Code) → IsObject slice v d → (o.version ≡ v) × (o.code ≡ d)) → (v : ℕ) (d : Code) → IsObject code.bytes v d → code.code ≡ d
  unfolding here
  only_of h v d k = ap (λ (x : Opened). x.code) (sym is) ∙ (h v d (subst (λ (bs : List ℕ). IsObject bs v d) (sym here) k)).1

  pub opened_of : o ≡ opened slice → opened code.bytes ≡ code
  unfolding here
  opened_of e = sym (ap opened here) ∙ sym e ∙ is

module _ (bytes : List ℕ) (inputs : List ℤ) (c : Config) (k : SoFar) (s : StartsObject bytes inputs c k) where
  pub elements_of : k.state.setting.elements ≡ c.elements
  elements_of = ap (λ (g : Setting). g.elements) s.opens.setting

  -- the report shows a run on these inputs
  shown_object : (by_list may_stop : Bool) (r : Report) → ShowsInOrder k.state.setting.program (size k.state.setting) inputs k.state.setting.steps
      by_list may_stop r
      → ShowsObject bytes inputs c by_list may_stop r
  shown_object by_list may_stop r shows =
      let here : ShowsInOrder s.code.program (size_of c) inputs c.steps by_list may_stop r
      = subst (λ (g : Setting). ShowsInOrder g.program (size g) inputs g.steps by_list may_stop r) s.opens.setting shows in
      record {
        version = s.version;
        code = s.code;
        object = s.object;
        only = s.only;
        inputs_fit = s.opens.arity;
        good = s.opens.good;
        some_frame = s.opens.some_frame;
        shows = shown s.code.program (size_of c) inputs c.steps by_list may_stop r here;
        in_order = (here.last, here.run);
      }

  pub shows_object : (by_list may_stop : Bool) (r : Report)
      → ((ins : List ℤ) → Began ins k.state k.events → ShowsInOrder k.state.setting.program (size k.state.setting) ins k.state.setting.steps by_list
      may_stop r) → ShowsObject bytes inputs c by_list may_stop r
  shows_object by_list may_stop r shows = shown_object by_list may_stop r (shows inputs s.opens.began)

  shows_object_quietly : (by_list may_stop : Bool) (r : Report)
      → ((ins : List ℤ) → Began ins k.state k.events → ShowsQuietly k.state.setting.program (size k.state.setting) ins k.state.setting.steps by_list may_stop r)
      → Quietly (ShowsObject bytes inputs c by_list may_stop) r
  shows_object_quietly by_list may_stop r shows =
      let q = shows inputs s.opens.began in
      (q.unlisted, q.events, shown_object by_list may_stop (with_events r q.events) q.shows)

  -- ORDER. What is played from the start on is what the report says.
  follows : (by_list : Bool) (picks : List (ℕ × ℕ)) (r : Report) (last : SoFar) (halt : Halt) (made : Events)
      → Plays by_list picks k.state last.state halt made → last.events ≡ k.events ++ made → IsReportOf last halt r
      → RunsBy s.code.program c inputs by_list picks r
  follows by_list picks r last halt made plays events reported = record {
    width = s.width;
    start = k;
    opens = s.opens;
    last = last;
    halt = halt;
    made = made;
    plays = plays;
    events = events ∙ ap (λ (evs : Events). evs ++ made) s.opens.events;
    reported = reported;
  }

  runs : (Ordered : Program → Config → List ℤ → Report → Type 0) (r : Report) → Ordered s.code.program c inputs r → RunsObject bytes inputs c Ordered r
  runs Ordered r ordered = record { version = s.version; code = s.code; object = s.object; ordered = ordered }

  pub runs_by_list : (picks : List (ℕ × ℕ)) (r : Report)
      → (last : SoFar) × (halt : Halt) × (made : Events) × Plays true picks k.state last.state halt made × (last.events ≡ k.events ++ made)
      × IsReportOf last halt r
      → RunsObject bytes inputs c (RunsByList picks) r
  runs_by_list picks r h = runs (RunsByList picks) r (follows true picks r h.0 h.1 h.2 h.3 h.4 h.5)

  pub runs_by_turns : (take : Take) (r : Report) → RunsTaking take k r → RunsObject bytes inputs c (RunsByTurns take) r
  unfolding elements_of
  runs_by_turns Oldest r t =
      let rounds = t.plays.0 in
      let plays = subst (λ (n : ℕ). Plays false (rounds_of rounds n) k.state (t.last).state t.halt t.made) elements_of t.plays.1 in
      runs (RunsByTurns Oldest) r (rounds, follows false (rounds_of rounds c.elements) r t.last t.halt t.made plays t.events t.reported)
  runs_by_turns Depth r t = runs (RunsByTurns Depth) r (record {
    width = s.width;
    start = k;
    opens = s.opens;
    last = t.last;
    halt = t.halt;
    made = t.made;
    turns = t.plays.0;
    in_turn = subst (λ (n : ℕ). AreInTurn n 0 t.plays.0) elements_of t.plays.1;
    plays = t.plays.2;
    events = t.events ∙ ap (λ (evs : Events). evs ++ t.made) s.opens.events;
    reported = t.reported;
  })

  pub runs_by_rounds : (take : Take) (may_stop : Bool) (rounds : ℕ) (r : Report) → ReportsTaking take true may_stop k rounds r
      → RunsObject bytes inputs c (RunsByRounds take may_stop rounds) r
  runs_by_rounds take may_stop rounds r truth = runs (RunsByRounds take may_stop rounds) r (record { width = s.width; start = k; opens = s.opens; truth = truth })

  -- QUIETLY. The run in turns that is shown is the one that is followed.
  pub shows_in_turn_quietly : (take : Take) (may_stop : Bool) (r : Report) → Quietly (RunsTaking take k) r
      → Quietly (ShowsObjectIn (Order.InTurn take) bytes inputs c may_stop) r
  shows_in_turn_quietly take may_stop r q =
      let x : Report = with_events r q.1 in
      let t : RunsTaking take k x = q.2 in
      (q.0, q.1, (shown_object false false x (t.shows inputs s.opens.began), runs_by_turns take x t))

  -- in each mode
  pub shows_in_quietly : (order : Order) (may_stop : Bool) (r : Report)
      → ((ins : List ℤ) → Began ins k.state k.events → ShowsQuietly k.state.setting.program (size k.state.setting) ins k.state.setting.steps false
      (stops_in order may_stop) r)
      → ((take : Take) → order ≡ Order.InTurn take → Quietly (RunsTaking take k) r) → Quietly (ShowsObjectIn order bytes inputs c may_stop) r
  shows_in_quietly (Order.InTurn take) may_stop r shows turns = shows_in_turn_quietly take may_stop r (turns take refl)
  shows_in_quietly (Order.InRounds take) may_stop r shows turns = shows_object_quietly false may_stop r shows
  shows_in_quietly (Order.Free take) may_stop r shows turns = shows_object_quietly false may_stop r shows
