-- A report that shows a run of faithful code tells the truth about the graph.
use Rattle.std.proofs.Common.{◌≡◌, ℕ, ◌+◌, ◌*◌, ◌<◌, ◌≤◌, Bool, true, false, ℤ, List, length, Option, Some, None, refl, sym, ◌∙◌, ap, subst, arith}
use Rattle.std.specs.Prelude.{sum, take}
use Rattle.std.proofs.Math.Nat.{mul-le-mul_left}
use Rattle.tags.specs.declared.value.Value.{Value}
use Rattle.semantics.specs.declared.report.End.{End}
use Rattle.semantics.specs.declared.report.End.TheVariants.{Rest, Clash, Stuck}
use Rattle.semantics.specs.Graph.{Graph, Flow, flow_of, first_cell}
use Rattle.semantics.specs.Meaning.{State}
use Rattle.semantics.specs.Program.{Program, Code}
use Rattle.semantics.specs.Rule.{array_base}
use Rattle.semantics.specs.Cause.{SameSeen, HasCause, request_count}
use Rattle.semantics.specs.Machine.{Machine, Size, CellState, Vacant, Full, Deferred, Events, stuck_rule, value_in}
use Rattle.semantics.specs.Faithful.{Faithful, IsRun, IsSecondStore, IsBounded, inputs_of, largest}
use Rattle.semantics.specs.Report.{Report, IsPicture, HasEnd, Shows}
use Rattle.schedule.specs.declared.config.Config.{Config}
use Rattle.schedule.specs.declared.take.Take.{Take}
use Rattle.schedule.specs.declared.take.Take.TheVariants.{Oldest}
use Rattle.mode.specs.declared.Mode.{Mode}
use Rattle.schedule.specs.Setting.{inputs_of as inputs_of_program}
use Rattle.schedule.specs.Unlisted.{with_events, Quietly}
use Rattle.driver.specs.Headline.{ShowsMemory, IsBoundedByMeaning, ReportsMeaning, ReportsOf, ReportsTruth, ReportsTruthByList, ReportsTruthIn}
use Rattle.driver.specs.Headline.{stops_in, ReportsQuietly}
use Rattle.replay.specs.declared.moment.Moment.{Moment}
use Rattle.driver.specs.ListedEvents.{AreMoments, IsWatched}
use Rattle.driver.specs.Orders.{RunsByTurns, RunsByList, size_of, order_of}
use Rattle.driver.specs.Objects.{ShowsObject, ShowsObjectIn, RunsObject}
use Rattle.driver.proofs.Taking.{same_take}
use Rattle.driver.proofs.Waiting.{deferred_are, no_frame_is_out}
use Rattle.driver.specs.declared.order.Order.{Order}
use Rattle.driver.specs.Refused.{IsCompiled}

-- a cell that is full has its value, and no other
full_value : (c : CellState) (v : Value) → c ≡ Full v → value_in c ≡ Some v
full_value c v e = ap value_in e

value_full : (c : CellState) (v : Value) → value_in c ≡ Some v → c ≡ Full v
value_full Vacant v e = cc
value_full (Full w) v e = cc
value_full (Deferred rs) v e = cc

-- what is seen of the machine is what is seen of the meaning
shown : (p : Program) (z : Size) (m : Machine) (r : Report) (s : State) → IsPicture p z m r → SameSeen m.store s.memory → ShowsMemory r s.memory
shown p z m r s pic same = record {
  outputs = λ j v e. pic.outputs j v e ∙ same.outputs j;
  cells = λ x v. (
    (λ h. sym (same.cells x) ∙ full_value (m.store.cells x) v ((pic.cells x v).0 h)),
    (λ h. (pic.cells x v).1 (value_full (m.store.cells x) v (same.cells x ∙ h))),
  );
}

ends_at : (p : Program) (z : Size) (steps : ℕ) (by_list may_stop : Bool) (events : Events) (m : Machine) (e d : End) → e ≡ d
    → HasEnd p z steps by_list may_stop events m e → HasEnd p z steps by_list may_stop events m d
ends_at p z steps by_list may_stop events m e d eq h = let P : End → Type 0 = λ x. HasEnd p z steps by_list may_stop events m x in subst P eq h

never_both : (o : Option ℕ) (n : ℕ) → o ≡ None → o ≡ Some n → ⊥
never_both o n a b = cc

-- each request has its cause, so the bound by requests is one by what the meaning calls for
bounded_by : (fl : Flow) (inputs : List ℤ) (p : Program) (z : Size) (m : Machine) (r : Report) → IsPicture p z m r → HasCause fl p inputs r.events m
    → IsBounded p r.events
    → IsBoundedByMeaning fl inputs p r
bounded_by fl inputs p z m r pic cause bound = record {
  run = cause.run;
  state = cause.state;
  is_run = cause.is_run;
  shown = shown p z m r cause.state pic cause.seen;
  contexts = cause.due;
  called_for = cause.are_due;
  events =
      let enough = cause.enough in
      let more : 1 + request_count r.events ≤ 1 + length cause.due = omega (arith, enough) in
      let times = mul-le-mul_left (6 * (largest p.blocks + 1)) more in
      omega (arith, bound, times);
}

pub reports_meaning : (inputs : List ℤ) (z : Size) (steps : ℕ) (by_list may_stop : Bool) (r : Report) (fl : Flow) (p : Program)
    → length inputs ≡ inputs_of fl → 0 < z.elements → 0 < z.frames
    → Faithful fl p → Shows p z inputs steps by_list may_stop r → ReportsMeaning fl inputs p r
reports_meaning inputs z steps by_list may_stop r fl p fit elements frames faithful shows =
    let m : Machine = shows.last in
    let run : IsRun fl p inputs z r.events m = record { inputs_fit = fit; some_element = elements; some_frame = frames; run = shows.run } in
    let reached = faithful.reachable inputs z r.events m run in
    record {
      faithful = faithful;
      reached = (reached.0, reached.1, shown p z m r reached.0 shows.picture reached.2);
      rest = λ e. let ended = ends_at p z steps by_list may_stop r.events m r.end Rest e shows.ends in
          let exact = faithful.exact inputs z r.events m run ended.0 ended.1 in
          record {
            state = exact.state;
            reached = exact.reached;
            shown = shown p z m r exact.state shows.picture exact.seen;
            at_rest = exact.at_rest;
            leads = exact.only;
            no_clash = exact.no_clash;
            deferred = deferred_are fl p z m r exact.state faithful.arrays shows.picture exact.readers;
            frames = no_frame_is_out fl p z m r exact.state faithful.arrays shows.picture exact.readers
                (faithful.clean inputs z r.events m run ended.0 ended.1);
          };
      second_store = λ a i e. let ended = ends_at p z steps by_list may_stop r.events m r.end (Clash a i) e shows.ends in
          let same : array_base p a + i ≡ first_cell fl a + i = ap (λ ls. sum (take a ls) + i) faithful.arrays in
          let P : ℕ → Type 0 = λ x. IsSecondStore fl inputs x in
          subst P same (faithful.second_store inputs z r.events m (array_base p a + i) run ended.2);
      matching = λ n e. let ended = ends_at p z steps by_list may_stop r.events m r.end (Stuck n) e shows.ends in
          never_both (stuck_rule p m.store ended.0.to ended.0.word) n (faithful.matching inputs z r.events m ended.0 run ended.1) ended.2;
      bounded = bounded_by fl inputs p z m r shows.picture (faithful.cause inputs z r.events m run) (faithful.bound inputs z r.events m run);
    }

-- A report of a run of the graph's object tells the truth: the object has one code.
pub reports_truth : (text : List ℕ) (g : Graph) (bytes : List ℕ) (inputs : List ℤ) (c : Config) (by_list may_stop : Bool) (r : Report)
    → IsCompiled text g bytes → ShowsObject bytes inputs c by_list may_stop r → ReportsOf text g inputs (size_of c) c.steps by_list may_stop r
reports_truth text g bytes inputs c by_list may_stop r compiled shown =
    let made = compiled.object.made in
    let code : Code = compiled.object.code in
    let same : shown.code ≡ code = shown.only g.version code compiled.object.object in
    let S : Code → Type 0 = λ x. Shows x.program (size_of c) inputs c.steps by_list may_stop r in
    let F : Code → Type 0 = λ x. length inputs ≡ inputs_of_program x.program in
    let fit : length inputs ≡ inputs_of (flow_of g) = subst F same shown.inputs_fit ∙ made.inputs in
    let shows = subst S same shown.shows in
    let some = shown.good.elements in
    let some_element : 0 < c.elements = omega (arith, some) in
    record {
      is_text = compiled.good.is_text;
      well_formed = compiled.good.well_formed;
      inputs_fit = fit;
      code = code;
      made = made;
      shows = shows;
      truth =
          let P : Program → Type 0 = λ q. Faithful (flow_of g) q in
          reports_meaning inputs (size_of c) c.steps by_list may_stop r (flow_of g) code.program fit some_element shown.some_frame
          (subst P (sym made.program) made.promises.faithful) shows;
    }

-- The order of a run of the object's code is that of a run of the graph's code.
ordered : (text : List ℕ) (g : Graph) (bytes : List ℕ) (inputs : List ℤ) (c : Config) (by_list may_stop : Bool) (r : Report) (Ordered : Program
    → Config → List ℤ → Report → Type 0)
    → (compiled : IsCompiled text g bytes) → ShowsObject bytes inputs c by_list may_stop r → RunsObject bytes inputs c Ordered r
    → Ordered compiled.object.code.program c inputs r
ordered text g bytes inputs c by_list may_stop r Ordered compiled shown runs =
    let O : Code → Type 0 = λ x. Ordered x.program c inputs r in
    subst O (sym (shown.only runs.version runs.code runs.object) ∙ shown.only g.version compiled.object.code compiled.object.object) runs.ordered

pub reports_in_turn : (way : Take) (text : List ℕ) (g : Graph) (bytes : List ℕ) (inputs : List ℤ) (c : Config) (r : Report)
    → IsCompiled text g bytes → ShowsObject bytes inputs c false false r → RunsObject bytes inputs c (RunsByTurns way) r
    → ReportsTruth way text g inputs c r
unfolding reports_truth
reports_in_turn way text g bytes inputs c r compiled shown runs = (
  reports_truth text g bytes inputs c false false r compiled shown,
  ordered text g bytes inputs c false false r (RunsByTurns way) compiled shown runs,
)

pub reports_by_list : (text : List ℕ) (g : Graph) (bytes : List ℕ) (inputs : List ℤ) (c : Config) (picks : List (ℕ × ℕ)) (r : Report)
    → IsCompiled text g bytes → ShowsObject bytes inputs c true false r → RunsObject bytes inputs c (RunsByList picks) r
    → ReportsTruthByList text g inputs c picks r
unfolding reports_truth
reports_by_list text g bytes inputs c picks r compiled shown runs =
    (reports_truth text g bytes inputs c true false r compiled shown, ordered text g bytes inputs c true false r (RunsByList picks) compiled shown runs)

-- The order of a mode in which the elements take their oldest tokens is in turn in the mode `One` alone.
pub oldest_in_turn : (mode : Mode) (R : Take → Type 0) → (mode ≡ Mode.One → R Oldest) → (way : Take) → order_of mode Oldest ≡ Order.InTurn way → R way
oldest_in_turn Mode.One R h way e = subst R (same_take (Order.InTurn Oldest) Oldest way refl e) (h refl)
oldest_in_turn Mode.Rounds R h way e = absurd (let no : ⊥ = cc in no)
oldest_in_turn Mode.Free R h way e = absurd (let no : ⊥ = cc in no)

-- In each order: only where the elements take turns on one thread is the order known.
pub reports_in : (order : Order) (text : List ℕ) (g : Graph) (bytes : List ℕ) (inputs : List ℤ) (c : Config) (may_stop : Bool) (r : Report)
    → IsCompiled text g bytes → ShowsObject bytes inputs c false (stops_in order may_stop) r
    → ((way : Take) → order ≡ Order.InTurn way → RunsObject bytes inputs c (RunsByTurns way) r) → ReportsTruthIn order text g inputs c may_stop r
reports_in (Order.InTurn way) text g bytes inputs c may_stop r compiled shown runs =
    reports_in_turn way text g bytes inputs c r compiled shown (runs way refl)
reports_in (Order.InRounds take) text g bytes inputs c may_stop r compiled shown runs = reports_truth text g bytes inputs c false may_stop r compiled shown
reports_in (Order.Free take) text g bytes inputs c may_stop r compiled shown runs = reports_truth text g bytes inputs c false may_stop r compiled shown

-- So does a report that lists no events.
pub reports_quietly : (order : Order) (text : List ℕ) (g : Graph) (bytes : List ℕ) (inputs : List ℤ) (c : Config) (may_stop : Bool) (r : Report)
    → IsCompiled text g bytes → Quietly (ShowsObjectIn order bytes inputs c may_stop) r → ReportsQuietly order text g inputs c may_stop r
reports_quietly (Order.InTurn way) text g bytes inputs c may_stop r compiled (none, events, shown) =
    ((shown.0).good, (shown.0).some_frame, (none, events, reports_in_turn way text g bytes inputs c (with_events r events) compiled shown.0 shown.1))
reports_quietly (Order.InRounds take) text g bytes inputs c may_stop r compiled (none, events, shown) =
    (shown.good, shown.some_frame, (none, events, reports_truth text g bytes inputs c false may_stop (with_events r events) compiled shown))
reports_quietly (Order.Free take) text g bytes inputs c may_stop r compiled (none, events, shown) =
    (shown.good, shown.some_frame, (none, events, reports_truth text g bytes inputs c false may_stop (with_events r events) compiled shown))

-- and a run of the graph's object with the moments of its events
pub is_watched : (order : Order) (text : List ℕ) (g : Graph) (bytes : List ℕ) (inputs : List ℤ) (c : Config) (may_stop : Bool) (r : Report)
    (moments : List Moment)
    → IsCompiled text g bytes → ShowsObject bytes inputs c false (stops_in order may_stop) r
    → ((way : Take) → order ≡ Order.InTurn way → RunsObject bytes inputs c (RunsByTurns way) r)
    → AreMoments bytes inputs c r moments → IsWatched order text g bytes inputs c may_stop r moments
is_watched order text g bytes inputs c may_stop r moments compiled shown runs seen = record {
  lists = record { compiled = compiled; truth = reports_in order text g bytes inputs c may_stop r compiled shown runs; shows = shown };
  seen = seen;
}

pub is_watched_in_rounds : (take : Take) (text : List ℕ) (g : Graph) (bytes : List ℕ) (inputs : List ℤ) (c : Config) (may_stop : Bool) (r : Report) (moments : List Moment)
    → IsCompiled text g bytes → ShowsObject bytes inputs c false may_stop r → AreMoments bytes inputs c r moments
    → IsWatched (Order.InRounds take) text g bytes inputs c may_stop r moments
is_watched_in_rounds take text g bytes inputs c may_stop r moments compiled shown seen =
    is_watched (Order.InRounds take) text g bytes inputs c may_stop r moments compiled shown (λ way one. absurd (let no : ⊥ = cc in no)) seen
