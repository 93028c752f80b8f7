-- From runners that have left to one run of the machine, and its report.
use Rattle.std.proofs.Common.{◌≡◌, ◌≢◌, refl, sym, ◌∙◌, ap, subst, ℕ, zero, suc, ◌<◌, ◌⊎◌, inl, inr, Bool, true, false, ℤ, List, [], ◌∷◌, ◌++◌}
use Rattle.std.proofs.Common.{length, map, get_or, Option, Some, arith}
use Rattle.std.specs.Prelude.{All, IsPermutation, slice_get}
use Rattle.std.specs.Option.{option_map}
use Rattle.std.proofs.lemmas.List.{length-map, get_or-map}
use Rattle.std.proofs.lemmas.List.Elements.{All-get_or}
use Rattle.std.proofs.lemmas.List.Sorted.{IsPermutation-refl}
use Rattle.std.proofs.lemmas.Option.{slice_get-map, slice_get-get_or, same_Some}
use mathlib.Core.Option.{some}
use lib.ListN.{get_elem?}
use Rattle.crossbeam_utils.specs.declared.cache_padded.CachePadded.{CachePadded}
use Rattle.crossbeam_utils.specs.Padded.{padded_value}
use Rattle.tags.specs.declared.token.Token.{Token}
use Rattle.semantics.specs.Machine.{Events}
use Rattle.semantics.specs.declared.report.End.{End}
use Rattle.semantics.specs.Report.{Report}
use Rattle.schedule.specs.Shown.{ShowsInOrder}
use Rattle.element.specs.Near.{Bounds}
use Rattle.element.specs.Holding.{Holding, Fixed, held_of}
use Rattle.schedule.specs.declared.halt.Halt.{Halt}
use Rattle.schedule.specs.declared.take.Take.{Take}
use Rattle.schedule.specs.Setting.{Setting, size}
use Rattle.schedule.specs.State.{State, IsPlaced, IsSoundState, RunsAs, tokens_in}
use Rattle.schedule.specs.Runs.{SoFar, Began, HaltsAs, NamesCell}
use Rattle.schedule.specs.Reported.{IsReportOf}
use Rattle.schedule.specs.Unlisted.{with_events, ShowsBut}
use Rattle.schedule.proofs.Reports.{clash_cell}
use Rattle.mesh.specs.Seats.{MeshId, Account, SeatView, AreFresh, AreAll, accounts, Leaves, HasCommits, Agree, IsFinal, fresh_seat}
use Rattle.rounds.specs.Turns.{arriving}
use Rattle.rounds.specs.Rounds.{IsHalted, ShowsOn}
use Rattle.rounds.proofs.Closing.{raw_sound, none_sound, shows_any}
use Rattle.rounds.proofs.Rounding.{halts_any}
use Rattle.law_linearization.specs.History.{Block, bounds_of, events_in, LeavesTokens, AreBelow}
use Rattle.law_linearization.specs.Ends as ends
use Rattle.ordering.specs.declared.log.BlockLog.{BlockLog}
use Rattle.ordering.specs.Noted.{noted_in}
use Rattle.ordering.specs.Logs.{Logs}
use Rattle.ordering.specs.Orders.{IsHistory}
use Rattle.law_linearization.proofs.Ends.{ends_freely}
use Rattle.law_linearization.proofs.EndsShowing.{points}
use Rattle.machine.specs.declared.runner.Departure.{Departure}
use Rattle.machine.specs.declared.runner.Runner.{Runner}
use Rattle.machine.specs.Runners.{Ran, IsRunning, Runs, IsClear, IsDeparture, away}
use Rattle.machine.specs.ByDepth.{HaltsFreely}
use Rattle.machine.specs.Ends.{reason_of, reasons_of, IsOwn, EndsTaking, EndsOn}
use Rattle.rounds.specs.Counted.{IsFirst, NoneHalts}
use Rattle.machine.specs.Starts.{lane_in, seat_of, departure_of, notes_of, lane_fixed, lanes_in, lanes_fixed, seats_in, departures_in, logs_in}
use Rattle.machine.specs.Starts.{IsNew, IsHaltOf, AllEnded, Lists}
use Rattle.machine.proofs.Beginning.{new_running}
use Rattle.machine.proofs.Chosen.{chosen}
use Rattle.machine.proofs.Orders.{halts_somewhere}
use Rattle.machine.proofs.Freeing.{left_at, halted_at, reason_at}

-- PLACES
module _ {X Y : Type 0} (f : X → Y) where
  get_map : (xs : List X) (i : ℕ) (d : X) → i < length xs → get_elem? (map f xs) i ≡ some (f (get_or xs i d))
  get_map [] i d low = absurd (let no : ⊥ = omega (arith, low) in no)
  get_map (x ∷ xs) zero d low = refl
  get_map (x ∷ xs) (suc i) d low = let within : i < length xs = omega (arith, low) in get_map xs i d within

  -- what is there is the image of one of the list
  get_found : (xs : List X) (i : ℕ) (y : Y) → get_elem? (map f xs) i ≡ some y → (x : X) × (i < length xs) × (y ≡ f x) × (get_or xs i x ≡ x)
  get_found [] i y is = absurd (let no : ⊥ = cc in no)
  get_found (x ∷ xs) zero y is = (x, omega arith, cc, refl)
  get_found (x ∷ xs) (suc i) y is = let r = get_found xs i y is in let low = r.1 in (r.0, omega (arith, low), r.2, r.3)

  slice_map : (xs : List X) (i : ℕ) (d : X) → i < length xs → slice_get (map f xs) i ≡ Some (f (get_or xs i d))
  slice_map xs i d low = slice_get-map f xs i ∙ ap (λ (o : Option X). option_map f o) (slice_get-get_or xs i d low)

  slice_found : (xs : List X) (i : ℕ) (y : Y) → slice_get (map f xs) i ≡ Some y → (x : X) × (i < length xs) × (y ≡ f x) × (get_or xs i x ≡ x)
  slice_found [] i y is = absurd (let no : ⊥ = cc in no)
  slice_found (x ∷ xs) zero y is = (x, omega arith, cc, refl)
  slice_found (x ∷ xs) (suc i) y is = let r = slice_found xs i y is in let low = r.1 in (r.0, omega (arith, low), r.2, r.3)

there_is : {X : Type 0} (xs : List X) (i : ℕ) → i < length xs → (x : X) × (get_or xs i x ≡ x)
there_is [] i low = absurd (let no : ⊥ = omega (arith, low) in no)
there_is (x ∷ xs) zero low = (x, refl)
there_is (x ∷ xs) (suc i) low = let within : i < length xs = omega (arith, low) in there_is xs i within

same_some : {X : Type 0} (x y : X) → some x ≡ some y → x ≡ y
same_some x y e = cc

-- what is reported of lanes is reported with other events, too
reported_with : (s : State) (after all : Events) (halt : Halt) (r : Report) → r.end ≢ End.Memory → IsReportOf (record { state = s; events = after }) halt r
    → (r.events ≡ after) × IsReportOf (record { state = s; events = all }) halt (with_events r all)
reported_with s after all halt r kept (inl is) = absurd (kept (ap (λ (x : Report). x.end) is))
reported_with s after all halt r kept (inr (has, ends, (first, t))) = (
  has,
  inr (
    refl,
    ends,
    (
      first,
      record {
        there = t.there;
        outputs = t.outputs;
        cells = t.cells;
        deferred = t.deferred;
        requests = t.requests;
        credits =
            t.credits;
        out = t.out;
      },
    ),
  ),
)

pub ends_in_memory : (k : SoFar) (r : Report) → IsReportOf k Halt.Memory r → r.end ≡ End.Memory
ends_in_memory k r (inl is) = ap (λ (x : Report). x.end) is
ends_in_memory k r (inr (has, ends, reported)) = ends

module _ {C A L : Type 0} where
  abbrev own_of : CachePadded (Runner C A L) → Account
  own_of p = (seat_of p).own

  abbrev owns : List (CachePadded (Runner C A L)) → List Account
  owns ps = map own_of ps

  owns_are : (ps : List (CachePadded (Runner C A L))) → map (λ (s : SeatView). s.own) (seats_in ps) ≡ owns ps
  owns_are [] = refl
  owns_are (p ∷ ps) = ap (λ (l : List Account). own_of p ∷ l) (owns_are ps)

  -- RUNNERS BEFORE THE FIRST EVENT
  pub record AreReady (g : Setting) (mesh : MeshId) (ps : List (CachePadded (Runner C A L))) : Type 0 where
    pub sound : IsSoundState (arriving g (lanes_in ps) [])
    pub runs : All (RunsAs g) (lanes_fixed ps)
    pub elements : mesh.elements ≡ g.elements
    pub start : mesh.start ≡ tokens_in (lanes_in ps)
    pub count : length ps ≡ g.elements
    pub fresh : AreFresh mesh (seats_in ps)
    pub new : All (λ (p : CachePadded (Runner C A L)). IsNew g.elements (bounds_of g) (padded_value p)) ps

  pub are_ready : (g : Setting) (mesh : MeshId) (ps : List (CachePadded (Runner C A L))) (raw : List Holding) (fixed : List Fixed)
      → IsSoundState (arriving g raw []) → All (RunsAs g) fixed → lanes_fixed ps ≡ fixed → (mesh.elements ≡ g.elements) × (mesh.start ≡ tokens_in raw)
      → (lanes_in ps ≡ raw) × (length ps ≡ g.elements)
      → AreFresh mesh (seats_in ps) → (bounds : Bounds) → bounds ≡ bounds_of g
      → All (λ (p : CachePadded (Runner C A L)). IsNew g.elements bounds (padded_value p)) ps → AreReady g mesh ps
  are_ready g mesh ps raw fixed sound runs same is lanes fresh bounds within new = record {
    runs = subst (λ (l : List Fixed). All (RunsAs g) l) (sym same) runs;
    sound = subst (λ (l : List Holding). IsSoundState (arriving g l [])) (sym lanes.0) sound;
    elements = is.0;
    start = is.1 ∙ ap (λ (l : List Holding). tokens_in l) (sym lanes.0);
    count = lanes.1;
    fresh = fresh;
    new = subst (λ (b : Bounds). All (λ (p : CachePadded (Runner C A L)). IsNew g.elements b (padded_value p)) ps) within new;
  }

  module _ (g : Setting) (mesh : MeshId) (keeps_events : Bool) (olds : List (CachePadded (Runner C A L))) (ready : AreReady g mesh olds) where
    fresh_at : (i : ℕ) (d : CachePadded (Runner C A L)) → i < length olds → seat_of (get_or olds i d) ≡ fresh_seat mesh i
    fresh_at i d low = ready.fresh i (seat_of (get_or olds i d)) (get_map seat_of olds i d low)

    running : (i : ℕ) (d : CachePadded (Runner C A L)) → i < length olds
        → IsRunning keeps_events g mesh (lane_in (get_or olds i d)) (padded_value (get_or olds i d))
    running i d low =
        new_running keeps_events g mesh i (lanes_in olds) (padded_value (get_or olds i d)) ready.elements ready.start
        (raw_sound g (lanes_in olds) [] ready.sound).lanes (slice_map lane_in olds i d low)
        (subst (λ (f : Fixed). RunsAs g f) (get_or-map lane_fixed olds i d (lane_fixed d) low)
        (All-get_or (RunsAs g) (lanes_fixed olds) i (lane_fixed d) (let count = length-map olds lane_fixed in omega (arith, low, count))
        ready.runs)) (fresh_at i d low) (ready.new i d low)

    pub all_run : All (λ (p : CachePadded (Runner C A L)). Runs keeps_events g mesh (padded_value p) × IsClear (padded_value p)) olds
    all_run = λ i d low. ((lane_in (get_or olds i d), running i d low), (ready.new i d low).clear)

    -- RUNNERS THAT HAVE LEFT
    module _ (order : Take) (may_stop : Bool) (news : List (CachePadded (Runner C A L))) (ended : AllEnded order keeps_events g mesh may_stop olds news)
        (count : length news ≡ length olds) (none_lost : (i : ℕ) → slice_get (departures_in news) i ≡ Some Departure.Lost → ⊥) where
      within : (i : ℕ) → i < length olds → i < length news
      within i low = omega (arith, low, count)

      ran : (i : ℕ) (d : CachePadded (Runner C A L)) → i < length olds
          → IsRunning keeps_events g mesh (lane_in (get_or olds i d)) (padded_value (get_or news i d))
      ran i d low = (ended i d low).keeps (λ (is : departure_of (get_or news i d) ≡ Departure.Lost). none_lost i
          (left_at news i d Departure.Lost (within i low) is)) (lane_in (get_or olds i d)) (running i d low)

      element : (i : ℕ) (d : CachePadded (Runner C A L)) → i < length olds → (own_of (get_or news i d)).element ≡ i
      element i d low = (ended i d low).stays.2 ∙ ap (λ (s : SeatView). s.own.element) (fresh_at i d low)

      -- the same, of what was found at its place
      module _ (i : ℕ) (p : CachePadded (Runner C A L)) (low : i < length news) (is : get_or news i p ≡ p) where
        low_old : i < length olds
        low_old = omega (arith, low, count)

        ran_at : IsRunning keeps_events g mesh (lane_in (get_or olds i p)) (padded_value p)
        ran_at = subst (λ (q : CachePadded (Runner C A L)). IsRunning keeps_events g mesh (lane_in (get_or olds i p)) (padded_value q)) is (ran i p low_old)

        element_at : (own_of p).element ≡ i
        element_at = ap (λ (q : CachePadded (Runner C A L)). (own_of q).element) (sym is) ∙ element i p low_old

        left_is : IsDeparture order g may_stop (padded_value p) (departure_of p)
        left_is = subst (λ (q : CachePadded (Runner C A L)). IsDeparture order g may_stop (padded_value q) (departure_of q)) is (ended i p low_old).departure

        placed_at : IsPlaced g i (lane_in p)
        placed_at = subst (λ (n : ℕ). IsPlaced g n (lane_in p)) element_at ran_at.ran.placed

        ran_here : Ran g mesh i (lane_in (get_or olds i p)) (lane_in p) (own_of p).deeds (own_of p).held (away (padded_value p)) ran_at.blocks
        ran_here = subst (λ (n : ℕ). Ran g mesh n (lane_in (get_or olds i p)) (lane_in p) (own_of p).deeds (own_of p).held (away (padded_value p))
            ran_at.blocks) element_at ran_at.ran

        did : ends.Ran g i (lane_in (get_or olds i p)) (own_of p) (lane_in p) (away (padded_value p)) ran_at.blocks
        did = record {
          element = element_at;
          placed = ran_here.placed;
          led = ran_here.leads;
          commits = sym ran_here.commits;
          made = ran_here.count;
          balanced = ran_here.balanced;
          held = ran_here.holds;
        }

      pub all_seats : AreAll mesh (seats_in news)
      all_seats = (
        length-map news seat_of ∙ count ∙ ready.count ∙ sym ready.elements,
        λ i s is.
            let f = get_found seat_of news i s is in
            let r = ran_at i f.0 f.1 f.3 in (
              ap (λ (x : SeatView). x.mesh) f.2 ∙ r.at,
              ap (λ (x : SeatView). x.joined) f.2 ∙ r.alone,
              ap (λ (x : SeatView). x.own.element) f.2 ∙ element_at i f.0 f.1 f.3,
            ),
      )

      pub sound_last : IsSoundState (record { setting = g; lanes = lanes_in news })
      sound_last = record {
        setting = ready.sound.setting;
        count = length-map news lane_in ∙ count ∙ ready.count;
        lanes = points (IsPlaced g) 0 (lanes_in news) (λ i h is.
            let f = slice_found lane_in news i h is in
            let at : IsPlaced g i h = subst (λ (x : Holding). IsPlaced g i x) (sym f.2) (placed_at i f.0 f.1 f.3) in
            subst (λ (n : ℕ). IsPlaced g n h) (omega arith) at);
      }

      -- THE RUN
      abbrev RanAs : ℕ → List Token × List Block → Type 0
      RanAs i x = (old new : Holding) (a : Account) → slice_get (lanes_in olds) i ≡ Some old → get_elem? (owns news) i ≡ some a
          → slice_get (lanes_in news) i ≡ Some new → ends.Ran g i old a new x.0 x.1

      abbrev HasNoted : ℕ → List Block → Type 0
      HasNoted i blocks = (l : BlockLog A) → keeps_events ≡ true → slice_get (logs_in news) i ≡ Some l → Logs (noted_in l) blocks

      abbrev Did : ℕ → List Token × List Block → Type 0
      Did i x = RanAs i x × HasNoted i x.1

      noted_at : (i : ℕ) (p : CachePadded (Runner C A L)) (low : i < length news) (is : get_or news i p ≡ p) → HasNoted i (ran_at i p low is).blocks
      noted_at i p low is = λ l on w.
          let notes : notes_of p ≡ l = ap (λ (q : CachePadded (Runner C A L)). notes_of q) (sym is) ∙ same_Some (notes_of (get_or news i p)) l
          (sym (slice_map notes_of news i p low) ∙ w) in
          subst (λ (z : BlockLog A). Logs (noted_in z) (ran_at i p low is).blocks) notes ((ran_at i p low is).noted on)

      did_at : (i : ℕ) (p : CachePadded (Runner C A L)) (low : i < length news) (is : get_or news i p ≡ p)
          → RanAs i (away (padded_value p), (ran_at i p low is).blocks)
      did_at i p low is = λ old new a o n w.
          let d = did i p low is in
          let first : lane_in (get_or olds i p) ≡ old = same_Some (lane_in (get_or olds i p)) old (sym (slice_map lane_in olds i p (low_old i p low is)) ∙ o) in
          let last : lane_in p ≡ new = ap (λ (q : CachePadded (Runner C A L)). lane_in q) (sym is) ∙ same_Some (lane_in (get_or news i p)) new
          (sym (slice_map lane_in news i p low) ∙ w) in
          let own : own_of p ≡ a = ap (λ (q : CachePadded (Runner C A L)). own_of q) (sym is) ∙ same_some (own_of (get_or news i p)) a
          (sym (get_map own_of news i p low) ∙ n) in
          let kept : List Token = away (padded_value p) in
          let blocks : List Block = (ran_at i p low is).blocks in
          subst (λ (x : Holding). ends.Ran g i x a new kept blocks) first
          (subst (λ (x : Account). ends.Ran g i (lane_in (get_or olds i p)) x new kept blocks) own
          (subst (λ (x : Holding). ends.Ran g i (lane_in (get_or olds i p)) (own_of p) x kept blocks) last d))

      pub choice : (f : ℕ → List Token × List Block) × ((i : ℕ) → i < g.elements → Did i (f i))
      choice = chosen g.elements ([], []) Did (λ i low.
          let there : i < length news = (let n = ready.count in omega (arith, low, count, n)) in
          let p = there_is news i there in
          ((away (padded_value p.0), (ran_at i p.0 there p.1).blocks), (did_at i p.0 there p.1, noted_at i p.0 there p.1)))

      abbrev kept_by : ℕ → List Token
      kept_by i = (choice.0 i).0

      abbrev blocks_of : ℕ → List Block
      blocks_of i = (choice.0 i).1

      -- WHY IT HALTS
      lane_halts : (halt : Halt) (tokens : List Token) (e : ℕ) → slice_get (departures_in news) e ≡ Some (Departure.Halted halt)
          → IsHalted (arriving g (lanes_in news) tokens) may_stop halt
      lane_halts halt tokens e is =
          let f = slice_found departure_of news e (Departure.Halted halt) is in
          let why : HaltsFreely order g may_stop (lane_in f.0) (Some halt) = subst
          (λ (l : Departure). IsDeparture order g may_stop (padded_value f.0) l) (sym f.2) (left_is e f.0 f.1 f.3) in
          halts_any g may_stop (lanes_in news) tokens e (lane_in f.0) halt (slice_map lane_in news e f.0 f.1
          ∙ ap (λ (q : CachePadded (Runner C A L)). Some (lane_in q)) f.3) (halts_somewhere order g may_stop (lane_in f.0) halt why)

      -- what each says of itself is so
      own_said : (r : Runner C A L) (departure : Departure) → (departure ≡ Departure.Lost → ⊥) → IsDeparture order g may_stop r departure
          → IsOwn order g may_stop (held_of r.lane) (reason_of departure)
      own_said r Departure.Lost none is = absurd (none refl)
      own_said r (Departure.Halted halt) none is = is
      own_said r Departure.Rested none is = is.1
      own_said r Departure.Stopped none is = is
      own_said r Departure.Waited none is = inl is

      own_reason : (e : ℕ) (h : Holding) (reason : Option Halt) → slice_get (lanes_in news) e ≡ Some h → slice_get (reasons_of (departures_in news)) e
          ≡ Some reason → IsOwn order g may_stop h reason
      own_reason e h reason lane said =
          let f = slice_found lane_in news e h lane in
          let p : CachePadded (Runner C A L) = f.0 in
          let there : slice_get (departures_in news) e ≡ Some (departure_of p) = left_at news e p (departure_of p) f.1
          (ap (λ (q : CachePadded (Runner C A L)). departure_of q) f.3) in
          let same : reason ≡ reason_of (departure_of p) =
          same_Some reason (reason_of (departure_of p)) (sym said ∙ reason_at (departures_in news) e (departure_of p) there) in
          let own = own_said (padded_value p) (departure_of p) (λ (is : departure_of p ≡ Departure.Lost). none_lost e
          (there ∙ ap (λ (l : Departure). Some l) is)) (left_is e p f.1 f.3) in
          subst (λ (o : Option Halt). IsOwn order g may_stop h o) (sym same) (subst (λ (x : Holding). IsOwn order g may_stop x (reason_of (departure_of p))) (sym f.2) own)

      pub cell : (halt : Halt) → IsHaltOf (departures_in news) halt → NamesCell g.program halt
      cell halt truth = by_left truth.1
        where
          by_halt : IsHalted (arriving g (lanes_in news) []) may_stop halt → NamesCell g.program halt
          by_halt (inl halts) = clash_cell (arriving g (lanes_in news) []) false halt (none_sound g (lanes_in news) sound_last) halts
          by_halt (inr (stop, may)) = subst (λ (h : Halt). NamesCell g.program h) (sym stop) tt

          by_left : IsFirst (reasons_of (departures_in news)) halt ⊎ (((e : ℕ) × (slice_get (departures_in news) e ≡ Some Departure.Rested))
              × NoneHalts (reasons_of (departures_in news)) × (halt ≡ Halt.NoToken)) → NamesCell g.program halt
          by_left (inl least) = by_halt (lane_halts halt [] least.0 (halted_at (departures_in news) least.0 halt least.1))
          by_left (inr (at, silent, none)) = subst (λ (h : Halt). NamesCell g.program h) (sym none) tt

      module _ (s : SeatView) (mesh_is : s.mesh ≡ mesh) (seats : accounts s ≡ map (λ (x : SeatView). x.own) (seats_in news)) (history : (n : ℕ)
          × Leaves s.mesh s.seen n) (commits : HasCommits s) (agree : Agree s) (final : IsFinal s) where
        accounts_are : accounts s ≡ owns news
        accounts_are = seats ∙ owns_are news

        all_did : ends.AllRan g (lanes_in olds) (accounts s) (lanes_in news) kept_by blocks_of
        all_did = λ e old new a o n w.
            let f = slice_found lane_in news e new w in
            let low : e < g.elements = (let l = f.1 in let n = ready.count in omega (arith, l, n, count)) in
            (choice.1 e low).0 old new a o (subst (λ (l : List Account). get_elem? l e ≡ some a) accounts_are n) w

        pub the_end : (inputs : List ℤ) (before : Events) → Began inputs (arriving g (lanes_in olds) []) before
            → ends.Ended g s inputs before (lanes_in news) blocks_of
        the_end inputs before began =
            ends_freely g ready.sound.setting s history.0 (lanes_in olds) (lanes_in news) kept_by blocks_of
            (ap (λ (m : MeshId). m.elements) mesh_is ∙ ready.elements)
            (subst (λ (l : List Token). IsPermutation l (tokens_in (lanes_in olds))) (sym (ap (λ (m : MeshId). m.start) mesh_is ∙ ready.start))
            (IsPermutation-refl (tokens_in (lanes_in olds))))
            history.1 commits agree final
            (ap (λ (l : List Account). length l) accounts_are ∙ length-map news own_of ∙ count ∙ ready.count)
            ready.sound (length-map news lane_in ∙ count ∙ ready.count) all_did inputs before began

        rests : (inputs : List ℤ) (before : Events) (x : ends.Ended g s inputs before (lanes_in news) blocks_of) (e : ℕ)
            → slice_get (departures_in news) e ≡ Some Departure.Rested → tokens_in (arriving g (lanes_in news) x.tokens).lanes ≡ []
        rests inputs before x e is =
            let f = slice_found departure_of news e Departure.Rested is in
            let seen : Leaves (seat_of f.0).mesh (own_of f.0).last 0 = (subst (λ (l : Departure). IsDeparture order g may_stop (padded_value f.0) l)
            (sym f.2) (left_is e f.0 f.1 f.3)).0 in
            let there : get_elem? (owns news) e ≡ some (own_of f.0) = get_map own_of news e f.0 f.1
            ∙ ap (λ (q : CachePadded (Runner C A L)). some (own_of q)) f.3 in
            x.rest e (own_of f.0) (subst (λ (l : List Account). get_elem? l e ≡ some (own_of f.0)) (sym accounts_are) there)
            (subst (λ (m : MeshId). Leaves m (own_of f.0).last 0) ((ran_at e f.0 f.1 f.3).at ∙ sym mesh_is) seen)

        halted : (halt : Halt) → IsHaltOf (departures_in news) halt
            → (inputs : List ℤ) (before : Events) (x : ends.Ended g s inputs before (lanes_in news) blocks_of)
            → IsHalted (arriving g (lanes_in news) x.tokens) may_stop halt
        halted halt truth inputs before x = by_left truth.1
          where
            by_left : IsFirst (reasons_of (departures_in news)) halt ⊎ (((e : ℕ) × (slice_get (departures_in news) e ≡ Some Departure.Rested))
                × NoneHalts (reasons_of (departures_in news)) × (halt ≡ Halt.NoToken)) → IsHalted (arriving g (lanes_in news) x.tokens) may_stop halt
            by_left (inl least) = lane_halts halt x.tokens least.0 (halted_at (departures_in news) least.0 halt least.1)
            by_left (inr (at, silent, none)) = inl (subst (λ (h : Halt). HaltsAs (arriving g (lanes_in news) x.tokens) false h) (sym none)
                (rests inputs before x at.0 at.1))

        logs_count : length (logs_in news) ≡ g.elements
        logs_count = length-map news notes_of ∙ count ∙ ready.count

        history_of : keeps_events ≡ true → (inputs : List ℤ) (before : Events) (x : ends.Ended g s inputs before (lanes_in news) blocks_of)
            → IsHistory (logs_in news) x.log s.mesh.start x.last
        history_of on inputs before x = record {
          leaves = subst (λ (n : ℕ). LeavesTokens n s.mesh.start x.log x.last) (sym logs_count) x.legal;
          below = subst (λ (n : ℕ). AreBelow n x.log) (sym logs_count) x.below;
          noted = λ e l is.
              let f = slice_found notes_of news e l is in
              let low : e < g.elements = (let k = f.1 in let n = ready.count in omega (arith, k, n, count)) in
              subst (λ (bs : List Block). Logs (noted_in l) bs) (sym (x.own e low)) ((choice.1 e low).1 l on is);
        }

        -- the events that are listed are those of a run that leads to these lanes
        ordered : keeps_events ≡ true → (kept after : Events) (opening : List Token) → opening ≡ tokens_in (lanes_in olds)
            → Lists (logs_in news) opening kept after → (inputs : List ℤ) (before : Events) (x : ends.Ended g s inputs before (lanes_in news) blocks_of)
            → (made : Events) × Began inputs (arriving g (lanes_in news) x.tokens) (before ++ made) × (after ≡ kept ++ made)
        ordered on kept after opening opens lists inputs before x =
            let start : opening ≡ s.mesh.start = opens ∙ sym (ap (λ (m : MeshId). m.start) mesh_is ∙ ready.start) in
            let l = lists x.log s.mesh.start x.last (history_of on inputs before x) (subst (λ (ts : List Token). IsPermutation opening ts) start
            (IsPermutation-refl opening)) in
            let o = l.1 in
            let leaves : LeavesTokens g.elements s.mesh.start o.history x.last = subst (λ (n : ℕ). LeavesTokens n s.mesh.start o.history x.last)
            logs_count o.leaves in
            let below : AreBelow g.elements o.history = subst (λ (n : ℕ). AreBelow n o.history) logs_count o.below in (
              l.0,
              subst (λ (evs : Events). Began inputs (arriving g (lanes_in news) x.tokens) (before ++ evs)) (sym o.events)
                  (x.any o.history leaves below o.blocks),
              l.2,
            )

        -- the report of these lanes
        pub shows_last : (halt : Halt) → IsHaltOf (departures_in news) halt → (now : Setting) → now ≡ g → (raw : List Holding) → raw ≡ lanes_in news
            → (logs : List (BlockLog A)) → logs ≡ logs_in news → (opening : List Token) → opening ≡ tokens_in (lanes_in olds)
            → (kept after : Events) (r : Report) → (keeps_events ≡ true → Lists logs opening kept after)
            → ((inputs : List ℤ) (in_list : Bool) (ts : List Token) (evs : Events) → IsSoundState (arriving now raw ts)
            → Began inputs (arriving now raw ts) evs → HaltsAs (arriving now raw ts) in_list halt → ShowsBut now.program (size now) inputs
            now.steps in_list false after evs r)
            → (halt ≡ Halt.Stop → (inputs : List ℤ) (in_list : Bool) (ts : List Token) (evs : Events) → IsSoundState (arriving now raw ts)
            → Began inputs (arriving now raw ts) evs → ShowsBut now.program (size now) inputs now.steps in_list true after evs r)
            → (inputs : List ℤ) (before : Events) → Began inputs (arriving g (lanes_in olds) []) before → ShowsOn keeps_events g.program (size g)
            inputs g.steps may_stop kept before r
        shows_last halt truth now setting raw is logs logs_are opening opens kept after r lists shows stopped inputs before began = by_end
            (the_end inputs before began)
          where
            by_end : ends.Ended g s inputs before (lanes_in news) blocks_of → ShowsOn keeps_events g.program (size g) inputs g.steps may_stop kept before r
            by_end x = by_keeping keeps_events refl
              where
                same : arriving g (lanes_in news) x.tokens ≡ arriving now raw x.tokens
                same = ap (λ (l : List Holding). arriving g l x.tokens) (sym is) ∙ ap (λ (z : Setting). arriving z raw x.tokens) (sym setting)

                sound : IsSoundState (arriving now raw x.tokens)
                sound = subst (λ (w : State). IsSoundState w) same x.sound

                by_halt : (all : Events) → Began inputs (arriving now raw x.tokens) all → IsHalted (arriving now raw x.tokens) may_stop halt
                    → ShowsBut now.program (size now) inputs now.steps false may_stop after all r
                by_halt all last (inl halts) =
                    let shown = shows inputs false x.tokens all sound last halts in
                    (shown.0, shows_any now.program (size now) inputs now.steps false may_stop (with_events r shown.0) shown.1, shown.2)
                by_halt all last (inr (stop, may)) =
                    let shown = stopped stop inputs false x.tokens all sound last in (
                      shown.0,
                      subst (λ (m : Bool). ShowsInOrder now.program (size now) inputs now.steps false m (with_events r shown.0)) (sym may)
                          shown.1,
                      shown.2,
                    )

                reported : (all : Events) → Began inputs (arriving g (lanes_in news) x.tokens) all → ShowsBut g.program (size g) inputs g.steps false
                    may_stop after all r
                reported all last = subst (λ (z : Setting). ShowsBut z.program (size z) inputs z.steps false may_stop after all r) setting
                    (by_halt all (subst (λ (w : State). Began inputs w all) same last) (subst (λ (w : State). IsHalted w may_stop halt) same
                    (halted halt truth inputs before x)))

                by_keeping : (b : Bool) → keeps_events ≡ b → ShowsOn keeps_events g.program (size g) inputs g.steps may_stop kept before r
                by_keeping false off =
                    let t = reported (before ++ events_in x.log) x.began in
                    (t.0, t.1, λ on same. absurd (let no : ⊥ = cc in no))
                by_keeping true on =
                    let o = ordered on kept after opening opens (subst (λ (l : List (BlockLog A)). Lists l opening kept after) logs_are (lists on))
                    inputs before x in
                    let t = reported (before ++ o.0) o.1 in
                    (t.0, t.1, λ yes at. t.2 (o.2 ∙ ap (λ (l : Events). l ++ o.0) at))

        -- and how the run ended
        pub ends_last : (halt : Halt) → IsHaltOf (departures_in news) halt → (now : Setting) → now ≡ g → (raw : List Holding) → raw ≡ lanes_in news
            → (logs : List (BlockLog A)) → logs ≡ logs_in news → (opening : List Token) → opening ≡ tokens_in (lanes_in olds)
            → (kept after : Events) (r : Report) → (keeps_events ≡ true → Lists logs opening kept after)
            → (let w : State = record { setting = now; lanes = raw } in let k : SoFar = record { state = w; events = after } in IsReportOf k halt r)
            → (inputs : List ℤ) (before : Events) → Began inputs (arriving g (lanes_in olds) []) before → r.end ≢ End.Memory
            → EndsOn order keeps_events g inputs may_stop kept before r
        ends_last halt truth now setting raw is logs logs_are opening opens kept after r lists reported inputs before began ne = by_end
            (the_end inputs before began)
          where
            last_state : State
            last_state = record { setting = g; lanes = lanes_in news }

            reported_here : let k : SoFar = record { state = last_state; events = after } in IsReportOf k halt r
            reported_here = subst (λ (z : Setting). let w : State = record { setting = z; lanes = lanes_in news }
                in let k : SoFar = record { state = w; events = after } in IsReportOf k halt r) setting
                (subst (λ (l : List Holding). let w : State = record { setting = now; lanes = l }
                in let k : SoFar = record { state = w; events = after } in IsReportOf k halt r) is reported)

            by_end : ends.Ended g s inputs before (lanes_in news) blocks_of → EndsOn order keeps_events g inputs may_stop kept before r
            by_end x = by_keeping keeps_events refl
              where
                by_why : IsFirst (reasons_of (departures_in news)) halt ⊎ (((e : ℕ) × (slice_get (departures_in news) e ≡ Some Departure.Rested))
                    × NoneHalts (reasons_of (departures_in news)) × (halt ≡ Halt.NoToken))
                    → IsFirst (reasons_of (departures_in news)) halt ⊎ (NoneHalts (reasons_of (departures_in news))
                    × (tokens_in (arriving g (lanes_in news) x.tokens).lanes ≡ []) × (halt ≡ Halt.NoToken))
                by_why (inl least) = inl least
                by_why (inr (at, silent, none)) = inr (silent, rests inputs before x at.0 at.1, none)

                ending : (all : Events) → Began inputs (arriving g (lanes_in news) x.tokens) all → EndsTaking order g inputs may_stop (with_events r all)
                ending all last = record {
                  lanes = lanes_in news;
                  on_way = x.tokens;
                  began = last;
                  reasons = reasons_of (departures_in news);
                  count = length-map (departures_in news) reason_of ∙ length-map news departure_of ∙ sym (length-map news lane_in);
                  own = own_reason;
                  halt = halt;
                  least = by_why truth.1;
                  reported = (reported_with last_state after all halt r ne reported_here).1;
                }

                by_keeping : (b : Bool) → keeps_events ≡ b → EndsOn order keeps_events g inputs may_stop kept before r
                by_keeping false off = (before ++ events_in x.log, ending (before ++ events_in x.log) x.began, λ on same. absurd (let no : ⊥ = cc in no))
                by_keeping true on =
                    let o = ordered on kept after opening opens (subst (λ (l : List (BlockLog A)). Lists l opening kept after) logs_are (lists on))
                    inputs before x in (
                      before ++ o.0,
                      ending (before ++ o.0) o.1,
                      λ yes at. (reported_with last_state after after halt r ne reported_here).0 ∙ o.2
                          ∙ ap (λ (l : Events). l ++ o.0) at,
                    )
