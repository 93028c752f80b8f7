-- The report of a machine shows a run.
use Rattle.std.proofs.Common.{◌≡◌, refl, sym, ◌∙◌, ap, subst, ℕ, zero, suc, ◌*◌, ◌%◌, ◌<◌, ◌≤◌, Bool, true, false, ℤ, List, [], ◌∷◌, ◌++◌, length}
use Rattle.std.proofs.Common.{map, drop, replicate, Option, Some, None, arith, inl, inr}
use Rattle.std.specs.Prelude.{◌==◌, slice_get, sum}
use Rattle.std.proofs.Math.Dec.{eqb-suc-zero}
use Rattle.std.proofs.Math.Nat.{one-le-mul}
use Rattle.std.proofs.lemmas.List.{length-replicate, length-map}
use Rattle.std.proofs.lemmas.List.Elements.{All-contains, All-replicate}
use Rattle.std.proofs.lemmas.List.Sorted.{IsPermutation-refl}
use Rattle.std.proofs.lemmas.Option.{get_or_from_slice_get, slice_get_within}
use Rattle.tags.specs.declared.value.Value.{Value}
use Rattle.tags.specs.declared.token.To.{To}
use Rattle.tags.specs.declared.token.Token.{Token}
use Rattle.semantics.specs.Program.{Program}
use Rattle.semantics.specs.Rule.{array_base}
use Rattle.semantics.specs.Machine.{Machine, CellState, Vacant, Full, Size, Events, at_start, outputs_of, reader_count}
use Rattle.semantics.specs.declared.report.End.{End}
use Rattle.semantics.specs.Report.{Report, IsPicture, HasEnd, sum_below, waiters, one_if}
use Rattle.semantics.proofs.Sums.{sum_of_zeros}
use Rattle.element.specs.Near.{IsNearTo, IsNearToken}
use Rattle.element.specs.Parts.{bounds}
use Rattle.element.specs.Holding.{Holding, held_of, queued}
use Rattle.schedule.specs.declared.elements.Elements.{Elements}
use Rattle.schedule.specs.declared.halt.Halt.{Halt}
use Rattle.schedule.specs.Setting.{Setting, size, total}
use Rattle.schedule.specs.State.{State, IsPlaced, IsSoundState, AreParts, IsWell, state_of, delivered}
use Rattle.schedule.specs.Runs.{Began, HaltsAs, NamesCell}
use Rattle.schedule.specs.Reported.{ShowsLaneParts, ShowsLanes, opening_picture, IsReportOf, ReportsLanes, Reports, value_of, readers_of}
use Rattle.schedule.specs.Reported.{slot_of_lane, cell_readers, slot_at, entry, full_below}
use Rattle.schedule.specs.Unlisted.{with_events, Quietly, ReportsSoFar, so_far_with}
use Rattle.schedule.specs.Shown.{ShowsInOrder}
use Rattle.schedule.proofs.Places.{first_get, to_map}
use Rattle.schedule.proofs.Pictures.{IsKnown, known_lanes, pictured}
use Rattle.schedule.proofs.Showing.{picked, shows_here, within_steps}

only_first : (n : ℕ) (f : ℕ → ℕ) → ((x : ℕ) → f (suc x) ≡ 0) → sum_below (suc n) f ≡ f 0
only_first zero f none = omega arith
only_first (suc n) f none = let a : sum_below (suc n) f ≡ f 0 = only_first n f none in let b : f (suc n) ≡ 0 = none n in omega arith

first_of_some : (n : ℕ) (f : ℕ → ℕ) → 0 < n → ((x : ℕ) → f (suc x) ≡ 0) → sum_below n f ≡ f 0
first_of_some zero f some none = absurd (omega arith)
first_of_some (suc n) f some none = only_first n f none

vacant_not_full : (v : Value) → (let c : CellState = Vacant in c) ≡ Full v → ⊥
vacant_not_full v e = let no : ⊥ = cc in no

opening_pictured : (p : Program) (z : Size) (inputs : List ℤ) → 0 < z.elements * z.frames → IsPicture p z (at_start p inputs) (opening_picture (outputs_of p))
opening_pictured p z inputs some = record {
  output_count = length-replicate (outputs_of p) None;
  outputs = λ j v got. sym (get_or_from_slice_get (replicate (outputs_of p) None) j v None got) ∙ All-replicate (λ (o : Option Value). o ≡ None)
      (outputs_of p) None refl j None (slice_get_within (replicate (outputs_of p) None) j v got);
  ascend = λ i j a b low got. absurd (let no : ⊥ = cc in no);
  cells = λ x v. ((λ there. absurd (omega (arith, there.1))), (λ full. absurd (vacant_not_full v full)));
  deferred = sym (sum_of_zeros (array_base p (length p.arrays)) (λ x. reader_count ((at_start p inputs).store.cells x)) (λ x. refl));
  waiting_frames = refl;
  waiting_credits = sym (sum_of_zeros (z.elements * z.frames) (λ f. sum_below 512 (λ r. waiters ((at_start p inputs).store.slots f r)))
      (λ f. sum_of_zeros 512 (λ r. waiters ((at_start p inputs).store.slots f r)) (λ r. refl)));
  frames_out = sym (first_of_some (z.elements * z.frames) (λ f. one_if (f == 0)) some (λ f. ap (λ (b : Bool). one_if b) (eqb-suc-zero f)));
}

pub shows_opening : (s : State) (inputs : List ℤ) (by_list : Bool) (outputs : ℕ) → IsSoundState s → outputs ≡ outputs_of s.setting.program
    → ShowsInOrder s.setting.program (size s.setting) inputs s.setting.steps by_list false (opening_picture outputs)
shows_opening s inputs by_list outputs sound is =
    let some : 1 ≤ total s.setting = (let a = sound.setting.some in let b = sound.setting.some_frames
    in one-le-mul {a = s.setting.elements} {b = s.setting.frames} (omega arith) (omega arith)) in
    subst (λ (n : ℕ). ShowsInOrder s.setting.program (size s.setting) inputs s.setting.steps by_list false (opening_picture n)) (sym is) (record {
      last = at_start s.setting.program inputs;
      run = (IsPermutation-refl (at_start s.setting.program inputs).pool, refl);
      picture = opening_pictured s.setting.program (size s.setting) inputs some;
      ends = tt;
      within = λ e low. let none : 0 ≤ s.setting.steps = omega arith in none;
    })

-- lanes with tokens that are on their way, each seen where it is addressed to
abbrev arriving : Setting → List Holding → List Token → State
arriving g raw ts = record { setting = g; lanes = delivered ts raw }

-- what is reported of lanes is a picture, whatever tokens are on their way
pub lanes_pictured : (g : Setting) (raw : List Holding) (ts : List Token) (mach : Machine) (r : Report) → IsSoundState (arriving g raw ts)
    → AreParts (arriving g raw ts) mach
    → ShowsLaneParts g raw r.outputs r.cells r.deferred r.waiting_frames r.waiting_credits r.frames_out → IsPicture g.program (size g) mach r
lanes_pictured g raw ts mach r sound stands reported =
    let known = to_map (IsKnown g mach.store) (IsKnown g mach.store) (λ (h : Holding). queued h ts)
    (λ (i : ℕ) (h : Holding) (k : IsKnown g mach.store i (queued h ts)). record {
      element = k.element;
      elements = k.elements;
      frames = k.frames;
      width = k.width;
      sound = k.sound;
      part = k.part;
    }) 0 raw (known_lanes (arriving g raw ts) mach sound stands) in
    let count = sym (length-map raw (λ (h : Holding). queued h ts)) ∙ sound.count in
    pictured g mach.store raw sound.setting count known stands.bounded mach.pool r reported.0 (record {
      there = reported.1;
      outputs = reported.2;
      cells = reported.3;
      deferred = reported.4;
      requests = reported.5;
      credits = reported.6;
      out = reported.7;
    })

-- the cell of a clash is one of the program's
pub clash_cell : (s : State) (by_list : Bool) (halt : Halt) → IsSoundState s → HaltsAs s by_list halt → NamesCell s.setting.program halt
clash_cell s by_list (Halt.Clash cell) sound (i, pick, (h, can, clash)) =
    let p = first_get (IsPlaced s.setting) s.lanes i h sound.lanes can.0.there in
    let near : IsNearToken (bounds s.setting.program h.part.shape) clash.token = All-contains (IsNearToken (bounds s.setting.program h.part.shape))
    h.queue clash.token p.sound.near (picked h pick clash.token clash.picks) in
    subst (λ (to : To). IsNearTo (bounds s.setting.program h.part.shape) to) clash.second.to near.to
clash_cell s by_list Halt.NoToken sound halts = tt
clash_cell s by_list Halt.Steps sound halts = tt
clash_cell s by_list (Halt.Stuck rule) sound halts = tt
clash_cell s by_list Halt.Memory sound halts = tt
clash_cell s by_list Halt.Stop sound halts = absurd halts

pub opening_is : (n : ℕ) (outputs : List (Option Value)) (cells : List (ℕ × Value)) (evs : Events) → outputs ≡ replicate n None → cells ≡ [] → evs ≡ []
    → (let r : Report = record {
      end = End.Memory;
      outputs = outputs;
      cells = cells;
      deferred = 0;
      waiting_frames = 0;
      waiting_credits = 0;
      frames_out = 1;
      events = evs;
    } in r) ≡ opening_picture n
opening_is n outputs cells evs o c e = λ i. record {
  end = End.Memory;
  outputs = o i;
  cells = c i;
  deferred = 0;
  waiting_frames = 0;
  waiting_credits =
      0;
  frames_out = 1;
  events = e i;
}

-- tokens that are on their way change nothing of what is reported of a lane
reported_alike : {X : Type 0} (F : Option Holding → X) (ts : List Token) → ((h : Holding) → F (Some (queued h ts)) ≡ F (Some h))
    → (lanes : List Holding) (i : ℕ) → F (slice_get (delivered ts lanes) i) ≡ F (slice_get lanes i)
reported_alike F ts same [] i = refl
reported_alike F ts same (h ∷ hs) zero = same h
reported_alike F ts same (h ∷ hs) (suc i) = reported_alike F ts same hs i

full_alike : (n : ℕ) (ts : List Token) (lanes : List Holding) (k : ℕ) → full_below n (delivered ts lanes) k ≡ full_below n lanes k
full_alike n ts lanes zero = refl
full_alike n ts lanes (suc k) = λ i. full_alike n ts lanes k i ++ entry k (reported_alike (λ (o : Option Holding). value_of k o) ts (λ h. refl) lanes (k % n) i)

first_queued : (ts : List Token) (lanes : List Holding) (h : Holding) → slice_get lanes 0 ≡ Some h → slice_get (delivered ts lanes) 0 ≡ Some (queued h ts)
first_queued ts [] h e = absurd (let no : ⊥ = cc in no)
first_queued ts (x ∷ xs) h e = let same : x ≡ h = cc in ap (λ (y : Holding). Some (queued y ts)) same

-- what is reported of lanes is reported of them with the tokens that are on their way
reports_arriving : (g : Setting) (raw : List Holding) (ts : List Token) (r : Report) → ShowsLaneParts g raw r.outputs r.cells r.deferred
    r.waiting_frames r.waiting_credits r.frames_out
    → (first : Holding) × ShowsLanes g (delivered ts raw) first r
reports_arriving g raw ts r reported =
    let n = g.elements in
    let readers : (x : ℕ) → cell_readers n raw x ≡ cell_readers n (delivered ts raw) x = λ x. sym
    (reported_alike (λ (o : Option Holding). readers_of x o) ts (λ h. refl) raw (x % n)) in
    let slots : (f k : ℕ) → slot_at n raw f k ≡ slot_at n (delivered ts raw) f k = λ f k. sym
    (reported_alike (λ (o : Option Holding). slot_of_lane f k o) ts (λ h. refl) raw (f % n)) in (
      queued reported.0 ts,
      record {
        there = first_queued ts raw reported.0 reported.1;
        outputs = reported.2;
        cells = reported.3 ∙ sym (full_alike n ts raw (sum g.program.arrays));
        deferred = reported.4 ∙ (λ i. sum_below (sum g.program.arrays) (λ x. readers x i));
        requests = reported.5;
        credits = reported.6 ∙ (λ i. sum_below (total g) (λ f. sum_below g.width (λ k. waiters (slots f k i))));
        out = reported.7;
      },
    )

-- the report of elements is one of the machine with these events
pub reported_of : {C A : Type 0} (program : C → Program) (width : C → ℕ) (m : Elements C A) (list : Events) (halt : Halt) (r : Report)
    → Reports program width m list halt r
    → IsReportOf (so_far_with (state_of program width m) list) halt r
reported_of program width m list halt r (inl is) = inl is
reported_of program width m list halt r (inr (has, ends, reported)) = inr (
  has,
  ends,
  reports_arriving (state_of program width m).setting
      (map held_of m.lanes.items) (drop m.arrived m.sent.items) r reported,
)

pub reported_lanes : (g : Setting) (raw : List Holding) (list : Events) (halt : Halt) (r : Report) → ReportsLanes g raw list halt r
    → (let s : State = record { setting = g; lanes = raw } in IsReportOf (so_far_with s list) halt r)
reported_lanes g raw list halt r (inl is) = inl is
reported_lanes g raw list halt r (inr (has, ends, reported)) =
    inr (
      has,
      ends,
      (
        reported.0,
        record {
          there = reported.1;
          outputs = reported.2;
          cells = reported.3;
          deferred = reported.4;
          requests = reported.5;
          credits =
              reported.6;
          out = reported.7;
        },
      ),
    )

-- what is reported of a machine is reported of it with tokens that are on their way
pub reported_arriving : (g : Setting) (raw : List Holding) (ts : List Token) (list : Events) (halt : Halt) (r : Report)
    → (let s : State = record { setting = g; lanes = raw } in IsReportOf (so_far_with s list) halt r)
    → IsReportOf (so_far_with (arriving g raw ts) list) halt r
reported_arriving g raw ts list halt r (inl is) = inl is
reported_arriving g raw ts list halt r (inr (has, ends, (first, t))) =
    inr (has, ends, reports_arriving g raw ts r (first, t.there, t.outputs, t.cells, t.deferred, t.requests, t.credits, t.out))

-- with the events of a run, or with none, the report of lanes shows that run, whatever tokens are on their way
pub shows_lanes : (g : Setting) (raw : List Holding) (ts : List Token) (list : Events) (halt : Halt) (r : Report) → IsSoundState (arriving g raw ts)
    → ReportsLanes g raw list halt r
    → (inputs : List ℤ) (by_list : Bool) (evs : Events) → Began inputs (arriving g raw ts) evs → HaltsAs (arriving g raw ts) by_list halt
    → (shown : Events) × ShowsInOrder g.program (size g) inputs g.steps by_list false (with_events r shown) × (list ≡ evs → r.events ≡ shown)
shows_lanes g raw ts list halt r sound (inl is) inputs by_list evs began halts =
    let shown = shows_opening (arriving g raw ts) inputs by_list (outputs_of g.program) sound refl in (
      [],
      subst (λ (x : Report). ShowsInOrder g.program (size g) inputs g.steps by_list false (with_events x [])) (sym is) shown,
      λ same. ap
          (λ (x : Report). x.events) is,
    )
shows_lanes g raw ts list halt r sound (inr (has, ends, reported)) inputs by_list evs began halts =
    let picture = lanes_pictured g raw ts began.machine (with_events r evs) sound began.stands reported in
    (evs, shows_here inputs (arriving g raw ts) evs by_list halt (with_events r evs) sound began halts ends refl picture, λ same. has ∙ same)

-- the same of a run that was stopped
pub stopped_lanes : (g : Setting) (raw : List Holding) (ts : List Token) (list : Events) (r : Report) → IsSoundState (arriving g raw ts)
    → ReportsLanes g raw list Halt.Stop r
    → (inputs : List ℤ) (by_list : Bool) (evs : Events) → Began inputs (arriving g raw ts) evs
    → (shown : Events) × ShowsInOrder g.program (size g) inputs g.steps by_list true (with_events r shown) × (list ≡ evs → r.events ≡ shown)
stopped_lanes g raw ts list r sound (inl is) inputs by_list evs began =
    let shown = shows_opening (arriving g raw ts) inputs by_list (outputs_of g.program) sound refl in (
      [],
      subst (λ (x : Report). ShowsInOrder g.program (size g) inputs g.steps by_list true (with_events x [])) (sym is)
          (record { last = shown.last; run = shown.run; picture = shown.picture; ends = tt; within = shown.within }),
      λ same. ap (λ (x : Report). x.events) is,
    )
stopped_lanes g raw ts list r sound (inr (has, ends, reported)) inputs by_list evs began = (
  evs,
  record {
    last = began.machine;
    run = began.run;
    picture = lanes_pictured g raw ts began.machine (with_events r evs) sound began.stands reported;
    ends = subst (λ (e : End). HasEnd g.program (size g) g.steps by_list true evs began.machine e) (sym ends) refl;
    within = within_steps (arriving g raw ts) evs sound began.counts;
  },
  λ same. has ∙ same,
)

-- no events are reported where none are listed
pub unlisted_lanes : (g : Setting) (raw : List Holding) (list : Events) (halt : Halt) (r : Report) → ReportsLanes g raw list halt r → list ≡ [] → r.events ≡ []
unlisted_lanes g raw list halt r (inl is) none = ap (λ (x : Report). x.events) is
unlisted_lanes g raw list halt r (inr (has, ends, reported)) none = has ∙ none

-- the same of elements in memory
pub shows_reported : {C A : Type 0} (program : C → Program) (width : C → ℕ) (m : Elements C A) (list : Events) (halt : Halt) (r : Report)
    → IsWell program width m → Reports program width m list halt r
    → (inputs : List ℤ) (by_list : Bool) (evs : Events) → Began inputs (state_of program width m) evs → HaltsAs (state_of program width m) by_list halt
    → (shown : Events) × ShowsInOrder (state_of program width m).setting.program (size (state_of program width m).setting) inputs
    (state_of program width m).setting.steps by_list false (with_events r shown) × (list ≡ evs → r.events ≡ shown)
shows_reported {C} {A} program width m list halt r well is_report inputs by_list evs began halts =
    shows_lanes (state_of program width m).setting (map held_of m.lanes.items) (drop m.arrived m.sent.items) list halt r well.sound is_report inputs
    by_list evs began halts

-- with no events listed it is, with the events that led to the machine, the report of that machine
pub reports_quietly : {C A : Type 0} (program : C → Program) (width : C → ℕ) (m : Elements C A) (list : Events) (halt : Halt) (r : Report)
    → IsWell program width m → Reports program width m list halt r → list ≡ []
    → (evs : Events) → Quietly (ReportsSoFar (so_far_with (state_of program width m) evs) halt) r
reports_quietly program width m list halt r well (inl is) none evs =
    let s : State = state_of program width m in (
      ap (λ (x : Report). x.events) is,
      [],
      record {
        reported = inl (ap (λ (x : Report). with_events x []) is);
        shows = λ inputs by_list began halts. subst (λ (x : Report). ShowsInOrder s.setting.program (size s.setting) inputs s.setting.steps by_list
            false (with_events x [])) (sym is) (shows_opening s inputs by_list (outputs_of s.setting.program) well.sound refl);
      },
    )
reports_quietly program width m list halt r well (inr (has, ends, reported)) none evs =
    let s : State = state_of program width m in
    let raw : List Holding = map held_of m.lanes.items in
    let ts : List Token = drop m.arrived m.sent.items in (
      has ∙ none,
      evs,
      record {
        reported = inr (refl, ends, reports_arriving s.setting raw ts (with_events r evs) reported);
        shows = λ inputs by_list began halts. shows_here inputs s evs by_list halt (with_events r evs) well.sound began halts ends refl
            (lanes_pictured s.setting raw ts began.machine (with_events r evs) well.sound began.stands reported);
      },
    )
