-- From a legal history of blocks to what is known of the lanes, and to the report.
use Rattle.std.proofs.Common.{◌≡◌, refl, sym, ◌∙◌, ap, subst, ℕ, suc, ◌+◌, ◌<◌, Bool, true, false, List, [], ◌∷◌, ◌++◌, length, Option, Some, None, arith}
use Rattle.std.specs.Prelude.{slice_get, count_by, ◌==◌, if◌then◌else◌}
use Rattle.std.proofs.lemmas.List.Sums.{sum_by-append, sum_by-cons}
use Rattle.std.proofs.lemmas.List.Sorted.{IsPermutation-trans}
use Rattle.std.proofs.lemmas.Option.{slice_get_within}
use Rattle.lemmas.proofs.SliceGet.{get_some}
use Rattle.tags.specs.declared.token.Token.{Token}
use Rattle.semantics.specs.Machine.{Machine, Events, at_start}
use Rattle.element.specs.Parts.{Part, IsPart}
use Rattle.element.specs.Holding.{Holding, queued}
use Rattle.schedule.specs.State.{AllFrom, tokens_in}
use Rattle.schedule.proofs.Places.{from_map}
use Rattle.schedule.proofs.Reports.{shows_lanes, stopped_lanes}
use Rattle.rounds.specs.Turns.{arriving}
use Rattle.law_linearization.specs.History.{Act, Block, by_element, events_in, blocks_by, Begins, count_acts}
use Rattle.law_linearization.specs.HistoryLaws.{Came, BeganFreely, ShowsFreely, StopsFreely}
use Rattle.law_linearization.proofs.HistoryRunning.{run_of_history}

-- LISTS
pub points : {X : Type 0} (P : ℕ → X → Type 0) (k : ℕ) (xs : List X) → ((i : ℕ) (x : X) → slice_get xs i ≡ Some x → P (k + i) x) → AllFrom P k xs
points P k [] all = tt
points P k (x ∷ xs) all =
    let here : k + 0 ≡ k = omega arith in (
      subst (λ (n : ℕ). P n x) here (all 0 x refl),
      points P (suc k) xs (λ i y e. let there : k + suc i ≡ suc k + i = omega arith in subst (λ (n : ℕ). P n y) there (all (suc i) y e)),
    )

pub at_all : {X : Type 0} (P : ℕ → X → Type 0) (xs : List X) → ((i : ℕ) (x : X) → slice_get xs i ≡ Some x → P i x) → AllFrom P 0 xs
at_all P xs all = points P 0 xs (λ i x e. let same : i ≡ 0 + i = omega arith in subst (λ (n : ℕ). P n x) same (all i x e))

-- COUNTS
abbrev pub made_by : ℕ → Events → ℕ
made_by i evs = count_by (λ (ev : ℕ × Token). ev.0 == i) evs

abbrev ticks : ℕ → ℕ × Token → ℕ
ticks i ev = if ev.0 == i then 1 else 0

count_one : (i e : ℕ) (acts : List Act) (t : Bool) → (e == i) ≡ t → made_by i (by_element e acts) ≡ (if t then length acts else 0)
count_one i e [] true is = refl
count_one i e [] false is = refl
count_one i e (a ∷ later) true is =
    let c : made_by i (by_element e (a ∷ later)) ≡ ticks i (e, a.token) + made_by i (by_element e later) =
    sum_by-cons (ticks i) (e, a.token) (by_element e later) in
    let h : ticks i (e, a.token) ≡ 1 = ap (λ (b : Bool). if b then 1 else 0) is in
    let r : made_by i (by_element e later) ≡ length later = count_one i e later true is in
    omega (arith, c, h, r)
count_one i e (a ∷ later) false is =
    let c : made_by i (by_element e (a ∷ later)) ≡ ticks i (e, a.token) + made_by i (by_element e later) =
    sum_by-cons (ticks i) (e, a.token) (by_element e later) in
    let h : ticks i (e, a.token) ≡ 0 = ap (λ (b : Bool). if b then 1 else 0) is in
    let r : made_by i (by_element e later) ≡ 0 = count_one i e later false is in
    omega (arith, c, h, r)

count_block : (i : ℕ) (b : Block) (later : List Block) (t : Bool) → (b.element == i) ≡ t → made_by i (events_in later) ≡ count_acts (blocks_by i later)
    → made_by i (events_in (b ∷ later)) ≡ count_acts (blocks_by i (b ∷ later))
count_block i b later true is rest =
    let c : made_by i (events_in (b ∷ later)) ≡ made_by i (by_element b.element b.acts) + made_by i (events_in later) =
    sum_by-append (ticks i) (by_element b.element b.acts) (events_in later) in
    let h : made_by i (by_element b.element b.acts) ≡ length b.acts = count_one i b.element b.acts true is in
    let s : count_acts (blocks_by i (b ∷ later)) ≡ length b.acts + count_acts (blocks_by i later) =
    ap (λ (t : Bool). count_acts ((if t then b ∷ [] else []) ++ blocks_by i later)) is in
    omega (arith, c, h, s, rest)
count_block i b later false is rest =
    let c : made_by i (events_in (b ∷ later)) ≡ made_by i (by_element b.element b.acts) + made_by i (events_in later) =
    sum_by-append (ticks i) (by_element b.element b.acts) (events_in later) in
    let h : made_by i (by_element b.element b.acts) ≡ 0 = count_one i b.element b.acts false is in
    let s : count_acts (blocks_by i (b ∷ later)) ≡ count_acts (blocks_by i later) =
    ap (λ (t : Bool). count_acts ((if t then b ∷ [] else []) ++ blocks_by i later)) is in
    omega (arith, c, h, s, rest)

pub count_events : (i : ℕ) (log : List Block) → made_by i (events_in log) ≡ count_acts (blocks_by i log)
count_events i [] = refl
count_events i (b ∷ later) = count_block i b later (b.element == i) refl (count_events i later)

-- THE LANES
abbrev held_or : Holding → Option Holding → Holding
held_or d None = d
held_or d (Some h) = h

pub began_freely : BeganFreely
began_freely g good inputs [] log last tokens count placed near bounded below leaves begins rest =
    absurd (let some : 0 < g.elements = good.some in let no : ⊥ = omega (arith, some, count) in no)
began_freely g good inputs (first ∷ others) log last tokens count placed near bounded below leaves begins rest =
    let lanes : List Holding = first ∷ others in
    let start : Machine = at_start g.program inputs in
    let parts : ℕ → Part = λ e. (held_or first (slice_get (first ∷ others) e)).part in
    let begun : (e : ℕ) → e < g.elements → Begins g start log (parts e) e
    = λ e low. let x = get_some (first ∷ others) e (subst (λ (n : ℕ). e < n) (sym count) low) in
    subst (λ (o : Option Holding). Begins g start log (held_or first o).part e) (sym x.1) (begins e x.0 x.1).0 in
    let came : Came g start log last parts = run_of_history g good log start last parts near bounded below leaves begun in
    let is : AllFrom (λ (i : ℕ) (h : Holding). IsPart h.part came.machine.store) 0 (first ∷ others)
    = at_all (λ (i : ℕ) (h : Holding). IsPart h.part came.machine.store) (first ∷ others)
    (λ i h e. subst (λ (o : Option Holding). IsPart (held_or first o).part came.machine.store) e
    (came.is i (subst (λ (n : ℕ). i < n) count (slice_get_within (first ∷ others) i h e))).1) in
    let counts : AllFrom (λ (i : ℕ) (h : Holding). h.made ≡ made_by i (events_in log)) 0 (first ∷ others)
    = at_all (λ (i : ℕ) (h : Holding). h.made ≡ made_by i (events_in log)) (first ∷ others) (λ i h e. (begins i h e).1 ∙ sym (count_events i log)) in
    record {
      machine = came.machine;
      run = came.run;
      stands = record {
        parts =
            from_map (λ (i : ℕ) (h : Holding). IsPart h.part came.machine.store) (λ (i : ℕ) (h : Holding). IsPart h.part came.machine.store)
            (λ (h : Holding). queued h tokens) (λ (i : ℕ) (h : Holding) p. p) 0 (first ∷ others) is;
        tokens = IsPermutation-trans came.machine.pool last (tokens_in (arriving g (first ∷ others) tokens).lanes) came.pool rest;
        bounded = came.bounded;
      };
      counts =
          from_map (λ (i : ℕ) (h : Holding). h.made ≡ made_by i (events_in log)) (λ (i : ℕ) (h : Holding). h.made ≡ made_by i (events_in log))
          (λ (h : Holding). queued h tokens) (λ (i : ℕ) (h : Holding) c. c) 0 (first ∷ others) counts;
    }

pub shows_freely : ShowsFreely
shows_freely g good inputs lanes log last tokens list halt r sound count placed near bounded below leaves begins rest reports halts =
    shows_lanes g lanes tokens list halt r sound reports inputs false (events_in log)
    (began_freely g good inputs lanes log last tokens count placed near bounded below leaves begins rest) halts

pub stops_freely : StopsFreely
stops_freely g good inputs lanes log last tokens list r sound count placed near bounded below leaves begins rest reports =
    stopped_lanes g lanes tokens list r sound reports inputs false (events_in log)
    (began_freely g good inputs lanes log last tokens count placed near bounded below leaves begins rest)
