-- Runs in turn in which element 0 holds requests back.
use Rattle.std.proofs.Common.{◌≡◌, refl, sym, ◌∙◌, ap, subst, ℕ, zero, suc, ◌+◌, ◌-◌, ◌/◌, ◌%◌, ◌<◌, ◌≤◌, ◌⊎◌, inl, inr, false, List, [], ◌∷◌, ◌++◌}
use Rattle.std.proofs.Common.{length, drop, Option, Some, None, arith, append_assoc, mod-eq_of_lt}
use Rattle.std.specs.Prelude.{slice_get}
use native.Mathlib.Nat.{mod-eq-sub-mod}
use Rattle.std.proofs.Math.Nat.{zero-mod}
use Rattle.std.proofs.lemmas.List.{length-append, append-nil}
use Rattle.tags.specs.declared.token.Token.{Token}
use Rattle.semantics.specs.Machine.{Events}
use Rattle.element.specs.declared.lane.Stepped.{Stepped}
use Rattle.element.specs.declared.lane.Stepped.TheVariants.{Idle, Did, Clash, Stuck, Memory}
use Rattle.element.specs.Holding.{Holding}
use Rattle.element.specs.Requests.{held_back}
use Rattle.schedule.specs.declared.halt.Halt.{Halt}
use Rattle.schedule.specs.declared.take.Take.{Take}
use Rattle.schedule.specs.declared.take.Take.TheVariants.{Oldest, Depth}
use Rattle.schedule.specs.Setting.{Setting, total}
use Rattle.schedule.specs.Reported.{out_in}
use Rattle.schedule.specs.State.{State, tokens_in}
use Rattle.schedule.specs.Steps.{Steps, IsIdle}
use Rattle.schedule.specs.Runs.{HasToken, Then, Plays, rounds_of, steps_over}
use Rattle.schedule.specs.Turns.{first_queue, others, free_frames, AreFew, MayTakeFirst, MayTake, MayPass, Keeps, TakesNone, TakesTurn}
use Rattle.schedule.specs.Turns.{PlaysTurns, AreInTurn, Leads, PlaysTaking}
use Rattle.schedule.proofs.Playing.{Moves, moves, tokens_none, setting_stays}

-- WHAT ELSE THERE IS
pub first_is : (lanes : List Holding) (h : Holding) → slice_get lanes 0 ≡ Some h → first_queue lanes ≡ h.queue
first_is [] h there = absurd (let no : ⊥ = cc in no)
first_is (x ∷ xs) h there = let e : x ≡ h = cc in ap (λ (y : Holding). y.queue) e

pub others_first : (lanes : List Holding) (h : Holding) → slice_get lanes 0 ≡ Some h
    → others lanes ≡ (length h.queue - held_back h.queue) + length (tokens_in (drop 1 lanes))
others_first [] h there = absurd (let no : ⊥ = cc in no)
others_first (x ∷ xs) h there =
    let e : x ≡ h = cc in
    ap (λ (y : Holding). (length y.queue - held_back y.queue) + length (tokens_in xs)) e

pub tokens_drop : (lanes : List Holding) (k : ℕ) (h : Holding) → slice_get lanes k ≡ Some h
    → length (tokens_in (drop k lanes)) ≡ length h.queue + length (tokens_in (drop (k + 1) lanes))
tokens_drop [] k h there = absurd (let no : ⊥ = cc in no)
tokens_drop (x ∷ xs) zero h there =
    let e : x ≡ h = cc in
    length-append x.queue (tokens_in xs) ∙ ap (λ (y : Holding). length y.queue + length (tokens_in xs)) e
tokens_drop (x ∷ xs) (suc k) h there =
    let e : suc k + 1 ≡ suc (k + 1) = omega arith in
    subst (λ (n : ℕ). length (tokens_in (drop k xs)) ≡ length h.queue + length (tokens_in (drop n (x ∷ xs)))) (sym e) (tokens_drop xs k h there)

-- FEW
pub free_of : (free frames out all given : ℕ) → free ≡ frames - out → frames ≡ all → out ≡ given → free ≡ all - given
free_of free frames out all given is a b = is ∙ ap (λ (n : ℕ). n - out) a ∙ ap (λ (n : ℕ). all - n) b

pub free_is : (g : Setting) (lanes : List Holding) (h : Holding) → slice_get lanes 0 ≡ Some h → free_frames g lanes ≡ total g - out_in h.part.manager
free_is g [] h there = absurd (let no : ⊥ = cc in no)
free_is g (x ∷ xs) h there = let e : x ≡ h = cc in ap (λ (y : Holding). total g - out_in y.part.manager) e

pub few_yes : (g : Setting) (lanes : List Holding) (free most : ℕ) → 0 < g.elements → free ≡ free_frames g lanes → (g.elements ≡ 1 → most ≡ 0)
    → ((g.elements ≡ 1 → ⊥) → most ≡ (free - 1) / 16) → others lanes ≤ most → AreFew g lanes
few_yes g lanes free most some is single several within = by_case (others lanes) g.elements refl refl
  where
    by_case : (n e : ℕ) → n ≡ others lanes → e ≡ g.elements → AreFew g lanes
    by_case zero e none there = inl (sym none)
    by_case (suc n) zero count there = absurd (omega arith)
    by_case (suc n) (suc zero) count there = (let z : most ≡ 0 = single (sym there) in absurd (omega arith))
    by_case (suc n) (suc (suc e)) count there =
        let m : most ≡ (free - 1) / 16 = several (λ one. absurd (omega arith)) in
        inr (omega arith, omega (arith, is, m, count, within))

pub few_no : (g : Setting) (lanes : List Holding) (free most : ℕ) → free ≡ free_frames g lanes → ((g.elements ≡ 1 → ⊥) → most ≡ (free - 1) / 16)
    → most < others lanes → AreFew g lanes → ⊥
few_no g lanes free most is several beyond (inl none) = omega arith
few_no g lanes free most is several beyond (inr (more, low)) =
    let m : most ≡ (free - 1) / 16 = several (λ one. absurd (omega arith)) in
    omega (arith, is, m, low, beyond)

-- any element but element 0 takes its oldest token
pub others_take : (s : State) (e : ℕ) → 0 < e → MayTake s e 0
others_take s zero some = absurd (omega arith)
others_take s (suc e) some = refl

-- RUNS
pub leads_none : (n : ℕ) (s : State) → Leads n s [] 0 s
leads_none n s = λ turns last halt later at plays. (turns, subst (λ (k : ℕ). AreInTurn n k turns) (zero-mod n) at, plays)

small : (k n : ℕ) → k < n → k % n ≡ k
small k n low = mod-eq_of_lt low

next_place : (k n : ℕ) → k < n → suc (k % n) % n ≡ (k + 1) % n
next_place k n low = ap (λ (i : ℕ). suc i % n) (small k n low) ∙ ap (λ (i : ℕ). i % n) (let e : suc k ≡ k + 1 = omega arith in e)

-- a turn more
pub leads_turn : (n k : ℕ) (old s next : State) (made now : Events) (turn : Option ℕ) → k < n → Leads n old made k s → TakesTurn s k turn next now None
    → Leads n old (made ++ now) (k + 1) next
leads_turn n k old s next made now turn low leads taken = λ turns last halt later at plays.
    let all = leads ((k, turn) ∷ turns) last halt (now ++ later) (sym (small k n low), subst (λ (i : ℕ). AreInTurn n i turns) (sym (next_place k n low)) at)
    (next, now, later, None, taken, refl, plays) in
    (all.0, all.1, subst (λ (l : Events). PlaysTurns all.0 old last halt l) (sym (append_assoc made now later)) all.2)

-- the last turn
pub leads_last : (n k : ℕ) (old s next : State) (made now : Events) (turn : Option ℕ) (halt : Halt) → k < n → Leads n old made k s
    → TakesTurn s k turn next now (Some halt) → (all : List (ℕ × Option ℕ)) × AreInTurn n 0 all × PlaysTurns all old next halt (made ++ now)
leads_last n k old s next made now turn halt low leads taken =
    leads ((k, turn) ∷ []) next halt now (sym (small k n low), tt) (next, now, [], Some halt, taken, sym (append-nil now), (refl, refl, refl))

itself : (n : ℕ) → 0 < n → n % n ≡ 0
itself n some = let l : n - n ≡ 0 = omega arith in mod-eq-sub-mod (le_itself n) ∙ ap (λ (i : ℕ). i % n) l ∙ zero-mod n
  where
    le_itself : (n : ℕ) → n ≤ n
    le_itself n = omega arith

-- all turns of a pass
pub leads_pass : (n k : ℕ) (old s : State) (made : Events) → k ≡ n → 0 < n → Leads n old made k s → Leads n old made 0 s
leads_pass n k old s made all some leads =
    let e : k % n ≡ 0 % n = ap (λ (i : ℕ). i % n) all ∙ itself n some ∙ sym (zero-mod n) in
    λ turns last halt later at plays. leads turns last halt later (subst (λ (i : ℕ). AreInTurn n i turns) (sym e) at) plays

-- the setting stays
pub turn_setting : (old new : State) (e : ℕ) (turn : Option ℕ) (now : Events) (why : Option Halt) → TakesTurn old e turn new now why
    → new.setting ≡ old.setting
turn_setting old new e None now why taken = ap (λ (s : State). s.setting) taken.1
turn_setting old new e (Some pick) now why taken = setting_stays old new e pick taken.0.answer now taken.0.step

-- THEY END
none_has : (lanes : List Holding) (h : Holding) → slice_get lanes 0 ≡ Some h → h.queue ≡ [] → 0 < length (tokens_in lanes)
    → 0 < length (tokens_in (drop 1 lanes))
none_has lanes h there none some =
    let l : length (tokens_in lanes) ≡ length h.queue + length (tokens_in (drop 1 lanes)) = tokens_drop lanes 0 h there in
    let z : length h.queue ≡ 0 = ap (λ (q : List Token). length q) none in
    omega arith

-- where element 0 is passed over, others have tokens
pub passed_has : (s : State) → MayPass s 0 → 0 < length (tokens_in (drop 1 s.lanes))
passed_has s may = by_lanes s.lanes may.1 may.2
  where
    by_zero : (n : ℕ) → (n ≡ 0 → ⊥) → 0 < n
    by_zero zero not_zero = absurd (not_zero refl)
    by_zero (suc n) not_zero = omega arith

    by_lanes : (lanes : List Holding) → held_back (first_queue lanes) ≡ length (first_queue lanes) → (AreFew s.setting lanes → ⊥)
        → 0 < length (tokens_in (drop 1 lanes))
    by_lanes [] all few = absurd (few (inl refl))
    by_lanes (h ∷ hs) all few = by_zero (length (tokens_in hs)) (λ none.
        let e : others (h ∷ hs) ≡ 0 = (let a : held_back h.queue ≡ length h.queue = all in omega (arith, a, none)) in
        few (inl e))

-- a turn that goes on made an event, or nothing changed: others have tokens, or the element has none
abbrev pub Goes : State → ℕ → State → Type 0
Goes old zero new = (steps_over new < steps_over old) ⊎ ((new ≡ old) × (0 < length (tokens_in (drop 1 old.lanes))))
Goes old (suc e) new = (steps_over new < steps_over old) ⊎ ((new ≡ old) × IsIdle old (suc e))

goes_by : (old new : State) (e : ℕ) → Moves old e new → Goes old e new
goes_by old new zero (inl less) = inl less
goes_by old new zero (inr (same, idle, has)) =
    inr (same, none_has old.lanes idle.0 idle.1.there idle.2 (subst (λ (s : State). HasToken s) same has))
goes_by old new (suc e) (inl less) = inl less
goes_by old new (suc e) (inr (same, idle, has)) = inr (same, idle)

pub goes : (old new : State) (e : ℕ) (turn : Option ℕ) (now : Events) → TakesTurn old e turn new now None → Goes old e new
goes old new zero None now taken = inr (taken.1, passed_has old taken.0)
goes old new (suc e) None now taken = absurd taken.0
goes old new e (Some pick) now taken = goes_by old new e (moves old new e pick now taken.0)

-- so far in a pass that began at `first`: an event was made, or nothing changed, the elements from 1 to before k have no token and some have
abbrev pub Passes : State → ℕ → State → Type 0
Passes first k s = (steps_over s < steps_over first) ⊎ ((s ≡ first) × ((i : ℕ) (h : Holding) → 0 < i → i < k → slice_get s.lanes i ≡ Some h → h.queue ≡ [])
    × (0 < k → 0 < length (tokens_in (drop 1 s.lanes))))

pub passes_none : (first : State) → Passes first 0 first
passes_none first = inr (refl, (λ i h some low e. absurd (omega arith)), (λ l. absurd (omega arith)))

pub passes_turn : (first old new : State) (k : ℕ) → Passes first k old → Goes old k new → Passes first (k + 1) new
passes_turn first old new k (inl less) went = inl (by_which k went)
  where
    by_which : (k : ℕ) → Goes old k new → steps_over new < steps_over first
    by_which zero (inl more) = omega arith
    by_which zero (inr (same, has)) = subst (λ (s : State). steps_over s < steps_over first) (sym same) less
    by_which (suc e) (inl more) = omega arith
    by_which (suc e) (inr (same, idle)) = subst (λ (s : State). steps_over s < steps_over first) (sym same) less
passes_turn first old new zero (inr (same, none, had)) (inl less) = inl (subst (λ (s : State). steps_over new < steps_over s) same less)
passes_turn first old new zero (inr (same, none, had)) (inr (still, has)) =
    inr (still ∙ same, (λ i h some low e. absurd (omega arith)), (λ l. subst (λ (s : State). 0 < length (tokens_in (drop 1 s.lanes))) (sym still) has))
passes_turn first old new (suc k) (inr (same, none, had)) (inl less) = inl (subst (λ (s : State). steps_over new < steps_over s) same less)
passes_turn first old new (suc k) (inr (same, none, had)) (inr (still, idle)) =
    inr (
      still ∙ same,
      (λ i h some low e. at_place i h some e low),
      (λ l. subst (λ (s : State). 0 < length (tokens_in (drop 1 s.lanes))) (sym still) (had (omega arith))),
    )
  where
    by_place : (i : ℕ) (h : Holding) → 0 < i → i < suc k + 1 → slice_get old.lanes i ≡ Some h → (i ≡ suc k) ⊎ (i < suc k) → h.queue ≡ []
    by_place i h some low e (inl is) =
        let at : slice_get old.lanes (suc k) ≡ Some h = subst (λ (n : ℕ). slice_get old.lanes n ≡ Some h) is e in
        let there = idle.1.there in
        let one : idle.0 ≡ h = cc in
        sym (ap (λ (x : Holding). x.queue) one) ∙ idle.2
    by_place i h some low e (inr less) = none i h some less e

    at_place : (i : ℕ) (h : Holding) → 0 < i → slice_get new.lanes i ≡ Some h → i < suc k + 1 → h.queue ≡ []
    at_place i h some e low = by_place i h some low (subst (λ (s : State). slice_get s.lanes i ≡ Some h) still e) (which i (suc k) (omega arith))
      where
        which : (i n : ℕ) → i < n + 1 → (i ≡ n) ⊎ (i < n)
        which i n low = grind arith

rest_none : (lanes : List Holding) → ((i : ℕ) (h : Holding) → 0 < i → i < length lanes → slice_get lanes i ≡ Some h → h.queue ≡ [])
    → tokens_in (drop 1 lanes) ≡ []
rest_none [] none = refl
rest_none (x ∷ xs) none = tokens_none xs (λ (i : ℕ) (h : Holding) low e. none (suc i) h (omega arith) (omega arith) e)

pub passes_all : (first s : State) (k : ℕ) → k ≡ length s.lanes → 0 < k → Passes first k s → steps_over s < steps_over first
passes_all first s k all some (inl less) = less
passes_all first s k all some (inr (same, none, has)) =
    let l : length (tokens_in (drop 1 s.lanes)) ≡ 0
    = ap (λ (ts : List Token). length ts) (rest_none s.lanes (λ i h low within e. none i h low (omega arith) e)) in
    let h : 0 < length (tokens_in (drop 1 s.lanes)) = has some in
    absurd (omega arith)

-- A TURN THAT TAKES NO TOKEN, or one that it may take
pub none_keeps : (s : State) (e pick : ℕ) (answer : Option Stepped) → TakesNone answer → Keeps s e pick answer
none_keeps s e pick None none = tt
none_keeps s e pick (Some Did) none = absurd none
none_keeps s e pick (Some Idle) none = tt
none_keeps s e pick (Some (Clash cell)) none = absurd none
none_keeps s e pick (Some (Stuck rule)) none = absurd none
none_keeps s e pick (Some Memory) none = tt

pub may_keep : (s : State) (e pick : ℕ) (answer : Option Stepped) → MayTake s e pick → Keeps s e pick answer
may_keep s e pick None may = tt
may_keep s e pick (Some Did) may = may
may_keep s e pick (Some Idle) may = tt
may_keep s e pick (Some (Clash cell)) may = may
may_keep s e pick (Some (Stuck rule)) may = may
may_keep s e pick (Some Memory) may = tt

-- where element 0 has no token, none is taken
pub empty_keeps : (old new : State) (pick : ℕ) (answer : Option Stepped) (evs : Events) → first_queue old.lanes ≡ [] → Steps old 0 pick answer new evs
    → Keeps old 0 pick answer
empty_keeps old new pick None evs none step = tt
empty_keeps old new pick (Some Idle) evs none step = tt
empty_keeps old new pick (Some Memory) evs none step = tt
empty_keeps old new pick (Some Did) evs none step = absurd (no_token old.lanes step.lane step.there none step.step.picks.some)
  where
    no_token : (lanes : List Holding) (h : Holding) → slice_get lanes 0 ≡ Some h → first_queue lanes ≡ [] → 0 < length h.queue → ⊥
    no_token lanes h there none some =
        let z : length h.queue ≡ 0 = ap (λ (q : List Token). length q) (sym (first_is lanes h there) ∙ none) in
        omega arith
empty_keeps old new pick (Some (Clash cell)) evs none step =
    let h = step.0.0 in
    let z : length h.queue ≡ 0 = ap (λ (q : List Token). length q) (sym (first_is old.lanes h step.0.1.0.there) ∙ none) in
    let some : 0 < length h.queue = step.0.1.1 in
    absurd (omega arith)
empty_keeps old new pick (Some (Stuck rule)) evs none step =
    let h = step.0.0 in
    let z : length h.queue ≡ 0 = ap (λ (q : List Token). length q) (sym (first_is old.lanes h step.0.1.0.there) ∙ none) in
    let some : 0 < length h.queue = step.0.1.1 in
    absurd (omega arith)

pub choice_keeps : (old new : State) (pick : ℕ) (answer : Option Stepped) (evs : Events) → (first_queue old.lanes ≡ []) ⊎ MayTake old 0 pick
    → Steps old 0 pick answer new evs → Keeps old 0 pick answer
choice_keeps old new pick answer evs (inl none) step = empty_keeps old new pick answer evs none step
choice_keeps old new pick answer evs (inr may) step = may_keep old 0 pick answer may

-- WHAT ELEMENT 0 TAKES, whose queue is known
pub choice_oldest : (s : State) (q : List Token) (held : ℕ) → first_queue s.lanes ≡ q → held ≡ held_back q → held ≡ 0
    → (first_queue s.lanes ≡ []) ⊎ MayTake s 0 0
choice_oldest s [] held e is none = inl e
choice_oldest s (t ∷ ts) held e is none =
    let zero_held : 0 ≡ held_back (t ∷ ts) = sym none ∙ is in
    inr (subst (λ (q : List Token). MayTakeFirst s.setting s.lanes q 0) (sym e)
    (inr ((λ some few. omega arith), zero_held, let some : 0 < length (t ∷ ts) = omega arith in omega arith)))

pub choice_request : (s : State) (q : List Token) (held pick : ℕ) → first_queue s.lanes ≡ q → held ≡ held_back q → pick < held
    → AreFew s.setting s.lanes → MayTake s 0 pick
choice_request s q held pick e is low few =
    subst (λ (q : List Token). MayTakeFirst s.setting s.lanes q pick) (sym e) (inl (few, let l : pick < held_back q = omega arith in l))

pub choice_other : (s : State) (q : List Token) (held : ℕ) → first_queue s.lanes ≡ q → held ≡ held_back q → held < length q
    → (AreFew s.setting s.lanes → ⊥) → MayTake s 0 held
choice_other s q held e is low many =
    subst (λ (q : List Token). MayTakeFirst s.setting s.lanes q held) (sym e)
    (inr ((λ some few. many few), is, let l : held_back q < length q = omega arith in l))

pub choice_none : (s : State) (q : List Token) (held : ℕ) → first_queue s.lanes ≡ q → held ≡ held_back q → (held ≡ 0 → ⊥) → held ≡ length q
    → (AreFew s.setting s.lanes → ⊥) → MayPass s 0
choice_none s q held e is some all many =
    subst (λ (q : List Token). (0 < length q) × (held_back q ≡ length q) × (AreFew s.setting s.lanes → ⊥)) (sym e)
    (let more : 0 < held = positive held some in let l : 0 < length q = omega arith in l, sym is ∙ all, many)
  where
    positive : (n : ℕ) → (n ≡ 0 → ⊥) → 0 < n
    positive zero not_zero = absurd (not_zero refl)
    positive (suc n) not_zero = omega arith

-- AS ANY RUN IN TURN
then_plays : (next last : State) (halt : Halt) (why : Option Halt) (later : Events) (Rest : Type 0)
    → (Rest → (picks : List (ℕ × ℕ)) × Plays false picks next last halt later)
    → Then why next last halt later Rest → (picks : List (ℕ × ℕ)) × Then why next last halt later (Plays false picks next last halt later)
then_plays next last halt None later Rest go rest = go rest
then_plays next last halt (Some why) later Rest go rest = ([], rest)

turn_plays : (s next last : State) (e : ℕ) (turn : Option ℕ) (now later evs : Events) (why : Option Halt) (halt : Halt) → TakesTurn s e turn next now why
    → evs ≡ now ++ later → (picks : List (ℕ × ℕ)) × Then why next last halt later (Plays false picks next last halt later)
    → (picks : List (ℕ × ℕ)) × Plays false picks s last halt evs
turn_plays s next last e None now later evs why halt (may, same, none, goes_on) is (picks, rest) =
    let plays : Plays false picks next last halt later
    = subst (λ (o : Option Halt). Then o next last halt later (Plays false picks next last halt later)) goes_on rest in
    let e2 : later ≡ evs = sym (is ∙ ap (λ (l : Events). l ++ later) none) in
    (picks, subst (λ (l : Events). Plays false picks s last halt l) e2 (subst (λ (x : State). Plays false picks x last halt later) same plays))
turn_plays s next last e (Some pick) now later evs why halt (step, keeps) is (picks, rest) = ((e, pick) ∷ picks, (next, now, later, why, step, is, rest))

pub plays_of : (turns : List (ℕ × Option ℕ)) (s last : State) (halt : Halt) (evs : Events) → PlaysTurns turns s last halt evs
    → (picks : List (ℕ × ℕ)) × Plays false picks s last halt evs
plays_of [] s last halt evs plays = absurd plays
plays_of (t ∷ ts) s last halt evs (next, now, later, why, taken, is, rest) =
    turn_plays s next last t.0 t.1 now later evs why halt taken is (then_plays next last halt why later (PlaysTurns ts next last halt later)
    (plays_of ts next last halt later) rest)

pub plays_taking : (take : Take) (s last : State) (halt : Halt) (evs : Events) → PlaysTaking take s last halt evs
    → (picks : List (ℕ × ℕ)) × Plays false picks s last halt evs
plays_taking Oldest s last halt evs (rounds, plays) = (rounds_of rounds s.setting.elements, plays)
plays_taking Depth s last halt evs (turns, at, plays) = plays_of turns s last halt evs plays
