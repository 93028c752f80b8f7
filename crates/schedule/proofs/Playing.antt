-- Runs, step by step.
use Rattle.std.proofs.Common.{◌≡◌, refl, sym, ◌∙◌, ap, subst, ℕ, zero, suc, ◌+◌, ◌-◌, ◌<◌, ◌≤◌, ◌⊎◌, inl, inr, Bool, true, false, List, [], ◌∷◌}
use Rattle.std.proofs.Common.{◌++◌, length, get_or, drop, Option, Some, None, arith, append_assoc}
use Rattle.std.specs.Prelude.{slice_get, slice_set}
use Rattle.std.proofs.lemmas.Bool.{cases_eq}
use Rattle.std.proofs.lemmas.List.{length-append, drop_more, drop_all, append-nil}
use Rattle.tags.specs.declared.token.Token.{Token}
use Rattle.semantics.specs.Machine.{Events}
use Rattle.element.specs.declared.lane.Stepped.{Stepped}
use Rattle.element.specs.declared.lane.Stepped.TheVariants.{Idle, Did, Clash, Stuck, Memory}
use Rattle.element.specs.Holding.{Holding}
use Rattle.schedule.specs.declared.halt.Halt.{Halt}
use Rattle.schedule.specs.Setting.{Setting}
use Rattle.schedule.specs.State.{State, tokens_in, delivered}
use Rattle.schedule.specs.Steps.{Steps, Does, IsIdle, logged}
use Rattle.schedule.specs.Runs.{HasToken, IsHalt, Advances, Then, Plays, EndsAtLast, in_turn, rounds_of, steps_in, steps_over}

pub tokens_some : (lanes : List Holding) (i : ℕ) (h : Holding) → slice_get lanes i ≡ Some h → 0 < length h.queue → 0 < length (tokens_in lanes)
tokens_some [] i h e some = absurd (let no : ⊥ = cc in no)
tokens_some (x ∷ xs) zero h e some =
    let same : x ≡ h = cc in
    let l : length (x.queue ++ tokens_in xs) ≡ length x.queue + length (tokens_in xs) = length-append x.queue (tokens_in xs) in
    let q : length x.queue ≡ length h.queue = ap (λ (y : Holding). length y.queue) same in
    omega arith
tokens_some (x ∷ xs) (suc i) h e some =
    let l : length (x.queue ++ tokens_in xs) ≡ length x.queue + length (tokens_in xs) = length-append x.queue (tokens_in xs) in
    let rest : 0 < length (tokens_in xs) = tokens_some xs i h e some in
    omega arith

pub tokens_none : (lanes : List Holding) → ((i : ℕ) (h : Holding) → i < length lanes → slice_get lanes i ≡ Some h → h.queue ≡ []) → tokens_in lanes ≡ []
tokens_none [] none = refl
tokens_none (x ∷ xs) none = ap (λ (q : List Token). q ++ tokens_in xs) (none 0 x (omega arith) refl)
    ∙ tokens_none xs (λ (i : ℕ) (h : Holding) low e. none (suc i) h (omega arith) e)

-- the setting stays
pub setting_stays : (old new : State) (e pick : ℕ) (answer : Option Stepped) (evs : Events) → Steps old e pick answer new evs → new.setting ≡ old.setting
setting_stays old new e pick None evs s = ap (λ (x : State). x.setting) s.1.0
setting_stays old new e pick (Some Idle) evs s = ap (λ (x : State). x.setting) s.1.0
setting_stays old new e pick (Some Did) evs s = s.setting
setting_stays old new e pick (Some (Clash cell)) evs s = ap (λ (x : State). x.setting) s.1.0
setting_stays old new e pick (Some (Stuck rule)) evs s = ap (λ (x : State). x.setting) s.1.0
setting_stays old new e pick (Some Memory) evs s = ap (λ (x : State). x.setting) s.1.0

-- one entry more
pub play_more : (by_list : Bool) (picks : List (ℕ × ℕ)) (k : ℕ) (d : ℕ × ℕ) (s next last : State) (now later : Events) (why : Option Halt)
    (halt : Halt) → k < length picks
    → Advances by_list s (get_or picks k d).0 (get_or picks k d).1 next now why
    → Then why next last halt later (Plays by_list (drop (k + 1) picks) next last halt later)
    → Plays by_list (drop k picks) s last halt (now ++ later)
play_more by_list picks k d s next last now later why halt low advances rest =
    subst (λ (ps : List (ℕ × ℕ)). Plays by_list ps s last halt (now ++ later)) (sym (drop_more picks k d low)) (next, now, later, why, advances, refl, rest)

-- a step that halts the run
pub play_last : (by_list : Bool) (p : ℕ × ℕ) (picks : List (ℕ × ℕ)) (s next : State) (now : Events) (halt : Halt)
    → Advances by_list s p.0 p.1 next now (Some halt) → Plays by_list (p ∷ picks) s next halt now
play_last by_list p picks s next now halt advances = (next, now, [], Some halt, advances, sym (append-nil now), (refl, refl, refl))

-- a step that does not
pub play_on : (by_list : Bool) (p : ℕ × ℕ) (picks : List (ℕ × ℕ)) (s next last : State) (now later : Events) (halt : Halt)
    → Advances by_list s p.0 p.1 next now None → Plays by_list picks next last halt later → Plays by_list (p ∷ picks) s last halt (now ++ later)
play_on by_list p picks s next last now later halt advances rest = (next, now, later, None, advances, refl, rest)

pub turn_more : (k n : ℕ) → k < n → in_turn k (n - k) ≡ (k, 0) ∷ in_turn (k + 1) (n - (k + 1))
turn_more k n low =
    let e : n - k ≡ suc (n - (k + 1)) = omega arith in
    let f : suc k ≡ k + 1 = omega arith in
    ap (λ (m : ℕ). in_turn k m) e ∙ ap (λ (m : ℕ). (k, 0) ∷ in_turn m (n - (k + 1))) f

pub turn_all : (n : ℕ) → in_turn n (n - n) ≡ []
turn_all n = let e : n - n ≡ 0 = omega arith in ap (λ (m : ℕ). in_turn n m) e

-- WHAT IS LEFT
left_delivered : (steps : ℕ) (ts : List Token) (lanes : List Holding) → steps_in steps (delivered ts lanes) ≡ steps_in steps lanes
left_delivered steps ts [] = refl
left_delivered steps ts (h ∷ hs) = ap (λ (n : ℕ). (steps - h.made) + n) (left_delivered steps ts hs)

left_set : (steps : ℕ) (lanes : List Holding) (e : ℕ) (h next : Holding) → slice_get lanes e ≡ Some h → next.made ≡ h.made + 1 → h.made < steps
    → steps_in steps (slice_set lanes e next) < steps_in steps lanes
left_set steps [] e h next there more few = absurd (let no : ⊥ = cc in no)
left_set steps (x ∷ xs) zero h next there more few =
    let same : x ≡ h = cc in
    let made : x.made ≡ h.made = ap (λ (y : Holding). y.made) same in
    omega arith
left_set steps (x ∷ xs) (suc e) h next there more few = let rest = left_set steps xs e h next there more few in omega arith

less_left : (old new : State) (e pick : ℕ) (evs : Events) → Does old e pick new evs → steps_over new < steps_over old
less_left old new e pick evs d =
    let less : steps_in old.setting.steps (slice_set old.lanes e d.next) < steps_in old.setting.steps old.lanes = left_set old.setting.steps old.lanes
    e d.lane d.next d.there d.step.count d.allowed in
    let same : steps_over new ≡ steps_in old.setting.steps (slice_set old.lanes e d.next) = ap (λ (n : ℕ). steps_in n new.lanes)
    (ap (λ (z : Setting). z.steps) d.setting) ∙ ap (λ (l : List Holding). steps_in old.setting.steps l) d.lanes
    ∙ left_delivered old.setting.steps d.sent (slice_set old.lanes e d.next) in
    omega arith

-- a pass that goes on made an event, or found no token
abbrev pub Moves : State → ℕ → State → Type 0
Moves old e new = (steps_over new < steps_over old) ⊎ ((new ≡ old) × IsIdle old e × HasToken new)

not_both : (h : Halt) → (let o : Option Halt = None in o) ≡ Some h → ⊥
not_both h e = let no : ⊥ = cc in no

moves_by : (old new : State) (e pick : ℕ) (now : Events) (answer : Option Stepped) → Steps old e pick answer new now → IsHalt false answer new None
    → Moves old e new
moves_by old new e pick now None step halts = absurd (not_both Halt.Steps halts)
moves_by old new e pick now (Some Did) step halts = inl (less_left old new e pick now step)
moves_by old new e pick now (Some Idle) step (inl (has, same)) = inr (step.1.0, step.0, has)
moves_by old new e pick now (Some Idle) step (inr (none, same)) = absurd (not_both Halt.NoToken same)
moves_by old new e pick now (Some (Clash cell)) step halts = absurd (not_both (Halt.Clash cell) halts)
moves_by old new e pick now (Some (Stuck rule)) step halts = absurd (not_both (Halt.Stuck rule) halts)
moves_by old new e pick now (Some Memory) step halts = absurd (not_both Halt.Memory halts)

pub moves : (old new : State) (e pick : ℕ) (now : Events) → Advances false old e pick new now None → Moves old e new
moves old new e pick now a = moves_by old new e pick now a.answer a.step a.halts

-- so far in a pass that began at `first`: an event was made, or the first k lanes have no token and others have
abbrev pub Passes : State → ℕ → State → Type 0
Passes first k s = (steps_over s < steps_over first) ⊎ ((s ≡ first) × ((i : ℕ) (h : Holding) → i < k → slice_get s.lanes i ≡ Some h → h.queue ≡ [])
    × (0 < k → HasToken s))

pub passes_more : (first old new : State) (k : ℕ) (now : Events) → Passes first k old → Advances false old k 0 new now None → Passes first (k + 1) new
passes_more first old new k now so_far a = by_both so_far (moves old new k 0 now a)
  where
    by_both : Passes first k old → Moves old k new → Passes first (k + 1) new
    by_both (inl less) (inl more) = inl (omega arith)
    by_both (inl less) (inr (same, idle, has)) = inl (subst (λ (s : State). steps_over s < steps_over first) (sym same) less)
    by_both (inr (same, none, has)) (inl less) = inl (subst (λ (s : State). steps_over new < steps_over s) same less)
    by_both (inr (same, none, had)) (inr (still, idle, has)) =
        inr (still ∙ same, (λ (i : ℕ) (h : Holding) low e. at_place i h e (cases_eq i k) low), (λ _. has))
      where
        at_place : (i : ℕ) (h : Holding) → slice_get new.lanes i ≡ Some h → (i ≡ k) ⊎ (i ≡ k → ⊥) → i < k + 1 → h.queue ≡ []
        at_place i h e (inl is) low =
            let at_k : slice_get old.lanes k ≡ Some h = subst (λ (n : ℕ). slice_get old.lanes n ≡ Some h) is
            (subst (λ (s : State). slice_get s.lanes i ≡ Some h) still e) in
            let there = idle.1.there in
            let one : idle.0 ≡ h = cc in
            sym (ap (λ (x : Holding). x.queue) one) ∙ idle.2
        at_place i h e (inr ne) low = none i h (omega arith) (subst (λ (s : State). slice_get s.lanes i ≡ Some h) still e)

pub passes_all : (first s : State) → 0 < length s.lanes → Passes first (length s.lanes) s → steps_over s < steps_over first
passes_all first s some (inl less) = less
passes_all first s some (inr (same, none, has)) =
    let l : length (tokens_in s.lanes) ≡ 0 = ap (λ (ts : List Token). length ts) (tokens_none s.lanes none) in
    let h : 0 < length (tokens_in s.lanes) = has some in
    absurd (omega arith)

-- where no pick is left
pub play_rest : (picks : List (ℕ × ℕ)) (k : ℕ) (s : State) (halt : Halt) → length picks ≤ k → EndsAtLast s halt → Plays true (drop k picks) s s halt []
play_rest picks k s halt past ends = subst (λ (ps : List (ℕ × ℕ)). Plays true ps s s halt []) (sym (drop_all k picks past)) (refl, refl, refl, ends)

-- WHAT A LIST IS AFTER EVENTS
pub logged_none : (by_list : Bool) (before : Events) → before ≡ logged by_list before []
logged_none true before = sym (append-nil before)
logged_none false before = refl

pub logged_twice : (by_list : Bool) (before a b : Events) → logged by_list (logged by_list before a) b ≡ logged by_list before (a ++ b)
logged_twice true before a b = append_assoc before a b
logged_twice false before a b = refl

pub logged_more : (by_list : Bool) (first old new made now : Events) → old ≡ logged by_list first made → new ≡ logged by_list old now → new
    ≡ logged by_list first (made ++ now)
logged_more by_list first old new made now one two = two ∙ ap (λ (l : Events). logged by_list l now) one ∙ logged_twice by_list first made now

pub turn_last : (s next : State) (k n : ℕ) (now : Events) (halt : Halt) → k < n → Advances false s k 0 next now (Some halt)
    → Plays false (in_turn k (n - k) ++ rounds_of 0 n) s next halt now
turn_last s next k n now halt low advances = subst (λ (ps : List (ℕ × ℕ)). Plays false (ps ++ rounds_of 0 n) s next halt now)
    (sym (turn_more k n low)) (play_last false (k, 0) (in_turn (k + 1) (n - (k + 1)) ++ rounds_of 0 n) s next now halt advances)

pub turn_on : (s next last : State) (k n rounds : ℕ) (now later : Events) (halt : Halt) → k < n → Advances false s k 0 next now None
    → Plays false (in_turn (k + 1) (n - (k + 1)) ++ rounds_of rounds n) next last halt later → Plays false (in_turn k (n - k) ++ rounds_of rounds n) s
    last halt (now ++ later)
turn_on s next last k n rounds now later halt low advances rest = subst (λ (ps : List (ℕ × ℕ)). Plays false (ps ++ rounds_of rounds n) s last halt
    (now ++ later)) (sym (turn_more k n low)) (play_on false (k, 0) (in_turn (k + 1) (n - (k + 1)) ++ rounds_of rounds n) s next last now later halt
    advances rest)

pub turn_done : (s last : State) (k n rounds : ℕ) (later : Events) (halt : Halt) → k ≡ n → Plays false (rounds_of rounds n) s last halt later
    → Plays false (in_turn k (n - k) ++ rounds_of rounds n) s last halt later
turn_done s last k n rounds later halt e rest =
    let none : in_turn k (n - k) ≡ [] = ap (λ (m : ℕ). in_turn m (n - m)) e ∙ turn_all n in
    subst (λ (ps : List (ℕ × ℕ)). Plays false (ps ++ rounds_of rounds n) s last halt later) (sym none) rest

then_setting : (by_list : Bool) (picks : List (ℕ × ℕ)) (next last : State) (halt : Halt) (why : Option Halt) (later : Events)
    → (Plays by_list picks next last halt later → last.setting ≡ next.setting)
    → Then why next last halt later (Plays by_list picks next last halt later) → last.setting ≡ next.setting
then_setting by_list picks next last halt None later go rest = go rest
then_setting by_list picks next last halt (Some h) later go rest = ap (λ (x : State). x.setting) rest.0

-- the setting stays in a run
pub setting_plays : (by_list : Bool) (picks : List (ℕ × ℕ)) (s last : State) (halt : Halt) (evs : Events) → Plays by_list picks s last halt evs
    → last.setting ≡ s.setting
setting_plays by_list [] s last halt evs p = ap (λ (x : State). x.setting) p.1
setting_plays by_list (p ∷ picks) s last halt evs (next, now, later, why, advances, is, rest) =
    then_setting by_list picks next last halt why later (setting_plays by_list picks next last halt later) rest
    ∙ setting_stays s next p.0 p.1 advances.answer now advances.step
