-- What a run has done, and why it halts.
use Rattle.std.proofs.Common.{◌≡◌, ◌≢◌, refl, sym, ◌∙◌, ap, subst, ℕ, ◌+◌, inl, inr, Bool, true, false, ℤ, List, [], ◌∷◌, ◌++◌, Option, Some, None}
use Rattle.std.proofs.Common.{arith, append_assoc}
use Rattle.std.specs.Prelude.{slice_set, count_by, ◌==◌, if◌then◌else◌}
use Rattle.std.proofs.lemmas.Bool.{ne_eqb, eq-eqb}
use Rattle.std.proofs.lemmas.List.{append-nil}
use Rattle.std.proofs.lemmas.List.Sums.{sum_by-append, sum_by-cons}
use Rattle.tags.specs.declared.token.Token.{Token}
use Rattle.semantics.specs.Machine.{Events, at_start}
use Rattle.element.specs.declared.lane.Stepped.{Stepped}
use Rattle.element.specs.declared.lane.Stepped.TheVariants.{Idle, Did, Clash, Stuck, Memory}
use Rattle.element.specs.Holding.{Holding, queued}
use Rattle.frame_order.specs.InOrder.{OrderedRun}
use Rattle.frame_order.proofs.InOrder.{run_more}
use Rattle.schedule.specs.declared.halt.Halt.{Halt}
use Rattle.schedule.specs.Setting.{Setting, size}
use Rattle.schedule.specs.State.{State, AllFrom}
use Rattle.schedule.specs.Steps.{Steps, Does, IsClash, IsUsedUp, IsStuckAt, logged}
use Rattle.schedule.specs.Runs.{Began, BeganIfNoted, IsHalt, Then, Plays, EndsAtLast, HaltsAs}
use Rattle.schedule.specs.Unlisted.{so_far_with}
use Rattle.schedule.proofs.Places.{first_get, from_map}
use Rattle.schedule.proofs.Stepping.{set_others}

abbrev made_by : ℕ → Events → ℕ
made_by i evs = count_by (λ (ev : ℕ × Token). ev.0 == i) evs

pub made_more : (i e : ℕ) (t : Token) (evs : Events) → made_by i (evs ++ (e, t) ∷ []) ≡ made_by i evs + (if e == i then 1 else 0)
made_more i e t evs =
    let f : ℕ × Token → ℕ = λ ev. if ev.0 == i then 1 else 0 in
    let a : made_by i (evs ++ (e, t) ∷ []) ≡ made_by i evs + made_by i ((e, t) ∷ []) = sum_by-append f evs ((e, t) ∷ []) in
    let b : made_by i ((e, t) ∷ []) ≡ f (e, t) + 0 = sum_by-cons f (e, t) [] in
    omega (arith, a, b)

pub made_same : (e : ℕ) (t : Token) (evs : Events) → made_by e (evs ++ (e, t) ∷ []) ≡ made_by e evs + 1
made_same e t evs = made_more e e t evs ∙ ap (λ (b : Bool). made_by e evs + (if b then 1 else 0)) (eq-eqb e e refl)

pub made_other : (i e : ℕ) (t : Token) (evs : Events) → i ≢ e → made_by i (evs ++ (e, t) ∷ []) ≡ made_by i evs
made_other i e t evs ne =
    let a : made_by i (evs ++ (e, t) ∷ []) ≡ made_by i evs + 0 = made_more i e t evs ∙ ap (λ (b : Bool). made_by i evs + (if b then 1 else 0))
    (ne_eqb e i (λ (s : e ≡ i). ne (sym s))) in
    omega (arith, a)

began_did : (inputs : List ℤ) (old new : State) (e pick : ℕ) (before evs : Events) → Does old e pick new evs → Began inputs old before
    → Began inputs new (before ++ evs)
began_did inputs old new e pick before evs d b =
    let happened = d.event b.machine b.stands in
    let t = d.step.token in
    let was = first_get (λ (i : ℕ) (h : Holding). h.made ≡ made_by i before) old.lanes e d.lane b.counts d.there in
    let after : Events = before ++ (e, t) ∷ [] in
    let at : e ≡ 0 + e = omega arith in
    let counts : AllFrom (λ (i : ℕ) (h : Holding). h.made ≡ made_by i after) 0 (slice_set old.lanes e d.next)
    = set_others (λ (i : ℕ) (h : Holding). h.made ≡ made_by i before) (λ (i : ℕ) (h : Holding). h.made ≡ made_by i after) e
    (λ (i : ℕ) (h : Holding) ne c. c ∙ sym (made_other i e t before ne)) 0 old.lanes e d.next at b.counts
    (d.step.count ∙ ap (λ (n : ℕ). n + 1) was ∙ sym (made_same e t before)) in
    let all : AllFrom (λ (i : ℕ) (h : Holding). h.made ≡ made_by i after) 0 new.lanes
    = subst (λ (l : List Holding). AllFrom (λ (i : ℕ) (h : Holding). h.made ≡ made_by i after) 0 l) (sym d.lanes)
    (from_map (λ (i : ℕ) (h : Holding). h.made ≡ made_by i after) (λ (i : ℕ) (h : Holding). h.made ≡ made_by i after)
    (λ (h : Holding). queued h d.sent) (λ (i : ℕ) (h : Holding) c. c) 0 (slice_set old.lanes e d.next) counts) in
    let run : OrderedRun old.setting.program (size old.setting) (at_start old.setting.program inputs) after happened.0 = run_more old.setting.program
    (size old.setting) (at_start old.setting.program inputs) before e t b.machine happened.0 b.run happened.1 in
    subst (λ (l : Events). Began inputs new (before ++ l)) (sym d.events) (record {
      machine = happened.0;
      run = subst (λ (g : Setting). OrderedRun g.program (size g) (at_start g.program inputs) after happened.0) (sym d.setting) run;
      stands = happened.2;
      counts = all;
    })

began_same : (inputs : List ℤ) (old new : State) (before evs : Events) → new ≡ old → evs ≡ [] → Began inputs old before → Began inputs new (before ++ evs)
began_same inputs old new before evs same none b =
    subst (λ (l : Events). Began inputs new l) (sym (ap (λ (l : Events). before ++ l) none ∙ append-nil before))
    (subst (λ (s : State). Began inputs s before) (sym same) b)

-- what happened is known after a step
pub began_step : (inputs : List ℤ) (old new : State) (e pick : ℕ) (answer : Option Stepped) (before evs : Events) → Steps old e pick answer new evs
    → Began inputs old before → Began inputs new (before ++ evs)
began_step inputs old new e pick None before evs s b = began_same inputs old new before evs s.1.0 s.1.1 b
began_step inputs old new e pick (Some Idle) before evs s b = began_same inputs old new before evs s.1.0 s.1.1 b
began_step inputs old new e pick (Some Did) before evs s b = began_did inputs old new e pick before evs s b
began_step inputs old new e pick (Some (Clash cell)) before evs s b = began_same inputs old new before evs s.1.0 s.1.1 b
began_step inputs old new e pick (Some (Stuck rule)) before evs s b = began_same inputs old new before evs s.1.0 s.1.1 b
began_step inputs old new e pick (Some Memory) before evs s b = began_same inputs old new before evs s.1.0 s.1.1 b

began_then : (inputs : List ℤ) (by_list : Bool) (picks : List (ℕ × ℕ)) (next last : State) (halt : Halt) (why : Option Halt) (before later : Events)
    → ((b : Began inputs next before) → Plays by_list picks next last halt later → Began inputs last (before ++ later))
    → Began inputs next before → Then why next last halt later (Plays by_list picks next last halt later) → Began inputs last (before ++ later)
began_then inputs by_list picks next last halt None before later go b rest = go b rest
began_then inputs by_list picks next last halt (Some h) before later go b rest = began_same inputs next last before later rest.0 rest.2 b

-- and after a run
pub began_plays : (inputs : List ℤ) (by_list : Bool) (picks : List (ℕ × ℕ)) (s last : State) (halt : Halt) (before evs : Events)
    → Plays by_list picks s last halt evs → Began inputs s before → Began inputs last (before ++ evs)
began_plays inputs by_list [] s last halt before evs p b = began_same inputs s last before evs p.1 p.2 b
began_plays inputs by_list (p ∷ picks) s last halt before evs (next, now, later, why, advances, is, rest) b =
    let at_next = began_step inputs s next p.0 p.1 advances.answer before now advances.step b in
    let all = began_then inputs by_list picks next last halt why (before ++ now) later (λ c r. began_plays inputs by_list picks next last halt
    (before ++ now) later r c) at_next rest in
    subst (λ (l : Events). Began inputs last l) (append_assoc before now later ∙ ap (λ (l : Events). before ++ l) (sym is)) all

-- WHY IT HALTS
halt_is : (s : State) (by_list : Bool) (halt why : Halt) → Some halt ≡ Some why → HaltsAs s by_list why → HaltsAs s by_list halt
halt_is s by_list halt why e h = let same : halt ≡ why = cc in subst (λ (x : Halt). HaltsAs s by_list x) (sym same) h

no_halt : (halt : Halt) → Some halt ≡ None → ⊥
no_halt halt e = let no : ⊥ = cc in no

halts_by : (by_list : Bool) (old next : State) (e pick : ℕ) (answer : Option Stepped) (now : Events) (halt : Halt) → Steps old e pick answer next now
    → IsHalt by_list answer next (Some halt) → HaltsAs next by_list halt
halts_by true old next e pick None now halt step is = absurd (no_halt halt is)
halts_by false old next e pick None now halt step is = halt_is next false halt Halt.Steps is
    (inl (e, subst (λ (s : State). IsUsedUp s e) (sym step.1.0) step.0))
halts_by by_list old next e pick (Some Did) now halt step is = absurd (no_halt halt is)
halts_by by_list old next e pick (Some Idle) now halt step (inl (has, is)) = absurd (no_halt halt is)
halts_by by_list old next e pick (Some Idle) now halt step (inr (none, is)) = halt_is next by_list halt Halt.NoToken is none
halts_by by_list old next e pick (Some (Clash cell)) now halt step is = halt_is next by_list halt (Halt.Clash cell) is
    (e, pick, subst (λ (s : State). IsClash s e pick cell) (sym step.1.0) step.0)
halts_by by_list old next e pick (Some (Stuck rule)) now halt step is = halt_is next by_list halt (Halt.Stuck rule) is
    (e, pick, subst (λ (s : State). IsStuckAt s e pick rule) (sym step.1.0) step.0)
halts_by by_list old next e pick (Some Memory) now halt step is = halt_is next by_list halt Halt.Memory is tt

left_halts : (by_list : Bool) (s : State) (halt : Halt) → by_list ≡ true → EndsAtLast s halt → HaltsAs s by_list halt
left_halts by_list s halt all (inl (none, is)) = subst (λ (h : Halt). HaltsAs s by_list h) (sym is) none
left_halts by_list s halt all (inr (has, is)) = subst (λ (h : Halt). HaltsAs s by_list h) (sym is) (inr (all, has))

pub halts_as : (by_list : Bool) (picks : List (ℕ × ℕ)) (s last : State) (halt : Halt) (evs : Events) → Plays by_list picks s last halt evs
    → HaltsAs last by_list halt
halts_as by_list [] s last halt evs p = subst (λ (x : State). HaltsAs x by_list halt) (sym p.1) (left_halts by_list s halt p.0 p.3)
halts_as by_list (p ∷ picks) s last halt evs (next, now, later, None, advances, is, rest) = halts_as by_list picks next last halt later rest
halts_as by_list (p ∷ picks) s last halt evs (next, now, later, Some why, advances, is, rest) =
    let here = halts_by by_list s next p.0 p.1 advances.answer now why advances.step advances.halts in
    subst (λ (x : State). HaltsAs x by_list halt) (sym rest.0) (subst (λ (h : Halt). HaltsAs next by_list h) (sym rest.1) here)

-- what is known of a machine that lists its events
pub began_if_noted : (noted : Bool) (inputs : List ℤ) (old new : State) (before after made : Events) → after ≡ logged noted before made
    → (Began inputs old before → Began inputs new (before ++ made))
    → BeganIfNoted noted inputs (so_far_with old before) → BeganIfNoted noted inputs (so_far_with new after)
began_if_noted true inputs old new before after made is on began = subst (λ (l : Events). Began inputs new l) (sym is) (on began)
began_if_noted false inputs old new before after made is on began = tt
