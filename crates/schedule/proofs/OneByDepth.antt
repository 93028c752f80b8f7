-- A run of the one element that holds requests back.
use Rattle.std.proofs.Common.{◌≡◌, refl, sym, ◌∙◌, ap, subst, ℕ, zero, suc, ◌+◌, ◌-◌, ◌<◌, ◌≤◌, inl, inr, List, [], ◌∷◌, ◌++◌, length}
use Rattle.std.proofs.Common.{Some, None, Bool, true, false, drop, arith, append_assoc}
use Rattle.std.proofs.Math.Nat.{zero-mod}
use Rattle.semantics.specs.Program.{Program}
use Rattle.semantics.specs.Machine.{Events}
use Rattle.element.specs.declared.lane.Stepped.TheVariants.{Did}
use Rattle.element.specs.Holding.{Holding, LaneView, fixed_of, IsSoundLane}
use Rattle.element.specs.Steps as one
use Rattle.element.specs.Requests.{held_back}
use Rattle.element.specs.ByDepth.{TakesByDepth, MakesByDepth}
use Rattle.schedule.specs.Setting.{Setting}
use Rattle.schedule.specs.State.{State, RunsAs, IsSoundState, tokens_in}
use Rattle.schedule.specs.Steps.{Steps, logged}
use Rattle.schedule.specs.Runs.{steps_over}
use Rattle.schedule.specs.Turns.{others, AreFew, MayTake, TakesTurn, PlaysTurns, AreInTurn, Leads}
use Rattle.schedule.proofs.Stepping.{answered}
use Rattle.schedule.proofs.OneLane.{alone, settled}
use Rattle.schedule.proofs.Turning.{Goes, leads_none, leads_turn, leads_pass}

-- each event is counted
pub depth_grows : (p : Program) (steps n : ℕ) (old new : Holding) → MakesByDepth p steps n old new → old.made ≤ new.made
depth_grows p steps zero old new same = let e : new.made ≡ old.made = ap (λ (h : Holding). h.made) same in omega arith
depth_grows p steps (suc n) old new (mid, before, few, sound, most, (pick, takes, does)) =
    let more = depth_grows p steps n old mid before in
    let count : new.made ≡ mid.made + 1 = does.count in
    omega arith

module _ (g : Setting) (single : g.elements ≡ 1) where
  -- what it takes is what element 0 may take
  pub may_take : (h : Holding) (pick : ℕ) → TakesByDepth h.queue pick → MayTake (alone g h) 0 pick
  may_take h pick (inl (all, low)) =
      let last : length (tokens_in []) ≡ 0 = refl in
      let none : others (h ∷ []) ≡ 0 = omega arith in
      let l : pick < held_back h.queue = omega arith in
      inl (inl none, l)
  may_take h pick (inr (is, low)) = inr ((λ some few. many few), is, low)
    where
      many : AreFew g (h ∷ []) → ⊥
      many (inl none) = let o : (length h.queue - held_back h.queue) + length (tokens_in []) ≡ 0 = none in omega arith
      many (inr (more, few)) = let s = single in omega arith

  event : (mid next : Holding) (pick : ℕ) → IsSoundState (alone g mid) → mid.made < g.steps → IsSoundLane g.program next → next.made ≤ g.steps
      → (step : one.Does g.program mid pick [] next []) → IsSoundState (alone g next)
      × Steps (alone g mid) 0 pick (Some Did) (alone g next) ((0, step.token) ∷ [])
  event mid next pick sound few next_sound most step =
      let both = answered (alone g mid) 0 pick mid next step.token [] Did sound refl step.picks.some few step.picks step next_sound most in (
        subst (λ (s : State). IsSoundState s) (settled g next) both.0,
        subst
            (λ (s : State). Steps (alone g mid) 0 pick (Some Did) s ((0, step.token) ∷ [])) (settled g next) both.1,
      )

  -- the events of the lane are those of the machine
  pub depth_ran : (n : ℕ) (old new : Holding) → IsSoundState (alone g old) → MakesByDepth g.program g.steps n old new
      → IsSoundState (alone g new) × ((made : Events) × Leads 1 (alone g old) made 0 (alone g new))
  depth_ran zero old new sound same = (
    subst (λ (h : Holding). IsSoundState (alone g h)) (sym same) sound,
    ([], subst (λ (h : Holding). Leads 1 (alone g old) [] 0 (alone g h)) (sym same) (leads_none 1 (alone g old))),
  )
  depth_ran (suc n) old new sound (mid, before, few, next_sound, most, (pick, takes, step)) =
      let first = depth_ran n old mid sound before in
      let now = event mid new pick first.0 few next_sound most step in
      let taken : TakesTurn (alone g mid) 0 (Some pick) (alone g new) ((0, step.token) ∷ []) None
      = (record { answer = Some Did; step = now.1; halts = refl }, may_take mid pick takes) in
      let all = leads_turn 1 0 (alone g old) (alone g mid) (alone g new) first.1.0 ((0, step.token) ∷ []) (Some pick) (omega arith) first.1.1 taken in (
        now.0,
        (
          first.1.0 ++ (0, step.token) ∷ [],
          leads_pass 1 (0 + 1) (alone g old) (alone g new) (first.1.0 ++ (0, step.token) ∷ []) refl (omega arith) all,
        ),
      )

  -- as the lane lies in memory
  pub depth_ran_lane : (x new : LaneView) → IsSoundState (alone g x.held) → RunsAs g (fixed_of x)
      → (n : ℕ) × MakesByDepth x.program x.steps n x.held new.held
      → IsSoundState (alone g new.held) × ((made : Events) × Leads 1 (alone g x.held) made 0 (alone g new.held))
      × (steps_over (alone g new.held) ≤ steps_over (alone g x.held))
  depth_ran_lane x new sound runs (n, made) =
      let made_so = subst (λ (k : ℕ). MakesByDepth g.program k n x.held new.held) runs.steps (subst
      (λ (p : Program). MakesByDepth p x.steps n x.held new.held) runs.program made) in
      let all = depth_ran n x.held new.held sound made_so in
      let more : x.held.made ≤ new.held.made = depth_grows g.program g.steps n x.held new.held made_so in
      let fewer : (g.steps - new.held.made) + 0 ≤ (g.steps - x.held.made) + 0 = omega arith in
      (all.0, all.1, fewer)

-- WHAT LEADS ON, leads on
pub leads_both : (n : ℕ) (old mid new : State) (made more : Events) → Leads n old made 0 mid → Leads n mid more 0 new → Leads n old (made ++ more) 0 new
leads_both n old mid new made more first second = λ turns last halt later at plays.
    let inner = second turns last halt later at plays in
    let all = first inner.0 last halt (more ++ later) (subst (λ (k : ℕ). AreInTurn n k inner.0) (sym (zero-mod n)) inner.1) inner.2 in
    (all.0, all.1, subst (λ (l : Events). PlaysTurns all.0 old last halt l) (sym (append_assoc made more later)) all.2)

-- the one element makes an event in a turn that goes on
pub lone_goes : (mid new : State) → length new.lanes ≡ 1 → Goes mid 0 new → steps_over new < steps_over mid
lone_goes mid new one (inl less) = less
lone_goes mid new one (inr (same, has)) =
    let lanes : length mid.lanes ≡ 1 = ap (λ (s : State). length s.lanes) (sym same) ∙ one in
    absurd (none mid.lanes lanes has)
  where
    none : (lanes : List Holding) → length lanes ≡ 1 → 0 < length (tokens_in (drop 1 lanes)) → ⊥
    none [] one has = omega arith
    none (h ∷ []) one has = omega arith
    none (h ∷ k ∷ hs) one has = omega arith

pub quiet_log : (keeps_events : Bool) (before made list : Events) → keeps_events ≡ false → list ≡ logged keeps_events before made → list ≡ before
quiet_log true before made list quiet is = absurd (let no : ⊥ = cc in no)
quiet_log false before made list quiet is = is

pub log_quiet : (keeps_events : Bool) (before made list : Events) → keeps_events ≡ false → list ≡ before → list ≡ logged keeps_events before made
log_quiet true before made list quiet is = absurd (let no : ⊥ = cc in no)
log_quiet false before made list quiet is = is
