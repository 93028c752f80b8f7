-- Elements that waited in vain go on in another pass.
use Rattle.std.proofs.Common.{◌≡◌, sym, ◌∙◌, ap, subst, ℕ, ◌+◌, ◌<◌, ◌≤◌, ◌⊎◌, inl, inr, Bool, List, length, get_or, arith, Option, Some, None}
use Rattle.std.specs.Prelude.{All, IfSome}
use Rattle.std.proofs.lemmas.Bool.{cases_lt}
use Rattle.std.proofs.lemmas.List.{get_or_default}
use Rattle.crossbeam_utils.specs.declared.cache_padded.CachePadded.{CachePadded}
use Rattle.crossbeam_utils.specs.Padded.{padded_value}
use Rattle.element.specs.Holding.{held_of}
use Rattle.schedule.specs.declared.take.Take.{Take}
use Rattle.schedule.specs.Setting.{Setting}
use Rattle.mesh.specs.Seats.{MeshId}
use Rattle.machine.specs.declared.runner.Departure.{Departure}
use Rattle.machine.specs.declared.runner.Runner.{Runner}
use Rattle.machine.specs.ByDepth.{HasNone}
use Rattle.machine.specs.Runners.{Runs, IsClear, IsDeparture}
use Rattle.machine.specs.Starts.{departure_of, AllWait, AllEnded}
use Rattle.machine.proofs.Keeping.{ended_twice, waits_ready}

module _ {C A L : Type 0} where
  -- the first k wait
  abbrev pub FirstWait : ℕ → List (CachePadded (Runner C A L)) → Type 0
  FirstWait k ps = (i : ℕ) (d : CachePadded (Runner C A L)) → i < k → departure_of (get_or ps i d) ≡ Departure.Waited

  -- one more does
  pub wait_more : (ps : List (CachePadded (Runner C A L))) (k : ℕ) (p : CachePadded (Runner C A L)) (r : Runner C A L) → k < length ps → p
      ≡ get_or ps k p → r ≡ padded_value p → r.departure ≡ Departure.Waited → FirstWait k ps → FirstWait (k + 1) ps
  wait_more ps k p r low at read here before i d within = by_place (cases_lt i k)
    where
      by_place : (i < k) ⊎ (k ≤ i) → departure_of (get_or ps i d) ≡ Departure.Waited
      by_place (inl l) = before i d l
      by_place (inr l) =
          let same : k ≡ i = omega (arith, within, l) in
          let there : departure_of (get_or ps k d) ≡ Departure.Waited = ap (λ (q : CachePadded (Runner C A L)). departure_of q)
          (sym (at ∙ get_or_default ps k p d low)) ∙ ap (λ (x : Runner C A L). x.departure) (sym read) ∙ here in
          subst (λ (n : ℕ). departure_of (get_or ps n d) ≡ Departure.Waited) same there

  module _ (order : Take) (keeps_events : Bool) (g : Setting) (mesh : MeshId) (may_stop : Bool) where
    abbrev AreReady : List (CachePadded (Runner C A L)) → Type 0
    AreReady ps = All (λ (p : CachePadded (Runner C A L)). Runs keeps_events g mesh (padded_value p) × IsClear (padded_value p)) ps

    pub all_twice : (olds mids news : List (CachePadded (Runner C A L))) → length mids ≡ length olds → AllWait mids
        → AllEnded order keeps_events g mesh may_stop olds mids → AllEnded order keeps_events g mesh may_stop mids news → AllEnded order keeps_events g mesh may_stop olds news
    all_twice olds mids news count wait one two = λ i d low.
        let within : i < length mids = omega (arith, low, count) in
        ended_twice order keeps_events g mesh may_stop (padded_value (get_or olds i d)) (padded_value (get_or mids i d)) (padded_value (get_or news i d))
        (wait i d within) (one i d low) (two i d within)

    pub all_ready : (olds mids : List (CachePadded (Runner C A L))) → length mids ≡ length olds → AllWait mids → AreReady olds
        → AllEnded order keeps_events g mesh may_stop olds mids → AreReady mids
    all_ready olds mids count wait ready one = λ i d within.
        let low : i < length olds = omega (arith, within, count) in
        waits_ready order keeps_events g mesh may_stop (padded_value (get_or olds i d)) (padded_value (get_or mids i d)) (ready i d low).0 (wait i d within)
        (one i d low)

  -- one that waited in vain has no token that it might take
  pub waited_so : (order : Take) (g : Setting) (may_stop : Bool) (r : Runner C A L) (o : Option Departure) → IfSome o (λ departure. departure ≡ Departure.Waited)
      → HasNone order (held_of r.lane) → IfSome o (IsDeparture order g may_stop r)
  waited_so order g may_stop r None waits none = tt
  waited_so order g may_stop r (Some departure) waits none = subst (λ (x : Departure). IsDeparture order g may_stop r x) (sym waits) none
