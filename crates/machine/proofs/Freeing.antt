-- What is reported of runners that have left, and of what they did.
use Rattle.std.proofs.Common.{◌≡◌, refl, sym, ◌∙◌, ap, subst, ℕ, zero, suc, ◌+◌, ◌<◌, ◌≤◌, ◌⊎◌, inl, inr, List, [], ◌∷◌, length, get_or, Option}
use Rattle.std.proofs.Common.{Some, None, arith}
use Rattle.std.specs.Prelude.{slice_get}
use Rattle.std.proofs.lemmas.Bool.{cases_lt}
use Rattle.crossbeam_utils.specs.declared.cache_padded.CachePadded.{CachePadded}
use Rattle.crossbeam_utils.specs.Padded.{padded_value}
use Rattle.machine.specs.declared.runner.Departure.{Departure}
use Rattle.machine.specs.declared.runner.Runner.{Runner}
use Rattle.rounds.specs.Counted.{NoneHalts}
use Rattle.machine.specs.Ends.{reason_of, reasons_of}
use Rattle.machine.specs.Starts.{departure_of, departures_in}
use Rattle.schedule.specs.declared.halt.Halt.{Halt}
use Rattle.std.proofs.lemmas.List.{length-map}

-- REASONS
named : (departure : Departure) (halt : Halt) → Some (reason_of departure) ≡ Some (Some halt) → departure ≡ Departure.Halted halt
named Departure.Lost halt e = absurd (let no : ⊥ = cc in no)
named (Departure.Halted h) halt e = let same : h ≡ halt = cc in ap (λ (x : Halt). Departure.Halted x) same
named Departure.Rested halt e = absurd (let no : ⊥ = cc in no)
named Departure.Stopped halt e = absurd (let no : ⊥ = cc in no)
named Departure.Waited halt e = absurd (let no : ⊥ = cc in no)

-- the element that has this reason halted for it
pub halted_at : (ls : List Departure) (e : ℕ) (halt : Halt) → slice_get (reasons_of ls) e ≡ Some (Some halt) → slice_get ls e ≡ Some (Departure.Halted halt)
halted_at [] e halt is = absurd (let no : ⊥ = cc in no)
halted_at (l ∷ ls) zero halt is = ap (λ (x : Departure). Some x) (named l halt is)
halted_at (l ∷ ls) (suc e) halt is = halted_at ls e halt is

pub reason_at : (ls : List Departure) (e : ℕ) (departure : Departure) → slice_get ls e ≡ Some departure
    → slice_get (reasons_of ls) e ≡ Some (reason_of departure)
reason_at [] e departure is = absurd (let no : ⊥ = cc in no)
reason_at (l ∷ ls) zero departure is = let same : l ≡ departure = cc in ap (λ (x : Departure). Some (reason_of x)) same
reason_at (l ∷ ls) (suc e) departure is = reason_at ls e departure is

unhalted : (departure : Departure) → ((halt : Halt) → departure ≡ Departure.Halted halt → ⊥) → reason_of departure ≡ None
unhalted Departure.Lost none = refl
unhalted (Departure.Halted h) none = absurd (none h refl)
unhalted Departure.Rested none = refl
unhalted Departure.Stopped none = refl
unhalted Departure.Waited none = refl

module _ {C A L : Type 0} where
  -- why the runner at this place left
  pub left_at : (ps : List (CachePadded (Runner C A L))) (i : ℕ) (d : CachePadded (Runner C A L)) (departure : Departure) → i < length ps
      → (padded_value (get_or ps i d)).departure ≡ departure → slice_get (departures_in ps) i ≡ Some departure
  left_at [] i d departure low is = absurd (let no : ⊥ = omega (arith, low) in no)
  left_at (p ∷ ps) zero d departure low is = ap (λ (l : Departure). Some l) is
  left_at (p ∷ ps) (suc i) d departure low is = left_at ps i d departure (omega (arith, low)) is

  -- the same, as it is read there
  pub left_is : (ps : List (CachePadded (Runner C A L))) (i : ℕ) (p : CachePadded (Runner C A L)) (r : Runner C A L) (departure : Departure)
      → i < length ps → p ≡ get_or ps i p → r ≡ padded_value p → r.departure ≡ departure → slice_get (departures_in ps) i ≡ Some departure
  left_is ps i p r departure low at read is = left_at ps i p departure low (ap (λ (q : CachePadded (Runner C A L)). (padded_value q).departure)
      (sym at) ∙ ap (λ (x : Runner C A L). x.departure) (sym read) ∙ is)

  -- none of the first k + 1 is lost
  pub found_more : (ps : List (CachePadded (Runner C A L))) (k : ℕ) (p : CachePadded (Runner C A L)) (r : Runner C A L) → k < length ps → p
      ≡ get_or ps k p → r ≡ padded_value p → (r.departure ≡ Departure.Lost → ⊥)
      → ((i : ℕ) → i < k → slice_get (departures_in ps) i ≡ Some Departure.Lost → ⊥) → (i : ℕ) → i < k + 1
      → slice_get (departures_in ps) i ≡ Some Departure.Lost → ⊥
  found_more ps k p r low at read here before i within is = by_place (cases_lt i k)
    where
      by_place : (i < k) ⊎ (k ≤ i) → ⊥
      by_place (inl l) = before i l is
      by_place (inr l) =
          let same : i ≡ k = omega (arith, within, l) in
          let there : Some r.departure ≡ Some Departure.Lost = sym (left_is ps k p r r.departure low at read refl)
          ∙ subst (λ (n : ℕ). slice_get (departures_in ps) n ≡ Some Departure.Lost) same is in
          here cc

  past : (ps : List (CachePadded (Runner C A L))) (i : ℕ) (departure : Departure) → slice_get (departures_in ps) i ≡ Some departure → i < length ps
  past [] i departure is = absurd (let no : ⊥ = cc in no)
  past (p ∷ ps) zero departure is = omega arith
  past (p ∷ ps) (suc i) departure is = let low = past ps i departure is in omega (arith, low)

  pub none_lost : (ps : List (CachePadded (Runner C A L))) (k : ℕ) → length ps ≤ k → ((i : ℕ) → i < k → slice_get (departures_in ps) i
      ≡ Some Departure.Lost → ⊥) → (i : ℕ) → slice_get (departures_in ps) i ≡ Some Departure.Lost → ⊥
  none_lost ps k all none i is = none i (let low = past ps i Departure.Lost is in omega (arith, low, all)) is

  -- none of the first k + 1 has a reason
  pub silent_more : (ps : List (CachePadded (Runner C A L))) (k : ℕ) (p : CachePadded (Runner C A L)) (r : Runner C A L) → k < length ps → p
      ≡ get_or ps k p → r ≡ padded_value p → ((halt : Halt) → r.departure ≡ Departure.Halted halt → ⊥)
      → ((i : ℕ) → i < k → slice_get (reasons_of (departures_in ps)) i ≡ Some None) → (i : ℕ) → i < k + 1
      → slice_get (reasons_of (departures_in ps)) i ≡ Some None
  silent_more ps k p r low at read here before i within = by_place (cases_lt i k)
    where
      by_place : (i < k) ⊎ (k ≤ i) → slice_get (reasons_of (departures_in ps)) i ≡ Some None
      by_place (inl l) = before i l
      by_place (inr l) =
          let same : k ≡ i = omega (arith, within, l) in
          let there = reason_at (departures_in ps) k r.departure (left_is ps k p r r.departure low at read refl) in
          subst (λ (n : ℕ). slice_get (reasons_of (departures_in ps)) n ≡ Some None) same (there ∙ ap (λ (o : Option Halt). Some o) (unhalted r.departure here))

  pub none_halts : (ps : List (CachePadded (Runner C A L))) (k : ℕ) → length ps ≤ k → ((i : ℕ) → i < k → slice_get (reasons_of (departures_in ps)) i
      ≡ Some None) → NoneHalts (reasons_of (departures_in ps))
  none_halts ps k all none = λ e low. none e (let one = length-map (departures_in ps) reason_of
      in let two = length-map ps (departure_of {C = C} {A = A}) in omega (arith, low, all, one, two))
