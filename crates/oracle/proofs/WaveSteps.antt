-- How the waves go on: by a wave, or to an end.
use Rattle.std.proofs.Common.{◌≡◌, ℕ, zero, suc, ◌-◌, ◌<◌, ◌≤◌, ℤ, List, [], ◌∷◌, ◌++◌, map, Option, Some, None, Result, Ok, Err, refl, sym, ap}
use Rattle.std.proofs.Common.{◌∙◌, subst, arith}
use Rattle.std.specs.Prelude.{IfOk, MatchResult}
use Rattle.semantics.specs.Graph.{Graph}
use Rattle.oracle.specs.declared.report.MeanEnd.{MeanEnd}
use Rattle.oracle.specs.declared.tokens.Token.{Token}
use Rattle.oracle.specs.Running.{Plain, start_of}
use Rattle.oracle.specs.Rows.{rows_of, no_rows}
use Rattle.oracle.specs.Gathering.{Waved, Passes, Halts, Breaks, wave_among, waves_among, wave_counts}

-- from the start, with no row and none counted
pub waves_from : {V : Type 0} (g : Graph) (inputs : List ℤ) (steps : ℕ) (s : Plain) (w : List V) (f : V → List Token) (counts : List ℕ) → s
    ≡ start_of g inputs → w ≡ [] → counts ≡ []
    → wave_counts g inputs steps ≡ waves_among g (suc steps) steps s (rows_of (map f w)) counts
waves_from {V} g inputs steps s w f counts e h c =
    ap (λ t. waves_among g (suc steps) steps t no_rows []) (sym e) ∙ ap (λ v. waves_among g (suc steps) steps s (rows_of (map f v)) []) (sym h)
    ∙ ap (λ cs. waves_among g (suc steps) steps s (rows_of (map f w)) cs) (sym c)

module _ (g : Graph) (s : Plain) (rows : ℕ → List Token) (counts : List ℕ) where
  abbrev after : ℕ → ℕ → Waved → Option (MeanEnd × List ℕ)
  after most left v = elim v as (λ v. Option (MeanEnd × List ℕ)) [
    | Passes t rs n ↦ waves_among g most (left - n) t rs (counts ++ n ∷ [])
    | Halts e
        ↦ Some (e, counts)
    | Breaks ↦ None
  ]

  pub waves_none : (most left : ℕ) → wave_among g left s rows ≡ Breaks → waves_among g most left s rows counts ≡ None
  waves_none zero left e = refl
  waves_none (suc most) left e = ap (after most left) e

  pub waves_halt : (most left : ℕ) → left < most → (end : MeanEnd) → wave_among g left s rows ≡ Halts end → waves_among g most left s rows counts
      ≡ Some (end, counts)
  waves_halt zero left few end e = absurd (omega (arith, few))
  waves_halt (suc most) left few end e = ap (after most left) e

  pub waves_next : (most left n : ℕ) → left < most → 0 < n → n ≤ left → (t : Plain) (rs : ℕ → List Token) → wave_among g left s rows ≡ Passes t rs n
      → (all : Option (MeanEnd × List ℕ)) → all ≡ waves_among g most left s rows counts
      → (more : List ℕ) → more ≡ counts ++ n ∷ [] → (m : ℕ) × (left - n < m) × (all ≡ waves_among g m (left - n) t rs more)
  waves_next zero left n few some le t rs e all is more h = absurd (omega (arith, few))
  waves_next (suc most) left n few some le t rs e all is more h =
      (most, omega (arith, few, some, le), is ∙ ap (after most left) e ∙ ap (λ cs. waves_among g most (left - n) t rs cs) (sym h))

-- what a call returns
pub passed_by : (g : Graph) (left : ℕ) (s t : Plain) (rows rs : ℕ → List Token) (r : Result ℕ MeanEnd) (n : ℕ) → r ≡ Ok n
    → MatchResult r (λ n. wave_among g left s rows ≡ Passes t rs n) (λ e. wave_among g left s rows ≡ Halts e) → wave_among g left s rows ≡ Passes t rs n
passed_by g left s t rows rs r n is h = subst (λ r. MatchResult r (λ n. wave_among g left s rows ≡ Passes t rs n) (λ e. wave_among g left s rows
    ≡ Halts e)) is h

pub halted_by : (g : Graph) (left : ℕ) (s t : Plain) (rows rs : ℕ → List Token) (r : Result ℕ MeanEnd) (end : MeanEnd) → r ≡ Err end
    → MatchResult r (λ n. wave_among g left s rows ≡ Passes t rs n) (λ e. wave_among g left s rows ≡ Halts e) → wave_among g left s rows ≡ Halts end
halted_by g left s t rows rs r end is h = subst (λ r. MatchResult r (λ n. wave_among g left s rows ≡ Passes t rs n) (λ e. wave_among g left s rows
    ≡ Halts e)) is h

pub some_by : (r : Result ℕ MeanEnd) (n : ℕ) → r ≡ Ok n → IfOk r (λ n. 0 < n) → 0 < n
some_by r n is h = subst (λ r. IfOk r (λ n. 0 < n)) is h

pub few_by : (left : ℕ) (r : Result ℕ MeanEnd) (n : ℕ) → r ≡ Ok n → IfOk r (λ n. n ≤ left) → n ≤ left
few_by left r n is h = subst (λ r. IfOk r (λ n. n ≤ left)) is h
