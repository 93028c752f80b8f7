-- How long rows are, and one step of the pass that finds where copies are.
use Rattle.std.proofs.Common.{◌≡◌, ℕ, zero, suc, ◌+◌, ◌<◌, Bool, true, false, List, ◌∷◌, ◌++◌, length, append_assoc, get_or, drop, refl, sym, ap}
use Rattle.std.proofs.Common.{◌∙◌, inl, inr, ◌⊎◌, arith, le_of_suc-le-suc, not-suc-le-zero, []}
use Rattle.lemmas.proofs.Lists.{drop_opens}
use Rattle.semantics.specs.Program.{Instr}
use Rattle.fanout.specs.Rows.{run}
use Rattle.fanout.specs.Places.{size, bases_from}

-- a row ends after its instruction, or goes on
pub run_next : (ts : List Bool) (n : ℕ) → n < length ts → ((n + 1 ≡ n + run (drop n ts)) ⊎ (n + run (drop n ts) ≡ n + 1 + run (drop (n + 1) ts)))
run_next [] n h = absurd (not-suc-le-zero h)
run_next (true ∷ ts) zero h = inr (omega arith)
run_next (false ∷ ts) zero h = inl refl
run_next (t ∷ ts) (suc n) h = shift (run_next ts n (le_of_suc-le-suc h))
  where
    shift : (n + 1 ≡ n + run (drop n ts)) ⊎ (n + run (drop n ts) ≡ n + 1 + run (drop (n + 1) ts))
        → (suc n + 1 ≡ suc n + run (drop (suc n) (t ∷ ts))) ⊎ (suc n + run (drop (suc n) (t ∷ ts)) ≡ suc n + 1 + run (drop (suc n + 1) (t ∷ ts)))
    shift (inl e) = inl (omega (arith, e))
    shift (inr e) = let m : suc n + 1 ≡ suc (n + 1) = omega arith in let k : run (drop (suc n + 1) (t ∷ ts))
        ≡ run (drop (n + 1) ts) = ap (λ m. run (drop m (t ∷ ts))) m in inr (omega (arith, e, k))

pub bases_step : (ts : List Bool) (is : List Instr) (n copied copied' : ℕ) (olds news all : List ℕ) (i : Instr) → n < length is → i ≡ get_or is n i
    → news ≡ olds ++ (n + run (drop n ts) + copied) ∷ [] → copied' ≡ copied + size i → olds ++ bases_from ts n copied (drop n is) ≡ all → news
    ++ bases_from ts (n + 1) copied' (drop (n + 1) is) ≡ all
bases_step ts is n copied copied' olds news all i h e more size_is so =
    (λ k. more k ++ bases_from ts (n + 1) (size_is k) (drop (n + 1) is))
    ∙ append_assoc olds ((n + run (drop n ts) + copied) ∷ []) (bases_from ts (n + 1) (copied + size i) (drop (n + 1) is))
    ∙ ap (λ is. olds ++ bases_from ts n copied is) (sym (drop_opens is n i h e)) ∙ so
