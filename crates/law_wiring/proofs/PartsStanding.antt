-- Parts that are placed one after the other, and rows of them.
use Rattle.std.proofs.Common.{◌≡◌, ℕ, zero, suc, ◌+◌, ◌<◌, List, [], ◌∷◌, ◌++◌, length, refl, ap, ◌∙◌, subst, arith}
use Rattle.std.specs.Prelude.{⊤}
use Rattle.law_net.specs.ContextsParts.{Part}
use Rattle.law_net.specs.ContextsExpanded.{row}

-- parts are placed one after the other, from a place on
abbrev pub Stand : (Part → ℕ) → ℕ → List Part → Type 0
Stand place m [] = ⊤
Stand place m (r ∷ rs) = (place r ≡ m) × Stand place (suc m) rs

pub stand_left : (place : Part → ℕ) (m : ℕ) (rs qs : List Part) → Stand place m (rs ++ qs) → Stand place m rs
stand_left place m [] qs h = tt
stand_left place m (r ∷ rs) qs h = (h.0, stand_left place (suc m) rs qs h.1)

pub stand_right : (place : Part → ℕ) (m k : ℕ) (rs qs : List Part) → Stand place m (rs ++ qs) → k ≡ m + length rs → Stand place k qs
stand_right place m k [] qs h e = let same : m ≡ k = omega (arith, e) in subst (λ j. Stand place j qs) same h
stand_right place m k (r ∷ rs) qs h e = stand_right place (suc m) k rs qs h.1 (omega (arith, e))

pub row_length : (f : ℕ → Part) (from n : ℕ) → length (row f from n) ≡ n
row_length f from zero = refl
row_length f from (suc n) = ap suc (row_length f (from + 1) n)

pub row_push : (f : ℕ → Part) (from n : ℕ) → row f from (suc n) ≡ row f from n ++ f (from + n) ∷ []
row_push f from zero = let same : from ≡ from + 0 = omega arith in ap (λ k. f k ∷ []) same
row_push f from (suc n) =
    let same : (from + 1) + n ≡ from + suc n = omega arith in ap (λ xs. f from ∷ xs) (row_push f (from + 1) n ∙ ap (λ k. row f (from + 1) n ++ f k ∷ []) same)

pub stand_row : (place : Part → ℕ) (f : ℕ → Part) (m from n k : ℕ) → Stand place m (row f from n) → k < n → place (f (from + k)) ≡ m + k
stand_row place f m from zero k h l = absurd (omega (arith, l))
stand_row place f m from (suc n) zero h l = let same : from + 0 ≡ from = omega arith in ap (λ j. place (f j)) same ∙ h.0 ∙ omega arith
stand_row place f m from (suc n) (suc k) h l =
    let same : from + suc k ≡ (from + 1) + k = omega arith in
    ap (λ j. place (f j)) same ∙ stand_row place f (suc m) (from + 1) n k h.1 (omega (arith, l)) ∙ omega arith
