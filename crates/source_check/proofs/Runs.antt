-- Going over words one after another.
use Rattle.std.specs.Prelude.{◌≡◌, refl, ℕ, Bool, true, false, List, [], ◌∷◌, ◌++◌, Result, Ok, Err}
use Rattle.std.proofs.Common.{◌∙◌, ap}
use Rattle.source.specs.declared.fault.Fault.{Fault}
use Rattle.source.specs.declared.fault.FaultKind.{FaultKind}
use Rattle.source.specs.First.{◌>>=◌, must}
use Rattle.source_check.specs.Heads.{through}

-- what follows from an answer
abbrev pub mapped : {A B : Type 0} → (A → B) → Result A Fault → Result B Fault
mapped f (Ok x) = Ok (f x)
mapped f (Err e) = Err e

first_step : {S W : Type 0} (t : S → W → Result S Fault) (ws vs : List W) → ((s : S) → through t s (ws ++ vs) ≡ (through t s ws >>= λ u. through t u vs))
    → (r : Result S Fault) → (r >>= λ u. through t u (ws ++ vs)) ≡ ((r >>= λ u. through t u ws) >>= λ u. through t u vs)
first_step t ws vs h (Ok s) = h s
first_step t ws vs h (Err e) = refl

pub steps_append : {S W : Type 0} (t : S → W → Result S Fault) (ws vs : List W) (s : S) → through t s (ws ++ vs) ≡ (through t s ws >>= λ u. through t u vs)
steps_append t [] vs s = refl
steps_append t (w ∷ ws) vs s = first_step t ws vs (steps_append t ws vs) (t s w)

-- The words of a part leave a state for each answer about it, or its fault; then those of the next part do.
pub in_turn : {S W A B : Type 0} (t : S → W → Result S Fault) (s : S) (ws vs : List W) (r : Result A Fault) (q : A → Result B Fault) (f : A → S) (g : B → S)
    → through t s ws ≡ mapped f r → ((x : A) → through t (f x) vs ≡ mapped g (q x)) → through t s (ws ++ vs) ≡ mapped g (r >>= q)
in_turn t s ws vs (Ok x) q f g e h = steps_append t ws vs s ∙ ap (λ u. u >>= λ v. through t v vs) e ∙ h x
in_turn t s ws vs (Err x) q f g e h = steps_append t ws vs s ∙ ap (λ u. u >>= λ v. through t v vs) e

-- the same where the next part is one word with a test
pub tested : {S W A : Type 0} (t : S → W → Result S Fault) (vs : List W) (b : Bool) (kind : FaultKind) (at : ℕ) (q : Result A Fault) (s : S) (g : A → S)
    → through t s vs ≡ mapped g q → ((must b kind at >>= λ x. Ok s) >>= λ u. through t u vs) ≡ mapped g (must b kind at >>= λ x. q)
tested t vs true kind at q s g h = h
tested t vs false kind at q s g h = refl

-- where a test for one value is before
pub one_tested : {S W A B : Type 0} (t : S → W → Result S Fault) (vs : List W) (b : Bool) (kind : FaultKind) (at : ℕ) (a : A) (q : A
    → Result B Fault) (s : S) (g : B → S)
    → through t s vs ≡ mapped g (q a) → ((must b kind at >>= λ x. Ok s) >>= λ u. through t u vs) ≡ mapped g ((must b kind at >>= λ x. Ok a) >>= q)
one_tested t vs true kind at a q s g h = h
one_tested t vs false kind at a q s g h = refl

-- and where the next part always goes well
pub and_then : {S W A : Type 0} (t : S → W → Result S Fault) (s : S) (ws vs : List W) (r : Result A Fault) (f : A → S) (g : A → S)
    → through t s ws ≡ mapped f r → ((x : A) → through t (f x) vs ≡ Ok (g x)) → through t s (ws ++ vs) ≡ mapped g r
and_then t s ws vs (Ok x) f g e h = steps_append t ws vs s ∙ ap (λ u. u >>= λ v. through t v vs) e ∙ h x
and_then t s ws vs (Err x) f g e h = steps_append t ws vs s ∙ ap (λ u. u >>= λ v. through t v vs) e

pub bind-assoc : {A B C : Type 0} (r : Result A Fault) (q : A → Result B Fault) (k : B → Result C Fault) → ((r >>= q) >>= k) ≡ (r >>= λ x. q x >>= k)
bind-assoc (Ok x) q k = refl
bind-assoc (Err e) q k = refl

pub mapped_after : {A B C : Type 0} (r : Result A Fault) (f : A → C) (h : A → B) (g : B → C) → ((x : A) → f x ≡ g (h x))
    → mapped f r ≡ mapped g (r >>= λ x. Ok (h x))
mapped_after (Ok x) f h g e = ap Ok (e x)
mapped_after (Err x) f h g e = refl
