-- Requests that a queue begins with.
use Rattle.std.proofs.Common.{◌≡◌, ℕ, zero, suc, ◌+◌, ◌≤◌, Bool, true, false, List, [], ◌∷◌, length, drop, arith}
use Rattle.std.specs.Prelude.{if◌then◌else◌}
use Rattle.tags.specs.declared.token.Token.{Token}
use Rattle.element.specs.Requests.{is_for_manager, held_back}

pub held_within : (q : List Token) → held_back q ≤ length q
held_within [] = omega arith
held_within (t ∷ ts) = by_case (is_for_manager t.to) (held_within ts)
  where
    by_case : (b : Bool) → held_back ts ≤ length ts → (if b then suc (held_back ts) else 0) ≤ length (t ∷ ts)
    by_case true rest = omega arith
    by_case false rest = omega arith

pub held_known : (q : List Token) (n : ℕ) → n ≤ held_back q → held_back q ≡ n + held_back (drop n q)
held_known q zero low = omega arith
held_known [] (suc n) low = absurd (omega arith)
held_known (t ∷ ts) (suc n) low = by_case (is_for_manager t.to) low (λ less. held_known ts n less)
  where
    by_case : (b : Bool) → suc n ≤ (if b then suc (held_back ts) else 0) → (n ≤ held_back ts → held_back ts ≡ n + held_back (drop n ts))
        → (if b then suc (held_back ts) else 0) ≡ suc n + held_back (drop n ts)
    by_case true some rest = let e = rest (omega arith) in omega arith
    by_case false some rest = absurd (omega arith)
