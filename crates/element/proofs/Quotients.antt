-- A number of which one bit is set is a power of two: division by it is a shift, and the remainder a mask.
use Rattle.std.proofs.Common.{◌≡◌, ℕ, zero, suc, ◌+◌, ◌*◌, ◌^◌, ◌<◌, ◌≤◌, ◌/◌, ◌%◌, ◌-◌, ◌⊎◌, refl, sym, ap, ◌∙◌, subst, inl, inr, bit_and, arith}
use Rattle.std.specs.Prelude.{IsTrue}
use Rattle.std.specs.Int.{is_power_of_two}
use Rattle.std.specs.Int.Count.{count_trailing_zeros, ones, under}
use Rattle.std.specs.Int.RustNames.{count_ones}
use Rattle.std.proofs.lemmas.Bool.{eqb-true}
use Rattle.std.proofs.Math.Nat.{mod-eq_of_lt, mod-lt, pow-suc}
use Rattle.std.proofs.lemmas.Nat.{and_mask, zero_from_ones, ones_le_self, ones_cat, div-add-mod'}

pub below : (n m : ℕ) → n < m → n % m ≡ n
below n m low = mod-eq_of_lt low

some_two : 0 < 2
some_two = omega arith

halved : (n : ℕ) → ones n ≡ ones (n / 2) + ones (n % 2)
halved n = ap ones (sym (div-add-mod' n 2)) ∙ ones_cat 1 (n / 2) (n % 2) (mod-lt n some_two)

two_bits : (r : ℕ) → r < 2 → (r ≡ 0) ⊎ (r ≡ 1)
two_bits zero below = inl refl
two_bits (suc zero) below = inr refl
two_bits (suc (suc r)) below = absurd (omega arith)

doubled : (t h n : ℕ) → 2 ^ t ≡ h → n ≡ h * 2 → 2 ^ suc t ≡ n
doubled t h n e d = pow-suc 2 t ∙ ap (λ x. x * 2) e ∙ sym d

-- what is said of half of n says it of n
power_of : (t n : ℕ) → ones n ≡ 1 → (ones (n / 2) ≡ 1 → 2 ^ t ≡ n / 2) → (n % 2 ≡ 0) ⊎ (n % 2 ≡ 1) → 2 ^ under (n % 2) t ≡ n
unfolding count_ones
power_of t n one half (inl even) =
    let whole = div-add-mod' n 2 in
    let h = halved n in
    let none : ones (n % 2) ≡ 0 = ap ones even in
    ap (λ r. 2 ^ under r t) even ∙ doubled t (n / 2) n (half (omega (arith, h, none, one))) (omega (arith, whole, even))
power_of t n one half (inr odd) =
    let whole = div-add-mod' n 2 in
    let h = halved n in
    let top : ones (n % 2) ≡ 1 = ap ones odd in
    let rest : n / 2 ≡ 0 = zero_from_ones (n / 2) (omega (arith, h, top, one)) in
    ap (λ r. 2 ^ under r t) odd ∙ omega (arith, whole, odd, rest)

power : (k n : ℕ) → ones n ≡ 1 → n < 2 ^ k → 2 ^ count_trailing_zeros k n ≡ n
unfolding count_trailing_zeros
power zero n one below = let some : ones n ≤ n = ones_le_self n in absurd (omega (arith, some, one, below))
power (suc k) n one below =
    let whole = div-add-mod' n 2 in
    let more = pow-suc 2 k in
    power_of (count_trailing_zeros k (n / 2)) n one (λ half. power k (n / 2) half (omega (arith, whole, below, more))) (two_bits (n % 2) (mod-lt n some_two))

pub quotient : (x n : ℕ) → IsTrue (is_power_of_two n) → n < 2 ^ 32 → x / 2 ^ count_trailing_zeros 32 n ≡ x / n
quotient x n is below = ap (λ m. x / m) (power 32 n (eqb-true (ones n) 1 is) below)

pub remainder : (x n : ℕ) → IsTrue (is_power_of_two n) → n < 2 ^ 32 → bit_and x (n - 1) ≡ x % n
remainder x n is below = subst (λ m. bit_and x (m - 1) ≡ x % m) (power 32 n (eqb-true (ones n) 1 is) below) (and_mask x (count_trailing_zeros 32 n))
