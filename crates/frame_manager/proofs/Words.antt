-- Sets of numbers as words: one number more or less, and the least number.
use Rattle.std.proofs.Common.{◌≡◌, ◌≢◌, ℕ, ◌+◌, ◌*◌, ◌/◌, ◌%◌, ◌^◌, ◌<◌, ◌≤◌, List, length, set, get_or, sym, ap, ◌∙◌, arith, ⊎_elim, w64, bit_or, bit_and}
use Rattle.std.specs.Int.{bit_at, bit_not, trailing_zeros}
use Rattle.std.proofs.lemmas.Bool.{cases_eq, cases_lt}
use Rattle.std.proofs.lemmas.List.{get_or-set_same, get_or-set_other, get_or_past}
use Rattle.std.proofs.lemmas.Nat.Bits.{bit_at_set_same, bit_at_set_other, bit_at_clear_same, bit_at_clear_other, bit_at-trailing_zeros, bit_at-zero}
use Rattle.frame_manager.specs.Bits.{bit_of, IsFirst}

-- a word is replaced
module _ (words : List ℕ) (number n : ℕ) (h : number / 64 < length words) where
  pub bit_there : bit_of (set words (number / 64) n) number ≡ bit_at n (number % 64)
  bit_there = ap (λ w. bit_at w (number % 64)) (get_or-set_same words (number / 64) n 0 h)

  pub bit_elsewhere : (i : ℕ) → (i / 64 ≡ number / 64 → bit_at n (i % 64) ≡ bit_at (get_or words (number / 64) 0) (i % 64))
      → bit_of (set words (number / 64) n) i ≡ bit_of words i
  bit_elsewhere i same = ⊎_elim
      (λ (e : i / 64 ≡ number / 64). ap (λ p. bit_at (get_or (set words (number / 64) n) p 0) (i % 64)) e
      ∙ ap (λ w. bit_at w (i % 64)) (get_or-set_same words (number / 64) n 0 h) ∙ same e ∙ ap (λ p. bit_at (get_or words p 0) (i % 64)) (sym e))
      (λ (ne : i / 64 ≡ number / 64 → ⊥). ap (λ w. bit_at w (i % 64)) (get_or-set_other words (number / 64) (i / 64) n 0 ne))
      (cases_eq (i / 64) (number / 64))

apart : (i number : ℕ) → i ≢ number → i / 64 ≡ number / 64 → i % 64 ≢ number % 64
apart i number ne e r = ne (omega arith)

module _ (words : List ℕ) (number : ℕ) (h : number / 64 < length words) where
  abbrev with_more : ℕ
  with_more = bit_or (get_or words (number / 64) 0) (1 * 2 ^ (number % 64) % 2 ^ 64)

  abbrev with_less : ℕ
  with_less = bit_and (get_or words (number / 64) 0) (bit_not w64 (1 * 2 ^ (number % 64) % 2 ^ 64))

  below : number % 64 < 64
  below = omega arith

  pub insert_there : bit_of (set words (number / 64) with_more) number ≡ 1
  insert_there = bit_there words number with_more h ∙ bit_at_set_same w64 (get_or words (number / 64) 0) (number % 64) below

  pub insert_others : (i : ℕ) → i ≢ number → bit_of (set words (number / 64) with_more) i ≡ bit_of words i
  insert_others i ne = bit_elsewhere words number with_more h i (λ e. bit_at_set_other w64 (get_or words (number / 64) 0) (number % 64) below (i % 64)
      (apart i number ne e))

  pub remove_gone : bit_of (set words (number / 64) with_less) number ≡ 0
  remove_gone = bit_there words number with_less h ∙ bit_at_clear_same w64 (get_or words (number / 64) 0) (number % 64) below

  pub remove_others : (i : ℕ) → i ≢ number → bit_of (set words (number / 64) with_less) i ≡ bit_of words i
  remove_others i ne = bit_elsewhere words number with_less h i (λ e. bit_at_clear_other w64 (get_or words (number / 64) 0) (number % 64) below
      (i % 64) (omega arith) (apart i number ne e))

-- THE LEAST NUMBER. So far all words were 0.
abbrev pub NoneBelow : List ℕ → ℕ → Type 0
NoneBelow words n = (k : ℕ) → k < n → bit_of words k ≡ 0

bit_in_zero : (words : List ℕ) (k : ℕ) → get_or words (k / 64) 0 ≡ 0 → bit_of words k ≡ 0
bit_in_zero words k e = ap (λ w. bit_at w (k % 64)) e ∙ bit_at-zero (k % 64)

pub none_more : (words : List ℕ) (p : ℕ) → NoneBelow words (64 * p) → get_or words p 0 ≡ 0 → NoneBelow words (64 * (p + 1))
none_more words p before zero_word k h = ⊎_elim
    (λ (lt : k < 64 * p). before k lt)
    (λ (ge : 64 * p ≤ k). let e : k / 64 ≡ p = omega arith in bit_in_zero words k (ap (λ q. get_or words q 0) e ∙ zero_word))
    (cases_lt k (64 * p))

pub none_at_all : (words : List ℕ) → NoneBelow words (64 * length words) → (k : ℕ) → bit_of words k ≡ 0
none_at_all words before k = ⊎_elim
    (λ (lt : k < 64 * length words). before k lt)
    (λ (ge : 64 * length words ≤ k). bit_in_zero words k (get_or_past words (k / 64) 0 (omega arith)))
    (cases_lt k (64 * length words))

pub first_there : (words : List ℕ) (p n : ℕ) → NoneBelow words (64 * p) → get_or words p 0 ≡ n → 0 < n → n < 2 ^ 64
    → IsFirst words (64 * p + trailing_zeros w64 n)
first_there words p n before e pos fits =
    let z = bit_at-trailing_zeros w64 n pos fits in
    let t : ℕ = trailing_zeros w64 n in
    let small : trailing_zeros w64 n < 64 = z.0 in
    let q : (64 * p + trailing_zeros w64 n) / 64 ≡ p = omega arith in
    let r : (64 * p + trailing_zeros w64 n) % 64 ≡ trailing_zeros w64 n = omega arith in
    record {
      there = ap (λ i. bit_at (get_or words i 0) ((64 * p + trailing_zeros w64 n) % 64)) q ∙ ap (λ i. bit_at (get_or words p 0) i) r
          ∙ ap (λ w. bit_at w (trailing_zeros w64 n)) e ∙ z.1;
      least = λ k h. ⊎_elim
          (λ (lt : k < 64 * p). before k lt)
          (λ (ge : 64 * p ≤ k).
          let at : k / 64 ≡ p = omega arith in
          let low : k % 64 < trailing_zeros w64 n = omega arith in
          ap (λ i. bit_at (get_or words i 0) (k % 64)) at ∙ ap (λ w. bit_at w (k % 64)) e ∙ z.2 (k % 64) low)
          (cases_lt k (64 * p));
    }
