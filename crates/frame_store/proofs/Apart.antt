-- Each slot has its own place.
use Rattle.std.proofs.Common.{◌≡◌, sym, ap, ℕ, ◌+◌, ◌*◌, ◌<◌, ◌≤◌, arith, get_or-set_other, get_or-set_same, ◌⊎◌, ⊎_elim, inl, inr}
use Rattle.std.proofs.lemmas.Bool.{cases_eq, cases_lt}
use Rattle.std.proofs.Math.Nat.{mul-le-mul_right}
use Rattle.tags.specs.declared.slot.SlotState.TheVariants.{Empty}
use Rattle.frame_store.specs.Slots.{Slots, bank_size, place_of, IsSlot, SlotsStandApart}

pub below : (w a b r q : ℕ) → r < w → a < b → a * w + r < b * w + q
below w a b r q l m = let h : (a + 1) * w ≤ b * w = mul-le-mul_right w (omega arith) in omega (arith, h, times w a)
  where
    times : (w a : ℕ) → (a + 1) * w ≡ a * w + w
    times w a = omega arith

-- two at one place of rows of one width are in one row, and there at one place
pub one_slot : (w a b r q : ℕ) → r < w → q < w → a * w + r ≡ b * w + q → (a ≡ b) × (r ≡ q)
one_slot w a b r q l m e = ⊎_elim
    (λ (same : a ≡ b). (same, (let h : a * w ≡ b * w = ap (λ k. k * w) same in omega arith)))
    (λ (ne : a ≡ b → ⊥). absurd (apart ne))
    (cases_eq a b)
  where
    sides : (a b : ℕ) → (a ≡ b → ⊥) → (a < b) ⊎ (b < a)
    sides a b ne = ⊎_elim (λ (l : a < b). inl l) (λ (l : b ≤ a). inr (omega arith)) (cases_lt a b)

    apart : (a ≡ b → ⊥) → ⊥
    apart ne = ⊎_elim
        (λ (lt : a < b). let h = below w a b r q l lt in let k : a * w + r < b * w + q = h in omega arith)
        (λ (gt : b < a). let k : b * w + q < a * w + r = below w b a q r m gt in omega arith)
        (sides a b ne)

-- a slot of a frame lies within a bank
within : (s : Slots) (f r : ℕ) → f < s.frames → r < s.width → f * s.width + r < bank_size s
within s f r lf lr =
    let h : f * s.width + r < s.frames * s.width + 0 = below s.width f s.frames r 0 lr lf in
    omega arith

pub one_place : (s : Slots) (e f r d g q : ℕ) → IsSlot s e f r → IsSlot s d g q → place_of s e f r ≡ place_of s d g q → (e ≡ d) × (f ≡ g) × (r ≡ q)
one_place s e f r d g q is other same =
    let bank = one_slot (bank_size s) e d (f * s.width + r) (g * s.width + q) (within s f r is.frame is.slot) (within s g q other.frame other.slot) same in
    let inner = one_slot s.width f g r q is.slot other.slot bank.1 in
    (bank.0, inner.0, inner.1)

pub slots_apart : SlotsStandApart
slots_apart s e f r is there w = (
  get_or-set_same s.states (place_of s e f r) w Empty there,
  λ d g q other ne. get_or-set_other s.states (place_of s e f r) (place_of s d g q) w Empty (λ same. let k = one_place s e f r d g q is other
      (sym same) in ne k.0 k.1 k.2),
)
