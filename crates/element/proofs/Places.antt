-- Where slots are, and what a change of one place leaves.
use Rattle.std.proofs.Common.{◌≡◌, sym, ◌∙◌, ap, subst, ℕ, ◌+◌, ◌*◌, ◌/◌, ◌%◌, ◌<◌, ◌≤◌, List, length, get_or, set, arith, get_or-set_other}
use Rattle.std.proofs.Common.{get_or-set_same, ⊎_elim}
use Rattle.std.proofs.lemmas.Bool.{cases_eq, cases_lt}
use Rattle.std.proofs.Math.Nat.{mul-le-mul_left}
use Rattle.tags.specs.declared.slot.SlotState.{SlotState}
use Rattle.tags.specs.declared.slot.SlotState.TheVariants.{Empty}
use Rattle.semantics.specs.Machine.{put_at}
use Rattle.semantics.proofs.Stores.{put_other, put_same}
use Rattle.frame_store.proofs.Apart.{below, one_slot}
use Rattle.element.specs.Parts.{Shape, slot_place}

-- what is the same at each place is the same
pub agree : {A : Type 0} {f g : ℕ → A} → ((x : ℕ) → f x ≡ g x) → f ≡ g
agree h = λ i x. h x i

-- a list with another item at one place
pub set_at : {A : Type 0} (xs : List A) (r j : ℕ) (v d : A) → r < length xs → put_at (λ k. get_or xs k d) r v j ≡ get_or (set xs r v) j d
set_at {A} xs r j v d l = ⊎_elim
    (λ (e : r ≡ j). put_same (λ k. get_or xs k d) r j v e ∙ sym (subst (λ (x : ℕ). get_or (set xs r v) x d ≡ v) e (get_or-set_same xs r v d l)))
    (λ (n : r ≡ j → ⊥). put_other (λ k. get_or xs k d) r j v n ∙ sym (get_or-set_other xs r j v d (λ e. n (sym e))))
    (cases_eq r j)

div-mod : (a n : ℕ) → n * (a / n) + a % n ≡ a
div-mod a n = omega arith

-- two frames of one element at one place of it are one frame
same_frame : (n f g : ℕ) → f % n ≡ g % n → f / n ≡ g / n → f ≡ g
same_frame n f g e q = omega (arith, e, q, div-mod f n, div-mod g n, ap (λ k. n * k) q)

-- the frame lies among those of the element
frame_there : (n m f : ℕ) → 0 < n → f < n * m → f / n < m
frame_there n m f some l = ⊎_elim
    (λ (less : f / n < m). less)
    (λ (more : m ≤ f / n). absurd (let h : n * m ≤ n * (f / n) = mul-le-mul_left n more in omega (arith, div-mod f n)))
    (cases_lt (f / n) m)

-- the slots of the frames that lie here, after one changed
module _ (z : Shape) (states : List SlotState) (some : 0 < z.elements) (bank : z.start + z.frames * z.width ≤ length states) where
  pub place_there : (f r : ℕ) → f < z.elements * z.frames → r < z.width → slot_place z f r < length states
  place_there f r l m =
      let h : f / z.elements < z.frames = frame_there z.elements z.frames f some l in
      let k : (f / z.elements) * z.width + r < z.frames * z.width + 0 = below z.width (f / z.elements) z.frames r 0 m h in
      omega arith

  pub slot_then : (slots : ℕ → ℕ → SlotState) (f r : ℕ) (v : SlotState) → f % z.elements ≡ z.element → f < z.elements * z.frames → r < z.width
      → (g q : ℕ) → g % z.elements ≡ z.element → q < z.width → slots g q ≡ get_or states (slot_place z g q) Empty
      → put_at slots f (put_at (slots f) r v) g q ≡ get_or (set states (slot_place z f r) v) (slot_place z g q) Empty
  slot_then slots f r v ours there low g q ours2 low2 was = ⊎_elim
      (λ (e : f ≡ g). ap (λ (k : ℕ → SlotState). k q) (put_same slots f g (put_at (slots f) r v) e) ∙ in_frame e)
      (λ (n : f ≡ g → ⊥). ap (λ (k : ℕ → SlotState). k q) (put_other slots f g (put_at (slots f) r v) n) ∙ was
      ∙ sym (get_or-set_other states (slot_place z f r) (slot_place z g q) v Empty (λ e. n (sym (frames_are (sym e))))))
      (cases_eq f g)
    where
      frames_are : slot_place z f r ≡ slot_place z g q → g ≡ f
      frames_are e = same_frame z.elements g f (ours2 ∙ sym ours) (sym ((one_slot z.width (f / z.elements) (g / z.elements) r q low low2 (omega arith)).0))

      slots_are : slot_place z f r ≡ slot_place z g q → r ≡ q
      slots_are e = (one_slot z.width (f / z.elements) (g / z.elements) r q low low2 (omega arith)).1

      place_is : f ≡ g → r ≡ q → slot_place z f r ≡ slot_place z g q
      place_is e same = ap (λ (k : ℕ). slot_place z k r) e ∙ ap (λ (k : ℕ). slot_place z g k) same

      in_frame : f ≡ g → put_at (slots f) r v q ≡ get_or (set states (slot_place z f r) v) (slot_place z g q) Empty
      in_frame e = ⊎_elim
          (λ (same : r ≡ q). put_same (slots f) r q v same
          ∙ sym (subst (λ (k : ℕ). get_or (set states (slot_place z f r) v) k Empty ≡ v) (place_is e same)
          (get_or-set_same states (slot_place z f r) v Empty (place_there f r there low))))
          (λ (n : r ≡ q → ⊥). put_other (slots f) r q v n ∙ ap (λ (k : ℕ). slots k q) e ∙ was
          ∙ sym (get_or-set_other states (slot_place z f r) (slot_place z g q) v Empty (λ same. n (slots_are (sym same)))))
          (cases_eq r q)
