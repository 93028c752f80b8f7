-- What is read after a write, at its place and at others.
use Rattle.std.proofs.Common.{◌∙◌, ◌≡◌, Bool, ap, cond, eq-eqb, if◌then◌else◌, ne_eqb, refl, ℕ}
use Rattle.tags.specs.declared.slot.SlotState.{SlotState}
use Rattle.semantics.specs.Machine.{put_at, Store as MStore, with_slot}

pub put_same : {A : Type 0} (f : ℕ → A) (x y : ℕ) (a : A) → x ≡ y → put_at f x a y ≡ a
put_same f x y a e = ap (λ b. cond b a (f y)) (eq-eqb x y e)

pub put_other : {A : Type 0} (f : ℕ → A) (x y : ℕ) (a : A) → (x ≡ y → ⊥) → put_at f x a y ≡ f y
put_other f x y a h = rw (ne_eqb x y h)

pub slot_filled : (s : MStore) (f r : ℕ) (v : SlotState) → (with_slot s f r v).slots f r ≡ v
slot_filled s f r v = ap (λ (b : Bool). (if b then put_at (s.slots f) r v else s.slots f) r) (eq-eqb f f refl)
    ∙ ap (λ (b : Bool). if b then v else s.slots f r) (eq-eqb r r refl)
