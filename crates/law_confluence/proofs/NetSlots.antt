-- Slots hold what waits: in any frames, with slots that may be shared, so long as items that wait at one time lie apart. The
-- other slots are as `base` says: empty, or with a loop's credits.
use Rattle.std.proofs.Common.{◌≡◌, ℕ, List, ◌∷◌, refl, sym, ap, ◌∙◌, subst, inl, inr, ◌⊎◌, eq-eqb}
use Rattle.std.specs.Prelude.{IsPermutation, Contains}
use Rattle.std.proofs.lemmas.Bool.{cases_eq}
use Rattle.std.proofs.lemmas.List.Sorted.{IsPermutation-sym, Contains-permutation}
use Rattle.lemmas.proofs.Contains.{contains_cases, contains_head, contains_tail}
use Rattle.tags.specs.declared.slot.SlotState.{SlotState}
use Rattle.tags.specs.declared.slot.SlotState.TheVariants.{Empty}
use Rattle.semantics.specs.Machine.{put_at, Store, with_slot}
use Rattle.semantics.proofs.Stores.{put_other, slot_filled}

pub put_same : {A : Type 0} (f : ℕ → A) (x : ℕ) (a : A) → put_at f x a x ≡ a
put_same f x a = rw (eq-eqb x x refl)

pub slot_other : (s : Store) (f q : ℕ) (v : SlotState) (g r : ℕ) → (f ≡ g → q ≡ r → ⊥) → (with_slot s f q v).slots g r ≡ s.slots g r
slot_other s f q v g r h = pick (cases_eq f g)
  where
    pick : (f ≡ g) ⊎ (f ≡ g → ⊥) → (with_slot s f q v).slots g r ≡ s.slots g r
    pick (inl e) = subst (λ z. (f ≡ z → q ≡ r → ⊥) → (with_slot s f q v).slots z r ≡ s.slots z r) e
        (λ h. ap (λ k. k r) (put_same s.slots f (put_at (s.slots f) q v)) ∙ put_other (s.slots f) q r v (h refl)) h
    pick (inr n) = ap (λ k. k r) (put_other s.slots f g (put_at (s.slots f) q v) n)

-- the store with these slots
abbrev pub with_base : Store → (ℕ → ℕ → SlotState) → Store
with_base s slots = record s { slots = slots }

module _ {I : Type 0} (frame slot : I → ℕ) (held : I → SlotState) (base : ℕ → ℕ → SlotState) where
  abbrev pub Lies : I → ℕ → ℕ → Type 0
  Lies i f q = (frame i ≡ f) × (slot i ≡ q)

  abbrev pub AtSlot : List I → ℕ → ℕ → Type 0
  AtSlot items f q = (i : I) × Contains items i × (frame i ≡ f) × (slot i ≡ q)

  -- the slots hold exactly what waits
  pub record InSlots (waiting : List I) (slots : ℕ → ℕ → SlotState) : Type 0 where
    pub waits : (i : I) → Contains waiting i → slots (frame i) (slot i) ≡ held i
    pub empty : (f q : ℕ) → (slots f q ≡ base f q) ⊎ AtSlot waiting f q

  -- nothing that waits has the place of the item
  abbrev pub Apart : I → List I → Type 0
  Apart i items = (j : I) → Contains items j → frame i ≡ frame j → slot i ≡ slot j → ⊥

  -- an item begins to wait
  pub slots_add : (i : I) (items : List I) → Apart i items → (s : Store) → InSlots items s.slots
      → InSlots (i ∷ items) (with_slot s (frame i) (slot i) (held i)).slots
  slots_add i items apart s k = record {
    waits = λ j c. by_case j (contains_cases i items j c);
    empty = λ f q. at f q (cases_eq (frame i) f) (cases_eq (slot i) q);
  }
    where
      by_case : (j : I) → (i ≡ j) ⊎ Contains items j → (with_slot s (frame i) (slot i) (held i)).slots (frame j) (slot j) ≡ held j
      by_case j (inl e) =
          subst (λ (z : I). (with_slot s (frame i) (slot i) (held i)).slots (frame z) (slot z) ≡ held z) e (slot_filled s (frame i) (slot i) (held i))
      by_case j (inr c) = slot_other s (frame i) (slot i) (held i) (frame j) (slot j) (apart j c) ∙ k.waits j c

      old : (f q : ℕ) → (frame i ≡ f → slot i ≡ q → ⊥) → (s.slots f q ≡ base f q) ⊎ AtSlot items f q
          → ((with_slot s (frame i) (slot i) (held i)).slots f q ≡ base f q) ⊎ AtSlot (i ∷ items) f q
      old f q n (inl e) = inl (slot_other s (frame i) (slot i) (held i) f q n ∙ e)
      old f q n (inr (j, c, a, d)) = inr (j, contains_tail i items j c, a, d)

      at : (f q : ℕ) → (frame i ≡ f) ⊎ (frame i ≡ f → ⊥) → (slot i ≡ q) ⊎ (slot i ≡ q → ⊥)
          → ((with_slot s (frame i) (slot i) (held i)).slots f q ≡ base f q) ⊎ AtSlot (i ∷ items) f q
      at f q (inl a) (inl d) = inr (i, contains_head i items, a, d)
      at f q (inr n) d = old f q (λ a d. n a) (k.empty f q)
      at f q (inl a) (inr n) = old f q (λ a d. n d) (k.empty f q)

  -- an item is taken out of its slot
  pub slots_drop : (j : I) (items others : List I) → IsPermutation items (j ∷ others) → Apart j others → base (frame j) (slot j) ≡ Empty → (s : Store)
      → InSlots items s.slots → InSlots others (with_slot s (frame j) (slot j) Empty).slots
  slots_drop j items others perm apart none s k = record {
    waits =
        λ i c. slot_other s (frame j) (slot j) Empty (frame i) (slot i) (apart i c)
        ∙ k.waits i (Contains-permutation _ _ i (IsPermutation-sym _ _ perm) (contains_tail j others i c));
    empty = λ f q. at f q (cases_eq (frame j) f) (cases_eq (slot j) q);
  }
    where
      left : (f q : ℕ) → (frame j ≡ f → slot j ≡ q → ⊥) → (i : I) → frame i ≡ f → slot i ≡ q → (j ≡ i) ⊎ Contains others i
          → ((with_slot s (frame j) (slot j) Empty).slots f q ≡ base f q) ⊎ AtSlot others f q
      left f q n i a d (inl e) = absurd (n (ap frame e ∙ a) (ap slot e ∙ d))
      left f q n i a d (inr c) = inr (i, c, a, d)

      old : (f q : ℕ) → (frame j ≡ f → slot j ≡ q → ⊥) → (s.slots f q ≡ base f q) ⊎ AtSlot items f q
          → ((with_slot s (frame j) (slot j) Empty).slots f q ≡ base f q) ⊎ AtSlot others f q
      old f q n (inl e) = inl (slot_other s (frame j) (slot j) Empty f q n ∙ e)
      old f q n (inr (i, c, a, d)) = left f q n i a d (contains_cases j others i (Contains-permutation _ _ i perm c))

      at : (f q : ℕ) → (frame j ≡ f) ⊎ (frame j ≡ f → ⊥) → (slot j ≡ q) ⊎ (slot j ≡ q → ⊥)
          → ((with_slot s (frame j) (slot j) Empty).slots f q ≡ base f q) ⊎ AtSlot others f q
      at f q (inl a) (inl d) =
          inl (subst (λ z. (with_slot s (frame j) (slot j) Empty).slots z q ≡ base z q) a
          (subst (λ z. (with_slot s (frame j) (slot j) Empty).slots (frame j) z ≡ base (frame j) z) d (slot_filled s (frame j) (slot j) Empty ∙ sym none)))
      at f q (inr n) d = old f q (λ a d. n a) (k.empty f q)
      at f q (inl a) (inr n) = old f q (λ a d. n d) (k.empty f q)

-- a loop's slot goes on, where nothing waits
pub slots_turn : {I : Type 0} (frame slot : I → ℕ) (held : I → SlotState) (base : ℕ → ℕ → SlotState) (f q : ℕ) (v : SlotState) (items : List I)
    → ((j : I) → Contains items j → f ≡ frame j → q ≡ slot j → ⊥) → (s : Store)
    → InSlots frame slot held base items s.slots → InSlots frame slot held (with_slot (with_base s base) f q v).slots items (with_slot s f q v).slots
slots_turn frame slot held base f q v items apart s k = record {
  waits = λ j c. slot_other s f q v (frame j) (slot j) (apart j c) ∙ k.waits j c;
  empty = λ g r. at g r (cases_eq f g) (cases_eq q r);
}
  where
    other : (g r : ℕ) → (f ≡ g → q ≡ r → ⊥) → (s.slots g r ≡ base g r) ⊎ AtSlot frame slot held base items g r
        → ((with_slot s f q v).slots g r ≡ (with_slot (with_base s base) f q v).slots g r) ⊎ AtSlot frame slot held base items g r
    other g r n (inl e) = inl (slot_other s f q v g r n ∙ e ∙ sym (slot_other (with_base s base) f q v g r n))
    other g r n (inr t) = inr t

    at : (g r : ℕ) → (f ≡ g) ⊎ (f ≡ g → ⊥) → (q ≡ r) ⊎ (q ≡ r → ⊥)
        → ((with_slot s f q v).slots g r ≡ (with_slot (with_base s base) f q v).slots g r) ⊎ AtSlot frame slot held base items g r
    at g r (inl a) (inl d) =
        inl (subst (λ z. (with_slot s f q v).slots z r ≡ (with_slot (with_base s base) f q v).slots z r) a
        (subst (λ z. (with_slot s f q v).slots f z ≡ (with_slot (with_base s base) f q v).slots f z) d
        (slot_filled s f q v ∙ sym (slot_filled (with_base s base) f q v))))
    at g r (inr n) d = other g r (λ a d. n a) (k.empty g r)
    at g r (inl a) (inr n) = other g r (λ a d. n d) (k.empty g r)
