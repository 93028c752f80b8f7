-- The events of literals, and of operators with a literal operand.
use Rattle.std.proofs.Common.{◌≡◌, refl, sym, ap, ◌∙◌, subst, ℕ, ◌⊎◌, inl, inr, Bool, ℤ, List, Some, None}
use Rattle.std.specs.Prelude.{if◌then◌else◌}
use Rattle.std.proofs.lemmas.Bool.{cases_eq, eq-eqb, ne_eqb}
use Rattle.tags.specs.declared.value.Value.{Value}
use Rattle.tags.specs.declared.value.Value.TheVariants.{Int}
use Rattle.tags.specs.declared.token.Port.TheVariants.{Left, Right}
use Rattle.tags.specs.declared.token.Word.{Word}
use Rattle.tags.specs.declared.token.Token.{Token}
use Rattle.tags.specs.declared.slot.SlotState.{SlotState}
use Rattle.tags.specs.declared.slot.SlotState.TheVariants as Slot
use Rattle.tags.specs.declared.slot.SlotState.TheVariants.{Empty, Credits, Waiter, Draining}
use Rattle.semantics.specs.declared.program.Op.{Op}
use Rattle.semantics.specs.declared.program.Op.TheVariants.{Apply2Right, Apply2Left, Lit}
use Rattle.semantics.specs.Program.{Instr, Program}
use Rattle.semantics.specs.Rule.{Point, to_all, fires, fire_one, meets, outcome_of, slot_of}
use Rattle.semantics.specs.Machine.{Store as MStore, put_at, with_slot, slot_in, Fires, excluded_by}
use Rattle.operators.specs.declared.Binary.{Binary}
use Rattle.operators.specs.Values.{apply2}
use Rattle.semantics.specs.declared.program.Op.TheVariants.{Copy}
use Rattle.std.proofs.Common.{true}
use Rattle.law_simulation.specs.Simulates.{HandsOn, hands_on}

-- the event of what passes on
pub hands_fires : (kind : Word → Type 0) (p : Program) (f a : ℕ) (w v : Word) (i : Instr) (s : MStore) → HandsOn kind i.op w v
    → Fires s f (slot_of i i.op) (outcome_of p record { frame = f; ip = a } i i.op (slot_in s f (slot_of i i.op)) Left w)
    (to_all record { frame = f; ip = a } v i) s
hands_fires kind p f a w v i s e = go i.op refl e
  where
    seat : Point
    seat = record { frame = f; ip = a }

    go : (op : Op) → i.op ≡ op → HandsOn kind op w v → Fires s f (slot_of i op) (outcome_of p seat i op (slot_in s f (slot_of i op)) Left w) (to_all seat v i) s
    go (Lit z) is e =
        subst (λ (x : Op). Fires s f None (fires Empty (fire_one p seat i x w)) (to_all seat v i) s) (sym is)
        (ap (λ (v : Word). to_all seat v i) e.0, refl)
    go Copy is e =
        subst (λ (x : Op). Fires s f None (fires Empty (fire_one p seat i x w)) (to_all seat v i) s) (sym is) (ap (λ (v : Word). to_all seat v i) e, refl)
    go op is e = absurd e

pub hands_op : (kind : Word → Type 0) (op : Op) (w v : Word) → HandsOn kind op w v → hands_on op ≡ true
hands_op kind (Lit z) w v e = refl
hands_op kind Copy w v e = refl
hands_op kind op w v e = absurd e

pub hands_does : (kind : Word → Type 0) (q : Program) (f ip : ℕ) (w v : Word) (i : Instr) (old new : MStore) (made : List Token) → HandsOn kind i.op w v
    → Fires old f (slot_of i i.op) (outcome_of q record { frame = f; ip = ip } i i.op (slot_in old f (slot_of i i.op)) Left w) made new
    → (made ≡ to_all record { frame = f; ip = ip } v i) × (new ≡ old)
hands_does kind q f ip w v i old new made e does = go i.op refl e does
  where
    seat : Point
    seat = record { frame = f; ip = ip }

    go : (op : Op) → i.op ≡ op → HandsOn kind op w v
        → Fires old f (slot_of i op) (outcome_of q seat i op (slot_in old f (slot_of i op)) Left w) made new → (made ≡ to_all seat v i) × (new ≡ old)
    go (Lit z) is e does =
        let one = subst (λ (x : Op). Fires old f None (fires Empty (fire_one q seat i x w)) made new) is does in
        (one.0 ∙ ap (λ (v : Word). to_all seat v i) (sym e.0), one.1)
    go Copy is e does =
        let one = subst (λ (x : Op). Fires old f None (fires Empty (fire_one q seat i x w)) made new) is does in
        (one.0 ∙ ap (λ (v : Word). to_all seat v i) (sym e), one.1)
    go op is e does = absurd e

-- the event of an operator with a literal operand
abbrev pub RightDoes : ℕ → ℕ → Binary → ℤ → Instr → Word → MStore → MStore → List Token → Type 0
RightDoes f ip o z j w old new made =
    (v : Value) × (w ≡ Word.Val v) × (made ≡ to_all record { frame = f; ip = ip } (Word.Val (apply2 o v (Int z) j.origin)) j) × (new ≡ old)

pub right_does : (q : Program) (f ip : ℕ) (w : Word) (o : Binary) (z : ℤ) (j : Instr) (old new : MStore) (made : List Token) → j.op ≡ Apply2Right o z
    → Fires old f (slot_of j j.op) (outcome_of q record { frame = f; ip = ip } j j.op (slot_in old f (slot_of j j.op)) Left w) made new
    → RightDoes f ip o z j w old new made
right_does q f ip w o z j old new made e does =
    let one : Fires old f None (fires Empty (fire_one q record { frame = f; ip = ip } j j.op w)) made new =
    subst (λ (x : Op). Fires old f (slot_of j x) (outcome_of q record { frame = f; ip = ip } j x (slot_in old f (slot_of j x)) Left w) made new) e does in
    go w (subst (λ (x : Op). Fires old f None (fires Empty (fire_one q record { frame = f; ip = ip } j x w)) made new) e one)
  where
    go : (w : Word) → Fires old f None (fires Empty (fire_one q record { frame = f; ip = ip } j (Apply2Right o z) w)) made new
        → RightDoes f ip o z j w old new made
    go (Word.Val v) k = (v, refl, k.0, k.1)
    go (Word.Frame n) k = absurd k
    go (Word.Back c) k = absurd k

abbrev pub LeftDoes : ℕ → ℕ → Binary → ℤ → Instr → Word → MStore → MStore → List Token → Type 0
LeftDoes f ip o z j w old new made =
    (v : Value) × (w ≡ Word.Val v) × (made ≡ to_all record { frame = f; ip = ip } (Word.Val (apply2 o (Int z) v j.origin)) j) × (new ≡ old)

pub left_does : (q : Program) (f ip : ℕ) (w : Word) (o : Binary) (z : ℤ) (j : Instr) (old new : MStore) (made : List Token) → j.op ≡ Apply2Left o z
    → Fires old f (slot_of j j.op) (outcome_of q record { frame = f; ip = ip } j j.op (slot_in old f (slot_of j j.op)) Left w) made new
    → LeftDoes f ip o z j w old new made
left_does q f ip w o z j old new made e does =
    let one : Fires old f None (fires Empty (fire_one q record { frame = f; ip = ip } j j.op w)) made new =
    subst (λ (x : Op). Fires old f (slot_of j x) (outcome_of q record { frame = f; ip = ip } j x (slot_in old f (slot_of j x)) Left w) made new) e does in
    go w (subst (λ (x : Op). Fires old f None (fires Empty (fire_one q record { frame = f; ip = ip } j x w)) made new) e one)
  where
    go : (w : Word) → Fires old f None (fires Empty (fire_one q record { frame = f; ip = ip } j (Apply2Left o z) w)) made new
        → LeftDoes f ip o z j w old new made
    go (Word.Val v) k = (v, refl, k.0, k.1)
    go (Word.Frame n) k = absurd k
    go (Word.Back c) k = absurd k

-- a slot that is filled and emptied
module _ (s : MStore) (f r : ℕ) (v : SlotState) (free : s.slots f r ≡ Empty) where
  abbrev mid : ℕ → ℕ → SlotState
  mid = put_at s.slots f (put_at (s.slots f) r v)

  mid_row : (y : ℕ) → mid f y ≡ put_at (s.slots f) r v y
  mid_row y = ap (λ (b : Bool). (if b then put_at (s.slots f) r v else s.slots f) y) (eq-eqb f f refl)

  at_slot : (x y : ℕ) → put_at mid f (put_at (mid f) r Empty) x y ≡ s.slots x y
  at_slot x y = go (cases_eq f x) (cases_eq r y)
    where
      go : (f ≡ x) ⊎ (f ≡ x → ⊥) → (r ≡ y) ⊎ (r ≡ y → ⊥) → put_at mid f (put_at (mid f) r Empty) x y ≡ s.slots x y
      go (inr d) e =
          ap (λ (b : Bool). (if b then put_at (mid f) r Empty else mid x) y) (ne_eqb f x d)
          ∙ ap (λ (b : Bool). (if b then put_at (s.slots f) r v else s.slots x) y) (ne_eqb f x d)
      go (inl d) (inl e) =
          ap (λ (b : Bool). (if b then put_at (mid f) r Empty else mid x) y) (eq-eqb f x d) ∙ ap (λ (b : Bool). if b then Empty else mid f y) (eq-eqb r y e)
          ∙ sym free ∙ (λ k. s.slots (d k) (e k))
      go (inl d) (inr e) =
          ap (λ (b : Bool). (if b then put_at (mid f) r Empty else mid x) y) (eq-eqb f x d) ∙ ap (λ (b : Bool). if b then Empty else mid f y) (ne_eqb r y e)
          ∙ mid_row y ∙ ap (λ (b : Bool). if b then v else s.slots f y) (ne_eqb r y e) ∙ (λ k. s.slots (d k) y)

  pub undone : with_slot (with_slot s f r v) f r Empty ≡ s
  undone = (λ k. record { slots = λ x y. at_slot x y k; cells = s.cells; out = s.out; requests = s.requests; outputs = s.outputs; done = s.done })

-- what two tokens meet that no rule excludes
pub both_wait : (p : Program) (s : Point) (i : Instr) (x : SlotState) (l r : Word) → excluded_by (meets p s i x Left l) ≡ None
    → excluded_by (meets p s i x Right r) ≡ None → x ≡ Empty
both_wait p s i Empty l r a b = refl
both_wait p s i (Slot.Left w) l r a b = absurd (some_none 3 a)
  where
    some_none : (n : ℕ) → Some n ≡ None → ⊥
    some_none n e = cc
both_wait p s i (Slot.Right w) l r a b = absurd (some_none 3 b)
  where
    some_none : (n : ℕ) → Some n ≡ None → ⊥
    some_none n e = cc
both_wait p s i (Credits n) l r a b = absurd (some_none 3 b)
  where
    some_none : (n : ℕ) → Some n ≡ None → ⊥
    some_none n e = cc
both_wait p s i (Waiter c) l r a b = absurd (some_none 3 b)
  where
    some_none : (n : ℕ) → Some n ≡ None → ⊥
    some_none n e = cc
both_wait p s i (Draining n) l r a b = absurd (some_none 3 b)
  where
    some_none : (n : ℕ) → Some n ≡ None → ⊥
    some_none n e = cc
