-- What is held stays held where the store changes in one place.
use Rattle.std.proofs.Common.{◌≡◌, refl, sym, ◌∙◌, ap, subst, ℕ, ◌+◌, ◌<◌, Bool, List, length, Option, Some, None, arith, ⊎_elim}
use Rattle.std.specs.Prelude.{All}
use Rattle.std.proofs.lemmas.Bool.{cases_eq}
use Rattle.tags.specs.declared.token.Cont.{Cont}
use Rattle.tags.specs.declared.slot.SlotState.{SlotState}
use Rattle.semantics.specs.Machine.{Store, CellState, put_at, with_slot_in, with_cell, with_out, with_requests, slot_in}
use Rattle.semantics.specs.Report.{one_if}
use Rattle.semantics.proofs.Stores.{put_other, put_same}
use Rattle.element.specs.Near.{Bounds, IsNearCont, IsNearSlot, IsNearCell}
use Rattle.element.proofs.Changing.{IsLow}
use Rattle.replay.specs.declared.cells.Cells.{Cells}
use Rattle.replay.specs.declared.slots.Slots.{Slots}
use Rattle.replay.specs.declared.state.State.{State}
use Rattle.replay.specs.Moments.{fullness}
use Rattle.replay.specs.Known.{held, kept, known, Holds}
use Rattle.replay.specs.Nearby.{IsNearStore}
use Rattle.replay.specs.DoesAs.{held_in, Sets}
use Rattle.replay.proofs.Sums.{full_changed, out_changed}

abbrev pub with_slots : {A : Type 0} → State A → Slots A → State A
with_slots h slots = record { slots = slots; cells = h.cells; tokens = h.tokens; frames = h.frames; frames_out = h.frames_out; requests = h.requests }

abbrev pub with_cells : {A : Type 0} → State A → Cells A → State A
with_cells h cells = record { slots = h.slots; cells = cells; tokens = h.tokens; frames = h.frames; frames_out = h.frames_out; requests = h.requests }

abbrev pub with_frames_out : {A : Type 0} → State A → ℕ → State A
with_frames_out h n = record { slots = h.slots; cells = h.cells; tokens = h.tokens; frames = h.frames; frames_out = n; requests = h.requests }

abbrev pub with_waiting : {A : Type 0} → State A → ℕ → State A
with_waiting h n = record { slots = h.slots; cells = h.cells; tokens = h.tokens; frames = h.frames; frames_out = h.frames_out; requests = n }

-- what all items of a changed function have
put_all : {X : Type 0} (P : X → Type 0) (f : ℕ → X) (x y : ℕ) (a : X) → P a → P (f y) → P (put_at f x a y)
put_all P f x y a here other = ⊎_elim
    (λ (e : x ≡ y). subst P (sym (put_same f x y a e)) here)
    (λ (n : x ≡ y → ⊥). subst P (sym (put_other f x y a n)) other)
    (cases_eq x y)

module _ {A : Type 0} (h : State A) (s : Store) (holds : Holds h s) where
  slots_are : held h.slots ≡ s.slots
  slots_are = λ i f r. holds.slots f r i

  pub slot_is : (f : ℕ) (r : Option ℕ) → held_in h.slots f r ≡ slot_in s f r
  slot_is f None = refl
  slot_is f (Some r) = holds.slots f r

  pub slot_kept : (f : ℕ) (r : Option ℕ) (v : SlotState) (slots : Slots A) → f < h.frames → IsLow 512 r → Sets h.slots f r v slots
      → Holds (with_slots h slots) (with_slot_in s f r v)
  slot_kept f None v slots l low sets = subst (λ (k : Slots A). Holds (with_slots h k) s) (sym sets) holds
  slot_kept f (Some r) v slots l low sets = record {
    slots = λ g q. sets.0 g q ∙ ap (λ (k : ℕ → ℕ → SlotState). put_at k f (put_at (k f) r v) g q) slots_are;
    cells = holds.cells;
    full = (let changed = full_changed h.frames 512 f r s.slots v l low in let was = holds.full in let now = sets.1 in let here : fullness
        (held h.slots f r) ≡ fullness (s.slots f r) = ap fullness (holds.slots f r) in omega (arith, changed, was, now, here));
    out = holds.out;
    requests = holds.requests;
  }

  pub cell_kept : (x : ℕ) (c : CellState) (cells : Cells A) → ((y : ℕ) → kept cells y ≡ put_at (kept h.cells) x (known c) y)
      → Holds (with_cells h cells) (with_cell s x c)
  cell_kept x c cells sets = record {
    slots = holds.slots;
    cells = λ y. sets y ∙ ⊎_elim
        (λ (e : x ≡ y). put_same (kept h.cells) x y (known c) e ∙ sym (ap known (put_same s.cells x y c e)))
        (λ (n : x ≡ y → ⊥). put_other (kept h.cells) x y (known c) n ∙ holds.cells y ∙ sym (ap known (put_other s.cells x y c n)))
        (cases_eq x y);
    full = holds.full;
    out = holds.out;
    requests = holds.requests;
  }

  pub out_kept : (f : ℕ) (b : Bool) (n : ℕ) → f < h.frames → n + one_if (s.out f) ≡ h.frames_out + one_if b → Holds (with_frames_out h n) (with_out s f b)
  out_kept f b n l e = record {
    slots = holds.slots;
    cells = holds.cells;
    full = holds.full;
    out = (let changed = out_changed h.frames f s.out b l in let was = holds.out in omega (arith, changed, was, e));
    requests = holds.requests;
  }

  pub requests_kept : (cs : List Cont) (n : ℕ) → n ≡ length cs → Holds (with_waiting h n) (with_requests s cs)
  requests_kept cs n e = record { slots = holds.slots; cells = holds.cells; full = holds.full; out = holds.out; requests = e }

module _ (b : Bounds) (s : Store) (near : IsNearStore b s) where
  pub slot_near : (f : ℕ) (r : Option ℕ) → IsNearSlot b (slot_in s f r)
  slot_near f None = tt
  slot_near f (Some r) = near.slots f r

  pub slot_stays : (f : ℕ) (r : Option ℕ) (v : SlotState) → IsNearSlot b v → IsNearStore b (with_slot_in s f r v)
  slot_stays f None v n = near
  slot_stays f (Some r) v n = record {
    slots = λ g q. put_all (λ (k : ℕ → SlotState). IsNearSlot b (k q)) s.slots f g (put_at (s.slots f) r v)
        (put_all (IsNearSlot b) (s.slots f) r q v n (near.slots f q)) (near.slots g q);
    cells = near.cells;
    requests = near.requests;
    out = near.out;
  }

  pub cell_stays : (x : ℕ) (c : CellState) → IsNearCell b c → IsNearStore b (with_cell s x c)
  cell_stays x c n = record { slots = near.slots; cells = λ y. put_all (IsNearCell b) s.cells x y c n (near.cells y); requests = near.requests; out = near.out }

  pub out_stays : (f : ℕ) (t : Bool) → f < b.frames → IsNearStore b (with_out s f t)
  out_stays f t l = record {
    slots = near.slots;
    cells = near.cells;
    requests = near.requests;
    out = λ g e. ⊎_elim
        (λ (is : f ≡ g). subst (λ (k : ℕ). k < b.frames) is l)
        (λ (n : f ≡ g → ⊥). near.out g (sym (put_other s.out f g t n) ∙ e))
        (cases_eq f g);
  }

  pub requests_stay : (cs : List Cont) → All (IsNearCont b) cs → IsNearStore b (with_requests s cs)
  requests_stay cs all = record { slots = near.slots; cells = near.cells; requests = all; out = near.out }
