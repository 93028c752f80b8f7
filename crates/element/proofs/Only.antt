-- What the events of cells, frames and the host leave as it was.
use Rattle.std.proofs.Common.{◌≡◌, ◌≢◌, refl, sym, ◌∙◌, ap, subst, ℕ, ◌%◌, true, false, List, [], ◌∷◌, ◌++◌, Option, Some, None, inl, inr, ⊎_elim}
use Rattle.tags.specs.declared.value.Value.{Value}
use Rattle.tags.specs.declared.token.Cont.{Cont}
use Rattle.tags.specs.declared.token.Token.{Token}
use Rattle.semantics.specs.Machine.{CellState, Vacant, Full, Deferred, Store, with_cell, with_out, with_requests, Fetches, Stores, Requests, Releases}
use Rattle.semantics.proofs.Stores.{put_other}
use Rattle.istructure.specs.OwnCells.{OwnCells}
use Rattle.istructure.specs.Holds.{HoldsCells}
use Rattle.frame_manager.specs.Managed.{Managed}
use Rattle.frame_manager.specs.Answered.{HoldsFrames}
use Rattle.element.specs.Parts.{Shape, Part, Manages, IsPart, SameElsewhere}
use Rattle.element.specs.Changed.{with_cells, with_manager}

-- CELLS
pub record OnlyCell (x : ℕ) (old new : Store) : Type 0 where
  pub slots : new.slots ≡ old.slots
  pub cells : (y : ℕ) → y ≢ x → new.cells y ≡ old.cells y
  pub out : new.out ≡ old.out
  pub requests : new.requests ≡ old.requests
  pub outputs : new.outputs ≡ old.outputs
  pub done : new.done ≡ old.done

none_changed : (x : ℕ) (s : Store) → OnlyCell x s s
none_changed x s = record { slots = refl; cells = λ y ne. refl; out = refl; requests = refl; outputs = refl; done = refl }

one_changed : (x : ℕ) (s : Store) (v : CellState) → OnlyCell x s (with_cell s x v)
one_changed x s v = record { slots = refl; cells = λ y ne. put_other s.cells x y v (λ e. ne (sym e)); out = refl; requests = refl; outputs = refl; done = refl }

is_one : (x : ℕ) (s n : Store) (v : CellState) → n ≡ with_cell s x v → OnlyCell x s n
is_one x s n v e = subst (λ (k : Store). OnlyCell x s k) (sym e) (one_changed x s v)

pub fetch_only : (s : Store) (x : ℕ) (c : Cont) (state : CellState) (made : List Token) (n : Store) → Fetches s x c state made n → OnlyCell x s n
fetch_only s x c Vacant made n h = is_one x s n (Deferred (c ∷ [])) h.1
fetch_only s x c (Full v) made n h = subst (λ (k : Store). OnlyCell x s k) (sym h.1) (none_changed x s)
fetch_only s x c (Deferred readers) made n h = is_one x s n (Deferred (readers ++ c ∷ [])) h.1

pub store_only : (s : Store) (x : ℕ) (v : Value) (c : Cont) (state : CellState) (made : List Token) (n : Store) → Stores s x v c state made n → OnlyCell x s n
store_only s x v c Vacant made n h = is_one x s n (Full v) h.1
store_only s x v c (Full w) made n h = absurd h
store_only s x v c (Deferred readers) made n h = is_one x s n (Full v) h.1

pub manages_as : (m : Option Managed) (s n : Store) → n.out ≡ s.out → n.requests ≡ s.requests → Manages m s → Manages m n
manages_as None s n o r h = h
manages_as (Some m) s n o r h = record { out = λ f. ap (λ k. k f) o ∙ h.out f; requests = r ∙ h.requests }

pub part_with_cells : (h : Part) (x : ℕ) (s n : Store) (cells : OwnCells) → OnlyCell x s n → HoldsCells cells n → IsPart h s → IsPart (with_cells h cells) n
part_with_cells h x s n cells only holds part = record {
  slots = λ f r ours there low. ap (λ k. k f r) only.slots ∙ part.slots f r ours there low;
  cells = holds;
  manager = λ zero. manages_as h.manager s n only.out only.requests (part.manager zero);
  outputs = λ zero j. ap (λ k. k j) only.outputs ∙ part.outputs zero j;
  done = λ zero. only.done ∙ part.done zero;
}

pub cells_elsewhere : (z : Shape) (x : ℕ) (s n : Store) → x % z.elements ≡ z.element → OnlyCell x s n → SameElsewhere z s n
cells_elsewhere z x s n ours only = record {
  slots = λ f r ne. ap (λ k. k f r) only.slots;
  cells = λ y ne. only.cells y (λ e. ne (ap (λ (k : ℕ). k % z.elements) e ∙ ours));
  out = λ ne. only.out;
  requests = λ ne. only.requests;
  outputs = λ ne. only.outputs;
  done = λ ne. only.done;
}

-- FRAMES
pub record OnlyFrames (old new : Store) : Type 0 where
  pub slots : new.slots ≡ old.slots
  pub cells : new.cells ≡ old.cells
  pub outputs : new.outputs ≡ old.outputs
  pub done : new.done ≡ old.done

frames_are : (s n k : Store) → OnlyFrames s k → n ≡ k → OnlyFrames s n
frames_are s n k h e = subst (λ (m : Store). OnlyFrames s m) (sym e) h

pub request_only : (total : ℕ) (s : Store) (c : Cont) (made : List Token) (n : Store) → Requests total s c made n → OnlyFrames s n
request_only total s c made n (inl h) = frames_are s n (with_out s h.0 true) (record { slots = refl; cells = refl; outputs = refl; done = refl }) h.4
request_only total s c made n (inr h) = frames_are s n (with_requests s (s.requests ++ c ∷ []))
    (record { slots = refl; cells = refl; outputs = refl; done = refl }) h.2

release_by : (s : Store) (f : ℕ) (made : List Token) (n : Store) → Releases s f made n → OnlyFrames s n
release_by s f made n h = ⊎_elim
    (λ a. frames_are s n (with_out s f false) (record { slots = refl; cells = refl; outputs = refl; done = refl }) a.2)
    (λ a. frames_are s n (with_requests s a.1) (record { slots = refl; cells = refl; outputs = refl; done = refl }) a.4)
    h.1

pub release_only : (s : Store) (f : ℕ) (made : List Token) (n : Store) → Releases s f made n → OnlyFrames s n
release_only s f made n h = release_by s f made n h

pub part_with_manager : (h : Part) (s n : Store) (m : Managed) → OnlyFrames s n → HoldsFrames m n → IsPart h s → IsPart (with_manager h (Some m)) n
part_with_manager h s n m only holds part = record {
  slots = λ f r ours there low. ap (λ k. k f r) only.slots ∙ part.slots f r ours there low;
  cells = λ x state e. ap (λ k. k x) only.cells ∙ part.cells x state e;
  manager = λ zero. holds;
  outputs = λ zero j. ap (λ k. k j) only.outputs ∙ part.outputs zero j;
  done = λ zero. only.done ∙ part.done zero;
}

pub frames_elsewhere : (z : Shape) (s n : Store) → z.element ≡ 0 → OnlyFrames s n → SameElsewhere z s n
frames_elsewhere z s n zero only = record {
  slots = λ f r ne. ap (λ k. k f r) only.slots;
  cells = λ y ne. ap (λ k. k y) only.cells;
  out = λ ne. absurd (ne zero);
  requests = λ ne. absurd (ne zero);
  outputs = λ ne. only.outputs;
  done = λ ne. only.done;
}
