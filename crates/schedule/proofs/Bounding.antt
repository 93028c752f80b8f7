-- Nothing is ever beyond the frames, the slots and the cells that there are.
use Rattle.std.proofs.Common.{◌≡◌, refl, sym, ◌∙◌, ap, subst, ℕ, ◌<◌, Bool, true, false, ◌⊎◌, inl, inr, List, [], ◌∷◌, Option, Some, None, arith}
use Rattle.std.specs.Prelude.{sum, ◌==◌, if◌then◌else◌}
use Rattle.std.proofs.lemmas.Bool.{eqb-true}
use Rattle.tags.specs.declared.token.Cont.{Cont}
use Rattle.tags.specs.declared.token.Word.{Word}
use Rattle.tags.specs.declared.token.To.{To}
use Rattle.tags.specs.declared.token.Token.{Token}
use Rattle.tags.specs.declared.slot.SlotState.{SlotState}
use Rattle.tags.specs.declared.slot.SlotState.TheVariants.{Empty}
use Rattle.semantics.specs.declared.program.Op.{Op}
use Rattle.semantics.specs.declared.program.Op.TheVariants as op
use Rattle.semantics.specs.Program.{Instr, instr_at}
use Rattle.semantics.specs.Rule.{slot_of, Outcome, Becomes, Excluded}
use Rattle.semantics.specs.Machine.{Store, CellState, Vacant, Full, Deferred, put_at, with_slot, with_slot_in, with_cell, with_out, with_requests}
use Rattle.semantics.specs.Machine.{with_output, with_done, slot_used, Happens, Fires, Fetches, Stores, Requests, Releases, Hosts}
use Rattle.element.specs.Near.{IsNearTo}
use Rattle.schedule.specs.Setting.{Setting, total, FitsSlots}
use Rattle.schedule.specs.State.{IsBounded}

put_beyond : {A : Type 0} (f : ℕ → A) (x : ℕ) (a b : A) (y : ℕ) → (x ≡ y → a ≡ b) → f y ≡ b → put_at f x a y ≡ b
put_beyond f x a b y here there = by_case (x == y) refl
  where
    by_case : (t : Bool) → (x == y) ≡ t → (if t then a else f y) ≡ b
    by_case true e = here (eqb-true x y e)
    by_case false e = there

slot_is : (i : Instr) (o : Op) → (slot_of i o ≡ None) ⊎ (slot_of i o ≡ Some i.slot)
slot_is i (op.Apply2 b) = inr refl
slot_is i op.Sync = inr refl
slot_is i op.Switch = inr refl
slot_is i (op.Store a) = inr refl
slot_is i (op.Send b e) = inr refl
slot_is i (op.Return o) = inr refl
slot_is i (op.Ask o) = inr refl
slot_is i (op.Release o) = inr refl
slot_is i (op.Open k) = inr refl
slot_is i (op.Take k) = inr refl
slot_is i (op.Give k) = inr refl
slot_is i (op.Drain k) = inr refl
slot_is i (op.Apply1 u) = inl refl
slot_is i (op.Apply2Right b z) = inl refl
slot_is i (op.Apply2Left b z) = inl refl
slot_is i (op.Lit z) = inl refl
slot_is i op.Copy = inl refl
slot_is i (op.Fetch a) = inl refl
slot_is i op.Frame = inl refl
slot_is i (op.Link b) = inl refl

module _ (g : Setting) (old : Store) (bounded : IsBounded g old) where
  slot_stays : (f r : ℕ) (v : SlotState) → f < total g → r < g.width → IsBounded g (with_slot old f r v)
  slot_stays f r v low within = record {
    slots = λ (k q : ℕ) beyond.
        let inner : f ≡ k → put_at (old.slots f) r v q ≡ Empty
        = λ (same : f ≡ k). put_beyond (old.slots f) r v Empty q
        (λ (also : r ≡ q). absurd (beyond (subst (λ (n : ℕ). n < total g) same low) (subst (λ (n : ℕ). n < g.width) also within)))
        (subst (λ (n : ℕ). old.slots n q ≡ Empty) (sym same) (bounded.slots k q beyond)) in
        by_frame k q (f == k) refl inner (bounded.slots k q beyond);
    cells = bounded.cells;
  }
    where
      by_frame : (k q : ℕ) (t : Bool) → (f == k) ≡ t → (f ≡ k → put_at (old.slots f) r v q ≡ Empty) → old.slots k q ≡ Empty
          → put_at old.slots f (put_at (old.slots f) r v) k q ≡ Empty
      by_frame k q true e inner there = ap (λ (b : Bool). (if b then put_at (old.slots f) r v else old.slots k) q) e ∙ inner (eqb-true f k e)
      by_frame k q false e inner there = ap (λ (b : Bool). (if b then put_at (old.slots f) r v else old.slots k) q) e ∙ there

  slot_in_stays : (f : ℕ) (r : Option ℕ) (v : SlotState) → f < total g → (r ≡ None) ⊎ ((n : ℕ) × (r ≡ Some n) × (n < g.width))
      → IsBounded g (with_slot_in old f r v)
  slot_in_stays f r v low (inl e) = subst (λ (o : Option ℕ). IsBounded g (with_slot_in old f o v)) (sym e) bounded
  slot_in_stays f r v low (inr (n, e, within)) = subst (λ (o : Option ℕ). IsBounded g (with_slot_in old f o v)) (sym e) (slot_stays f n v low within)

  cell_stays : (x : ℕ) (v : CellState) → x < sum g.program.arrays → IsBounded g (with_cell old x v)
  cell_stays x v low = record {
    slots = bounded.slots;
    cells = λ y beyond. put_beyond old.cells x v Vacant y (λ (same : x ≡ y). absurd (let l = subst (λ (n : ℕ). n < sum g.program.arrays) same low
        in omega (arith, l, beyond))) (bounded.cells y beyond);
  }

  used : FitsSlots g.program g.width → (ip : ℕ) (o : Option Instr) → instr_at g.program ip ≡ o
      → (slot_used o ≡ None) ⊎ ((n : ℕ) × (slot_used o ≡ Some n) × (n < g.width))
  used fits ip None e = inl refl
  used fits ip (Some i) e = by_case (slot_is i i.op)
    where
      by_case : (slot_of i i.op ≡ None) ⊎ (slot_of i i.op ≡ Some i.slot) → (slot_of i i.op ≡ None) ⊎ ((n : ℕ) × (slot_of i i.op ≡ Some n) × (n < g.width))
      by_case (inl none) = inl none
      by_case (inr some) = inr (i.slot, some, fits ip i e)

  fired : (f : ℕ) (r : Option ℕ) (o : Outcome) (made : List Token) (new : Store) → f < total g → (r ≡ None) ⊎ ((n : ℕ) × (r ≡ Some n) × (n < g.width))
      → Fires old f r o made new → IsBounded g new
  fired f r (Becomes v tokens) made new low within e = subst (λ (s : Store). IsBounded g s) (sym e.1) (slot_in_stays f r v low within)
  fired f r (Excluded n) made new low within e = absurd e

  fetched : (x : ℕ) (c : Cont) (state : CellState) (made : List Token) (new : Store) → x < sum g.program.arrays → Fetches old x c state made new
      → IsBounded g new
  fetched x c Vacant made new low e = subst (λ (s : Store). IsBounded g s) (sym e.1) (cell_stays x (Deferred (c ∷ [])) low)
  fetched x c (Deferred readers) made new low e = subst (λ (s : Store). IsBounded g s) (sym e.1) (cell_stays x _ low)
  fetched x c (Full v) made new low e = subst (λ (s : Store). IsBounded g s) (sym e.1) bounded

  stored : (x : ℕ) (v : _) (c : Cont) (state : CellState) (made : List Token) (new : Store) → x < sum g.program.arrays
      → Stores old x v c state made new → IsBounded g new
  stored x v c Vacant made new low e = subst (λ (s : Store). IsBounded g s) (sym e.1) (cell_stays x (Full v) low)
  stored x v c (Deferred readers) made new low e = subst (λ (s : Store). IsBounded g s) (sym e.1) (cell_stays x (Full v) low)
  stored x v c (Full w) made new low e = absurd e

  -- the same slots and cells
  same_places : (new : Store) → new.slots ≡ old.slots → new.cells ≡ old.cells → IsBounded g new
  same_places new slots cells = record {
    slots = λ (f r : ℕ) beyond. ap (λ (k : ℕ → ℕ → SlotState). k f r) slots ∙ bounded.slots f r beyond;
    cells = λ (x : ℕ) beyond. ap (λ (k : ℕ → CellState). k x) cells ∙ bounded.cells x beyond;
  }

  by_store : (new to : Store) → new ≡ to → to.slots ≡ old.slots → to.cells ≡ old.cells → IsBounded g new
  by_store new to e slots cells = subst (λ (s : Store). IsBounded g s) (sym e) (same_places to slots cells)

  requested : (all : ℕ) (c : Cont) (made : List Token) (new : Store) → Requests all old c made new → IsBounded g new
  requested all c made new (inl (f, low, free, m, e)) = by_store new (with_out old f true) e refl refl
  requested all c made new (inr (none, m, e)) = by_store new _ e refl refl

  released : (f : ℕ) (made : List Token) (new : Store) → Releases old f made new → IsBounded g new
  released f made new (out, inl (none, m, e)) = by_store new (with_out old f false) e refl refl
  released f made new (out, inr (c, rest, p, m, e)) = by_store new (with_requests old rest) e refl refl

  hosted : (n j : ℕ) (w : Word) (made : List Token) (new : Store) → Hosts n old j w made new → IsBounded g new
  hosted n j w made new (inl (low, none, (v, is, m, e))) = by_store new (with_output old j v) e refl refl
  hosted n j w made new (inr (is, not_done, m, e)) = by_store new (with_done old) e refl refl

  pub bounded_after : FitsSlots g.program g.width → (to : To) (w : Word) (made : List Token) (new : Store)
      → IsNearTo (record { frames = total g; cells = sum g.program.arrays }) to → Happens g.program (total g) old to w made new → IsBounded g new
  bounded_after fits (To.Instr f ip port) w made new near e = fired f _ _ made new near (used fits ip (instr_at g.program ip) refl) e
  bounded_after fits (To.Fetch x) (Word.Back c) made new near e = fetched x c (old.cells x) made new near e
  bounded_after fits (To.Fetch x) (Word.Val v) made new near e = absurd e
  bounded_after fits (To.Fetch x) (Word.Frame f) made new near e = absurd e
  bounded_after fits (To.Store x v) (Word.Back c) made new near e = stored x v c (old.cells x) made new near e
  bounded_after fits (To.Store x v) (Word.Val u) made new near e = absurd e
  bounded_after fits (To.Store x v) (Word.Frame f) made new near e = absurd e
  bounded_after fits To.Manager (Word.Back c) made new near e = requested (total g) c made new e
  bounded_after fits To.Manager (Word.Val v) made new near e = absurd e
  bounded_after fits To.Manager (Word.Frame f) made new near e = absurd e
  bounded_after fits (To.Release f) w made new near e = released f made new e
  bounded_after fits (To.Host j) w made new near e = hosted _ j w made new e
