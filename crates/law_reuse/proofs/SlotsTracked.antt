-- Who holds a slot: along a run, under other numbers for the frames, and where the slot is empty.
use Rattle.std.proofs.Common.{◌≡◌, refl, sym, ap, ◌∙◌, ℕ, ◌*◌, ◌⊎◌, inl, inr, Bool, true, false, true≢false, ◌&&◌, List, [], ◌∷◌, Option, Some, None}
use Rattle.std.specs.Prelude.{if◌then◌else◌, ◌==◌}
use Rattle.std.proofs.lemmas.Bool.{cases_eq, and_from, eq-eqb}
use Rattle.tags.specs.declared.token.Port.{Port}
use Rattle.tags.specs.declared.token.Word.{Word}
use Rattle.tags.specs.declared.token.To.{To}
use Rattle.tags.specs.declared.token.Token.{Token}
use Rattle.tags.specs.declared.slot.SlotState.{SlotState}
use Rattle.tags.specs.declared.slot.SlotState.TheVariants as Slot
use Rattle.tags.specs.declared.slot.SlotState.TheVariants.{Empty, Credits, Waiter, Draining}
use Rattle.semantics.specs.Program.{Program, instr_at}
use Rattle.semantics.specs.Rule.{Outcome, Becomes, Excluded, rule_at}
use Rattle.semantics.specs.Machine.{Machine, Store, Size, Events, Run, put_at, slot_in, slot_used, Fires, Happens}
use Rattle.semantics.specs.Plan.{Plan}
use Rattle.semantics.specs.Renamed.{re_to, re_slot}
use Rattle.semantics.specs.Holders.{Holder, holder_at, held_after, uses_slot, held_by_event, holds}
use Rattle.law_reuse.proofs.FramesFold.{Injective, put_same, put_other, eq_under}
use Rattle.law_reuse.proofs.SlotsStill.{slots_or}

held_after_re : (h : ℕ → ℕ) (before by : Option Holder) (s : SlotState) → held_after before by (re_slot h s) ≡ held_after before by s
held_after_re h None by Empty = refl
held_after_re h None by (Slot.Left w) = refl
held_after_re h None by (Slot.Right w) = refl
held_after_re h None by (Credits n) = refl
held_after_re h None by (Waiter c) = refl
held_after_re h None by (Draining n) = refl
held_after_re h (Some x) by Empty = refl
held_after_re h (Some x) by (Slot.Left w) = refl
held_after_re h (Some x) by (Slot.Right w) = refl
held_after_re h (Some x) by (Credits n) = refl
held_after_re h (Some x) by (Waiter c) = refl
held_after_re h (Some x) by (Draining n) = refl

-- under other numbers for the frames
pub held_re : (P : Plan) (p : Program) (h : ℕ → ℕ) → Injective h → (f s : ℕ) (before : Option Holder) (to : To) (new after : Store)
    → after.slots (h f) s ≡ re_slot h (new.slots f s)
    → held_by_event P p (h f) s before (re_to h to) after ≡ held_by_event P p f s before to new
held_re P p h inj f s before (To.Instr g ip q) new after same =
    (λ k. if eq_under h inj g f k && uses_slot s (slot_used (instr_at p ip)) then held_after before (holder_at P ip) (same k) else before)
    ∙ ap (λ (x : Option Holder). if (g == f) && uses_slot s (slot_used (instr_at p ip)) then x else before)
    (held_after_re h before (holder_at P ip) (new.slots f s))
held_re P p h inj f s before (To.Fetch x) new after same = refl
held_re P p h inj f s before (To.Store x v) new after same = refl
held_re P p h inj f s before To.Manager new after same = refl
held_re P p h inj f s before (To.Release g) new after same = refl
held_re P p h inj f s before (To.Host j) new after same = refl

-- where a slot is empty, none holds it
none_from : (P : Plan) (p : Program) (f s : ℕ) (before : Option Holder) (to : To) (w : Word) (made : List Token) (total : ℕ) (old new : Store)
    → Happens p total old to w made new
    → (old.slots f s ≡ Empty → before ≡ None) → new.slots f s ≡ Empty → held_by_event P p f s before to new ≡ None
none_from P p f s before to w made total old new happens kept empty = go to (slots_or p total old new to w made happens) happens
  where
    held_none : (before by : Option Holder) (v : SlotState) → v ≡ Empty → held_after before by v ≡ None
    held_none before by v e = ap (held_after before by) e

    same : (to : To) → new.slots ≡ old.slots → held_by_event P p f s before to new ≡ None
    same (To.Instr g ip q) e = pick ((g == f) && uses_slot s (slot_used (instr_at p ip)))
      where
        pick : (b : Bool) → (if b then held_after before (holder_at P ip) (new.slots f s) else before) ≡ None
        pick true = held_none before (holder_at P ip) (new.slots f s) empty
        pick false = kept (ap (λ (c : ℕ → ℕ → SlotState). c f s) (sym e) ∙ empty)
    same (To.Fetch x) e = kept (ap (λ (c : ℕ → ℕ → SlotState). c f s) (sym e) ∙ empty)
    same (To.Store x v) e = kept (ap (λ (c : ℕ → ℕ → SlotState). c f s) (sym e) ∙ empty)
    same To.Manager e = kept (ap (λ (c : ℕ → ℕ → SlotState). c f s) (sym e) ∙ empty)
    same (To.Release g) e = kept (ap (λ (c : ℕ → ℕ → SlotState). c f s) (sym e) ∙ empty)
    same (To.Host j) e = kept (ap (λ (c : ℕ → ℕ → SlotState). c f s) (sym e) ∙ empty)

    -- an instruction's event changes no other slot
    other : (g : ℕ) (o : Option ℕ) (x : Outcome) → ((g == f) && uses_slot s o) ≡ false → Fires old g o x made new → new.slots f s ≡ old.slots f s
    other g o (Excluded n) un e = absurd e
    other g None (Becomes v ts) un e = ap (λ (m : Store). m.slots f s) e.1
    other g (Some r) (Becomes v ts) un e = ap (λ (m : Store). m.slots f s) e.1 ∙ pick (cases_eq g f) (cases_eq r s)
      where
        pick : (g ≡ f) ⊎ (g ≡ f → ⊥) → (r ≡ s) ⊎ (r ≡ s → ⊥) → put_at old.slots g (put_at (old.slots g) r v) f s ≡ old.slots f s
        pick (inr ne) d = ap (λ (c : ℕ → SlotState). c s) (put_other old.slots g (put_at (old.slots g) r v) f ne)
        pick (inl a) (inr ne) =
            ap (λ (c : ℕ → SlotState). c s) (put_same old.slots g (put_at (old.slots g) r v) f a) ∙ put_other (old.slots g) r v s ne
            ∙ ap (λ (x : ℕ). old.slots x s) a
        pick (inl a) (inl b) = absurd (true≢false (sym (and_from _ _ (eq-eqb g f a) (eq-eqb r s b)) ∙ un))

    go : (to : To) → (new.slots ≡ old.slots) ⊎ ((g : ℕ) × (ip : ℕ) × (q : Port) × (to ≡ To.Instr g ip q)) → Happens p total old to w made new
        → held_by_event P p f s before to new ≡ None
    go to (inl e) h = same to e
    go (To.Instr g ip q) (inr d) h = pick ((g == f) && uses_slot s (slot_used (instr_at p ip))) refl
      where
        pick : (b : Bool) → ((g == f) && uses_slot s (slot_used (instr_at p ip))) ≡ b → held_by_event P p f s before (To.Instr g ip q) new ≡ None
        pick true at =
            ap (λ (b : Bool). if b then held_after before (holder_at P ip) (new.slots f s) else before) at
            ∙ held_none before (holder_at P ip) (new.slots f s) empty
        pick false at =
            ap (λ (b : Bool). if b then held_after before (holder_at P ip) (new.slots f s) else before) at
            ∙ kept (sym (other g (slot_used (instr_at p ip))
            (rule_at p record { frame = g; ip = ip } (instr_at p ip) (slot_in old g (slot_used (instr_at p ip))) q w) at h) ∙ empty)
    go (To.Fetch x) (inr d) h = absurd (cc)
    go (To.Store x v) (inr d) h = absurd (cc)
    go To.Manager (inr d) h = absurd (cc)
    go (To.Release g) (inr d) h = absurd (cc)
    go (To.Host j) (inr d) h = absurd (cc)

pub holds_none : (P : Plan) (p : Program) (f s : ℕ) (before : Option Holder) (z : Size) (old : Machine) (events : Events) (new : Machine)
    (r : Run p z old events new)
    → (old.store.slots f s ≡ Empty → before ≡ None) → new.store.slots f s ≡ Empty → holds P p f s before z old events new r ≡ None
holds_none P p f s before z old [] new r kept empty = kept (ap (λ (m : Store). m.slots f s) (sym r.1) ∙ empty)
holds_none P p f s before z old (x ∷ events) new r kept empty =
    holds_none P p f s (held_by_event P p f s before x.1.to (r.0).store) z r.0 events new r.2
    (none_from P p f s before x.1.to x.1.word (r.1).made (z.elements * z.frames) old.store (r.0).store (r.1).happens kept) empty
