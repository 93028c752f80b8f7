-- The steps of a run, and what they grant and release; the slots of instructions.
use Rattle.std.proofs.Common.{◌≡◌, refl, ap, ◌∙◌, ℕ, zero, suc, ◌+◌, ◌⊎◌, inl, inr, List, [], ◌∷◌, ◌++◌, Option, Some, None}
use Rattle.tags.specs.declared.token.Token.{Token}
use Rattle.tags.specs.declared.slot.SlotState.{SlotState}
use Rattle.tags.specs.declared.slot.SlotState.TheVariants as Slot
use Rattle.tags.specs.declared.slot.SlotState.TheVariants.{Empty, Credits, Waiter, Draining}
use Rattle.semantics.specs.declared.program.Op.{Op}
use Rattle.semantics.specs.declared.program.Op.TheVariants.{Apply2, Sync, Switch, Store, Send, Return, Ask, Drain, Open, Take, Give, Release}
use Rattle.semantics.specs.Program.{Instr, Program}
use Rattle.semantics.specs.Rule.{slot_of}
use Rattle.semantics.specs.Machine.{Machine, Store as MStore, Size, Events, Run, slot_in}
use Rattle.semantics.specs.Plan.{Plan}
use Rattle.semantics.specs.Holders.{Holder}
use Rattle.semantics.specs.Arcs.{SomeEvent}
use Rattle.semantics.specs.Credits.{granted_by, granted_at, released_at, granted, released}
use Rattle.law_fresh_frames.proofs.BoundedWeights.{tot}
use Rattle.semantics.proofs.Stores.{slot_filled}
use Rattle.semantics.specs.Machine.{with_slot_in}
use Rattle.law_simulation.specs.Places.{ip_slot, ip_store}

pub record Step : Type 0 where
  pub before : MStore
  pub taken : Token
  pub made : List Token
  pub after : Machine

abbrev pub step : MStore → Token → List Token → Machine → Step
step s t made m = record { before = s; taken = t; made = made; after = m }

abbrev pub steps_of : (p : Program) (z : Size) (old : Machine) (events : Events) (new : Machine) → Run p z old events new → List Step
steps_of p z old [] new run = []
steps_of p z old (ev ∷ later) new run = step old.store ev.1 run.1.made run.0 ∷ steps_of p z run.0 later new run.2

abbrev pub grants : Plan → ℕ → Holder → List Step → ℕ
grants p f loop ss = tot (λ (s : Step). granted_at p p.program f loop s.before s.taken.to) ss

abbrev pub releases : Program → ℕ → ℕ → List Step → ℕ
releases p f base ss = tot (λ (s : Step). released_at p f base s.taken.to s.made) ss

-- some step is of that kind, given what it took, what it made, and the state after it
abbrev pub HasStep : (Token → List Token → Machine → Type 0) → List Step → Type 0
HasStep K [] = ⊥
HasStep K (s ∷ ss) = K s.taken s.made s.after ⊎ HasStep K ss

pub step_before : (K : Token → List Token → Machine → Type 0) (ss more : List Step) → HasStep K ss → HasStep K (ss ++ more)
step_before K [] more k = absurd k
step_before K (s ∷ ss) more (inl k) = inl k
step_before K (s ∷ ss) more (inr k) = inr (step_before K ss more k)

pub step_last : (K : Token → List Token → Machine → Type 0) (ss : List Step) (s : Step) → K s.taken s.made s.after → HasStep K (ss ++ s ∷ [])
step_last K [] s k = inl k
step_last K (x ∷ ss) s k = inr (step_last K ss s k)

-- a run has the events that its steps are
pub some_event : (K : Token → List Token → Machine → Type 0) (p : Program) (z : Size) (old : Machine) (events : Events) (new : Machine)
    (r : Run p z old events new) → HasStep K (steps_of p z old events new r) → SomeEvent K p z old events new r
some_event K p z old [] new r k = k
some_event K p z old (x ∷ events) new r (inl k) = inl k
some_event K p z old (x ∷ events) new r (inr k) = inr (some_event K p z r.0 events new r.2 k)

pub grants_are : (p : Plan) (f : ℕ) (loop : Holder) (z : Size) (old : Machine) (events : Events) (new : Machine) (r : Run p.program z old events new)
    → granted p p.program f loop z old events new r ≡ grants p f loop (steps_of p.program z old events new r)
grants_are p f loop z old [] new r = refl
grants_are p f loop z old (x ∷ events) new r = ap (λ (n : ℕ). granted_at p p.program f loop old.store x.1.to + n) (grants_are p f loop z r.0 events new r.2)

pub releases_are : (p : Program) (f base : ℕ) (z : Size) (old : Machine) (events : Events) (new : Machine) (r : Run p z old events new)
    → released p f base z old events new r ≡ releases p f base (steps_of p z old events new r)
releases_are p f base z old [] new r = refl
releases_are p f base z old (x ∷ events) new r = ap (λ (n : ℕ). released_at p f base x.1.to r.1.made + n) (releases_are p f base z r.0 events new r.2)

pub granted_slot : (h : ℕ → ℕ) (op : Op) (s : SlotState) → granted_by op (ip_slot h s) ≡ granted_by op s
granted_slot h (Open k) Empty = refl
granted_slot h (Open k) (Slot.Left w) = refl
granted_slot h (Open k) (Slot.Right w) = refl
granted_slot h (Open k) (Credits n) = refl
granted_slot h (Open k) (Waiter c) = refl
granted_slot h (Open k) (Draining n) = refl
granted_slot h (Take k) Empty = refl
granted_slot h (Take k) (Slot.Left w) = refl
granted_slot h (Take k) (Slot.Right w) = refl
granted_slot h (Take k) (Credits zero) = refl
granted_slot h (Take k) (Credits (suc n)) = refl
granted_slot h (Take k) (Waiter c) = refl
granted_slot h (Take k) (Draining n) = refl
granted_slot h (Give k) Empty = refl
granted_slot h (Give k) (Slot.Left w) = refl
granted_slot h (Give k) (Slot.Right w) = refl
granted_slot h (Give k) (Credits n) = refl
granted_slot h (Give k) (Waiter c) = refl
granted_slot h (Give k) (Draining n) = refl
granted_slot h op s = refl

pub slot_same : (i j : Instr) → j.op ≡ i.op → j.slot ≡ i.slot → slot_of j j.op ≡ slot_of i i.op
slot_same i j o e = ap (slot_of j) o ∙ go i.op
  where
    go : (op : Op) → slot_of j op ≡ slot_of i op
    go (Apply2 x) = ap Some e
    go Sync = ap Some e
    go Switch = ap Some e
    go (Store n) = ap Some e
    go (Send b n) = ap Some e
    go (Return n) = ap Some e
    go (Ask n) = ap Some e
    go (Release n) = ap Some e
    go (Open n) = ap Some e
    go (Take n) = ap Some e
    go (Give n) = ap Some e
    go (Drain n) = ap Some e
    go op = refl

pub slot_there : (h : ℕ → ℕ) (s : MStore) (f : ℕ) (o : Option ℕ) → slot_in (ip_store h s) f o ≡ ip_slot h (slot_in s f o)
slot_there h s f None = refl
slot_there h s f (Some r) = refl

-- what a `give` leaves in its slot
pub give_leaves : (i : Instr) (f k : ℕ) (s n : MStore) (v : SlotState) → i.op ≡ Give k → n ≡ with_slot_in s f (slot_of i i.op) v → n.slots f i.slot ≡ v
give_leaves i f k s n v e is = ap (λ (n : MStore). n.slots f i.slot) (is ∙ ap (λ (op : Op). with_slot_in s f (slot_of i op) v) e) ∙ slot_filled s f i.slot v
