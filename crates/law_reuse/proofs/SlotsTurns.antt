-- What an instruction's event does with the slot: one of seven ways.
use Rattle.std.proofs.Common.{◌≡◌, refl, sym, ap, ℕ, zero, suc, ◌+◌, ◌-◌, ◌⊎◌, inl, inr, Bool, true, false, true≢false, List, [], Option, Some, None}
use Rattle.std.specs.Prelude.{if◌then◌else◌, nat_lt, ◌==◌}
use Rattle.tags.specs.declared.token.Port.{Port}
use Rattle.tags.specs.declared.token.Port.TheVariants.{Left, Right}
use Rattle.tags.specs.declared.token.Word.{Word}
use Rattle.tags.specs.declared.token.Token.{Token}
use Rattle.tags.specs.declared.slot.SlotState.{SlotState}
use Rattle.tags.specs.declared.slot.SlotState.TheVariants as Slot
use Rattle.tags.specs.declared.slot.SlotState.TheVariants.{Empty, Credits, Waiter, Draining}
use Rattle.semantics.specs.declared.program.Op.{Op}
use Rattle.semantics.specs.declared.program.Op.TheVariants.{Apply2, Sync, Switch, Store, Send, Return, Ask, Open, Take, Give, Drain, Release}
use Rattle.semantics.specs.Program.{Instr, Program}
use Rattle.semantics.specs.Rule.{Point, Becomes, Excluded, to_all, signal, fires, fire_two, meets, alone, opens, takes, gives, drains, outcome_of, slot_of}
use Rattle.semantics.specs.Plan.{is_credit, is_open}
use Rattle.semantics.specs.Wired.{is_dyadic}

-- the state of a loop's slot
abbrev pub is_counting : SlotState → Bool
is_counting (Credits n) = true
is_counting (Waiter c) = true
is_counting (Draining n) = true
is_counting s = false

-- an instruction of a loop but its `open`
abbrev pub is_later : Op → Bool
is_later (Take k) = true
is_later (Give k) = true
is_later (Drain k) = true
is_later op = false

pub data Turn (p : Program) (s : Point) (i : Instr) (op : Op) (slot : SlotState) (q : Port) (w : Word) (v : SlotState) (made : List Token) : Type 0 where
  waits_left : is_dyadic op ≡ true → slot ≡ Empty → q ≡ Left → v ≡ Slot.Left w → made ≡ [] → Turn p s i op slot q w v made
  waits_right : is_dyadic op ≡ true → slot ≡ Empty → q ≡ Right → v ≡ Slot.Right w → made ≡ [] → Turn p s i op slot q w v made
  meets_right : is_dyadic op ≡ true → (l : Word) → slot ≡ Slot.Left l → q ≡ Right → v ≡ Empty → fire_two p s i i.op l w ≡ Some made
      → Turn p s i op slot q w v made
  meets_left : is_dyadic op ≡ true → (r : Word) → slot ≡ Slot.Right r → q ≡ Left → v ≡ Empty → fire_two p s i i.op w r ≡ Some made
      → Turn p s i op slot q w v made
  lone : slot_of i op ≡ None → is_dyadic op ≡ false → q ≡ Left → Turn p s i op slot q w v made
  begins : is_open op ≡ true → slot ≡ Empty → q ≡ Left → is_counting v ≡ true → Turn p s i op slot q w v made
  counts : is_later op ≡ true → is_counting slot ≡ true → q ≡ Left → (v ≡ Empty) ⊎ (is_counting v ≡ true) → Turn p s i op slot q w v made

becomes_slot : (x v : SlotState) (a b : List Token) → Becomes x a ≡ Becomes v b → v ≡ x
becomes_slot x v a b e = cc

pub becomes_made : (x v : SlotState) (a b : List Token) → Becomes x a ≡ Becomes v b → b ≡ a
becomes_made x v a b e = cc

pub excluded_not : (n : ℕ) (v : SlotState) (b : List Token) → Excluded n ≡ Becomes v b → ⊥
excluded_not n v b e = cc

pub fired : (x v : SlotState) (o : Option (List Token)) (made : List Token) → fires x o ≡ Becomes v made → (v ≡ x) × (o ≡ Some made)
fired x v None made e = absurd (excluded_not 4 v made e)
fired x v (Some ts) made e = (becomes_slot x v ts made e, ap (λ (l : List Token). Some l) (sym (becomes_made x v ts made e)))

module _ (p : Program) (s : Point) (i : Instr) where
  meets_turn : (op : Op) → is_dyadic op ≡ true → (slot : SlotState) (q : Port) (w : Word) (v : SlotState) (made : List Token)
      → meets p s i slot q w ≡ Becomes v made → Turn p s i op slot q w v made
  meets_turn op d Empty Left w v made e = waits_left d refl refl (becomes_slot _ v _ made e) (becomes_made _ v _ made e)
  meets_turn op d Empty Right w v made e = waits_right d refl refl (becomes_slot _ v _ made e) (becomes_made _ v _ made e)
  meets_turn op d (Slot.Left l) Right w v made e = let f = fired Empty v (fire_two p s i i.op l w) made e in meets_right d l refl refl f.0 f.1
  meets_turn op d (Slot.Right r) Left w v made e = let f = fired Empty v (fire_two p s i i.op w r) made e in meets_left d r refl refl f.0 f.1
  meets_turn op d slot q w v made e = absurd (excluded_not 3 v made e)

  alone_turn : (op : Op) → slot_of i op ≡ None → is_dyadic op ≡ false → (slot : SlotState) (q : Port) (w : Word) (v : SlotState) (made : List Token)
      → alone p s i slot q w ≡ Becomes v made → Turn p s i op slot q w v made
  alone_turn op n d slot Left w v made e = lone n d refl
  alone_turn op n d slot Right w v made e = absurd (excluded_not 2 v made e)

  open_turn : (k : ℕ) (slot : SlotState) (w : Word) (v : SlotState) (made : List Token) → opens s i k slot ≡ Becomes v made
      → (slot ≡ Empty) × (is_counting v ≡ true)
  open_turn k Empty w v made e = (refl, ap is_counting (becomes_slot _ v _ made e))
  open_turn k slot w v made e = absurd (excluded_not 3 v made e)

  take_turn : (slot : SlotState) (w : Word) (v : SlotState) (made : List Token) → takes slot w ≡ Becomes v made
      → (is_counting slot ≡ true) × ((v ≡ Empty) ⊎ (is_counting v ≡ true))
  take_turn (Credits zero) (Word.Back c) v made e = (refl, inr (ap is_counting (becomes_slot _ v _ made e)))
  take_turn (Credits (suc n)) (Word.Back c) v made e = (refl, inr (ap is_counting (becomes_slot _ v _ made e)))
  take_turn (Credits zero) w v made e = absurd (excluded_not 4 v made e)
  take_turn (Credits (suc n)) w v made e = absurd (excluded_not 4 v made e)
  take_turn slot w v made e = absurd (excluded_not 3 v made e)

  give_turn : (k : ℕ) (slot : SlotState) (v : SlotState) (made : List Token) → gives s i k slot ≡ Becomes v made
      → (is_counting slot ≡ true) × ((v ≡ Empty) ⊎ (is_counting v ≡ true))
  give_turn k (Credits n) v made e = go (nat_lt n k) e
    where
      go : (b : Bool) → (if b then Becomes (Credits (n + 1)) [] else Excluded 3) ≡ Becomes v made → (true ≡ true) × ((v ≡ Empty) ⊎ (is_counting v ≡ true))
      go true e = (refl, inr (ap is_counting (becomes_slot _ v _ made e)))
      go false e = absurd (excluded_not 3 v made e)
  give_turn k (Waiter c) v made e = (refl, inr (ap is_counting (becomes_slot _ v _ made e)))
  give_turn k (Draining zero) v made e = absurd (excluded_not 3 v made e)
  give_turn k (Draining (suc zero)) v made e = (refl, inl (becomes_slot _ v _ made e))
  give_turn k (Draining (suc (suc n))) v made e = (refl, inr (ap is_counting (becomes_slot _ v _ made e)))
  give_turn k slot v made e = absurd (excluded_not 3 v made e)

  -- a drain that makes a token leaves the slot empty
  pub drain_turn : (k : ℕ) (slot : SlotState) (v : SlotState) (made : List Token) → drains s i k slot ≡ Becomes v made
      → (is_counting slot ≡ true) × ((v ≡ Empty) ⊎ ((is_counting v ≡ true) × (made ≡ [])))
  drain_turn k (Credits n) v made e = go (n == k) (nat_lt n k) e
    where
      go : (b c : Bool) → (if b then Becomes Empty (to_all s signal i) else if c then Becomes (Draining (k - n)) [] else Excluded 3) ≡ Becomes v made
          → (true ≡ true) × ((v ≡ Empty) ⊎ ((is_counting v ≡ true) × (made ≡ [])))
      go true c e = (refl, inl (becomes_slot _ v _ made e))
      go false true e = (refl, inr (ap is_counting (becomes_slot _ v _ made e), becomes_made _ v _ made e))
      go false false e = absurd (excluded_not 3 v made e)
  drain_turn k slot v made e = absurd (excluded_not 3 v made e)

  less : (v : SlotState) (made : List Token) → (v ≡ Empty) ⊎ ((is_counting v ≡ true) × (made ≡ [])) → (v ≡ Empty) ⊎ (is_counting v ≡ true)
  less v made (inl e) = inl e
  less v made (inr e) = inr e.0

  pub turn_of : (op : Op) (slot : SlotState) (q : Port) (w : Word) (v : SlotState) (made : List Token) → outcome_of p s i op slot q w ≡ Becomes v made
      → Turn p s i op slot q w v made
  turn_of (Apply2 op) slot q w v made e = meets_turn (Apply2 op) refl slot q w v made e
  turn_of Sync slot q w v made e = meets_turn Sync refl slot q w v made e
  turn_of Switch slot q w v made e = meets_turn Switch refl slot q w v made e
  turn_of (Store a) slot q w v made e = meets_turn (Store a) refl slot q w v made e
  turn_of (Send b n) slot q w v made e = meets_turn (Send b n) refl slot q w v made e
  turn_of (Return o) slot q w v made e = meets_turn (Return o) refl slot q w v made e
  turn_of (Ask o) slot q w v made e = meets_turn (Ask o) refl slot q w v made e
  turn_of (Release o) slot q w v made e = meets_turn (Release o) refl slot q w v made e
  turn_of (Open k) slot Left w v made e = let t = open_turn k slot w v made e in begins refl t.0 refl t.1
  turn_of (Take k) slot Left w v made e = let t = take_turn slot w v made e in counts refl t.0 refl t.1
  turn_of (Give k) slot Left w v made e = let t = give_turn k slot v made e in counts refl t.0 refl t.1
  turn_of (Drain k) slot Left w v made e = let t = drain_turn k slot v made e in counts refl t.0 refl (less v made t.1)
  turn_of (Open k) slot Right w v made e = absurd (excluded_not 2 v made e)
  turn_of (Take k) slot Right w v made e = absurd (excluded_not 2 v made e)
  turn_of (Give k) slot Right w v made e = absurd (excluded_not 2 v made e)
  turn_of (Drain k) slot Right w v made e = absurd (excluded_not 2 v made e)
  turn_of op slot q w v made e = alone_turn op refl refl slot q w v made e

-- what kinds of instruction have in common
pub later_not_dyadic : (op : Op) → is_later op ≡ true → is_dyadic op ≡ true → ⊥
later_not_dyadic (Take k) a b = true≢false (sym b)
later_not_dyadic (Give k) a b = true≢false (sym b)
later_not_dyadic (Drain k) a b = true≢false (sym b)
later_not_dyadic op a b = true≢false (sym a)

pub open_not_dyadic : (op : Op) → is_open op ≡ true → is_dyadic op ≡ true → ⊥
open_not_dyadic (Open k) a b = true≢false (sym b)
open_not_dyadic op a b = true≢false (sym a)

pub dyadic_not_credit : (op : Op) → is_dyadic op ≡ true → is_credit op ≡ false
dyadic_not_credit (Open k) d = absurd (true≢false (sym d))
dyadic_not_credit (Take k) d = absurd (true≢false (sym d))
dyadic_not_credit (Give k) d = absurd (true≢false (sym d))
dyadic_not_credit (Drain k) d = absurd (true≢false (sym d))
dyadic_not_credit op d = refl
