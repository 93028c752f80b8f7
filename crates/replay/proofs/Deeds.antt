-- What a token did at an instruction: worked examples, and the law that it is reported to wait exactly where its slot holds it and did not before.
use Rattle.std.proofs.Common.{◌≡◌, refl, sym, ◌∙◌, ap, subst, ℕ, zero, suc, ◌+◌, ◌-◌, Bool, true, false, List, [], ◌∷◌, Option, Some, None}
use Rattle.std.specs.Prelude.{nat_lt, ◌==◌, if◌then◌else◌}
use Rattle.tags.specs.declared.token.Port.{Port}
use Rattle.tags.specs.declared.token.Port.TheVariants.{Left, Right}
use Rattle.tags.specs.declared.token.Cont.{Cont}
use Rattle.tags.specs.declared.token.Word.{Word}
use Rattle.tags.specs.declared.token.To.{To}
use Rattle.tags.specs.declared.token.Token.{Token}
use Rattle.tags.specs.declared.slot.SlotState.{SlotState}
use Rattle.tags.specs.declared.slot.SlotState.TheVariants as Slot
use Rattle.tags.specs.declared.slot.SlotState.TheVariants.{Empty, Credits, Waiter, Draining}
use Rattle.semantics.specs.declared.program.Op.{Op}
use Rattle.semantics.specs.declared.program.Op.TheVariants.{Apply2, Sync, Switch, Send, Return, Ask, Open, Take, Give, Drain, Release}
use Rattle.semantics.specs.Program.{Instr, Program, instr_at}
use Rattle.semantics.specs.Rule.{Point, Outcome, Becomes, Excluded, token, signal, signal_to, to_all, fires, fire_one, fire_two, meets, opens, takes, gives}
use Rattle.semantics.specs.Rule.{drains, alone, on_left, outcome_of, rule_at, slot_of}
use Rattle.semantics.specs.Machine.{Store, Happens, Fires, slot_in, slot_used, with_slot, at_start}
use Rattle.semantics.proofs.Emulator.{instr, left, none, one_block}
use Rattle.replay.specs.declared.moment.Deed.{Deed}
use Rattle.replay.specs.declared.moment.Deed.TheVariants.{Waited, Queued, Fired}
use Rattle.replay.specs.Moments.{at_slot, deed_of}
use Rattle.replay.proofs.Instructing.{none_left, slot_then}

-- EXAMPLES. The instructions of a loop with bound 2, at 0 to 3, an instruction for two words at 4, and another `open`, which has no destination
abbrev code : Program
code = one_block 1 1 1 (instr (Open 2) 0 (left 4) none ∷ instr (Take 2) 0 none none ∷ instr (Give 2) 0 (left 2) none ∷ instr (Drain 2) 0
    (left 1) none ∷ instr Sync 0 none none ∷ instr (Open 2) 0 none none ∷ [])

abbrev holding : SlotState → Store
holding v = with_slot (at_start code []).store 0 0 v

abbrev then_holding : SlotState → SlotState → Store
then_holding before after = with_slot (holding before) 0 0 after

-- A token for instruction `ip` finds the slot in the one state, makes these tokens, and leaves the slot in the other; and this is reported of it.
abbrev IsDeed : ℕ → Port → Word → SlotState → List Token → SlotState → Deed → Type 0
IsDeed ip port w before made after d =
    Happens code 1 (holding before) (To.Instr 0 ip port) w made (then_holding before after)
    × (deed_of code (holding before) (then_holding before after) (To.Instr 0 ip port) made ≡ d)

-- where an iteration waits
abbrev back : Cont
back = Cont.Frame 7 40 Right

abbrev signal_back : List Token
signal_back = token (To.Instr 7 40 Right) signal ∷ []

abbrev signal_on : List Token
signal_on = token (To.Instr 0 4 Left) signal ∷ []

first_of_two : (w : Word) → IsDeed 4 Left w Empty [] (Slot.Left w) Waited
first_of_two w = ((refl, refl), refl)

first_of_two_at_right : (w : Word) → IsDeed 4 Right w Empty [] (Slot.Right w) Waited
first_of_two_at_right w = ((refl, refl), refl)

-- the second token fires the instruction, also where the result has no destination
second_of_two : (v w : Word) → IsDeed 4 Right w (Slot.Left v) [] Empty Fired
second_of_two v w = ((refl, refl), refl)

opens_credits : (w : Word) → IsDeed 0 Left w Empty signal_on (Credits 1) Fired
opens_credits w = ((refl, refl), refl)

opens_for_none : (w : Word) → IsDeed 5 Left w Empty [] (Credits 1) Fired
opens_for_none w = ((refl, refl), refl)

takes_credit : IsDeed 1 Left (Word.Back back) (Credits 1) signal_back (Credits 0) Fired
takes_credit = ((refl, refl), refl)

take_waits : IsDeed 1 Left (Word.Back back) (Credits 0) [] (Waiter back) Queued
take_waits = ((refl, refl), refl)

gives_credit : (w : Word) → IsDeed 2 Left w (Credits 1) [] (Credits 2) Fired
gives_credit w = ((refl, refl), refl)

gives_to_request : (w : Word) → IsDeed 2 Left w (Waiter back) signal_back (Credits 0) Fired
gives_to_request w = ((refl, refl), refl)

gives_to_drain : (w : Word) → IsDeed 2 Left w (Draining 2) [] (Draining 1) Fired
gives_to_drain w = ((refl, refl), refl)

gives_last : (w : Word) → IsDeed 2 Left w (Draining 1) signal_on Empty Fired
gives_last w = ((refl, refl), refl)

drain_waits : (w : Word) → IsDeed 3 Left w (Credits 0) [] (Draining 2) Waited
drain_waits w = ((refl, refl), refl)

drain_finds_all : (w : Word) → IsDeed 3 Left w (Credits 2) signal_on Empty Fired
drain_finds_all w = ((refl, refl), refl)

-- THE LAW. The slot holds a token: its word, the request that it carries, or the drain that it is
abbrev pub Keeps : Word → SlotState → Type 0
Keeps w (Slot.Left v) = v ≡ w
Keeps w (Slot.Right v) = v ≡ w
Keeps w (Waiter c) = w ≡ Word.Back c
Keeps w (Draining n) = Unit {0}
Keeps w slot = ⊥

abbrev pub IsWait : Deed → Type 0
IsWait Waited = Unit {0}
IsWait Queued = Unit {0}
IsWait d = ⊥

-- What is reported of a token with this word, of the slot before and after it, and of what it made: if that it waits, the slot holds it and
-- nothing was made; and that it waits, if the slot holds it and did not before.
abbrev pub IsTrueOf : Word → SlotState → SlotState → List Token → Type 0
IsTrueOf w u v made = (IsWait (at_slot u v) → Keeps w v × (Keeps w u → ⊥) × (made ≡ [])) × (Keeps w v → (Keeps w u → ⊥) → IsWait (at_slot u v))

module _ (p : Program) (s : Point) (i : Instr) (w : Word) where
  becomes : (u v x : SlotState) (made ts : List Token) → Becomes v made ≡ Becomes x ts → IsTrueOf w u x ts → IsTrueOf w u v made
  becomes u v x made ts e h =
      let a : v ≡ x = cc in
      let b : made ≡ ts = cc in
      subst (λ (y : SlotState). IsTrueOf w u y made) (sym a) (subst (λ (ys : List Token). IsTrueOf w u x ys) (sym b) h)

  excluded : (u v : SlotState) (made : List Token) (rule : ℕ) → Becomes v made ≡ Excluded rule → IsTrueOf w u v made
  excluded u v made rule e = absurd (let bad : ⊥ = cc in bad)

  -- where the slot is empty then, nothing waits
  empties : (u v : SlotState) (made : List Token) (o : Option (List Token)) → ((ts : List Token) → IsTrueOf w u Empty ts) → Becomes v made ≡ fires Empty o
      → IsTrueOf w u v made
  empties u v made None h e = excluded u v made 4 e
  empties u v made (Some ts) h e = becomes u v Empty made ts e (h ts)

  two : (u v : SlotState) (port : Port) (made : List Token) → Becomes v made ≡ meets p s i u port w → IsTrueOf w u v made
  two Empty v Left made e = becomes Empty v (Slot.Left w) made [] e (λ h. (refl, λ no. no, refl), λ h no. tt)
  two Empty v Right made e = becomes Empty v (Slot.Right w) made [] e (λ h. (refl, λ no. no, refl), λ h no. tt)
  two (Slot.Left l) v Left made e = excluded (Slot.Left l) v made 3 e
  two (Slot.Left l) v Right made e = empties (Slot.Left l) v made (fire_two p s i i.op l w) (λ ts. (λ h. absurd h, λ h no. absurd h)) e
  two (Slot.Right r) v Left made e = empties (Slot.Right r) v made (fire_two p s i i.op w r) (λ ts. (λ h. absurd h, λ h no. absurd h)) e
  two (Slot.Right r) v Right made e = excluded (Slot.Right r) v made 3 e
  two (Credits n) v port made e = excluded (Credits n) v made 3 e
  two (Waiter c) v port made e = excluded (Waiter c) v made 3 e
  two (Draining n) v port made e = excluded (Draining n) v made 3 e

  opened : (u v : SlotState) (k : ℕ) (made : List Token) → Becomes v made ≡ opens s i k u → IsTrueOf w u v made
  opened Empty v k made e = becomes Empty v (Credits (k - 1)) made (to_all s signal i) e (λ h. absurd h, λ h no. absurd h)
  opened u v k made e = excluded u v made 3 e

  taken : (u v : SlotState) (x : Word) (made : List Token) → x ≡ w → Becomes v made ≡ takes u x → IsTrueOf w u v made
  taken (Credits zero) v (Word.Back c) made is e = becomes (Credits 0) v (Waiter c) made [] e (λ h. (sym is, λ no. no, refl), λ h no. tt)
  taken (Credits (suc n)) v (Word.Back c) made is e = becomes (Credits (suc n)) v (Credits n) made (signal_to c) e (λ h. absurd h, λ h no. absurd h)
  taken (Credits n) v x made is e = excluded (Credits n) v made 4 e
  taken u v x made is e = excluded u v made 3 e

  added : (n : ℕ) (v : SlotState) (made : List Token) (t : Bool) → Becomes v made ≡ (if t then Becomes (Credits (n + 1)) [] else Excluded 3)
      → IsTrueOf w (Credits n) v made
  added n v made true e = becomes (Credits n) v (Credits (n + 1)) made [] e (λ h. absurd h, λ h no. absurd h)
  added n v made false e = excluded (Credits n) v made 3 e

  given : (u v : SlotState) (k : ℕ) (made : List Token) → Becomes v made ≡ gives s i k u → IsTrueOf w u v made
  given (Credits n) v k made e = added n v made (nat_lt n k) e
  given (Waiter c) v k made e = becomes (Waiter c) v (Credits 0) made (signal_to c) e (λ h. absurd h, λ h no. absurd h)
  given (Draining zero) v k made e = excluded (Draining 0) v made 3 e
  given (Draining (suc zero)) v k made e = becomes (Draining 1) v Empty made (to_all s signal i) e (λ h. absurd h, λ h no. absurd h)
  given (Draining (suc (suc n))) v k made e = becomes (Draining (suc (suc n))) v (Draining (suc n)) made [] e (λ h. absurd h, λ h no. absurd (no tt))
  given Empty v k made e = excluded Empty v made 3 e
  given (Slot.Left x) v k made e = excluded (Slot.Left x) v made 3 e
  given (Slot.Right x) v k made e = excluded (Slot.Right x) v made 3 e

  left_over : (n k : ℕ) (v : SlotState) (made : List Token) (t : Bool) → Becomes v made ≡ (if t then Becomes (Draining (k - n)) [] else Excluded 3)
      → IsTrueOf w (Credits n) v made
  left_over n k v made true e = becomes (Credits n) v (Draining (k - n)) made [] e (λ h. (tt, λ no. no, refl), λ h no. tt)
  left_over n k v made false e = excluded (Credits n) v made 3 e

  all_there : (n k : ℕ) (v : SlotState) (made : List Token) (t : Bool)
      → Becomes v made ≡ (if t then Becomes Empty (to_all s signal i) else if nat_lt n k then Becomes (Draining (k - n)) [] else Excluded 3)
      → IsTrueOf w (Credits n) v made
  all_there n k v made true e = becomes (Credits n) v Empty made (to_all s signal i) e (λ h. absurd h, λ h no. absurd h)
  all_there n k v made false e = left_over n k v made (nat_lt n k) e

  drained : (u v : SlotState) (k : ℕ) (made : List Token) → Becomes v made ≡ drains s i k u → IsTrueOf w u v made
  drained (Credits n) v k made e = all_there n k v made (n == k) e
  drained u v k made e = excluded u v made 3 e

  at_left : (u v : SlotState) (port : Port) (made : List Token) (o : Outcome) → (Becomes v made ≡ o → IsTrueOf w u v made) → Becomes v made ≡ on_left port o
      → IsTrueOf w u v made
  at_left u v Left made o h e = h e
  at_left u v Right made o h e = excluded u v made 2 e

  one : (v : SlotState) (port : Port) (made : List Token) → Becomes v made ≡ alone p s i Empty port w → IsTrueOf w Empty v made
  one v Left made e = empties Empty v made (fire_one p s i i.op w) (λ ts. (λ h. absurd h, λ h no. absurd h)) e
  one v Right made e = excluded Empty v made 2 e

  none_used : (u v : SlotState) (port : Port) (made : List Token) → u ≡ Empty → Becomes v made ≡ alone p s i u port w → IsTrueOf w u v made
  none_used u v port made empty e =
      subst (λ (x : SlotState). IsTrueOf w x v made) (sym empty) (one v port made (e ∙ ap (λ (x : SlotState). alone p s i x port w) empty))

  rules : (op : Op) (u v : SlotState) (port : Port) (made : List Token) → (slot_of i op ≡ None → u ≡ Empty) → Becomes v made ≡ outcome_of p s i op u port w
      → IsTrueOf w u v made
  rules (Apply2 op) u v port made empty e = two u v port made e
  rules Sync u v port made empty e = two u v port made e
  rules Switch u v port made empty e = two u v port made e
  rules (Op.Store a) u v port made empty e = two u v port made e
  rules (Send b n) u v port made empty e = two u v port made e
  rules (Return o) u v port made empty e = two u v port made e
  rules (Ask o) u v port made empty e = two u v port made e
  rules (Release o) u v port made empty e = two u v port made e
  rules (Open k) u v port made empty e = at_left u v port made (opens s i k u) (opened u v k made) e
  rules (Take k) u v port made empty e = at_left u v port made (takes u w) (taken u v w made refl) e
  rules (Give k) u v port made empty e = at_left u v port made (gives s i k u) (given u v k made) e
  rules (Drain k) u v port made empty e = at_left u v port made (drains s i k u) (drained u v k made) e
  rules op u v port made empty e = none_used u v port made (empty refl) e

-- what is reported of a token that arrived at an instruction is true of it
pub deeds_are_true : (p : Program) (total : ℕ) (old new : Store) (f ip : ℕ) (port : Port) (w : Word) (made : List Token)
    → Happens p total old (To.Instr f ip port) w made new
    → let r = slot_used (instr_at p ip) in IsTrueOf w (slot_in old f r) (slot_in new f r) made
deeds_are_true p total old new f ip port w made happens = by (instr_at p ip) happens where
  s : Point
  s = record { frame = f; ip = ip }

  no_slot : (r : Option ℕ) → r ≡ None → slot_in old f r ≡ Empty
  no_slot r is = ap (λ (x : Option ℕ). slot_in old f x) is

  of : (i : Instr) (o : Outcome) → o ≡ outcome_of p s i i.op (slot_in old f (slot_of i i.op)) port w → Fires old f (slot_of i i.op) o made new
      → IsTrueOf w (slot_in old f (slot_of i i.op)) (slot_in new f (slot_of i i.op)) made
  of i (Excluded rule) is h = absurd h
  of i (Becomes v ts) is h =
      let r = slot_of i i.op in
      let told : IsTrueOf w (slot_in old f r) v ts = rules p s i w i.op (slot_in old f r) v port ts (no_slot r) is in
      let no : slot_of i i.op ≡ None → v ≡ Empty = λ none. none_left p s i i.op port w v ts
      (is ∙ ap (λ (x : SlotState). outcome_of p s i i.op x port w) (no_slot r none)) none in
      let after : v ≡ slot_in new f r = slot_then old f i v r refl no ∙ sym (ap (λ (x : Store). slot_in x f r) h.1) in
      subst (λ (x : SlotState). IsTrueOf w (slot_in old f r) x made) after (subst (λ (ys : List Token). IsTrueOf w (slot_in old f r) v ys) (sym h.0) told)

  by : (x : Option Instr) → Fires old f (slot_used x) (rule_at p s x (slot_in old f (slot_used x)) port w) made new
      → IsTrueOf w (slot_in old f (slot_used x)) (slot_in new f (slot_used x)) made
  by None h = absurd h
  by (Some i) h = of i (outcome_of p s i i.op (slot_in old f (slot_of i i.op)) port w) refl h
