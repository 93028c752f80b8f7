-- A loop's credits in a frame: those that it granted, and the one that a waiter waits for, are no more than were asked for.
use Rattle.std.proofs.Common.{◌≡◌, refl, sym, ap, ◌∙◌, ℕ, zero, suc, ◌+◌, ◌-◌, ◌*◌, ◌≤◌, ◌⊎◌, inl, inr, Bool, true, false, true≢false, cond, ◌&&◌}
use Rattle.std.proofs.Common.{List, [], ◌∷◌, Option, Some, None, nat_lt, arith}
use Rattle.std.specs.Prelude.{◌==◌, if◌then◌else◌}
use Rattle.std.proofs.lemmas.Bool.{cases_eq, cases_Bool, and_parts, and_left, and_right, eqb-true}
use Rattle.std.proofs.lemmas.List.Sums.{sum_by-cons}
use Rattle.tags.specs.declared.token.Port.{Port}
use Rattle.tags.specs.declared.token.Port.TheVariants.{Left, Right}
use Rattle.tags.specs.declared.token.Cont.{Cont}
use Rattle.tags.specs.declared.token.Word.{Word}
use Rattle.tags.specs.declared.token.To.{To}
use Rattle.tags.specs.declared.token.Token.{Token}
use Rattle.tags.specs.declared.slot.SlotState.{SlotState}
use Rattle.tags.specs.declared.slot.SlotState.TheVariants as Slot
use Rattle.tags.specs.declared.slot.SlotState.TheVariants.{Empty, Credits, Waiter, Draining}
use Rattle.semantics.specs.declared.program.Op.{Op}
use Rattle.semantics.specs.declared.program.Op.TheVariants.{Apply2, Sync, Switch, Store, Send, Return, Ask, Open, Take, Give, Drain, Release}
use Rattle.semantics.specs.Program.{Instr, Program, instr_at}
use Rattle.semantics.specs.Rule.{Point, Outcome, Becomes, Excluded, fires, fire_two, meets, opens, takes, gives, drains, outcome_of, rule_at, slot_of}
use Rattle.semantics.specs.Rule.{to_all, signal}
use Rattle.semantics.specs.Rule.{signal_to}
use Rattle.semantics.specs.Machine as Machine
use Rattle.semantics.specs.Machine.{Machine, Size, Events, Run, Happens, Fires, Fetches, Stores, Requests, Releases, Hosts, CellState, Vacant, Full, Deferred}
use Rattle.semantics.specs.Machine.{put_at, slot_in, with_slot_in, slot_used, outputs_of}
use Rattle.semantics.specs.Cause.{seeks_credit, is_credit_event, credit_count}
use Rattle.semantics.specs.Credits.{granted_by, granted_in}
use Rattle.semantics.specs.Report.{waiters}
use Rattle.semantics.specs.Plan.{Plan}
use Rattle.semantics.specs.Holders.{Holder, holder_at, same_holder}
use Rattle.tags.specs.declared.value.Value.{Value}
use Rattle.law_reuse.proofs.FramesFold.{put_same, put_other, ne_eqb}
use Rattle.law_reuse.proofs.BoundsTallies.{Grants}
use Rattle.law_reuse.proofs.Frames.{So, so_next, so_after, counted_next}
use Rattle.law_completion.specs.Total.{HasOneSlot}

abbrev unit : Bool → ℕ
unit b = cond b 1 0

-- ---- WHAT A RULE DOES WITH A SLOT
becomes : (x v : SlotState) (a b : List Token) → Becomes x a ≡ Becomes v b → x ≡ v
becomes x v a b e = cc

never : (n : ℕ) (v : SlotState) (b : List Token) → Excluded n ≡ Becomes v b → ⊥
never n v b e = cc

fires_none : (o : Option (List Token)) (v : SlotState) (made : List Token) → fires Empty o ≡ Becomes v made → waiters v ≡ 0
fires_none None v made e = absurd (never 4 v made e)
fires_none (Some ts) v made e = ap waiters (sym (becomes Empty v ts made e))

meets_none : (p : Program) (s : Point) (i : Instr) (slot : SlotState) (q : Port) (w : Word) (v : SlotState) (made : List Token)
    → meets p s i slot q w ≡ Becomes v made → waiters v ≡ 0
meets_none p s i Empty Left w v made e = ap waiters (sym (becomes (Slot.Left w) v [] made e))
meets_none p s i Empty Right w v made e = ap waiters (sym (becomes (Slot.Right w) v [] made e))
meets_none p s i (Slot.Left l) Right r v made e = fires_none (fire_two p s i i.op l r) v made e
meets_none p s i (Slot.Left l) Left r v made e = absurd (never 3 v made e)
meets_none p s i (Slot.Right r) Left l v made e = fires_none (fire_two p s i i.op l r) v made e
meets_none p s i (Slot.Right r) Right l v made e = absurd (never 3 v made e)
meets_none p s i (Credits n) q w v made e = absurd (never 3 v made e)
meets_none p s i (Waiter c) q w v made e = absurd (never 3 v made e)
meets_none p s i (Draining n) q w v made e = absurd (never 3 v made e)

abbrev seeks : Op → Bool
seeks op = elim op as (λ x. Bool) [ Open k ↦ true | Take k ↦ true | _ ↦ false ]

-- what is granted, and what waits after it, was waiting or is asked for
abbrev Pays : Op → SlotState → SlotState → Type 0
Pays op slot v = granted_by op slot + waiters v ≤ waiters slot + unit (seeks op)

opens_pays : (s : Point) (i : Instr) (k : ℕ) (slot v : SlotState) (made : List Token) → opens s i k slot ≡ Becomes v made → Pays (Open k) slot v
opens_pays s i k Empty v made e = let a = ap waiters (becomes (Credits (k - 1)) v _ made e) in omega (arith, a)
opens_pays s i k (Slot.Left w) v made e = absurd (never 3 v made e)
opens_pays s i k (Slot.Right w) v made e = absurd (never 3 v made e)
opens_pays s i k (Credits n) v made e = absurd (never 3 v made e)
opens_pays s i k (Waiter c) v made e = absurd (never 3 v made e)
opens_pays s i k (Draining n) v made e = absurd (never 3 v made e)

takes_pays : (k : ℕ) (slot : SlotState) (w : Word) (v : SlotState) (made : List Token) → takes slot w ≡ Becomes v made → Pays (Take k) slot v
takes_pays k (Credits zero) (Word.Back c) v made e = let a = ap waiters (becomes (Waiter c) v [] made e) in omega (arith, a)
takes_pays k (Credits (suc n)) (Word.Back c) v made e = let a = ap waiters (becomes (Credits n) v (signal_to c) made e) in omega (arith, a)
takes_pays k (Credits zero) (Word.Val x) v made e = absurd (never 4 v made e)
takes_pays k (Credits zero) (Word.Frame f) v made e = absurd (never 4 v made e)
takes_pays k (Credits (suc n)) (Word.Val x) v made e = absurd (never 4 v made e)
takes_pays k (Credits (suc n)) (Word.Frame f) v made e = absurd (never 4 v made e)
takes_pays k Empty w v made e = absurd (never 3 v made e)
takes_pays k (Slot.Left l) w v made e = absurd (never 3 v made e)
takes_pays k (Slot.Right r) w v made e = absurd (never 3 v made e)
takes_pays k (Waiter c) w v made e = absurd (never 3 v made e)
takes_pays k (Draining n) w v made e = absurd (never 3 v made e)

gives_pays : (s : Point) (i : Instr) (k : ℕ) (slot v : SlotState) (made : List Token) → gives s i k slot ≡ Becomes v made → Pays (Give k) slot v
gives_pays s i k (Credits n) v made e = go (nat_lt n k) e
  where
    go : (b : Bool) → (if b then Becomes (Credits (n + 1)) [] else Excluded 3) ≡ Becomes v made → Pays (Give k) (Credits n) v
    go true e = let a = ap waiters (becomes (Credits (n + 1)) v [] made e) in omega (arith, a)
    go false e = absurd (never 3 v made e)
gives_pays s i k (Waiter c) v made e = let a = ap waiters (becomes (Credits 0) v (signal_to c) made e) in omega (arith, a)
gives_pays s i k (Draining zero) v made e = absurd (never 3 v made e)
gives_pays s i k (Draining (suc zero)) v made e = let a = ap waiters (becomes Empty v (to_all s signal i) made e) in omega (arith, a)
gives_pays s i k (Draining (suc (suc n))) v made e = let a = ap waiters (becomes (Draining (suc n)) v [] made e) in omega (arith, a)
gives_pays s i k Empty v made e = absurd (never 3 v made e)
gives_pays s i k (Slot.Left l) v made e = absurd (never 3 v made e)
gives_pays s i k (Slot.Right r) v made e = absurd (never 3 v made e)

drains_pays : (s : Point) (i : Instr) (k : ℕ) (slot v : SlotState) (made : List Token) → drains s i k slot ≡ Becomes v made → Pays (Drain k) slot v
drains_pays s i k (Credits n) v made e = go (n == k) (nat_lt n k) e
  where
    go : (a b : Bool) → (if a then Becomes Empty (to_all s signal i) else if b then Becomes (Draining (k - n)) [] else Excluded 3) ≡ Becomes v made
        → Pays (Drain k) (Credits n) v
    go true b e = let a = ap waiters (becomes Empty v (to_all s signal i) made e) in omega (arith, a)
    go false true e = let a = ap waiters (becomes (Draining (k - n)) v [] made e) in omega (arith, a)
    go false false e = absurd (never 3 v made e)
drains_pays s i k Empty v made e = absurd (never 3 v made e)
drains_pays s i k (Slot.Left l) v made e = absurd (never 3 v made e)
drains_pays s i k (Slot.Right r) v made e = absurd (never 3 v made e)
drains_pays s i k (Waiter c) v made e = absurd (never 3 v made e)
drains_pays s i k (Draining n) v made e = absurd (never 3 v made e)

meets_pays : (op : Op) (slot v : SlotState) → granted_by op slot ≡ 0 → waiters v ≡ 0 → Pays op slot v
meets_pays op slot v a b = omega (arith, a, b)

rule_pays : (p : Program) (s : Point) (i : Instr) (op : Op) (r : ℕ) (slot : SlotState) (q : Port) (w : Word) (v : SlotState) (made : List Token)
    → slot_of i op ≡ Some r → outcome_of p s i op slot q w ≡ Becomes v made → Pays op slot v
rule_pays p s i (Apply2 op) r slot q w v made at e = meets_pays (Apply2 op) slot v refl (meets_none p s i slot q w v made e)
rule_pays p s i Sync r slot q w v made at e = meets_pays Sync slot v refl (meets_none p s i slot q w v made e)
rule_pays p s i Switch r slot q w v made at e = meets_pays Switch slot v refl (meets_none p s i slot q w v made e)
rule_pays p s i (Store a) r slot q w v made at e = meets_pays (Store a) slot v refl (meets_none p s i slot q w v made e)
rule_pays p s i (Send b x) r slot q w v made at e = meets_pays (Send b x) slot v refl (meets_none p s i slot q w v made e)
rule_pays p s i (Return o) r slot q w v made at e = meets_pays (Return o) slot v refl (meets_none p s i slot q w v made e)
rule_pays p s i (Ask o) r slot q w v made at e = meets_pays (Ask o) slot v refl (meets_none p s i slot q w v made e)
rule_pays p s i (Release o) r slot q w v made at e = meets_pays (Release o) slot v refl (meets_none p s i slot q w v made e)
rule_pays p s i (Open k) r slot Left w v made at e = opens_pays s i k slot v made e
rule_pays p s i (Open k) r slot Right w v made at e = absurd (never 2 v made e)
rule_pays p s i (Take k) r slot Left w v made at e = takes_pays k slot w v made e
rule_pays p s i (Take k) r slot Right w v made at e = absurd (never 2 v made e)
rule_pays p s i (Give k) r slot Left w v made at e = gives_pays s i k slot v made e
rule_pays p s i (Give k) r slot Right w v made at e = absurd (never 2 v made e)
rule_pays p s i (Drain k) r slot Left w v made at e = drains_pays s i k slot v made e
rule_pays p s i (Drain k) r slot Right w v made at e = absurd (never 2 v made e)
rule_pays p s i op r slot q w v made at e = absurd (no at)
  where
    no : None ≡ Some r → ⊥
    no e = cc

-- an instruction without a slot grants nothing
no_slot : (i : Instr) (op : Op) (s : SlotState) → slot_of i op ≡ None → granted_by op s ≡ 0
no_slot i (Open k) s e = absurd (let n : ⊥ = cc in n)
no_slot i (Take k) s e = absurd (let n : ⊥ = cc in n)
no_slot i (Give k) s e = absurd (let n : ⊥ = cc in n)
no_slot i op s e = refl

if_le : (b : Bool) (x : ℕ) → (if b then x else 0) ≤ x
if_le true x = omega arith
if_le false x = omega arith

same_holder_is : (x : Holder) (o : Option Holder) → same_holder x o ≡ true → o ≡ Some x
same_holder_is x None e = absurd (true≢false (sym e))
same_holder_is x (Some y) e =
    let both = and_parts (x.block == y.block) (x.number == y.number) e in
    let a = eqb-true x.block y.block both.0 in let b = eqb-true x.number y.number both.1 in
    (λ t. Some record { block = sym a t; number = sym b t })

-- what an instruction's event does: its outcome, and the store after it
moves : (o : Outcome) (made : List Token) (f : ℕ) (r : Option ℕ) (old new : Machine.Store) → Fires old f r o made new
    → (v : SlotState) × (o ≡ Becomes v made) × (new ≡ with_slot_in old f r v)
moves (Excluded n) made f r old new e = absurd e
moves (Becomes v ts) made f r old new e = (v, ap (λ (l : List Token). Becomes v l) (sym e.0), e.1)

slots_fetch : (m new : Machine.Store) (x : ℕ) (c : Cont) (y : CellState) (made : List Token) → Fetches m x c y made new → new.slots ≡ m.slots
slots_fetch m new x c Vacant made e = ap (λ (n : Machine.Store). n.slots) e.1
slots_fetch m new x c (Deferred cs) made e = ap (λ (n : Machine.Store). n.slots) e.1
slots_fetch m new x c (Full v) made e = ap (λ (n : Machine.Store). n.slots) e.1

slots_store : (m new : Machine.Store) (x : ℕ) (v : Value) (c : Cont) (y : CellState) (made : List Token) → Stores m x v c y made new → new.slots ≡ m.slots
slots_store m new x v c Vacant made e = ap (λ (n : Machine.Store). n.slots) e.1
slots_store m new x v c (Deferred cs) made e = ap (λ (n : Machine.Store). n.slots) e.1
slots_store m new x v c (Full w) made e = absurd e

slots_request : (total : ℕ) (m new : Machine.Store) (c : Cont) (made : List Token) → Requests total m c made new → new.slots ≡ m.slots
slots_request total m new c made (inl e) = ap (λ (n : Machine.Store). n.slots) e.4
slots_request total m new c made (inr e) = ap (λ (n : Machine.Store). n.slots) e.2

slots_release : (m new : Machine.Store) (f : ℕ) (made : List Token) → Releases m f made new → new.slots ≡ m.slots
slots_release m new f made (out, inl e) = ap (λ (n : Machine.Store). n.slots) e.2
slots_release m new f made (out, inr e) = ap (λ (n : Machine.Store). n.slots) e.4

slots_host : (r : ℕ) (m new : Machine.Store) (j : ℕ) (w : Word) (made : List Token) → Hosts r m j w made new → new.slots ≡ m.slots
slots_host r m new j w made (inl e) = ap (λ (n : Machine.Store). n.slots) e.2.3
slots_host r m new j w made (inr e) = ap (λ (n : Machine.Store). n.slots) e.3

-- ---- ALONG A RUN
module _ (P : Plan) (q : Program) (one : HasOneSlot P q) (loop : Holder) (f : ℕ) where
  abbrev s : ℕ
  s = one.0 loop

  abbrev waits_at : Machine.Store → ℕ
  waits_at m = waiters (m.slots f s)

  abbrev Owed : So → ℕ → Machine.Store → Type 0
  Owed so n m = so.counted (Grants loop) f + waits_at m ≤ n

  instr_owed : (c n : ℕ) (old new : Machine.Store) (g ip : ℕ) (port : Port) (w : Word) (made : List Token) (o : Option Instr)
      → ((h : Holder) (r : ℕ) → holder_at P ip ≡ Some h → slot_used o ≡ Some r → r ≡ one.0 h)
      → c + waits_at old ≤ n → Fires old g (slot_used o) (rule_at q record { frame = g; ip = ip } o (slot_in old g (slot_used o)) port w) made new
      → c + (if (g == f) && same_holder loop (holder_at P ip) then granted_in o (slot_in old g (slot_used o)) else 0) + waits_at new
      ≤ n + unit (seeks_credit o)
  instr_owed c n old new g ip port w made None mine I e = absurd e
  instr_owed c n old new g ip port w made (Some i) mine I e = by_slot (slot_of i i.op) refl
    where
      test : Bool
      test = (g == f) && same_holder loop (holder_at P ip)

      slot : SlotState
      slot = slot_in old g (slot_of i i.op)

      M : (v : SlotState) × (outcome_of q record { frame = g; ip = ip } i i.op (slot_in old g (slot_of i i.op)) port w ≡ Becomes v made)
          × (new ≡ with_slot_in old g (slot_of i i.op) v)
      M = moves _ made g (slot_of i i.op) old new e

      Goal : Type 0
      Goal = c + (if (g == f) && same_holder loop (holder_at P ip) then granted_by i.op (slot_in old g (slot_of i i.op)) else 0) + waits_at new
          ≤ n + unit (seeks i.op)

      at_none : slot_of i i.op ≡ None
          → c + (if (g == f) && same_holder loop (holder_at P ip) then granted_by i.op (slot_in old g (slot_of i i.op)) else 0) + waits_at new
          ≤ n + unit (seeks i.op)
      at_none at =
          let same : waits_at new ≡ waits_at old =
          ap (λ (m : Machine.Store). waits_at m) (M.2 ∙ ap (λ (r : Option ℕ). with_slot_in old g r M.0) at) in
          let a = if_le ((g == f) && same_holder loop (holder_at P ip)) (granted_by i.op (slot_in old g (slot_of i i.op))) in
          let b = no_slot i i.op (slot_in old g (slot_of i i.op)) at in
          omega (arith, I, same, a, b)

      by_slot : (o : Option ℕ) → slot_of i i.op ≡ o
          → c + (if (g == f) && same_holder loop (holder_at P ip) then granted_by i.op (slot_in old g (slot_of i i.op)) else 0) + waits_at new
          ≤ n + unit (seeks i.op)
      by_slot None at = at_none at
      by_slot (Some r) at = pick (cases_eq g f) (cases_eq r s) (cases_Bool (same_holder loop (holder_at P ip)))
        where
          pays : granted_by i.op (slot_in old g (slot_of i i.op)) + waiters M.0 ≤ waiters (slot_in old g (slot_of i i.op)) + unit (seeks i.op)
          pays = rule_pays q record { frame = g; ip = ip } i i.op r (slot_in old g (slot_of i i.op)) port w M.0 made at M.1

          after : new ≡ with_slot_in old g (Some r) M.0
          after = M.2 ∙ ap (λ (r : Option ℕ). with_slot_in old g r M.0) at

          is_old : slot_in old g (slot_of i i.op) ≡ old.slots g r
          is_old = ap (slot_in old g) at

          row : ℕ → SlotState
          row = put_at (old.slots g) r M.0

          none_here : ((g == f) && same_holder loop (holder_at P ip)) ≡ false
              → (if (g == f) && same_holder loop (holder_at P ip) then granted_by i.op (slot_in old g (slot_of i i.op)) else 0) ≡ 0
          none_here e = ap (λ (b : Bool). if b then granted_by i.op (slot_in old g (slot_of i i.op)) else 0) e

          pick : ((g ≡ f) ⊎ (g ≡ f → ⊥)) → ((r ≡ s) ⊎ (r ≡ s → ⊥))
              → ((same_holder loop (holder_at P ip) ≡ true) ⊎ (same_holder loop (holder_at P ip) ≡ false))
              → c + (if (g == f) && same_holder loop (holder_at P ip) then granted_by i.op (slot_in old g (slot_of i i.op)) else 0) + waits_at new
              ≤ n + unit (seeks i.op)
          pick (inr ne) x y =
              let same : waits_at new ≡ waits_at old = ap (λ (m : Machine.Store). waits_at m) after
              ∙ ap (λ (z : ℕ → SlotState). waiters (z s)) (put_other old.slots g (put_at (old.slots g) r M.0) f ne) in
              let a = none_here (and_left (g == f) (same_holder loop (holder_at P ip)) (ne_eqb g f ne)) in
              omega (arith, I, same, a)
          pick (inl e) (inl d) y =
              let is_new : waits_at new ≡ waiters M.0 = ap (λ (m : Machine.Store). waits_at m) after
              ∙ ap (λ (z : ℕ → SlotState). waiters (z s)) (put_same old.slots g (put_at (old.slots g) r M.0) f e)
              ∙ ap waiters (put_same (old.slots g) r M.0 s d) in
              let was : waiters (slot_in old g (slot_of i i.op)) ≡ waits_at old = ap waiters (is_old ∙ (λ t. old.slots (e t) (d t))) in
              let a = if_le ((g == f) && same_holder loop (holder_at P ip)) (granted_by i.op (slot_in old g (slot_of i i.op))) in
              omega (arith, I, is_new, was, a, pays)
          pick (inl e) (inr ne) (inl y) = absurd (ne (mine loop r (same_holder_is loop (holder_at P ip) y) at))
          pick (inl e) (inr ne) (inr y) =
              let same : waits_at new ≡ waits_at old = ap (λ (m : Machine.Store). waits_at m) after
              ∙ ap (λ (z : ℕ → SlotState). waiters (z s)) (put_same old.slots g (put_at (old.slots g) r M.0) f e)
              ∙ ap waiters (put_other (old.slots g) r M.0 s ne) ∙ ap (λ (x : ℕ). waiters (old.slots x s)) e in
              let a = none_here (and_right (g == f) (same_holder loop (holder_at P ip)) y) in
              omega (arith, I, same, a)

  still : (c n : ℕ) (old new : Machine.Store) → c + waits_at old ≤ n → new.slots ≡ old.slots → c + 0 + waits_at new ≤ n + 0
  still c n old new I e = let a = ap (λ (z : ℕ → ℕ → SlotState). waiters (z f s)) e in omega (arith, I, a)

  event_owed : (total : ℕ) (so : So) (n : ℕ) (old new : Machine.Store) (to : To) (w : Word) (made : List Token) → Owed so n old
      → Happens q total old to w made new
      → counted_next P q so.counted old to made (Grants loop) f + waits_at new ≤ n + unit (is_credit_event q to)
  event_owed total so n old new (To.Instr g ip port) w made I e =
      instr_owed (so.counted (Grants loop) f) n old new g ip port w made (instr_at q ip) (λ h r at uses. one.1 ip h r at uses) I e
  event_owed total so n old new (To.Fetch x) (Word.Back c) made I e = still _ n old new I (slots_fetch old new x c (old.cells x) made e)
  event_owed total so n old new (To.Store x v) (Word.Back c) made I e = still _ n old new I (slots_store old new x v c (old.cells x) made e)
  event_owed total so n old new To.Manager (Word.Back c) made I e = still _ n old new I (slots_request total old new c made e)
  event_owed total so n old new (To.Release g) w made I e = let a = if_none (g == f) in
      let b = ap (λ (z : ℕ → ℕ → SlotState). waiters (z f s)) (slots_release old new g made e) in omega (arith, I, a, b)
    where
      if_none : (b : Bool) → (if b then 0 else so.counted (Grants loop) f) ≤ so.counted (Grants loop) f
      if_none true = omega arith
      if_none false = omega arith
  event_owed total so n old new (To.Host j) w made I e = still _ n old new I (slots_host (outputs_of q) old new j w made e)
  event_owed total so n old new to w made I e = absurd e

  pub run_owed : (z : Size) (later : Events) (n : ℕ) (so : So) (m last : Machine) → Owed so n m.store → (r : Run q z m later last)
      → (so_after P q so z m later last r).counted (Grants loop) f + waits_at last.store ≤ n + credit_count q later
  run_owed z [] n so m last I r = let a = ap (λ (m : Machine.Store). waits_at m) r.1 in omega (arith, I, a)
  run_owed z (x ∷ later) n so m last I r =
      let next = event_owed (z.elements * z.frames) so n m.store r.0.store x.1.to x.1.word r.1.made I r.1.happens in
      let more = run_owed z later (n + unit (is_credit_event q x.1.to)) (so_next P q so m.store x.1.to r.1.made r.0.store) r.0 last next r.2 in
      let cons = sum_by-cons (λ (ev : ℕ × Token). unit (is_credit_event q ev.1.to)) x later in
      omega (arith, more, cons)
