-- What instructions do.
use Rattle.std.proofs.Common.{◌≡◌, refl, sym, ◌∙◌, ap, subst, ℕ, ◌<◌, ◌≤◌, ◌^◌, List, length, Option, Some, None, arith}
use Rattle.std.specs.Prelude.{IfSome, option_to_list}
use Rattle.tags.specs.declared.token.Port.{Port}
use Rattle.tags.specs.declared.token.Port.TheVariants.{Left, Right}
use Rattle.tags.specs.declared.token.Word.{Word}
use Rattle.tags.specs.declared.token.To.{To}
use Rattle.tags.specs.declared.token.Token.{Token}
use Rattle.tags.specs.declared.slot.SlotState.{SlotState}
use Rattle.tags.specs.declared.slot.SlotState.TheVariants.{Empty}
use Rattle.semantics.specs.declared.program.Dest.{Dest}
use Rattle.semantics.specs.declared.program.Op.{Op}
use Rattle.semantics.specs.declared.program.Op.TheVariants.{Apply2, Sync, Switch, Send, Return, Ask, Open, Take, Give, Drain, Release}
use Rattle.semantics.specs.Program.{Instr, Program, instr_at}
use Rattle.semantics.specs.Rule.{Point, Outcome, Becomes, alone, fires, fire_one, outcome_of, rule_at, slot_of, answer_to, landing_at}
use Rattle.semantics.specs.Machine.{Store, Happens, Fires, slot_in, slot_used, with_slot_in, put_at}
use Rattle.semantics.proofs.Stores.{put_same}
use Rattle.element.specs.Short.{ShortInstr}
use Rattle.element.specs.Decoded.{instr_of, dest_in, IsShort}
use Rattle.element.specs.Near.{Bounds, IsNearCont, IsNearWord, IsNearSlot}
use Rattle.element.proofs.Nearness.{IsNearPoint, NearOutcome, outcome_near}
use Rattle.element.proofs.Instructing.{low_slot, cell_there}
use Rattle.replay.specs.declared.slots.Slots.{Slots}
use Rattle.replay.specs.declared.state.State.{State}
use Rattle.replay.specs.declared.state.Did.{Did}
use Rattle.replay.specs.Moments.{at_slot, deed_of}
use Rattle.replay.specs.Known.{Holds}
use Rattle.replay.specs.Nearby.{bounds_of, IsNearStore}
use Rattle.replay.specs.DoesAs.{held_in, Sets, IsDone}
use Rattle.replay.proofs.Keeping.{with_slots, slot_is, slot_kept, slot_near, slot_stays}

abbrev point : ℕ → ℕ → Point
point f ip = record { frame = f; ip = ip }

answer_near : (b : Bounds) (f ip : ℕ) (first : Option Dest) → f < b.frames → ip < 2 ^ 30 → IfSome first (λ (d : Dest). d.ahead < 2 ^ 30)
    → IsNearCont b (answer_to (point f ip) (option_to_list first))
answer_near b f ip None l m n = (l, omega arith)
answer_near b f ip (Some d) l m n = (l, omega arith)

landing_near : (b : Bounds) (f ip : ℕ) (first : Option Dest) → f < b.frames → ip < 2 ^ 30 → IfSome first (λ (d : Dest). d.ahead < 2 ^ 30)
    → IsNearCont b (landing_at (point f ip) (option_to_list first))
landing_near b f ip None l m n = (l, omega arith)
landing_near b f ip (Some d) l m n = (l, omega arith)

fired_empty : (v : SlotState) (ts : List Token) (o : Option (List Token)) → Becomes v ts ≡ fires Empty o → v ≡ Empty
fired_empty v ts None e = absurd (let bad : ⊥ = cc in bad)
fired_empty v ts (Some made) e = cc

alone_empty : (p : Program) (s : Point) (i : Instr) (port : Port) (w : Word) (v : SlotState) (ts : List Token) → Becomes v ts ≡ alone p s i Empty port w
    → v ≡ Empty
alone_empty p s i Left w v ts e = fired_empty v ts (fire_one p s i i.op w) e
alone_empty p s i Right w v ts e = absurd (let bad : ⊥ = cc in bad)

-- an instruction that uses no slot leaves none
pub none_left : (p : Program) (s : Point) (i : Instr) (op : Op) (port : Port) (w : Word) (v : SlotState) (ts : List Token)
    → Becomes v ts ≡ outcome_of p s i op Empty port w → slot_of i op ≡ None → v ≡ Empty
none_left p s i (Apply2 op) port w v ts e n = absurd (let bad : ⊥ = cc in bad)
none_left p s i Sync port w v ts e n = absurd (let bad : ⊥ = cc in bad)
none_left p s i Switch port w v ts e n = absurd (let bad : ⊥ = cc in bad)
none_left p s i (Op.Store a) port w v ts e n = absurd (let bad : ⊥ = cc in bad)
none_left p s i (Send k a) port w v ts e n = absurd (let bad : ⊥ = cc in bad)
none_left p s i (Return o) port w v ts e n = absurd (let bad : ⊥ = cc in bad)
none_left p s i (Ask o) port w v ts e n = absurd (let bad : ⊥ = cc in bad)
none_left p s i (Release o) port w v ts e n = absurd (let bad : ⊥ = cc in bad)
none_left p s i (Open k) port w v ts e n = absurd (let bad : ⊥ = cc in bad)
none_left p s i (Take k) port w v ts e n = absurd (let bad : ⊥ = cc in bad)
none_left p s i (Give k) port w v ts e n = absurd (let bad : ⊥ = cc in bad)
none_left p s i (Drain k) port w v ts e n = absurd (let bad : ⊥ = cc in bad)
none_left p s i op port w v ts e n = alone_empty p s i port w v ts e

-- the slot that the instruction uses is this one then; where it uses none, it is as empty as before
pub slot_then : (s : Store) (f : ℕ) (i : Instr) (v : SlotState) (r : Option ℕ) → slot_of i i.op ≡ r → (slot_of i i.op ≡ None → v ≡ Empty)
    → v ≡ slot_in (with_slot_in s f r v) f (slot_of i i.op)
slot_then s f i v r r_is none = by r r_is where
  by : (q : Option ℕ) → slot_of i i.op ≡ q → v ≡ slot_in (with_slot_in s f r v) f (slot_of i i.op)
  by None is = none is ∙ sym (ap (λ (q : Option ℕ). slot_in (with_slot_in s f r v) f q) is)
  by (Some q) is =
      let used : r ≡ Some q = sym r_is ∙ is in
      let put : slot_in (with_slot_in s f (Some q) v) f (Some q) ≡ v = ap (λ (k : ℕ → SlotState). k q) (put_same s.slots f f (put_at (s.slots f) q v) refl)
      ∙ put_same (s.slots f) q q v refl in
      sym (ap (λ (x : Option ℕ). slot_in (with_slot_in s f r v) f x) is ∙ ap (λ (x : Option ℕ). slot_in (with_slot_in s f x v) f (Some q)) used ∙ put)

abbrev pub slot_at : ShortInstr → Option ℕ
slot_at i = slot_of (instr_of i) i.op

module _ {A : Type 0} (p : Program) (h : State A) (s : Store) (holds : Holds h s) (near : IsNearStore (bounds_of p h.frames) s) where
  abbrev pub b : Bounds
  b = bounds_of p h.frames

  -- an event of an instruction that is there
  pub at_instr : (f ip : ℕ) (port : Port) (w : Word) (i : Instr) (made : List Token) (n : Store) → Some i ≡ instr_at p ip
      → Happens p h.frames s (To.Instr f ip port) w made n
      → Fires s f (slot_of i i.op) (outcome_of p (point f ip) i i.op (held_in h.slots f (slot_of i i.op)) port w) made n
  at_instr f ip port w i made n e happens =
      subst (λ (v : SlotState). Fires s f (slot_of i i.op) (outcome_of p (point f ip) i i.op v port w) made n) (sym (slot_is h s holds f (slot_of i i.op)))
      (subst (λ (x : Option Instr). Fires s f (slot_used x) (rule_at p (point f ip) x (slot_in s f (slot_used x)) port w) made n) (sym e) happens)

  held_near : (f : ℕ) (r : Option ℕ) → IsNearSlot b (held_in h.slots f r)
  held_near f r = subst (λ (v : SlotState). IsNearSlot b v) (sym (slot_is h s holds f r)) (slot_near b s near f r)

  -- the deed at the slot that the instruction uses
  deed_is : (f ip : ℕ) (port : Port) (i : Instr) (v : SlotState) (r : Option ℕ) (ts : List Token) → Some i ≡ instr_at p ip → slot_of i i.op ≡ r
      → (slot_of i i.op ≡ None → v ≡ Empty)
      → at_slot (held_in h.slots f (slot_of i i.op)) v ≡ deed_of p s (with_slot_in s f r v) (To.Instr f ip port) ts
  deed_is f ip port i v r ts e r_is none =
      ap (λ (x : SlotState). at_slot x v) (slot_is h s holds f (slot_of i i.op))
      ∙ ap (λ (x : SlotState). at_slot (slot_in s f (slot_of i i.op)) x) (slot_then s f i v r r_is none)
      ∙ ap (λ (x : Option Instr). at_slot (slot_in s f (slot_used x)) (slot_in (with_slot_in s f r v) f (slot_used x))) e

  point_near : (width f ip : ℕ) (i : ShortInstr) → f < h.frames → IsShort width ip i → IsNearPoint p b (point f ip) (instr_of i)
  point_near width f ip i there short = record {
    frame = there;
    back = answer_near b f ip (dest_in i.first) there short.near short.first;
    land = landing_near b f ip (dest_in i.first) there short.near short.first;
    cells = λ a x l. cell_there p.arrays a x l;
  }

  pub fired : (width f ip : ℕ) (port : Port) (w : Word) (i : ShortInstr) (u v : SlotState) (ts : List Token) (slots : Slots A) (did : Did) (made : List Token)
      (n : Store) → width ≤ 512 → f < h.frames → IsNearWord b w → IsShort width ip i → Some (instr_of i) ≡ instr_at p ip
      → u ≡ held_in h.slots f (slot_of (instr_of i) i.op) → Becomes v ts ≡ outcome_of p (point f ip) (instr_of i) i.op u port w
      → Sets h.slots f (slot_of (instr_of i) i.op) v slots → did.made ≡ length ts → did.deed ≡ at_slot u v
      → Happens p h.frames s (To.Instr f ip port) w made n → IsDone p h.frames did (To.Instr f ip port) made s (with_slots h slots) n
  fired width f ip port w i u v ts slots did made n wide there near_w short found was becomes sets count deed_at happens =
      subst (λ (x : Store). IsDone p h.frames did (To.Instr f ip port) made s (with_slots h slots) x) (sym fires.1)
      (subst (λ (us : List Token). IsDone p h.frames did (To.Instr f ip port) us s (with_slots h slots) (with_slot_in s f (slot_at i) v)) (sym fires.0)
      (record {
        made = count;
        deed = deed_at ∙ ap (λ (x : SlotState). at_slot x v) was ∙ deed_is f ip port (instr_of i) v (slot_at i) ts found refl none;
        holds = slot_kept h s holds f (slot_at i) v slots there (low_slot (instr_of i) i.op 512 (let low = short.slot in omega (arith, wide, low))) sets;
        near_store = slot_stays b s near f (slot_at i) v after.0;
        near = after.1;
      }))
    where
      comes : Becomes v ts ≡ outcome_of p (point f ip) (instr_of i) i.op (held_in h.slots f (slot_at i)) port w
      comes = becomes ∙ ap (λ (x : SlotState). outcome_of p (point f ip) (instr_of i) i.op x port w) was

      fires : (made ≡ ts) × (n ≡ with_slot_in s f (slot_at i) v)
      fires = subst (λ (o : Outcome). Fires s f (slot_at i) o made n) (sym comes) (at_instr f ip port w (instr_of i) made n found happens)

      after : NearOutcome b (Becomes v ts)
      after = subst (λ (o : Outcome). NearOutcome b o) (sym comes)
          (outcome_near p b (point f ip) (instr_of i) (point_near width f ip i there short) i.op (held_in h.slots f (slot_at i)) port w
          (held_near f (slot_at i)) near_w)

      none : (slot_at i) ≡ None → v ≡ Empty
      none is = none_left p (point f ip) (instr_of i) i.op port w v ts
          (comes ∙ ap (λ (q : Option ℕ). outcome_of p (point f ip) (instr_of i) i.op (held_in h.slots f q) port w) is) is
