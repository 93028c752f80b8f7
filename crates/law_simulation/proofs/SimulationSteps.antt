-- What an event grants and releases in the new code and in the old one.
use Rattle.std.proofs.Common.{◌≡◌, refl, sym, ap, ◌∙◌, subst, ℕ, ◌+◌, ◌⊎◌, inl, inr, Bool, true, List, [], ◌∷◌, Option, Some, eq-eqb, ne_eqb, arith}
use Rattle.std.specs.Prelude.{count_by, ◌==◌, ◌&&◌, if◌then◌else◌}
use Rattle.std.proofs.lemmas.Bool.{cases_eq}
use Rattle.tags.specs.declared.token.Port.{Port}
use Rattle.tags.specs.declared.token.Port.TheVariants.{Left, Right}
use Rattle.tags.specs.declared.token.Cont.{Cont}
use Rattle.tags.specs.declared.token.Word.{Word}
use Rattle.tags.specs.declared.token.To.{To}
use Rattle.tags.specs.declared.token.Token.{Token}
use Rattle.tags.specs.declared.slot.SlotState.{SlotState}
use Rattle.tags.specs.declared.slot.SlotState.TheVariants as Slot
use Rattle.tags.specs.declared.slot.SlotState.TheVariants.{Empty, Credits, Waiter, Draining}
use Rattle.semantics.specs.declared.program.Op.{Op}
use Rattle.semantics.specs.declared.program.Op.TheVariants.{Release}
use Rattle.semantics.specs.Program.{Instr, Program, instr_at}
use Rattle.semantics.specs.Rule.{token, signal, Point, back_to, beyond, fires, fire_two, meets, outcome_of, rule_at, slot_of}
use Rattle.semantics.specs.Machine.{Store as MStore, slot_in, slot_used, Fires, Happens}
use Rattle.semantics.specs.Plan.{Plan}
use Rattle.semantics.specs.Orderly.{is_at}
use Rattle.semantics.specs.Holders.{Holder, holder_at, same_holder}
use Rattle.semantics.specs.Credits.{granted_by, granted_in, granted_at, released_by, released_in, released_at}
use Rattle.law_fresh_frames.proofs.BoundedWeights.{tot}
use Rattle.law_fresh_frames.proofs.BoundedRows.{unit, count_tot}
use Rattle.law_simulation.specs.Places.{ip_cont, ip_slot, ip_store, ip_word}
use Rattle.law_simulation.specs.Simulates.{Fits, FitsSlot, FitsWord, IsMoved, Plain, itself}
use Rattle.law_simulation.proofs.SimulationEvents.{slot_there}
use Rattle.law_simulation.proofs.SimulationTraces.{granted_slot, slot_same}

module _ (p q : Plan) (g h : ℕ → ℕ) (apart : (a b : ℕ) → Plain p.program q.program h a → Plain p.program q.program h b → h a ≡ h b → a ≡ b)
    (holders : (a : ℕ) → Plain p.program q.program h a → holder_at q (h a) ≡ holder_at p a) where
  abbrev P : Program
  P = p.program

  abbrev Q : Program
  Q = q.program

  module _ (f k a : ℕ) (r : Port) (i : Instr) (at : instr_at P a ≡ Some i) (M : IsMoved P Q g h a i) where
    plain : Plain P Q h a
    plain = itself i M.j at M.there

    pub same_grant : (loop : Holder) (s : MStore) → granted_at q Q f loop (ip_store h s) (To.Instr k (h a) r) ≡ granted_at p P f loop s (To.Instr k a r)
    same_grant loop s = (λ v. if (k == f) && same_holder loop (holders a plain v) then inner v else 0)
      where
        inner : granted_in (instr_at Q (h a)) (slot_in (ip_store h s) k (slot_used (instr_at Q (h a))))
            ≡ granted_in (instr_at P a) (slot_in s k (slot_used (instr_at P a)))
        inner =
            (λ v. granted_in (M.there v) (slot_in (ip_store h s) k (slot_used (M.there v))))
            ∙ (λ v. granted_by (M.op v) (slot_in (ip_store h s) k (slot_same i M.j M.op M.slot v)))
            ∙ ap (granted_by i.op) (slot_there P Q g h s k (slot_of i i.op))
            ∙ granted_slot h i.op (slot_in s k (slot_of i i.op))
            ∙ (λ v. granted_in (sym at v) (slot_in s k (slot_used (sym at v))))

    -- where a release's tokens arrive
    at_same : (o base : ℕ) (c : Cont) → Plain P Q h base → Fits P Q h (back_to c)
        → is_at f (h base + o) Left (beyond (ip_cont h c) o) ≡ is_at f (base + o) Left (beyond c o)
    at_same o base (Cont.Host j) K L = refl
    at_same o base (Cont.Frame n b t) K L = ap (λ (x : Bool). ((n == f) && x) && true) (go (cases_eq b base))
      where
        go : (b ≡ base) ⊎ (b ≡ base → ⊥) → (h b + o == h base + o) ≡ (b + o == base + o)
        go (inl e) = eq-eqb (h b + o) (h base + o) (ap (λ (n : ℕ). h n + o) e) ∙ sym (eq-eqb (b + o) (base + o) (ap (λ (n : ℕ). n + o) e))
        go (inr n) = ne_eqb (h b + o) (h base + o) (λ e. n (apart b base L K (omega (arith, e)))) ∙ sym (ne_eqb (b + o) (base + o) (λ e. n (omega (arith, e))))

    abbrev s0 : Point
    s0 = record { frame = k; ip = a }

    abbrev s1 : Point
    s1 = record { frame = k; ip = h a }

    module _ (o base : ℕ) (K : Plain P Q h base) (s n s2 n2 : MStore) (x x2 : Option ℕ) (made made2 : List Token) where
      abbrev Same : Type 0
      Same = count_by (λ (t : Token). is_at f (h base + o) Left t.to) made2 ≡ count_by (λ (t : Token). is_at f (base + o) Left t.to) made

      two : (c : Cont) → Fits P Q h (back_to c)
          → tot (λ (t : Token). unit (is_at f (h base + o) Left t.to)) (token (To.Release k) signal ∷ token (beyond (ip_cont h c) o) signal ∷ [])
          ≡ tot (λ (t : Token). unit (is_at f (base + o) Left t.to)) (token (To.Release k) signal ∷ token (beyond c o) signal ∷ [])
      two c L = ap (λ (b : Bool). 0 + (unit b + 0)) (at_same o base c K L)

      pair : (l w : Word) → FitsWord P Q h l → Fires s2 k x2 (fires Empty (fire_two Q s1 M.j (Release o) (ip_word h l) (ip_word h w))) made2 n2
          → Fires s k x (fires Empty (fire_two P s0 i (Release o) l w)) made n → Same
      pair (Word.Back c) w L y z =
          sym (count_tot (λ (t : Token). is_at f (h base + o) Left t.to) made2) ∙ ap (tot (λ (t : Token). unit (is_at f (h base + o) Left t.to))) y.0 ∙ two c L
          ∙ ap (tot (λ (t : Token). unit (is_at f (base + o) Left t.to))) (sym z.0)
          ∙ count_tot (λ (t : Token). is_at f (base + o) Left t.to) made
      pair (Word.Val v) w L y z = absurd y
      pair (Word.Frame v) w L y z = absurd y

      none : made2 ≡ [] → made ≡ [] → Same
      none y z = ap (count_by (λ (t : Token). is_at f (h base + o) Left t.to)) y ∙ sym (ap (count_by (λ (t : Token). is_at f (base + o) Left t.to)) z)

      pub met_same : (slot : SlotState) (t : Port) (w : Word) → FitsSlot P Q h slot → FitsWord P Q h w → M.j.op ≡ Release o → i.op ≡ Release o
          → Fires s2 k x2 (meets Q s1 M.j (ip_slot h slot) t (ip_word h w)) made2 n2 → Fires s k x (meets P s0 i slot t w) made n → Same
      met_same Empty Left w A B ej ei y z = none y.0 z.0
      met_same Empty Right w A B ej ei y z = none y.0 z.0
      met_same (Slot.Left l) Right w A B ej ei y z =
          pair l w A (subst (λ (op : Op). Fires s2 k x2 (fires Empty (fire_two Q s1 M.j op (ip_word h l) (ip_word h w))) made2 n2) ej y)
          (subst (λ (op : Op). Fires s k x (fires Empty (fire_two P s0 i op l w)) made n) ei z)
      met_same (Slot.Right l) Left w A B ej ei y z =
          pair w l B (subst (λ (op : Op). Fires s2 k x2 (fires Empty (fire_two Q s1 M.j op (ip_word h w) (ip_word h l))) made2 n2) ej y)
          (subst (λ (op : Op). Fires s k x (fires Empty (fire_two P s0 i op w l)) made n) ei z)
      met_same (Slot.Left l) Left w A B ej ei y z = absurd y
      met_same (Slot.Right l) Right w A B ej ei y z = absurd y
      met_same (Credits v) t w A B ej ei y z = absurd y
      met_same (Waiter v) t w A B ej ei y z = absurd y
      met_same (Draining v) t w A B ej ei y z = absurd y

    pub same_release : (base total : ℕ) (w : Word) (old new new2 : MStore) (made made2 : List Token) → Plain P Q h base
        → FitsSlot P Q h (slot_in old k (slot_of i i.op)) → FitsWord P Q h w
        → Happens Q total (ip_store h old) (To.Instr k (h a) r) (ip_word h w) made2 new2 → Happens P total old (To.Instr k a r) w made new
        → released_at Q f (h base) (To.Instr k (h a) r) made2 ≡ released_at P f base (To.Instr k a r) made
    same_release base total w old new new2 made made2 K A B x y =
        ap (λ (o : Option Instr). released_in o f (h base) made2) M.there ∙ ap (λ (op : Op). released_by op f (h base) made2) M.op ∙ go i.op refl
        ∙ sym (ap (λ (o : Option Instr). released_in o f base made) at)
      where
        x1 : Fires (ip_store h old) k (slot_of M.j M.j.op)
            (outcome_of Q s1 M.j M.j.op (slot_in (ip_store h old) k (slot_of M.j M.j.op)) r (ip_word h w)) made2 new2
        x1 =
            subst (λ (x : Option Instr). Fires (ip_store h old) k (slot_used x)
            (rule_at Q s1 x (slot_in (ip_store h old) k (slot_used x)) r (ip_word h w)) made2 new2) M.there x

        y1 : Fires old k (slot_of i i.op) (outcome_of P s0 i i.op (slot_in old k (slot_of i i.op)) r w) made new
        y1 = subst (λ (x : Option Instr). Fires old k (slot_used x) (rule_at P s0 x (slot_in old k (slot_used x)) r w) made new) at y

        go : (op : Op) → i.op ≡ op → released_by op f (h base) made2 ≡ released_by op f base made
        go (Release o) e =
            let y2 : Fires old k (Some i.slot) (meets P s0 i (old.slots k i.slot) r w) made new =
            subst (λ (op : Op). Fires old k (slot_of i op) (outcome_of P s0 i op (slot_in old k (slot_of i op)) r w) made new) e y1 in
            let x2 : Fires (ip_store h old) k (Some M.j.slot) (meets Q s1 M.j (ip_slot h (old.slots k M.j.slot)) r (ip_word h w)) made2 new2 =
            subst (λ (op : Op). Fires (ip_store h old) k (slot_of M.j op)
            (outcome_of Q s1 M.j op (slot_in (ip_store h old) k (slot_of M.j op)) r (ip_word h w)) made2 new2) (M.op ∙ e) x1 in
            let A2 : FitsSlot P Q h (old.slots k i.slot) = subst (λ (op : Op). FitsSlot P Q h (slot_in old k (slot_of i op))) e A in
            met_same o base K old new (ip_store h old) new2 (Some i.slot) (Some M.j.slot) made made2 (old.slots k i.slot) r w A2 B (M.op ∙ e) e
            (subst (λ (n : ℕ). Fires (ip_store h old) k (Some M.j.slot) (meets Q s1 M.j (ip_slot h (old.slots k n)) r (ip_word h w)) made2 new2) M.slot x2) y2
        go op e = refl
