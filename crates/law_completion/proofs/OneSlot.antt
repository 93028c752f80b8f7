-- In the code of a plan all instructions of a holder use one slot.
use Rattle.std.proofs.Common.{◌≡◌, refl, sym, ap, ◌∙◌, ℕ, List, [], Option, Some, None, length}
use Rattle.std.specs.Prelude.{slice_index_or}
use Rattle.std.proofs.lemmas.Option.{same_Some}
use Rattle.semantics.specs.declared.program.Op.{Op}
use Rattle.semantics.specs.declared.program.Op.TheVariants.{Apply2, Sync, Switch, Store, Send, Return, Ask, Open, Take, Give, Drain, Release}
use Rattle.semantics.specs.Program.{Instr, instr_at}
use Rattle.semantics.specs.Rule.{slot_of}
use Rattle.semantics.specs.Machine.{slot_used}
use Rattle.semantics.specs.Plan.{Plan}
use Rattle.semantics.specs.Sharing.{placed_slot}
use Rattle.semantics.specs.Placed.{placed}
use Rattle.semantics.specs.Holders.{Holder, holder_of, holder_at}
use Rattle.law_reuse.proofs.SlotsPlaced.{IsPlaced}
use Rattle.law_reuse.proofs.SlotsPlacedCode.{moved_to, Located, Nowhere, There, located}
use Rattle.law_reuse.proofs.SlotsClaims.{index_got, holder_here}
use Rattle.law_completion.specs.Total.{HasOneSlot}

-- an instruction that uses a slot uses its own
slot_own : (op : Op) (i j : Instr) (k : ℕ) → slot_of i op ≡ Some k → slot_of j op ≡ Some j.slot
slot_own (Apply2 op) i j k e = refl
slot_own Sync i j k e = refl
slot_own Switch i j k e = refl
slot_own (Store a) i j k e = refl
slot_own (Send b x) i j k e = refl
slot_own (Return o) i j k e = refl
slot_own (Ask o) i j k e = refl
slot_own (Release o) i j k e = refl
slot_own (Open n) i j k e = refl
slot_own (Take n) i j k e = refl
slot_own (Give n) i j k e = refl
slot_own (Drain n) i j k e = refl
slot_own op i j k e = absurd (no e)
  where
    no : None ≡ Some k → ⊥
    no e = cc

no_use : (o : Option ℕ) (s : ℕ) → o ≡ None → o ≡ Some s → ⊥
no_use o s a b = cc

abbrev slot_for : List (List ℕ) → Holder → ℕ
slot_for slots h = slice_index_or (slice_index_or slots h.block []) h.number 0

pub one_slot : (p : Plan) (slots : List (List ℕ)) → length slots ≡ length p.program.blocks → HasOneSlot p (placed p slots)
one_slot p slots long = (slot_for slots, λ ip h s holds uses. go ip h s holds uses (located slots p.program.blocks long ip))
  where
    go : (ip : ℕ) (h : Holder) (s : ℕ) → holder_at p ip ≡ Some h → slot_used (instr_at (placed p slots) ip) ≡ Some s → Located slots p.program.blocks ip
        → s ≡ slot_for slots h
    go ip h s holds uses (Nowhere at none) = absurd (no_use (slot_used (instr_at (placed p slots) ip)) s (ap slot_used none) uses)
    go ip h s holds uses (There b n ss c i at_slots at_block at_instr plan_at code_at place) = by (slot_of i i.op) refl
      where
        stands : IsPlaced p.program b n i
        stands = record { code = c; block = at_block; instr = at_instr }

        mine : holder_of b (slot_of i i.op) ≡ Some h
        mine = sym (holder_here p b n i stands) ∙ ap (holder_at p) (sym place) ∙ holds

        used : slot_of (moved_to ss i) i.op ≡ Some s
        used = sym (ap slot_used code_at) ∙ uses

        by : (o : Option ℕ) → slot_of i i.op ≡ o → s ≡ slot_for slots h
        by None at = absurd (none (sym (ap (holder_of b) at) ∙ mine))
          where
            none : None ≡ Some h → ⊥
            none e = cc
        by (Some k) at =
            let is : record { block = b; number = k } ≡ h = holder_is record { block = b; number = k } h (sym (ap (holder_of b) at) ∙ mine) in
            let own : Some (placed_slot ss (slot_of i i.op)) ≡ Some s = sym (slot_own i.op i (moved_to ss i) k at) ∙ used in
            sym (same_Some (placed_slot ss (slot_of i i.op)) s own) ∙ ap (placed_slot ss) at
            ∙ ap (λ (l : List ℕ). slice_index_or l k 0) (sym (index_got slots b ss at_slots)) ∙ ap (slot_for slots) is
          where
            holder_is : (x y : Holder) → Some x ≡ Some y → x ≡ y
            holder_is x y e = cc
