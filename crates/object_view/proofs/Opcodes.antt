-- The opcodes of an object that was checked exist.
use Rattle.std.proofs.Common.{◌≡◌, ℕ, zero, suc, ◌+◌, ◌-◌, ◌<◌, ◌≤◌, Bool, true, false, List, Option, Some, None, Ok, refl, sym, ap, ◌∙◌, arith}
use Rattle.std.specs.Prelude.{nat_lt, IsSome}
use Rattle.std.proofs.lemmas.Bool.{ltb-true, ltb-false}
use Rattle.semantics.specs.declared.opcode.Opcode.{Opcode}
use Rattle.object_view.specs.Fields.{word_at, count_in, slots_in, opcode_in}
use Rattle.object_view.specs.Reading.{instrs_below, instr_count, instr_place}
use Rattle.object_view.specs.Checks.{checked, each, instr_checked, instr_checked_as, block_checked}
use Rattle.object_view.proofs.Each.{below_next}
use Rattle.object_view.proofs.Facts.{first_ok}
use Rattle.object_view.proofs.Sound.{passed_from, each_at}

-- the instruction passed its check
record IsChecked (w : ℕ → ℕ) (ip : ℕ) : Type 0 where
  slots : ℕ
  end : ℕ
  passed : instr_checked w slots end ip ≡ Ok tt

checked_at : (w : ℕ → ℕ) (b n ip : ℕ) → each (block_checked w) b n ≡ Ok tt → instrs_below w b ≤ ip → ip < instrs_below w (b + n) → IsChecked w ip
checked_at w b zero ip h from to =
    let same : b + zero ≡ b = omega arith in
    absurd (omega (arith, ap (instrs_below w) same))
checked_at w b (suc n) ip h from to = go (nat_lt ip (instrs_below w (b + 1))) refl
    (checked_at w (b + 1) n ip (first_ok (block_checked w b) (each (block_checked w) (b + 1) n) h).1)
  where
    slots : ℕ
    slots = slots_in (w (6 + b))

    end : ℕ
    end = instrs_below w b + count_in (w (6 + b))

    go : (t : Bool) → nat_lt ip (instrs_below w (b + 1)) ≡ t → (instrs_below w (b + 1) ≤ ip → ip < instrs_below w (b + 1 + n) → IsChecked w ip) → IsChecked w ip
    go true e later =
        let a = first_ok (block_checked w b) (each (block_checked w) (b + 1) n) h in
        let lt : ip - instrs_below w b < count_in (w (6 + b)) = omega (arith, from, ltb-true _ _ e, below_next w b) in
        let at : instrs_below w b + (ip - instrs_below w b) ≡ ip = omega (arith, from) in
        record {
          slots = slots;
          end = end;
          passed = ap (instr_checked w slots end) (sym at) ∙ each_at (instr_checked w slots end) (instrs_below w b) (count_in (w (6 + b)))
              (ip - instrs_below w b) a.0 lt;
        }
    go false e later =
        let all : b + suc n ≡ b + 1 + n = omega arith in
        later (ltb-false _ _ e) (omega (arith, to, ap (instrs_below w) all))

opcode_there : (w : ℕ → ℕ) (slots end ip : ℕ) → instr_checked w slots end ip ≡ Ok tt → IsSome (opcode_in (w (instr_place w ip)))
unfolding instr_checked
opcode_there w slots end ip h = go (opcode_in (w (instr_place w ip))) h
  where
    go : (m : Option Opcode) → instr_checked_as w slots end ip m ≡ Ok tt → IsSome m
    go None k = absurd cc
    go (Some o) k = refl

pub opcode_read : (bytes : List ℕ) (ip : ℕ) → checked bytes ≡ Ok tt → ip < instr_count (word_at bytes)
    → IsSome (opcode_in (word_at bytes (instr_place (word_at bytes) ip)))
opcode_read bytes ip ok lt =
    let w = word_at bytes in
    let p = passed_from bytes ok in
    let z : 0 + w 2 ≡ w 2 = omega arith in
    let is = checked_at w 0 (w 2) ip p.blocks (omega arith) (omega (arith, lt, ap (instrs_below w) z)) in
    opcode_there w is.slots is.end ip is.passed
