-- Bytes that no check refuses are read as a code of the grammar.
use Rattle.std.proofs.Common.{◌≡◌, ℕ, zero, suc, ◌+◌, ◌-◌, ◌/◌, ◌%◌, ◌^◌, ◌<◌, ◌≤◌, Bool, true, false, ◌&&◌, ◌||◌, ◌==◌, nat_lt, nat_le}
use Rattle.std.proofs.Common.{if◌then◌else◌, List, [], ◌∷◌, length, get_or, map, Option, Some, None, Ok, ℤ, pos, negsuc, ◌⊎◌, inl, inr, refl, sym}
use Rattle.std.proofs.Common.{ap, subst, ◌∙◌, arith, eqb-true, sum}
use Rattle.std.specs.Prelude.{All, Contains, FitsSigned, unwrap_or, option_to_list, is_some, is_none, slice_get, sum_by}
use Rattle.std.specs.Int.{w64, cast_signed}
use mir.Val.{sel}
use Rattle.std.proofs.lemmas.Bool.{and_parts, leb-true, ltb-true, ltb-false, eqb-false}
use Rattle.std.proofs.lemmas.Option.{slice_get_within, get_or_from_slice_get}
use Rattle.std.proofs.lemmas.List.Sums.{sum-map, sum_by-cons}
use Rattle.tags.specs.declared.token.Port.{Port}
use Rattle.tags.specs.declared.token.Port.TheVariants.{Left, Right}
use Rattle.tags.specs.declared.value.Origin.TheVariants.{Untold, At}
use Rattle.semantics.specs.declared.program.Dest.{Dest}
use Rattle.semantics.specs.Program.{Instr, CodeBlock}
use Rattle.semantics.specs.Rule.{slot_of}
use Rattle.semantics.specs.Bytes as Bytes
use Rattle.semantics.specs.Opcodes as Opcodes
use Rattle.semantics.specs.Bytes.{IsDest, HasOperand, HasDests, IsOrigin, IsSlot, IsInstr, IsCodeBlock, IsCode}
use Rattle.object_view.specs.declared.fault.ObjectFault.TheVariants.{BadTable, BadLiteral}
use Rattle.semantics.specs.declared.version.Version.{Version}
use Rattle.semantics.specs.declared.version.Version.TheVariants.{One, Two}
use Rattle.semantics.specs.declared.opcode.Opcode.{Opcode}
use Rattle.semantics.specs.declared.opcode.Opcode.TheVariants.{Apply1, Apply2, Apply2Right, Apply2Left, Lit, Copy, Sync, Switch, Fetch, Store}
use Rattle.semantics.specs.declared.opcode.Opcode.TheVariants.{Frame, Link, Send, Return, Ask, Open, Take, Give, Drain, Release}
use Rattle.semantics.specs.Versions.{version_number}
use Rattle.object_view.specs.Fields.{word_at, count_in, inputs_in, slots_in, opcode_in, first_half, second_half, dest_of, port_of, operand_in}
use Rattle.object_view.specs.Fields.{origin_number, origin_of}
use Rattle.semantics.specs.Opcodes.{with, makes_faults, may_have, may_go_to, goes_left, is_left, takes_two}
use Rattle.object_view.specs.Reading.{Opened, opened, literal_place, tabulated, shown, version_in, instrs_below, instr_place, literal_in}
use Rattle.object_view.specs.Reading.{literal_or_zero, array_in, instr_as, instr_in, block_in, code_in}
use Rattle.object_view.specs.Checks.{unless, each, entry_fits, entry_checked, array_checked, arrays_checked, cells_below, slot_fits, may_take_right}
use Rattle.object_view.specs.Checks.{dest_fits, target_fits, number_checked, instr_checked_as, instr_checked, block_checked, checked}
use Rattle.object_view.proofs.Each.{cells_next}
use Rattle.object_view.proofs.Facts.{unless_ok, first_ok, CountsFit, EntryFits, entry_from}
use Rattle.object_view.proofs.Tabulated.{length_tabulated, get_tabulated}
use Rattle.object_view.proofs.ByteWords.{AllBytes, word_fits}
use Rattle.object_view.proofs.Sound.{Passed, passed_from, each_at, literals_in, ascending, InstrPassed, instr_passed, version_parsed, literal_there, same_some}

-- LISTS
at_tabulated : {X : Type 0} (f : ℕ → X) (n k : ℕ) (d : X) → k < n → get_or (tabulated f 0 n) k d ≡ f k
at_tabulated f n k d lt = get_or_from_slice_get (tabulated f 0 n) k (f k) d (get_tabulated f 0 n k k lt (omega arith))

all_tabulated : {X : Type 0} (P : X → Type 0) (f : ℕ → X) (n : ℕ) → ((k : ℕ) → k < n → P (f k)) → All P (tabulated f 0 n)
all_tabulated P f n h = λ k d lt.
    let small : k < n = subst (λ m. k < m) (length_tabulated f 0 n) lt in
    subst P (sym (at_tabulated f n k d small)) (h k small)

there_tabulated : {X : Type 0} (f : ℕ → X) (n k : ℕ) → k < n → Contains (tabulated f 0 n) (f k)
there_tabulated f n k lt = (k, subst (λ m. k < m) (sym (length_tabulated f 0 n)) lt, at_tabulated f n k (f k) lt)

pub map_same : (xs : List ℕ) → map (λ x. x) xs ≡ xs
map_same [] = refl
map_same (x ∷ xs) = ap (λ (l : List ℕ). x ∷ l) (map_same xs)

pub cells_taken : (w : ℕ → ℕ) (i n : ℕ) → cells_below w i + sum_by (λ x. x) (tabulated (array_in w) i n) ≡ cells_below w (i + n)
cells_taken w i zero =
    let same : i + zero ≡ i = omega arith in
    rw same (omega arith)
cells_taken w i (suc n) =
    let rest = cells_taken w (i + 1) n in
    let all : i + 1 + n ≡ i + suc n = omega arith in
    omega (arith, rest, cells_next w i, sum_by-cons (λ x. x) (array_in w i) (tabulated (array_in w) (i + 1) n), ap (cells_below w) all)

cells_few : (w : ℕ → ℕ) → arrays_checked w ≡ Ok tt → sum (tabulated (array_in w) 0 (w 4)) ≤ 65536
cells_few w h =
    let a = first_ok (each (array_checked w) 0 (w 4)) (unless (nat_le (cells_below w (w 4)) 65536) BadTable) h in
    let few = leb-true _ _ (unless_ok (nat_le (cells_below w (w 4)) 65536) BadTable a.1) in
    let s = cells_taken w 0 (w 4) in
    let z : 0 + w 4 ≡ w 4 = omega arith in
    let m = sum-map (λ x. x) (tabulated (array_in w) 0 (w 4)) in
    let e : sum (tabulated (array_in w) 0 (w 4)) ≡ sum_by (λ x. x) (tabulated (array_in w) 0 (w 4)) =
    ap sum (sym (map_same (tabulated (array_in w) 0 (w 4)))) ∙ m in
    omega (arith, few, s, ap (cells_below w) z, e)

arrays_fit : (w : ℕ → ℕ) (k : ℕ) → arrays_checked w ≡ Ok tt → k < w 4 → (1 ≤ array_in w k) × (array_in w k ≤ 65536)
arrays_fit w k h lt =
    let a = first_ok (each (array_checked w) 0 (w 4)) (unless (nat_le (cells_below w (w 4)) 65536) BadTable) h in
    let at : 0 + k ≡ k = omega arith in
    let t = and_parts (nat_le 1 (array_in w k)) (nat_le (array_in w k) 65536)
    (unless_ok _ BadTable (ap (array_checked w) (sym at) ∙ each_at (array_checked w) 0 (w 4) k a.0 lt)) in
    (leb-true _ _ t.0, leb-true _ _ t.1)

cast_fits : (n : ℕ) → n < 2 ^ 64 → FitsSigned w64 (cast_signed w64 n)
cast_fits n h = go (nat_lt n (2 ^ 63)) refl
  where
    go : (t : Bool) → nat_lt n (2 ^ 63) ≡ t → FitsSigned w64 (sel t (pos n) (negsuc (2 ^ 64 - suc n)))
    go true e = record { sfits = ltb-true n (2 ^ 63) e }
    go false e = record { sfits = omega (arith, ltb-false n (2 ^ 63) e) }

-- AN INSTRUCTION
lit_there : (w : ℕ → ℕ) (k : ℕ) → unless (nat_lt k (w 3)) BadLiteral ≡ Ok tt → Contains (literals_in w) (literal_or_zero w k)
lit_there w k h =
    let t = unless_ok (nat_lt k (w 3)) BadLiteral h in
    subst (λ z. Contains (literals_in w) z) (sym (literal_there w k t)) (there_tabulated (literal_in w) (w 3) k (ltb-true _ _ t))

blocks_long : (w : ℕ → ℕ) → length (tabulated (block_in w) 0 (w 2)) ≡ w 2
blocks_long w = length_tabulated (block_in w) 0 (w 2)

array_there : (w : ℕ → ℕ) (k : ℕ) → w 4 ≤ 64 → unless (nat_lt k (w 4)) BadTable ≡ Ok tt → k % 256 < length (tabulated (array_in w) 0 (w 4))
array_there w k few h = omega (arith, ltb-true _ _ (unless_ok (nat_lt k (w 4)) BadTable h), length_tabulated (array_in w) 0 (w 4))

bound_there : (k : ℕ) → (nat_le 2 k && nat_le k 64) ≡ true → (2 ≤ k % 256) × (k % 256 ≤ 64)
bound_there k h =
    let a = and_parts (nat_le 2 k) (nat_le k 64) h in
    (omega (arith, leb-true 2 k a.0, leb-true k 64 a.1), omega (arith, leb-true 2 k a.0, leb-true k 64 a.1))

operand_there : (w : ℕ → ℕ) (o : Opcode) (k : ℕ) → CountsFit w → may_have o k ≡ true → target_fits w o k ≡ true → number_checked w o k ≡ Ok tt
    → HasOperand (code_in w) (with o k (literal_or_zero w k))
unfolding code_in
operand_there w (Apply1 op) k c m t n = tt
operand_there w (Apply2 op) k c m t n = tt
operand_there w (Apply2Right op) k c m t n = lit_there w k n
operand_there w (Apply2Left op) k c m t n = lit_there w k n
operand_there w Lit k c m t n = lit_there w k n
operand_there w Copy k c m t n = tt
operand_there w Sync k c m t n = tt
operand_there w Switch k c m t n = tt
operand_there w Fetch k c m t n = array_there w k c.few_arrays n
operand_there w Store k c m t n = array_there w k c.few_arrays n
operand_there w Frame k c m t n = tt
operand_there w Link k c m t n = omega (arith, ltb-true k (w 2) t, c.few_blocks, blocks_long w)
operand_there w Send k c m t n =
    let a = and_parts _ _ t in
    let lt = ltb-true (k / 2 ^ 16) (w 2) a.0 in
    let e : k / 65536 % 65536 ≡ k / 2 ^ 16 = omega (arith, lt, c.few_blocks) in (
      block_in w (k / 2 ^ 16),
      ap (slice_get (tabulated (block_in w) 0 (w 2))) e ∙ get_tabulated (block_in w) 0 (w 2) (k / 2 ^ 16) (k / 2 ^ 16) lt
          (omega arith),
      leb-true (k % 2 ^ 16) (inputs_in (w (6 + k / 2 ^ 16))) a.1,
    )
operand_there w Return k c m t n = omega (arith, leb-true k 255 t)
operand_there w Ask k c m t n = omega (arith, leb-true k 255 t)
operand_there w Open k c m t n = bound_there k m
operand_there w Take k c m t n = bound_there k m
operand_there w Give k c m t n = bound_there k m
operand_there w Drain k c m t n = bound_there k m
operand_there w Release k c m t n = omega (arith, leb-true k 255 t)

pub same_fault : (o : Opcode) (k : ℕ) (z : ℤ) → Opcodes.may_fault (with o k z) ≡ makes_faults o
same_fault (Apply2 op) k z = refl
same_fault (Apply2Right op) k z = refl
same_fault (Apply2Left op) k z = refl
same_fault (Apply1 op) k z = refl
same_fault Lit k z = refl
same_fault Copy k z = refl
same_fault Sync k z = refl
same_fault Switch k z = refl
same_fault Fetch k z = refl
same_fault Store k z = refl
same_fault Frame k z = refl
same_fault Link k z = refl
same_fault Send k z = refl
same_fault Return k z = refl
same_fault Ask k z = refl
same_fault Open k z = refl
same_fault Take k z = refl
same_fault Give k z = refl
same_fault Drain k z = refl
same_fault Release k z = refl

origin_there : (v : Version) (o : Opcode) (k : ℕ) (z : ℤ) (y : ℕ) → IsOrigin (version_number v) (with o k z) (origin_of (origin_number v o y))
origin_there One o k z y = tt
origin_there Two o k z y = go (makes_faults o) refl
  where
    parsed : (n : ℕ) → makes_faults o ≡ true → (t : Bool) → IsOrigin 2 (with o k z) (if t then Untold else At ((n - 1) / 1024 % 256) ((n - 1) % 1024))
    parsed n e true = tt
    parsed n e false = (refl, same_fault o k z ∙ e, omega arith, omega arith)

    go : (t : Bool) → makes_faults o ≡ t → IsOrigin 2 (with o k z) (origin_of (if t then y / 2 ^ 32 else 0))
    go true e = parsed (y / 2 ^ 32) e (y / 2 ^ 32 == 0)
    go false e = tt

slot_there : (o : Opcode) (k : ℕ) (z : ℤ) (c : CodeBlock) (i : Instr) → slot_fits o i.slot c.slots ≡ true → IsSlot c i (slot_of i (with o k z))
slot_there (Apply1 op) k z c i h = eqb-true _ _ h
slot_there (Apply2 op) k z c i h = ltb-true _ _ h
slot_there (Apply2Right op) k z c i h = eqb-true _ _ h
slot_there (Apply2Left op) k z c i h = eqb-true _ _ h
slot_there Lit k z c i h = eqb-true _ _ h
slot_there Copy k z c i h = eqb-true _ _ h
slot_there Sync k z c i h = ltb-true _ _ h
slot_there Switch k z c i h = ltb-true _ _ h
slot_there Fetch k z c i h = eqb-true _ _ h
slot_there Store k z c i h = ltb-true _ _ h
slot_there Frame k z c i h = eqb-true _ _ h
slot_there Link k z c i h = eqb-true _ _ h
slot_there Send k z c i h = ltb-true _ _ h
slot_there Return k z c i h = ltb-true _ _ h
slot_there Ask k z c i h = ltb-true _ _ h
slot_there Open k z c i h = ltb-true _ _ h
slot_there Take k z c i h = ltb-true _ _ h
slot_there Give k z c i h = ltb-true _ _ h
slot_there Drain k z c i h = ltb-true _ _ h
slot_there Release k z c i h = ltb-true _ _ h

one : (d : Option Dest) → is_some d ≡ true → length (option_to_list d) ≡ 1
one None h = absurd cc
one (Some d) h = refl

none : (d : Option Dest) → is_none d ≡ true → length (option_to_list d) ≡ 0
none None h = refl
none (Some d) h = absurd cc

at_most : (d : Option Dest) → length (option_to_list d) ≤ 1
at_most None = omega arith
at_most (Some d) = omega arith

ordered : (d e : Option Dest) → (is_some d || is_none e) ≡ true → length (option_to_list e) ≤ length (option_to_list d)
ordered None None h = omega arith
ordered None (Some e) h = absurd cc
ordered (Some d) e h = at_most e

left : (d : Option Dest) → goes_left d ≡ true → (length (option_to_list d) ≡ 1) × All (λ (x : Dest). x.port ≡ Left) (option_to_list d)
left None h = absurd cc
left (Some d) h = (refl, all)
  where
    port : (p : Port) → is_left p ≡ true → p ≡ Left
    port Left k = refl
    port Right k = absurd cc

    all : (k : ℕ) (x : Dest) → k < 1 → (get_or (d ∷ []) k x).port ≡ Left
    all zero x lt = port d.port h
    all (suc k) x lt = absurd (omega arith)

dests_there : (o : Opcode) (k : ℕ) (z : ℤ) (d e : Option Dest) → may_go_to o d e ≡ true → HasDests (with o k z) (option_to_list d) (option_to_list e)
dests_there (Apply1 op) k z d e h = (at_most d, ordered d e h)
dests_there (Apply2 op) k z d e h = (at_most d, ordered d e h)
dests_there (Apply2Right op) k z d e h = (at_most d, ordered d e h)
dests_there (Apply2Left op) k z d e h = (at_most d, ordered d e h)
dests_there Lit k z d e h = (at_most d, ordered d e h)
dests_there Copy k z d e h = (at_most d, ordered d e h)
dests_there Sync k z d e h = (at_most d, ordered d e h)
dests_there Switch k z d e h = (at_most d, at_most e)
dests_there Fetch k z d e h = (one d (and_parts _ _ h).0, none e (and_parts _ _ h).1)
dests_there Store k z d e h = (one d (and_parts _ _ h).0, none e (and_parts _ _ h).1)
dests_there Frame k z d e h = (one d (and_parts _ _ h).0, none e (and_parts _ _ h).1)
dests_there Link k z d e h = ((left d h).0, (left d h).1, at_most e)
dests_there Send k z d e h = (at_most d, ordered d e h)
dests_there Return k z d e h = (at_most d, ordered d e h)
dests_there Ask k z d e h = (one d (and_parts _ _ h).0, none e (and_parts _ _ h).1)
dests_there Open k z d e h = (at_most d, ordered d e h)
dests_there Take k z d e h = (none d (and_parts _ _ h).0, none e (and_parts _ _ h).1)
dests_there Give k z d e h = (at_most d, none e h)
dests_there Drain k z d e h = (at_most d, none e h)
dests_there Release k z d e h = (none d (and_parts _ _ h).0, none e (and_parts _ _ h).1)

-- DESTINATIONS
dyadic_same : (w : ℕ → ℕ) (o : Opcode) (x y : ℕ) → takes_two o ≡ true → Bytes.is_dyadic (Some (shown (instr_as w o x y))) ≡ true
dyadic_same w (Apply1 op) x y h = absurd cc
dyadic_same w (Apply2 op) x y h = refl
dyadic_same w (Apply2Right op) x y h = absurd cc
dyadic_same w (Apply2Left op) x y h = absurd cc
dyadic_same w Lit x y h = absurd cc
dyadic_same w Copy x y h = absurd cc
dyadic_same w Sync x y h = refl
dyadic_same w Switch x y h = refl
dyadic_same w Fetch x y h = absurd cc
dyadic_same w Store x y h = refl
dyadic_same w Frame x y h = absurd cc
dyadic_same w Link x y h = absurd cc
dyadic_same w Send x y h = refl
dyadic_same w Return x y h = refl
dyadic_same w Ask x y h = refl
dyadic_same w Open x y h = absurd cc
dyadic_same w Take x y h = absurd cc
dyadic_same w Give x y h = absurd cc
dyadic_same w Drain x y h = absurd cc
dyadic_same w Release x y h = refl

target_dyadic : (w : ℕ → ℕ) (slots end j : ℕ) → instr_checked w slots end j ≡ Ok tt → may_take_right (opcode_in (w (instr_place w j))) ≡ true
    → Bytes.is_dyadic (Some (shown (instr_in w j))) ≡ true
unfolding instr_in instr_checked
target_dyadic w slots end j h r = go (opcode_in (w (instr_place w j))) h r
  where
    go : (m : Option Opcode) → instr_checked_as w slots end j m ≡ Ok tt → may_take_right m ≡ true
        → Bytes.is_dyadic (Some (shown (instr_as w (unwrap_or m Copy) (w (instr_place w j)) (w (instr_place w j + 1))))) ≡ true
    go None k q = absurd cc
    go (Some o) k q = dyadic_same w o (w (instr_place w j)) (w (instr_place w j + 1)) q

single : {X : Type 0} (P : X → Type 0) (x : X) → P x → (k : ℕ) (d : X) → k < 1 → P (get_or (x ∷ []) k d)
single P x p zero d lt = p
single P x p (suc k) d lt = absurd (omega arith)

right_half : (h : ℕ) → port_of (h / 2 ^ 15) ≡ Right → (h / 2 ^ 15 == 0) ≡ false
right_half h e = go (h / 2 ^ 15 == 0) e
  where
    go : (t : Bool) → (if t then Left else Right) ≡ Right → t ≡ false
    go true q = absurd cc
    go false q = refl

second_of : (a b : Bool) → (a || b) ≡ true → a ≡ false → b ≡ true
second_of true b h e = absurd cc
second_of false b h e = h

dest_there : (w : ℕ → ℕ) (b n h : ℕ) → block_checked w b ≡ Ok tt → dest_fits w (instrs_below w b + count_in (w (6 + b))) (instrs_below w b + n) h
    ≡ true → All (IsDest (block_in w b) n) (option_to_list (dest_of h))
dest_there w b n h ok fits = go (h % 2 ^ 15 == 0) refl fits
  where
    first : ℕ
    first = instrs_below w b

    count : ℕ
    count = count_in (w (6 + b))

    go : (t : Bool) → (h % 2 ^ 15 == 0) ≡ t → (if t then h == 0 else nat_lt (instrs_below w b + n + h % 2 ^ 15)
        (instrs_below w b + count_in (w (6 + b)))
        && (h / 2 ^ 15 == 0 || may_take_right (opcode_in (w (instr_place w (instrs_below w b + n + h % 2 ^ 15)))))) ≡ true
        → All (IsDest (block_in w b) n) (option_to_list (if t then None else Some record { ahead = h % 2 ^ 15; port = port_of (h / 2 ^ 15) }))
    go true e q = λ k d lt. absurd (omega arith)
    go false e q =
        let a = and_parts (nat_lt (first + n + h % 2 ^ 15) (first + count)) (h / 2 ^ 15 == 0
        || may_take_right (opcode_in (w (instr_place w (first + n + h % 2 ^ 15))))) q in
        let len = length_tabulated (λ ip. shown (instr_in w ip)) (instrs_below w b) (count_in (w (6 + b))) in
        let lt = ltb-true (instrs_below w b + n + h % 2 ^ 15) (instrs_below w b + count_in (w (6 + b))) a.0 in
        let small : n + h % 2 ^ 15 < count_in (w (6 + b)) = omega (arith, lt) in
        let at : instrs_below w b + (n + h % 2 ^ 15) ≡ instrs_below w b + n + h % 2 ^ 15 = omega arith in
        let dest : Dest = record { ahead = h % 2 ^ 15; port = port_of (h / 2 ^ 15) } in
        let there = get_tabulated (λ ip. shown (instr_in w ip)) (instrs_below w b) (count_in (w (6 + b))) (n + h % 2 ^ 15)
        (instrs_below w b + n + h % 2 ^ 15) small at in
        let passed = ap (instr_checked w (slots_in (w (6 + b))) (instrs_below w b + count_in (w (6 + b)))) (sym at)
        ∙ each_at (instr_checked w (slots_in (w (6 + b))) (instrs_below w b + count_in (w (6 + b)))) (instrs_below w b) (count_in (w (6 + b)))
        (n + h % 2 ^ 15) ok small in
        let is : IsDest (block_in w b) n dest =
        record {
          later = omega (arith, eqb-false _ _ e);
          inside = omega (arith, small, len);
          right = λ r. ap Bytes.is_dyadic there ∙ target_dyadic w (slots_in (w (6 + b))) (instrs_below w b + count_in (w (6 + b)))
              (instrs_below w b + n + h % 2 ^ 15) passed (second_of _ _ a.1 (right_half h r));
        } in
        single (IsDest (block_in w b) n) dest is

instr_lawful : (w : ℕ → ℕ) (b n : ℕ) (o : Opcode) (x y : ℕ) → CountsFit w → block_checked w b ≡ Ok tt
    → InstrPassed w (slots_in (w (6 + b))) (instrs_below w b + count_in (w (6 + b))) (instrs_below w b + n) o x y
    → IsInstr (version_number (version_in (w 1))) (code_in w) (block_in w b) n (shown (instr_as w o x y))
instr_lawful w b n o x y c ok p =
    let v = version_in (w 1) in
    let k = operand_in v o y in
    let z = literal_or_zero w k in
    record {
      operand = operand_there w o k c p.operand p.target p.number;
      origin = origin_there v o k z y;
      slot = slot_there o k z (block_in w b) (shown (instr_as w o x y)) p.slot;
      dests = dests_there o k z (dest_of (first_half x)) (dest_of (second_half x)) p.dests;
      firsts = dest_there w b n (first_half x) ok p.first;
      seconds = dest_there w b n (second_half x) ok p.second;
    }

instr_at_lawful : (w : ℕ → ℕ) (b n : ℕ) → CountsFit w → block_checked w b ≡ Ok tt → instr_checked w (slots_in (w (6 + b)))
    (instrs_below w b + count_in (w (6 + b))) (instrs_below w b + n) ≡ Ok tt → IsInstr (version_number (version_in (w 1))) (code_in w) (block_in w b)
    n (shown (instr_in w (instrs_below w b + n)))
unfolding instr_in instr_checked
instr_at_lawful w b n c ok h = go (opcode_in (w (instr_place w (instrs_below w b + n)))) h
  where
    go : (m : Option Opcode) → instr_checked_as w (slots_in (w (6 + b))) (instrs_below w b + count_in (w (6 + b))) (instrs_below w b + n) m ≡ Ok tt
        → IsInstr (version_number (version_in (w 1))) (code_in w) (block_in w b) n
        (shown (instr_as w (unwrap_or m Copy) (w (instr_place w (instrs_below w b + n))) (w (instr_place w (instrs_below w b + n) + 1))))
    go None k = absurd cc
    go (Some o) k = instr_lawful w b n o (w (instr_place w (instrs_below w b + n))) (w (instr_place w (instrs_below w b + n) + 1)) c ok
        (instr_passed w (slots_in (w (6 + b))) (instrs_below w b + count_in (w (6 + b))) (instrs_below w b + n) o
        (w (instr_place w (instrs_below w b + n))) (w (instr_place w (instrs_below w b + n) + 1)) k)

-- BLOCKS, AND THE WHOLE
block_lawful : (w : ℕ → ℕ) (b : ℕ) → CountsFit w → EntryFits (w (6 + b)) → block_checked w b ≡ Ok tt → IsCodeBlock (version_number (version_in (w 1)))
    (code_in w) (block_in w b)
block_lawful w b c e ok =
    let f = λ (ip : ℕ). shown (instr_in w ip) in
    let first = instrs_below w b in
    let count = count_in (w (6 + b)) in
    let len = length_tabulated (λ ip. shown (instr_in w ip)) (instrs_below w b) (count_in (w (6 + b))) in
    record {
      inputs = (e.some_input, e.few_inputs);
      outputs = (e.some_output, e.few_outputs);
      size = (omega (arith, len, e.enough), omega (arith, len, e.few));
      slots = e.few_slots;
      instrs = λ n i q.
          let lt : n < count = subst (λ m. n < m) len (slice_get_within (tabulated f first count) n i q) in
          let there = get_tabulated f first count n (first + n) lt refl in
          let same : f (first + n) ≡ i = same_some (f (first + n)) i (slice_get (tabulated f first count) n) there q in
          subst (λ (j : Instr). IsInstr (version_number (version_in (w 1))) (code_in w) (block_in w b) n j) same
          (instr_at_lawful w b n c ok (each_at (instr_checked w (slots_in (w (6 + b))) (first + count)) first count n ok lt));
    }

either_version : (n v : ℕ) → n ≡ v → (n ≡ 1) ⊎ (n ≡ 2) → (v ≡ 1) ⊎ (v ≡ 2)
either_version n v e (inl a) = inl (sym e ∙ a)
either_version n v e (inr a) = inr (sym e ∙ a)

pub is_code : (n : ℕ) (w : ℕ → ℕ) → Passed n w → ((i : ℕ) → w i < 2 ^ 64) → IsCode (version_number (version_in (w 1))) (code_in w)
unfolding code_in
is_code n w p few =
    record {
      version_known = either_version (w 1) _ (version_parsed (w 1) p.version) p.version;
      some_block = (omega (arith, blocks_long w, p.counts.some_block), omega (arith, blocks_long w, p.counts.few_blocks));
      main = omega (arith, blocks_long w, p.counts.main_there);
      few_literals = omega (arith, length_tabulated (literal_in w) 0 (w 3), p.counts.few_literals);
      literals = all_tabulated (λ (x : ℤ). FitsSigned w64 x) (literal_in w) (w 3) (λ k lt. cast_fits (w (literal_place w k)) (few (literal_place w k)));
      ascend = (ascending w p.literals).steps;
      few_arrays = omega (arith, length_tabulated (array_in w) 0 (w 4), p.counts.few_arrays);
      arrays = all_tabulated (λ (m : ℕ). (1 ≤ m) × (m ≤ 65536)) (array_in w) (w 4) (λ k lt. arrays_fit w k p.arrays lt);
      cells = cells_few w p.arrays;
      blocks = all_tabulated (IsCodeBlock (version_number (version_in (w 1))) (code_in w)) (block_in w) (w 2) (λ k lt.
          let at : 0 + k ≡ k = omega arith in
          block_lawful w k p.counts (entry_from (w (6 + k)) (unless_ok (entry_fits (w (6 + k))) BadTable (ap (entry_checked w) (sym at)
          ∙ each_at (entry_checked w) 0 (w 2) k p.entries lt))) (ap (block_checked w) (sym at) ∙ each_at (block_checked w) 0 (w 2) k p.blocks lt));
    }

pub opened_lawful : (bytes : List ℕ) (o : Opened) → AllBytes bytes → checked bytes ≡ Ok tt → opened bytes ≡ o → IsCode o.version o.code
unfolding opened
opened_lawful bytes o all ok e =
    subst (λ (p : Opened). IsCode p.version p.code) e (is_code (length bytes) (word_at bytes) (passed_from bytes ok) (λ i. word_fits bytes i all))
