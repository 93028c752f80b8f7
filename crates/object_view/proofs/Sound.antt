-- Bytes that no check refuses are an object: they are spelt as the code that is read from them.
use Rattle.std.proofs.Common.{◌≡◌, ℕ, zero, suc, ◌+◌, ◌-◌, ◌*◌, ◌/◌, ◌%◌, ◌^◌, ◌<◌, ◌≤◌, Bool, true, false, ◌&&◌, ◌||◌, ◌==◌, nat_lt, nat_le}
use Rattle.std.proofs.Common.{if◌then◌else◌, List, [], ◌∷◌, ◌++◌, length, get_or, map, take, drop, Option, Some, None, Ok, Err, ℤ, pos, ◌⊎◌, inl}
use Rattle.std.proofs.Common.{inr, refl, sym, ap, subst, ◌∙◌, arith, eqb-true}
use Rattle.std.specs.Prelude.{unwrap_or, option_to_list, flat_map, slice_get, int_lt}
use Rattle.std.specs.Int.{w64, cast_unsigned, to_le_bytes}
use Rattle.std.proofs.lemmas.Bool.{and_parts, leb-true, ltb-true, ltb-false, eqb-false, or_cases}
use Rattle.std.proofs.lemmas.Int.{of_z-to_z}
use Rattle.std.proofs.lemmas.List.{drop-drop}
use Rattle.byteorder.specs.Endian.{little_number}
use Rattle.std.proofs.lemmas.Option.{slice_get_within, get_or_from_slice_get}
use Rattle.lemmas.proofs.Integers.{int_lt_itself}
use Rattle.semantics.specs.Program.{CodeBlock}
use Rattle.semantics.specs.Bytes.{number_from, Head, head_of, dest_word, origin_code, instr_words, block_word, words_of, bytes_of}
use Rattle.object_view.specs.declared.fault.ObjectFault.TheVariants.{Truncated, BadMagic, BadVersion, BadTable, BadOpcode, BadDestination, BadSlot, BadLiteral}
use Rattle.semantics.specs.declared.version.Version.{Version}
use Rattle.semantics.specs.declared.version.Version.TheVariants.{One, Two}
use Rattle.semantics.specs.declared.opcode.Opcode.{Opcode}
use Rattle.semantics.specs.declared.opcode.Opcode.TheVariants.{Apply1, Apply2, Apply2Right, Apply2Left, Lit, Copy, Sync, Switch, Fetch, Store}
use Rattle.semantics.specs.declared.opcode.Opcode.TheVariants.{Frame, Link, Send, Return, Ask, Open, Take, Give, Drain, Release}
use Rattle.semantics.specs.Versions.{version_number}
use Rattle.object_view.specs.Fields.{word_at, count_in, slots_in, opcode_in, slot_in, first_half, second_half, dest_of, operand_in, origin_number, origin_of}
use Rattle.semantics.specs.Opcodes.{with, may_have, may_go_to}
use Rattle.object_view.specs.Reading.{Opened, opened, instr_bytes, tabulated, shown, version_in, instrs_below, instr_count, instr_place}
use Rattle.object_view.specs.Reading.{literal_place, array_place, word_count, literal_in, literal_or_zero, array_in, instr_as, instr_in, block_in}
use Rattle.object_view.specs.Reading.{code_in}
use Rattle.object_view.specs.Sending.{IsAscending}
use Rattle.object_view.specs.Checks.{Checked, first_then, unless, each, MAGIC, counts_fit, header_checked, entry_checked, length_checked}
use Rattle.object_view.specs.Checks.{tables_checked, arrays_checked, literal_checked, literals_checked, operand_fits, slot_fits, may_take_right}
use Rattle.object_view.specs.Checks.{dest_fits, dests_fit, target_fits, number_checked, opcode_checked, instr_checked_as, instr_checked}
use Rattle.object_view.specs.Checks.{block_checked, opening_checked, content_checked, checked}
use Rattle.object_view.proofs.Each.{below_next}
use Rattle.object_view.proofs.Facts.{unless_ok, first_ok, CountsFit, counts_from, length_from}
use Rattle.object_view.proofs.Tabulated.{length_tabulated, get_tabulated}
use Rattle.object_view.proofs.Numbers.{number_stops, number_goes}
use Rattle.object_view.proofs.ByteWords.{first_word, dropped, length_dropped, ReadsTo, reads_append, reads_length, AllBytes, spelled, word_fits}
use Rattle.object_view.proofs.Spelling.{IsSpelt, numbered, spelt_head, half_spelt, word_split, entry_split, origin_spelt, operand_spelt}

-- WHAT EACH CHECK SAID
pub record Passed (n : ℕ) (w : ℕ → ℕ) : Type 0 where
  pub magic : w 0 ≡ MAGIC
  pub version : (w 1 ≡ 1) ⊎ (w 1 ≡ 2)
  pub counts : CountsFit w
  pub entries : each (entry_checked w) 0 (w 2) ≡ Ok tt
  pub long : n ≡ 8 * word_count w
  pub arrays : arrays_checked w ≡ Ok tt
  pub literals : literals_checked w ≡ Ok tt
  pub blocks : each (block_checked w) 0 (w 2) ≡ Ok tt

header_passed : (w : ℕ → ℕ) → header_checked w ≡ Ok tt → (w 0 ≡ MAGIC) × ((w 1 ≡ 1) ⊎ (w 1 ≡ 2)) × CountsFit w
header_passed w h = go (w 0 == MAGIC) (w 1 == 1 || w 1 == 2) refl refl h
  where
    version : (w 1 == 1 || w 1 == 2) ≡ true → (w 1 ≡ 1) ⊎ (w 1 ≡ 2)
    version q = elim (or_cases (w 1 == 1) (w 1 == 2) q) [ inl a ↦ inl (eqb-true _ _ a) | inr b ↦ inr (eqb-true _ _ b) ]

    go : (a b : Bool) → (w 0 == MAGIC) ≡ a → (w 1 == 1 || w 1 == 2) ≡ b
        → (if a then (if b then unless (counts_fit w) BadTable else Err BadVersion) else Err BadMagic) ≡ Ok tt → (w 0 ≡ MAGIC)
        × ((w 1 ≡ 1) ⊎ (w 1 ≡ 2)) × CountsFit w
    go false b p q k = absurd cc
    go true false p q k = absurd cc
    go true true p q k = (eqb-true _ _ p, version q, counts_from w (unless_ok (counts_fit w) BadTable k))

tables_passed : (n : ℕ) (w : ℕ → ℕ) → tables_checked n w ≡ Ok tt → (each (entry_checked w) 0 (w 2) ≡ Ok tt) × (n ≡ 8 * word_count w)
tables_passed n w h = go (nat_lt n (8 * (6 + w 2))) h
  where
    go : (a : Bool) → (if a then Err Truncated else first_then (each (entry_checked w) 0 (w 2)) (length_checked n w)) ≡ Ok tt
        → (each (entry_checked w) 0 (w 2) ≡ Ok tt) × (n ≡ 8 * word_count w)
    go true k = absurd cc
    go false k =
        let f = first_ok (each (entry_checked w) 0 (w 2)) (length_checked n w) k in
        (f.0, length_from n w f.1)

opening_passed : (n : ℕ) (w : ℕ → ℕ) → opening_checked n w ≡ Ok tt → (header_checked w ≡ Ok tt) × (tables_checked n w ≡ Ok tt)
opening_passed n w h = go (nat_lt n 48) h
  where
    go : (a : Bool) → (if a then Err Truncated else first_then (header_checked w) (tables_checked n w)) ≡ Ok tt → (header_checked w ≡ Ok tt)
        × (tables_checked n w ≡ Ok tt)
    go true k = absurd cc
    go false k = first_ok (header_checked w) (tables_checked n w) k

pub passed_from : (bytes : List ℕ) → checked bytes ≡ Ok tt → Passed (length bytes) (word_at bytes)
unfolding checked
passed_from bytes h =
    let w = word_at bytes in
    let n = length bytes in
    let a = first_ok (opening_checked n w) (content_checked w) h in
    let o = opening_passed n w a.0 in
    let hd = header_passed w o.0 in
    let t = tables_passed n w o.1 in
    let c = first_ok (arrays_checked w) (first_then (literals_checked w) (each (block_checked w) 0 (w 2))) a.1 in
    let d = first_ok (literals_checked w) (each (block_checked w) 0 (w 2)) c.1 in
    record { magic = hd.0; version = hd.1; counts = hd.2; entries = t.0; long = t.1; arrays = c.0; literals = d.0; blocks = d.1 }

pub each_at : (check : ℕ → Checked) (i n k : ℕ) → each check i n ≡ Ok tt → k < n → check (i + k) ≡ Ok tt
each_at check i zero k h lt = absurd (omega arith)
each_at check i (suc n) zero h lt =
    let e : i + zero ≡ i = omega arith in
    ap check e ∙ (first_ok (check i) (each check (i + 1) n) h).0
each_at check i (suc n) (suc k) h lt =
    let e : i + suc k ≡ i + 1 + k = omega arith in
    ap check e ∙ each_at check (i + 1) n k (first_ok (check i) (each check (i + 1) n) h).1 (omega arith)

-- LITERALS
abbrev pub literals_in : (ℕ → ℕ) → List ℤ
literals_in w = tabulated (literal_in w) 0 (w 3)

pub same_some : {X : Type 0} (x y : X) (o : Option X) → o ≡ Some x → o ≡ Some y → x ≡ y
same_some x y o p q = cc

pub ascending : (w : ℕ → ℕ) → literals_checked w ≡ Ok tt → IsAscending (literals_in w)
ascending w h = record { steps = step }
  where
    step : (k : ℕ) (y z : ℤ) → slice_get (literals_in w) k ≡ Some y → slice_get (literals_in w) (k + 1) ≡ Some z → int_lt y z ≡ true
    step k y z p q =
        let lt : k + 1 < w 3 = subst (λ n. k + 1 < n) (length_tabulated (literal_in w) 0 (w 3)) (slice_get_within (literals_in w) (k + 1) z q) in
        let first = same_some (literal_in w k) y (slice_get (literals_in w) k) (get_tabulated (literal_in w) 0 (w 3) k k (omega (arith, lt)) (omega arith)) p in
        let second = same_some (literal_in w (k + 1)) z (slice_get (literals_in w) (k + 1)) (get_tabulated (literal_in w) 0 (w 3) (k + 1) (k + 1) lt
        (omega arith)) q in
        let at : 0 + k ≡ k = omega arith in
        let ok = unless_ok (int_lt (literal_in w k) (literal_in w (k + 1))) BadLiteral (ap (literal_checked w) (sym at)
        ∙ each_at (literal_checked w) 0 (w 3 - 1) k h (omega (arith, lt))) in
        ap (λ a. int_lt a z) (sym first) ∙ ap (λ a. int_lt (literal_in w k) a) (sym second) ∙ ok

least_after : (w : ℕ → ℕ) (k : ℕ) → literals_checked w ≡ Ok tt → k < w 3 → k ≤ number_from 0 (literal_in w k) (literals_in w)
least_after w zero h lt = omega arith
least_after w (suc k) h lt =
    let len = length_tabulated (literal_in w) 0 (w 3) in
    let here = get_or_from_slice_get (literals_in w) k (literal_in w k) (pos 0) (get_tabulated (literal_in w) 0 (w 3) k k (omega arith) (omega arith)) in
    let at : 0 + k ≡ k = omega arith in
    let next : k + 1 ≡ suc k = omega arith in
    let ok = unless_ok (int_lt (literal_in w k) (literal_in w (k + 1))) BadLiteral (ap (literal_checked w) (sym at)
    ∙ each_at (literal_checked w) 0 (w 3 - 1) k h (omega (arith, lt))) in
    let below : int_lt (get_or (literals_in w) k (pos 0)) (literal_in w (suc k)) ≡ true = ap (λ a. int_lt a (literal_in w (suc k))) here
    ∙ ap (λ n. int_lt (literal_in w k) (literal_in w n)) (sym next) ∙ ok in
    omega (arith, number_goes 0 (literal_in w (suc k)) (literals_in w) k (pos 0) (ascending w h) (omega (arith, len)) below)

pub literal_numbered : (w : ℕ → ℕ) (k : ℕ) → literals_checked w ≡ Ok tt → k < w 3 → number_from 0 (literal_in w k) (literals_in w) ≡ k
literal_numbered w k h lt =
    let len = length_tabulated (literal_in w) 0 (w 3) in
    let here = get_or_from_slice_get (literals_in w) k (literal_in w k) (pos 0) (get_tabulated (literal_in w) 0 (w 3) k k lt (omega arith)) in
    let stop = number_stops 0 (literal_in w k) (literals_in w) k (pos 0) (omega (arith, len, lt)) (ap (λ a. int_lt a (literal_in w k)) here
    ∙ int_lt_itself (literal_in w k)) in
    omega (arith, stop, least_after w k h lt)

-- AN INSTRUCTION
pub literal_there : (w : ℕ → ℕ) (k : ℕ) → nat_lt k (w 3) ≡ true → literal_or_zero w k ≡ literal_in w k
literal_there w k h = ap (λ (t : Bool). if t then literal_in w k else pos 0) h

abbrev IsNumbered : (ℕ → ℕ) → Type 0
IsNumbered w = (k : ℕ) → k < w 3 → number_from 0 (literal_in w k) (literals_in w) ≡ k

lit_spelt : (w : ℕ → ℕ) (k : ℕ) → IsNumbered w → unless (nat_lt k (w 3)) BadLiteral ≡ Ok tt → number_from 0 (literal_or_zero w k) (literals_in w) ≡ k
lit_spelt w k num h =
    let t = unless_ok (nat_lt k (w 3)) BadLiteral h in
    ap (λ z. number_from 0 z (literals_in w)) (literal_there w k t) ∙ num k (ltb-true _ _ t)

array_spelt : (w : ℕ → ℕ) (k : ℕ) → w 4 ≤ 64 → unless (nat_lt k (w 4)) BadTable ≡ Ok tt → k < 256
array_spelt w k few h = omega (arith, ltb-true _ _ (unless_ok (nat_lt k (w 4)) BadTable h))

bound_spelt : (k : ℕ) → (nat_le 2 k && nat_le k 64) ≡ true → k < 256
bound_spelt k h = omega (arith, leb-true _ _ (and_parts (nat_le 2 k) (nat_le k 64) h).1)

operand_small : (w : ℕ → ℕ) (o : Opcode) (k : ℕ) → CountsFit w → IsNumbered w → may_have o k ≡ true → target_fits w o k ≡ true → number_checked w o k
    ≡ Ok tt → IsSpelt (literals_in w) o k (literal_or_zero w k)
operand_small w (Apply1 op) k c num m t n = eqb-true _ _ m
operand_small w (Apply2 op) k c num m t n = eqb-true _ _ m
operand_small w (Apply2Right op) k c num m t n = lit_spelt w k num n
operand_small w (Apply2Left op) k c num m t n = lit_spelt w k num n
operand_small w Lit k c num m t n = lit_spelt w k num n
operand_small w Copy k c num m t n = eqb-true _ _ m
operand_small w Sync k c num m t n = eqb-true _ _ m
operand_small w Switch k c num m t n = eqb-true _ _ m
operand_small w Fetch k c num m t n = array_spelt w k c.few_arrays n
operand_small w Store k c num m t n = array_spelt w k c.few_arrays n
operand_small w Frame k c num m t n = eqb-true _ _ m
operand_small w Link k c num m t n = omega (arith, ltb-true k (w 2) t, c.few_blocks)
operand_small w Send k c num m t n = omega (arith, ltb-true (k / 2 ^ 16) (w 2) (and_parts _ _ t).0, c.few_blocks)
operand_small w Return k c num m t n = omega (arith, leb-true k 255 t)
operand_small w Ask k c num m t n = omega (arith, leb-true k 255 t)
operand_small w Open k c num m t n = bound_spelt k m
operand_small w Take k c num m t n = bound_spelt k m
operand_small w Give k c num m t n = bound_spelt k m
operand_small w Drain k c num m t n = bound_spelt k m
operand_small w Release k c num m t n = omega (arith, leb-true k 255 t)

operand_passed : (v : Version) (o : Opcode) (y : ℕ) → operand_fits v o y ≡ true → (may_have o (operand_in v o y) ≡ true) × (origin_number v o y ≤ 262144)
operand_passed One o y h = (h, omega arith)
operand_passed Two o y h =
    let a = and_parts _ _ h in
    let b = and_parts _ _ a.0 in
    (a.1, leb-true _ _ b.0)

no_lone_port : (w : ℕ → ℕ) (end ip h : ℕ) → dest_fits w end ip h ≡ true → h % 2 ^ 15 ≡ 0 → h ≡ 0
no_lone_port w end ip h fits none = eqb-true h 0 (at (h % 2 ^ 15 == 0) refl fits)
  where
    other : Bool
    other = nat_lt (ip + h % 2 ^ 15) end

    at : (t : Bool) → (h % 2 ^ 15 == 0) ≡ t → (if t then h == 0 else nat_lt (ip + h % 2 ^ 15) end
        && (h / 2 ^ 15 == 0 || may_take_right (opcode_in (w (instr_place w (ip + h % 2 ^ 15)))))) ≡ true → (h == 0) ≡ true
    at true e k = k
    at false e k = absurd (eqb-false _ _ e none)

pub record InstrPassed (w : ℕ → ℕ) (slots end ip : ℕ) (o : Opcode) (x y : ℕ) : Type 0 where
  pub operand : may_have o (operand_in (version_in (w 1)) o y) ≡ true
  pub origin : origin_number (version_in (w 1)) o y ≤ 262144
  pub slot : slot_fits o (slot_in x) slots ≡ true
  pub first : dest_fits w end ip (first_half x) ≡ true
  pub second : dest_fits w end ip (second_half x) ≡ true
  pub dests : may_go_to o (dest_of (first_half x)) (dest_of (second_half x)) ≡ true
  pub target : target_fits w o (operand_in (version_in (w 1)) o y) ≡ true
  pub number : number_checked w o (operand_in (version_in (w 1)) o y) ≡ Ok tt

pub instr_passed : (w : ℕ → ℕ) (slots end ip : ℕ) (o : Opcode) (x y : ℕ) → opcode_checked w slots end ip o x y ≡ Ok tt → InstrPassed w slots end ip o x y
instr_passed w slots end ip o x y h =
    let v = version_in (w 1) in
    let a = first_ok (unless (operand_fits v o y) BadOpcode) _ h in
    let b = first_ok (unless (slot_fits o (slot_in x) slots) BadSlot) _ a.1 in
    let c = first_ok (unless (dests_fit w end ip o x && target_fits w o (operand_in v o y)) BadDestination) _ b.1 in
    let p = operand_passed v o y (unless_ok (operand_fits v o y) BadOpcode a.0) in
    let d = and_parts (dests_fit w end ip o x) (target_fits w o (operand_in v o y)) (unless_ok _ BadDestination c.0) in
    let e = and_parts _ _ d.0 in
    let f = and_parts _ _ e.0 in
    record {
      operand = p.0;
      origin = p.1;
      slot = unless_ok (slot_fits o (slot_in x) slots) BadSlot b.0;
      first = f.0;
      second = f.1;
      dests = e.1;
      target = d.1;
      number = c.1;
    }

words_same : (w : ℕ → ℕ) (slots end ip : ℕ) (o : Opcode) (x y : ℕ) → CountsFit w → IsNumbered w → x < 2 ^ 64 → opcode_in x ≡ Some o
    → InstrPassed w slots end ip o x y → instr_words (literals_in w) (shown (instr_as w o x y)) ≡ x ∷ y ∷ []
words_same w slots end ip o x y c num few is p =
    let v = version_in (w 1) in
    let k = operand_in v o y in
    let z = literal_or_zero w k in
    let ls = literals_in w in
    let hd = spelt_head ls o k z (operand_small w o k c num p.operand p.target p.number) in
    let n = numbered (x % 2 ^ 8) (x / 2 ^ 8 % 2 ^ 8) o is in
    let a : (head_of ls (with o k z)).opcode ≡ x % 2 ^ 8 = ap (λ (h : Head). h.opcode) hd ∙ n.0 in
    let b : (head_of ls (with o k z)).flag ≡ x / 2 ^ 8 % 2 ^ 8 = ap (λ (h : Head). h.flag) hd ∙ n.1 in
    let d : (head_of ls (with o k z)).operand ≡ k = ap (λ (h : Head). h.operand) hd in
    let first = half_spelt (first_half x) (omega arith) (no_lone_port w end ip (first_half x) p.first) in
    let second = half_spelt (second_half x) (omega arith) (no_lone_port w end ip (second_half x) p.second) in
    let origin = origin_spelt (origin_number v o y) p.origin in
    let one : (head_of ls (with o k z)).opcode + 2 ^ 8 * (head_of ls (with o k z)).flag + 2 ^ 16 * slot_in x + 2 ^ 32 * dest_word
    (option_to_list (dest_of (first_half x))) + 2 ^ 48 * dest_word (option_to_list (dest_of (second_half x))) ≡ x =
    omega (arith, a, b, first, second, word_split x) in
    let two : (head_of ls (with o k z)).operand + 2 ^ 32 * origin_code (origin_of (origin_number v o y)) ≡ y =
    omega (arith, d, origin, operand_spelt v o y) in
    let rest : ℕ = (head_of ls (with o k z)).operand + 2 ^ 32 * origin_code (origin_of (origin_number v o y)) in
    ap (λ (m : ℕ). m ∷ rest ∷ []) one ∙ ap (λ (m : ℕ). x ∷ m ∷ []) two

pub instr_spelt : (w : ℕ → ℕ) (slots end ip : ℕ) → CountsFit w → IsNumbered w → ((i : ℕ) → w i < 2 ^ 64) → instr_checked w slots end ip ≡ Ok tt
    → instr_words (literals_in w) (shown (instr_in w ip)) ≡ w (instr_place w ip) ∷ w (instr_place w ip + 1) ∷ []
unfolding instr_in instr_checked
instr_spelt w slots end ip c num few h = go (opcode_in (w (instr_place w ip))) refl h
  where
    go : (m : Option Opcode) → opcode_in (w (instr_place w ip)) ≡ m → instr_checked_as w slots end ip m ≡ Ok tt
        → instr_words (literals_in w) (shown (instr_as w (unwrap_or m Copy) (w (instr_place w ip)) (w (instr_place w ip + 1)))) ≡ w (instr_place w ip)
        ∷ w (instr_place w ip + 1) ∷ []
    go None e k = absurd cc
    go (Some o) e k = words_same w slots end ip o (w (instr_place w ip)) (w (instr_place w ip + 1)) c num (few (instr_place w ip)) e
        (instr_passed w slots end ip o (w (instr_place w ip)) (w (instr_place w ip + 1)) k)

-- THE PARTS, one after the other
instrs_read : (w : ℕ → ℕ) (slots end ip n : ℕ) → CountsFit w → IsNumbered w → ((i : ℕ) → w i < 2 ^ 64) → each (instr_checked w slots end) ip n ≡ Ok tt
    → ReadsTo w (instr_place w ip) (flat_map (instr_words (literals_in w)) (tabulated (λ j. shown (instr_in w j)) ip n)) (instr_place w (ip + n))
instrs_read w slots end ip zero c num few h = omega arith
instrs_read w slots end ip (suc n) c num few h =
    let a = first_ok (instr_checked w slots end ip) (each (instr_checked w slots end) (ip + 1) n) h in
    let here = instr_spelt w slots end ip c num few a.0 in
    let next : instr_place w ip + 1 + 1 ≡ instr_place w (ip + 1) = omega arith in
    let one : ReadsTo w (instr_place w ip) (instr_words (literals_in w) (shown (instr_in w ip))) (instr_place w (ip + 1)) =
    subst (λ (ws : List ℕ). ReadsTo w (instr_place w ip) ws (instr_place w (ip + 1))) (sym here) (refl, (refl, next)) in
    let ih = instrs_read w slots end (ip + 1) n c num few a.1 in
    let at : instr_place w (ip + 1 + n) ≡ instr_place w (ip + suc n) = omega arith in
    reads_append w (instr_place w ip) (instr_words (literals_in w) (shown (instr_in w ip))) (instr_place w (ip + 1))
    (flat_map (instr_words (literals_in w)) (tabulated (λ j. shown (instr_in w j)) (ip + 1) n)) (instr_place w (ip + suc n)) one
    (subst (λ (k : ℕ). ReadsTo w (instr_place w (ip + 1))
    (flat_map (instr_words (literals_in w)) (tabulated (λ j. shown (instr_in w j)) (ip + 1) n)) k) at ih)

blocks_read : (w : ℕ → ℕ) (b n : ℕ) → CountsFit w → IsNumbered w → ((i : ℕ) → w i < 2 ^ 64) → each (block_checked w) b n ≡ Ok tt
    → ReadsTo w (instr_place w (instrs_below w b)) (flat_map (λ (x : CodeBlock). flat_map (instr_words (literals_in w)) x.instrs)
    (tabulated (block_in w) b n)) (instr_place w (instrs_below w (b + n)))
blocks_read w b zero c num few h =
    let same : b + zero ≡ b = omega arith in
    ap (λ (k : ℕ). instr_place w (instrs_below w k)) (sym same)
blocks_read w b (suc n) c num few h =
    let a = first_ok (block_checked w b) (each (block_checked w) (b + 1) n) h in
    let here = instrs_read w (slots_in (w (6 + b))) (instrs_below w b + count_in (w (6 + b))) (instrs_below w b) (count_in (w (6 + b))) c num few a.0 in
    let next : instr_place w (instrs_below w b + count_in (w (6 + b))) ≡ instr_place w (instrs_below w (b + 1)) = ap (instr_place w) (sym (below_next w b)) in
    let at : b + 1 + n ≡ b + suc n = omega arith in
    let ih = subst (λ (k : ℕ). ReadsTo w (instr_place w (instrs_below w (b + 1)))
    (flat_map (λ (x : CodeBlock). flat_map (instr_words (literals_in w)) x.instrs) (tabulated (block_in w) (b + 1) n))
    (instr_place w (instrs_below w k))) at (blocks_read w (b + 1) n c num few a.1) in
    reads_append w (instr_place w (instrs_below w b))
    (flat_map (instr_words (literals_in w)) (tabulated (λ j. shown (instr_in w j)) (instrs_below w b) (count_in (w (6 + b)))))
    (instr_place w (instrs_below w (b + 1))) (flat_map (λ (x : CodeBlock). flat_map (instr_words (literals_in w)) x.instrs)
    (tabulated (block_in w) (b + 1) n)) (instr_place w (instrs_below w (b + suc n)))
    (subst (λ (k : ℕ). ReadsTo w (instr_place w (instrs_below w b))
    (flat_map (instr_words (literals_in w)) (tabulated (λ j. shown (instr_in w j)) (instrs_below w b) (count_in (w (6 + b))))) k) next here) ih

entries_read : (w : ℕ → ℕ) (b n : ℕ) → ((i : ℕ) → w i < 2 ^ 64) → ReadsTo w (6 + b) (map block_word (tabulated (block_in w) b n)) (6 + (b + n))
entries_read w b zero few = omega arith
entries_read w b (suc n) few =
    let len = length_tabulated (λ ip. shown (instr_in w ip)) (instrs_below w b) (count_in (w (6 + b))) in
    let same : w (6 + b) ≡ block_word (block_in w b) = omega (arith, entry_split (w (6 + b)), len) in
    let at : 6 + b + 1 ≡ 6 + (b + 1) = omega arith in
    let to : 6 + (b + 1 + n) ≡ 6 + (b + suc n) = omega arith in (
      same,
      subst (λ (k : ℕ). ReadsTo w k (map block_word (tabulated (block_in w) (b + 1) n)) (6 + (b + suc n))) (sym at)
          (subst (λ (k : ℕ). ReadsTo w (6 + (b + 1)) (map block_word (tabulated (block_in w) (b + 1) n)) k) to (entries_read w (b + 1) n few)),
    )

literals_read : (w : ℕ → ℕ) (i n : ℕ) → ((j : ℕ) → w j < 2 ^ 64)
    → ReadsTo w (literal_place w i) (map (cast_unsigned w64) (tabulated (literal_in w) i n)) (literal_place w (i + n))
literals_read w i zero few = omega arith
literals_read w i (suc n) few =
    let same : w (literal_place w i) ≡ cast_unsigned w64 (literal_in w i) = sym (of_z-to_z w64 (w (literal_place w i)) (few (literal_place w i))) in
    let at : literal_place w i + 1 ≡ literal_place w (i + 1) = omega arith in
    let to : literal_place w (i + 1 + n) ≡ literal_place w (i + suc n) = omega arith in (
      same,
      subst (λ (k : ℕ). ReadsTo w k (map (cast_unsigned w64) (tabulated (literal_in w) (i + 1) n)) (literal_place w (i + suc n))) (sym at)
          (subst (λ (k : ℕ). ReadsTo w (literal_place w (i + 1)) (map (cast_unsigned w64) (tabulated (literal_in w) (i + 1) n)) k) to
          (literals_read w (i + 1) n few)),
    )

arrays_read : (w : ℕ → ℕ) (i n : ℕ) → ReadsTo w (array_place w i) (tabulated (array_in w) i n) (array_place w (i + n))
arrays_read w i zero = omega arith
arrays_read w i (suc n) =
    let at : array_place w i + 1 ≡ array_place w (i + 1) = omega arith in
    let to : array_place w (i + 1 + n) ≡ array_place w (i + suc n) = omega arith in (
      refl,
      subst (λ (k : ℕ). ReadsTo w k (tabulated (array_in w) (i + 1) n) (array_place w (i + suc n))) (sym at)
          (subst (λ (k : ℕ). ReadsTo w (array_place w (i + 1)) (tabulated (array_in w) (i + 1) n) k) to (arrays_read w (i + 1) n)),
    )

to_place : (w : ℕ → ℕ) (i : ℕ) (xs : List ℕ) (j k : ℕ) → j ≡ k → ReadsTo w i xs j → ReadsTo w i xs k
to_place w i xs j k e r = subst (λ (a : ℕ). ReadsTo w i xs a) e r

from_place : (w : ℕ → ℕ) (i k : ℕ) (xs : List ℕ) (j : ℕ) → i ≡ k → ReadsTo w i xs j → ReadsTo w k xs j
from_place w i k xs j e r = subst (λ (a : ℕ). ReadsTo w a xs j) e r

pub version_parsed : (n : ℕ) → (n ≡ 1) ⊎ (n ≡ 2) → n ≡ version_number (version_in n)
version_parsed n (inl e) = e ∙ ap (λ k. version_number (version_in k)) (sym e)
version_parsed n (inr e) = e ∙ ap (λ k. version_number (version_in k)) (sym e)

pub words_read : (n : ℕ) (w : ℕ → ℕ) → Passed n w → ((i : ℕ) → w i < 2 ^ 64)
    → ReadsTo w 0 (MAGIC ∷ words_of (version_number (version_in (w 1))) (code_in w)) (word_count w)
unfolding code_in
words_read n w p few =
    let num : IsNumbered w = λ k lt. literal_numbered w k p.literals lt in
    let blocks : List CodeBlock = tabulated (block_in w) 0 (w 2) in
    let ws : List ℕ = flat_map (λ (x : CodeBlock). flat_map (instr_words (literals_in w)) x.instrs) blocks in
    let ls : List ℕ = map (cast_unsigned w64) (literals_in w) in
    let lens : List ℕ = tabulated (array_in w) 0 (w 4) in
    let z2 : 0 + w 2 ≡ w 2 = omega arith in
    let all : instrs_below w (0 + w 2) ≡ instr_count w = ap (instrs_below w) z2 in
    let r1 = to_place w 6 (map block_word blocks) (6 + (0 + w 2)) (instr_place w 0) (omega arith)
    (from_place w (6 + 0) 6 (map block_word blocks) (6 + (0 + w 2)) (omega arith) (entries_read w 0 (w 2) few)) in
    let r2 = to_place w (instr_place w 0) ws (instr_place w (instrs_below w (0 + w 2))) (literal_place w 0) (omega (arith, all))
    (blocks_read w 0 (w 2) p.counts num few p.blocks) in
    let r3 = to_place w (literal_place w 0) ls (literal_place w (0 + w 3)) (array_place w 0) (omega arith) (literals_read w 0 (w 3) few) in
    let r4 = to_place w (array_place w 0) lens (array_place w (0 + w 4)) (word_count w) (omega arith) (arrays_read w 0 (w 4)) in
    let r34 = reads_append w (literal_place w 0) ls (array_place w 0) lens (word_count w) r3 r4 in
    let r234 = reads_append w (instr_place w 0) ws (literal_place w 0) (ls ++ lens) (word_count w) r2 r34 in
    let rest = reads_append w 6 (map block_word blocks) (instr_place w 0) (ws ++ (ls ++ lens)) (word_count w) r1 r234 in (
      p.magic,
      (
        version_parsed (w 1) p.version,
        (
          sym (length_tabulated (block_in w) 0 (w 2)),
          (sym (length_tabulated (literal_in w) 0 (w 3)), (sym (length_tabulated (array_in w) 0 (w 4)), (refl, rest))),
        ),
      ),
    )

-- the bytes are those of the code that is read from them
pub is_spelt : (bytes : List ℕ) → AllBytes bytes → checked bytes ≡ Ok tt → bytes ≡ bytes_of (version_number (version_in (word_at bytes 1)))
    (code_in (word_at bytes))
is_spelt bytes all ok =
    let w = word_at bytes in
    let p = passed_from bytes ok in
    let ws : List ℕ = MAGIC ∷ words_of (version_number (version_in (w 1))) (code_in w) in
    let r = words_read (length bytes) w p (λ i. word_fits bytes i all) in
    let long : length bytes ≡ 8 * length ws = omega (arith, p.long, reads_length w 0 ws (word_count w) r) in
    spelled bytes ws 0 all long (word_count w) r

pub opened_spelt : (bytes : List ℕ) (o : Opened) → AllBytes bytes → checked bytes ≡ Ok tt → opened bytes ≡ o → bytes ≡ bytes_of o.version o.code
unfolding opened
opened_spelt bytes o all ok e = is_spelt bytes all ok ∙ ap (λ (p : Opened). bytes_of p.version p.code) e

-- THE BYTES OF ONE INSTRUCTION
spelt_at : (w : ℕ → ℕ) (b n ip : ℕ) → CountsFit w → IsNumbered w → ((i : ℕ) → w i < 2 ^ 64) → each (block_checked w) b n ≡ Ok tt
    → instrs_below w b ≤ ip → ip < instrs_below w (b + n) → instr_words (literals_in w) (shown (instr_in w ip)) ≡ w (instr_place w ip)
    ∷ w (instr_place w ip + 1) ∷ []
spelt_at w b zero ip c num few h from to =
    let same : b + zero ≡ b = omega arith in
    absurd (omega (arith, ap (instrs_below w) same))
spelt_at w b (suc n) ip c num few h from to = go (nat_lt ip (instrs_below w (b + 1))) refl
    (spelt_at w (b + 1) n ip c num few (first_ok (block_checked w b) (each (block_checked w) (b + 1) n) h).1)
  where
    slots : ℕ
    slots = slots_in (w (6 + b))

    end : ℕ
    end = instrs_below w b + count_in (w (6 + b))

    go : (t : Bool) → nat_lt ip (instrs_below w (b + 1)) ≡ t → (instrs_below w (b + 1) ≤ ip → ip < instrs_below w (b + 1 + n)
        → instr_words (literals_in w) (shown (instr_in w ip)) ≡ w (instr_place w ip) ∷ w (instr_place w ip + 1) ∷ [])
        → instr_words (literals_in w) (shown (instr_in w ip)) ≡ w (instr_place w ip) ∷ w (instr_place w ip + 1) ∷ []
    go true e later =
        let a = first_ok (block_checked w b) (each (block_checked w) (b + 1) n) h in
        let lt : ip - instrs_below w b < count_in (w (6 + b)) = omega (arith, from, ltb-true _ _ e, below_next w b) in
        let at : instrs_below w b + (ip - instrs_below w b) ≡ ip = omega (arith, from) in
        instr_spelt w slots end ip c num few (ap (instr_checked w slots end) (sym at) ∙ each_at (instr_checked w slots end) (instrs_below w b)
        (count_in (w (6 + b))) (ip - instrs_below w b) a.0 lt)
    go false e later =
        let all : b + suc n ≡ b + 1 + n = omega arith in
        later (ltb-false _ _ e) (omega (arith, to, ap (instrs_below w) all))

two_words : (bytes : List ℕ) (i : ℕ) → AllBytes bytes → 8 * i + 16 ≤ length bytes → take 16 (drop (8 * i) bytes)
    ≡ flat_map (to_le_bytes w64) (word_at bytes i ∷ word_at bytes (i + 1) ∷ [])
unfolding word_at
two_words bytes i all long =
    let s : List ℕ = drop (8 * i) bytes in
    let len = length_dropped bytes (8 * i) in
    let len8 = length_dropped s 8 in
    let e : s ≡ to_le_bytes w64 (little_number 8 s) ++ drop 8 s = first_word s (omega (arith, len, long)) (λ k. dropped bytes (8 * i) k all) in
    let f : drop 8 s ≡ to_le_bytes w64 (little_number 8 (drop 8 s)) ++ drop 8 (drop 8 s) = first_word (drop 8 s) (omega (arith, len, len8, long))
    (λ k. dropped s 8 k (λ j. dropped bytes (8 * i) j all)) in
    let at : 8 * i + 8 ≡ 8 * (i + 1) = omega arith in
    let next : drop 8 s ≡ drop (8 * (i + 1)) bytes = drop-drop 8 (8 * i) bytes ∙ ap (λ k. drop k bytes) at in
    let both : s ≡ to_le_bytes w64 (little_number 8 s) ++ (to_le_bytes w64 (little_number 8 (drop 8 s)) ++ drop 8 (drop 8 s)) = e
    ∙ ap (λ (l : List ℕ). to_le_bytes w64 (little_number 8 s) ++ l) f in
    ap (take 16) both ∙ ap (λ (l : List ℕ). to_le_bytes w64 (little_number 8 s) ++ (to_le_bytes w64 (little_number 8 l) ++ [])) next

pub instr_bytes_read : (bytes : List ℕ) (ip : ℕ) → AllBytes bytes → checked bytes ≡ Ok tt → ip < instr_count (word_at bytes)
    → take 16 (drop (8 * instr_place (word_at bytes) ip) bytes) ≡ instr_bytes (literals_in (word_at bytes)) (shown (instr_in (word_at bytes) ip))
instr_bytes_read bytes ip all ok lt =
    let w = word_at bytes in
    let p = passed_from bytes ok in
    let z : 0 + w 2 ≡ w 2 = omega arith in
    let same = spelt_at w 0 (w 2) ip p.counts (λ k h. literal_numbered w k p.literals h) (λ i. word_fits bytes i all) p.blocks (omega arith)
    (omega (arith, lt, ap (instrs_below w) z)) in
    two_words bytes (instr_place w ip) all (omega (arith, p.long, lt)) ∙ ap (flat_map (to_le_bytes w64)) (sym same)
