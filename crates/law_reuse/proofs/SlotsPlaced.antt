-- Where an instruction is: its block, and its place there.
use Rattle.std.proofs.Common.{◌≡◌, refl, zero-add, sym, ap, ◌∙◌, subst, ℕ, zero, suc, ◌+◌, ◌-◌, ◌<◌, ◌≤◌, Bool, true, false, true≢false, List, [], ◌∷◌, length}
use Rattle.std.proofs.Common.{Some, slice_get, nat_lt, lt-ltb, le-ltb, ltb-false, arith, if◌then◌else◌}
use Rattle.std.proofs.lemmas.Option.{slice_get_within, same_Some}
use Rattle.semantics.specs.Program.{Instr, CodeBlock, Program, first_of, instr_from, instr_at}
use Rattle.semantics.specs.Orderly.{is_entry, same_block}
use Rattle.semantics.proofs.BlockPlaces.{first_in, first_next}

pub instr_in : (bs : List CodeBlock) (m k : ℕ) (c : CodeBlock) → slice_get bs m ≡ Some c → k < length c.instrs
    → instr_from bs (first_in bs m + k) ≡ slice_get c.instrs k
instr_in [] m k c e h = absurd (cc)
instr_in (x ∷ bs) zero k c e h =
    let same : x ≡ c = cc in
    ap (instr_from (x ∷ bs)) (zero-add k)
    ∙ subst (λ (y : CodeBlock). (if nat_lt k (length y.instrs) then slice_get y.instrs k else instr_from bs (k - length y.instrs)) ≡ slice_get c.instrs k)
    (sym same)
    (ap (λ (t : Bool). if t then slice_get c.instrs k else instr_from bs (k - length c.instrs)) (lt-ltb k (length c.instrs) h))
instr_in (x ∷ bs) (suc m) k c e h =
    let at : first_in (x ∷ bs) (suc m) + k ≡ length x.instrs + (first_in bs m + k) = (let n = first_next x bs m in omega (arith, n)) in
    let more : (if nat_lt (length x.instrs + (first_in bs m + k)) (length x.instrs) then slice_get x.instrs (length x.instrs + (first_in bs m + k))
    else instr_from bs (length x.instrs + (first_in bs m + k) - length x.instrs)) ≡ instr_from bs (length x.instrs + (first_in bs m + k) - length x.instrs) =
    ap (λ (t : Bool). if t then slice_get x.instrs (length x.instrs + (first_in bs m + k))
    else instr_from bs (length x.instrs + (first_in bs m + k) - length x.instrs))
    (le-ltb (length x.instrs + (first_in bs m + k)) (length x.instrs) (omega arith)) in
    let back : length x.instrs + (first_in bs m + k) - length x.instrs ≡ first_in bs m + k = omega arith in
    ap (instr_from (x ∷ bs)) at ∙ more ∙ ap (instr_from bs) back ∙ instr_in bs m k c e h

-- two places of one block are one block's
pub one_block : (bs : List CodeBlock) (a b j k : ℕ) (c d : CodeBlock) → slice_get bs a ≡ Some c → slice_get bs b ≡ Some d → j < length c.instrs
    → k < length d.instrs
    → same_block bs (first_in bs a + j) (first_in bs b + k) ≡ true → a ≡ b
one_block [] a b j k c d e g h l s = absurd (cc)
one_block (x ∷ bs) zero zero j k c d e g h l s = refl
one_block (x ∷ bs) zero (suc b) j k c d e g h l s =
    let same : x ≡ c = cc in
    let n : length x.instrs ≡ length c.instrs = ap (λ (c : CodeBlock). length c.instrs) same in
    let m = first_next x bs b in
    let jp = first_in (x ∷ bs) (suc b) + k in
    let one : nat_lt (0 + j) (length x.instrs) ≡ true = lt-ltb (0 + j) (length x.instrs) (omega (arith, h, n)) in
    let two : nat_lt jp (length x.instrs) ≡ false = le-ltb jp (length x.instrs) (omega (arith, m)) in
    absurd
    (true≢false (sym s ∙ ap (λ (t : Bool). if t then nat_lt jp (length x.instrs) else if nat_lt jp (length x.instrs) then false
    else same_block bs (0 + j - length x.instrs) (jp - length x.instrs)) one ∙ two))
one_block (x ∷ bs) (suc a) zero j k c d e g h l s =
    let same : x ≡ d = cc in
    let n : length x.instrs ≡ length d.instrs = ap (λ (c : CodeBlock). length c.instrs) same in
    let m = first_next x bs a in
    let ip = first_in (x ∷ bs) (suc a) + j in
    let one : nat_lt ip (length x.instrs) ≡ false = le-ltb ip (length x.instrs) (omega (arith, m)) in
    let two : nat_lt (0 + k) (length x.instrs) ≡ true = lt-ltb (0 + k) (length x.instrs) (omega (arith, l, n)) in
    absurd
    (true≢false (sym s ∙ ap (λ (t : Bool). if t then nat_lt (0 + k) (length x.instrs) else if nat_lt (0 + k) (length x.instrs) then false
    else same_block bs (ip - length x.instrs) (0 + k - length x.instrs)) one
    ∙ ap (λ (t : Bool). if t then false else same_block bs (ip - length x.instrs) (0 + k - length x.instrs)) two))
one_block (x ∷ bs) (suc a) (suc b) j k c d e g h l s =
    let m = first_next x bs a in
    let n = first_next x bs b in
    let ip = first_in (x ∷ bs) (suc a) + j in
    let jp = first_in (x ∷ bs) (suc b) + k in
    let one : nat_lt ip (length x.instrs) ≡ false = le-ltb ip (length x.instrs) (omega (arith, m)) in
    let two : nat_lt jp (length x.instrs) ≡ false = le-ltb jp (length x.instrs) (omega (arith, n)) in
    let i2 : ip - length x.instrs ≡ first_in bs a + j = omega (arith, m) in
    let j2 : jp - length x.instrs ≡ first_in bs b + k = omega (arith, n) in
    let rest : same_block (x ∷ bs) ip jp ≡ same_block bs (first_in bs a + j) (first_in bs b + k) =
    ap (λ (t : Bool). if t then nat_lt jp (length x.instrs) else if nat_lt jp (length x.instrs) then false
    else same_block bs (ip - length x.instrs) (jp - length x.instrs)) one
    ∙ ap (λ (t : Bool). if t then false else same_block bs (ip - length x.instrs) (jp - length x.instrs)) two
    ∙ (λ t. same_block bs (i2 t) (j2 t)) in
    ap suc (one_block bs a b j k c d e g h l (sym rest ∙ s))

-- past the continuation and the inputs
pub past_entries : (bs : List CodeBlock) (b n : ℕ) (c : CodeBlock) → slice_get bs b ≡ Some c → n < length c.instrs → c.inputs < n
    → is_entry bs (first_in bs b + n) ≡ false
past_entries [] b n c e h g = absurd (cc)
past_entries (x ∷ bs) zero n c e h g =
    let same : x ≡ c = cc in
    let m : length x.instrs ≡ length c.instrs = ap (λ (c : CodeBlock). length c.instrs) same in
    let i : x.inputs ≡ c.inputs = ap (λ (c : CodeBlock). c.inputs) same in
    ap (λ (t : Bool). if t then nat_lt (0 + n) (x.inputs + 1) else is_entry bs (0 + n - length x.instrs))
    (lt-ltb (0 + n) (length x.instrs) (omega (arith, h, m)))
    ∙ le-ltb (0 + n) (x.inputs + 1) (omega (arith, g, i))
past_entries (x ∷ bs) (suc b) n c e h g =
    let m = first_next x bs b in
    let ip = first_in (x ∷ bs) (suc b) + n in
    ap (λ (t : Bool). if t then nat_lt ip (x.inputs + 1) else is_entry bs (ip - length x.instrs)) (le-ltb ip (length x.instrs) (omega (arith, m)))
    ∙ ap (is_entry bs) (let back : ip - length x.instrs ≡ first_in bs b + n = omega (arith, m) in back)
    ∙ past_entries bs b n c e h g

-- An instruction of a program: it is at place n of block b.
pub record IsPlaced (p : Program) (b n : ℕ) (i : Instr) : Type 0 where
  pub code : CodeBlock
  pub block : slice_get p.blocks b ≡ Some code
  pub instr : slice_get code.instrs n ≡ Some i

pub stands_within : (p : Program) (b n : ℕ) (i : Instr) (s : IsPlaced p b n i) → n < length s.code.instrs
stands_within p b n i s = slice_get_within s.code.instrs n i s.instr

pub stands_at : (p : Program) (b n : ℕ) (i : Instr) → IsPlaced p b n i → instr_at p (first_of p b + n) ≡ Some i
stands_at p b n i s = instr_in p.blocks b n s.code s.block (stands_within p b n i s) ∙ s.instr

pub stands_one : (p : Program) (b n : ℕ) (i j : Instr) → IsPlaced p b n i → IsPlaced p b n j → i ≡ j
stands_one p b n i j s t = same_Some i j (sym (stands_at p b n i s) ∙ stands_at p b n j t)

pub stands_block : (p : Program) (a b m n : ℕ) (i j : Instr) → IsPlaced p a m i → IsPlaced p b n j
    → same_block p.blocks (first_of p a + m) (first_of p b + n) ≡ true → a ≡ b
stands_block p a b m n i j s t h = one_block p.blocks a b m n s.code t.code s.block t.block (stands_within p a m i s) (stands_within p b n j t) h

-- an instruction of the program is somewhere
pub record Found (p : Program) (ip : ℕ) (i : Instr) : Type 0 where
  pub b : ℕ
  pub n : ℕ
  pub stands : IsPlaced p b n i
  pub place : ip ≡ first_of p b + n

found_in : (bs : List CodeBlock) (ip : ℕ) (i : Instr) → instr_from bs ip ≡ Some i
    → (b : ℕ) × (n : ℕ) × (c : CodeBlock) × (slice_get bs b ≡ Some c) × (slice_get c.instrs n ≡ Some i) × (ip ≡ first_in bs b + n)
found_in [] ip i e = cc
found_in (x ∷ bs) ip i e = go (nat_lt ip (length x.instrs)) refl (found_in bs (ip - length x.instrs) i)
  where
    go : (t : Bool) → nat_lt ip (length x.instrs) ≡ t
        → (instr_from bs (ip - length x.instrs) ≡ Some i
        → (b : ℕ) × (n : ℕ) × (c : CodeBlock) × (slice_get bs b ≡ Some c) × (slice_get c.instrs n ≡ Some i) × (ip - length x.instrs ≡ first_in bs b + n))
        → (b : ℕ) × (n : ℕ) × (c : CodeBlock) × (slice_get (x ∷ bs) b ≡ Some c) × (slice_get c.instrs n ≡ Some i) × (ip ≡ first_in (x ∷ bs) b + n)
    go true t rest =
        (0, ip, x, refl, sym (ap (λ (t : Bool). if t then slice_get x.instrs ip else instr_from bs (ip - length x.instrs)) t) ∙ e, sym (zero-add ip))
    go false t rest =
        let more = rest (sym (ap (λ (t : Bool). if t then slice_get x.instrs ip else instr_from bs (ip - length x.instrs)) t) ∙ e) in
        let far : length x.instrs ≤ ip = ltb-false ip (length x.instrs) t in
        let at = more.5 in
        let next = first_next x bs more.0 in
        (suc more.0, more.1, more.2, more.3, more.4, omega (arith, at, next))

pub found : (p : Program) (ip : ℕ) (i : Instr) → instr_at p ip ≡ Some i → Found p ip i
found p ip i e = let f = found_in p.blocks ip i e in record { b = f.0; n = f.1; stands = record { code = f.2; block = f.3; instr = f.4 }; place = f.5 }
