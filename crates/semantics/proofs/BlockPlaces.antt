-- Where the code blocks of a program begin, which instructions are entries, and which are in one block.
use Rattle.std.proofs.Common.{[], ◌+◌, ◌-◌, ◌<◌, ◌∙◌, ◌∷◌, ◌≡◌, ◌≤◌, Bool, List, Some, ap, arith, false, if◌then◌else◌, le-ltb, length, lt-ltb}
use Rattle.std.proofs.Common.{ltb-false, ltb-true, map, nat_lt, refl, slice_get, suc, sum, sym, take, true, true≢false, zero, zero-add, ℕ}
use Rattle.std.proofs.lemmas.List.Sums.{sum-map, sum_by-cons}
use Rattle.semantics.specs.Program.{CodeBlock}
use Rattle.semantics.specs.Orderly.{is_entry, same_block}

-- where block m begins
abbrev pub first_in : List CodeBlock → ℕ → ℕ
first_in bs m = sum (map (λ (x : CodeBlock). length x.instrs) (take m bs))

pub first_next : (c : CodeBlock) (bs : List CodeBlock) (m : ℕ) → first_in (c ∷ bs) (suc m) ≡ length c.instrs + first_in bs m
first_next c bs m =
    let f : CodeBlock → ℕ = λ (x : CodeBlock). length x.instrs in
    sum-map f (c ∷ take m bs) ∙ sum_by-cons f c (take m bs) ∙ ap (λ n. length c.instrs + n) (sym (sum-map f (take m bs)))

-- ENTRIES: the first instructions of a block
pub record Entry (bs : List CodeBlock) (a : ℕ) : Type 0 where
  pub b : ℕ
  pub n : ℕ
  pub c : CodeBlock
  pub block : slice_get bs b ≡ Some c
  pub low : n ≤ c.inputs
  pub within : n < length c.instrs
  pub place : a ≡ first_in bs b + n

pub entry_of : (bs : List CodeBlock) (a : ℕ) → is_entry bs a ≡ true → Entry bs a
entry_of [] a e = absurd (true≢false (sym e))
entry_of (x ∷ bs) a e = go (nat_lt a (length x.instrs)) refl e (entry_of bs (a - length x.instrs))
  where
    go : (t : Bool) → nat_lt a (length x.instrs) ≡ t → (if t then nat_lt a (x.inputs + 1) else is_entry bs (a - length x.instrs)) ≡ true
        → (is_entry bs (a - length x.instrs) ≡ true → Entry bs (a - length x.instrs)) → Entry (x ∷ bs) a
    go true t e more = let l = ltb-true a (x.inputs + 1) e in record {
      b = 0;
      n = a;
      c = x;
      block = refl;
      low = omega (arith, l);
      within = ltb-true a
          (length x.instrs) t;
      place = sym (zero-add a);
    }
    go false t e more =
        let r = more e in let f = first_next x bs r.b in let l = ltb-false a (length x.instrs) t in let q = r.place in
        record { b = suc r.b; n = r.n; c = r.c; block = r.block; low = r.low; within = r.within; place = omega (arith, f, l, q) }

pub entry_in : (bs : List CodeBlock) (b n : ℕ) (c : CodeBlock) → slice_get bs b ≡ Some c → n ≤ c.inputs → n < length c.instrs
    → is_entry bs (first_in bs b + n) ≡ true
entry_in [] b n c e l w = absurd (cc)
entry_in (x ∷ bs) zero n c e l w =
    let same : x ≡ c = cc in
    let len = ap (λ (c : CodeBlock). length c.instrs) same in let ins = ap (λ (c : CodeBlock). c.inputs) same in
    ap (λ (t : Bool). if t then nat_lt (0 + n) (x.inputs + 1) else is_entry bs (0 + n - length x.instrs))
    (lt-ltb (0 + n) (length x.instrs) (omega (arith, w, len)))
    ∙ lt-ltb (0 + n) (x.inputs + 1) (omega (arith, l, ins))
entry_in (x ∷ bs) (suc b) n c e l w =
    let f = first_next x bs b in
    let ip = first_in (x ∷ bs) (suc b) + n in
    let back : ip - length x.instrs ≡ first_in bs b + n = omega (arith, f) in
    ap (λ (t : Bool). if t then nat_lt ip (x.inputs + 1) else is_entry bs (ip - length x.instrs)) (le-ltb ip (length x.instrs) (omega (arith, f)))
    ∙ ap (is_entry bs) back ∙ entry_in bs b n c e l w

-- INSTRUCTIONS OF ONE BLOCK
pub record InBlock (bs : List CodeBlock) (ip jp : ℕ) : Type 0 where
  pub b : ℕ
  pub c : CodeBlock
  pub j : ℕ
  pub k : ℕ
  pub block : slice_get bs b ≡ Some c
  pub low : j < length c.instrs
  pub high : k < length c.instrs
  pub one : ip ≡ first_in bs b + j
  pub two : jp ≡ first_in bs b + k

pub block_of : (bs : List CodeBlock) (ip jp : ℕ) → same_block bs ip jp ≡ true → InBlock bs ip jp
block_of [] ip jp e = absurd (true≢false (sym e))
block_of (x ∷ bs) ip jp e = go (nat_lt ip (length x.instrs)) (nat_lt jp (length x.instrs)) refl refl e
    (block_of bs (ip - length x.instrs) (jp - length x.instrs))
  where
    go : (s t : Bool) → nat_lt ip (length x.instrs) ≡ s → nat_lt jp (length x.instrs) ≡ t
        → (if s then t else if t then false else same_block bs (ip - length x.instrs) (jp - length x.instrs)) ≡ true
        → (same_block bs (ip - length x.instrs) (jp - length x.instrs) ≡ true → InBlock bs (ip - length x.instrs) (jp - length x.instrs))
        → InBlock (x ∷ bs) ip jp
    go true true a b e more = record {
      b = 0;
      c = x;
      j = ip;
      k = jp;
      block = refl;
      low = ltb-true ip (length x.instrs) a;
      high = ltb-true jp
          (length x.instrs) b;
      one = sym (zero-add ip);
      two = sym (zero-add jp);
    }
    go true false a b e more = absurd (true≢false (sym e))
    go false true a b e more = absurd (true≢false (sym e))
    go false false a b e more =
        let m = more e in
        let n = first_next x bs m.b in
        let fa = ltb-false ip (length x.instrs) a in let fb = ltb-false jp (length x.instrs) b in
        let o = m.one in let t = m.two in
        record {
          b = suc m.b;
          c = m.c;
          j = m.j;
          k = m.k;
          block = m.block;
          low = m.low;
          high = m.high;
          one = omega (arith, n, fa, o);
          two = omega
              (arith, n, fb, t);
        }

pub same_in : (bs : List CodeBlock) (m j k : ℕ) (c : CodeBlock) → slice_get bs m ≡ Some c → j < length c.instrs → k < length c.instrs
    → same_block bs (first_in bs m + j) (first_in bs m + k) ≡ true
same_in [] m j k c e h g = absurd (cc)
same_in (x ∷ bs) zero j k c e h g =
    let same : x ≡ c = cc in
    let n : length x.instrs ≡ length c.instrs = ap (λ (c : CodeBlock). length c.instrs) same in
    ap (λ (t : Bool). if t then nat_lt (0 + k) (length x.instrs) else if nat_lt (0 + k) (length x.instrs) then false else same_block bs
    (0 + j - length x.instrs) (0 + k - length x.instrs)) (lt-ltb (0 + j) (length x.instrs) (omega (arith, h, n)))
    ∙ lt-ltb (0 + k) (length x.instrs) (omega (arith, g, n))
same_in (x ∷ bs) (suc m) j k c e h g =
    let n = first_next x bs m in
    let a = first_in (x ∷ bs) (suc m) + j in let d = first_in (x ∷ bs) (suc m) + k in
    ap (λ (t : Bool). if t then nat_lt d (length x.instrs) else if nat_lt d (length x.instrs) then false else same_block bs (a - length x.instrs)
    (d - length x.instrs)) (le-ltb a (length x.instrs) (omega (arith, n)))
    ∙ ap (λ (t : Bool). if t then false else same_block bs (a - length x.instrs) (d - length x.instrs)) (le-ltb d (length x.instrs) (omega (arith, n)))
    ∙ (let aj : a - length x.instrs ≡ first_in bs m + j = omega (arith, n) in let dk : d - length x.instrs ≡ first_in bs m + k = omega (arith, n)
    in (λ t. same_block bs (aj t) (dk t)))
    ∙ same_in bs m j k c e h g
