-- The number that an instruction has in the narrowed code.
use Rattle.std.proofs.Common.{◌≡◌, refl, sym, ap, ◌∙◌, ℕ, zero, suc, ◌+◌, ◌-◌, ◌<◌, Bool, true, false, List, [], ◌∷◌, length, Option, Some, arith, zero-add}
use Rattle.std.proofs.Common.{nat_lt, lt-ltb, le-ltb, ltb-true, ltb-false}
use Rattle.std.specs.Prelude.{slice_get, if◌then◌else◌}
use Rattle.std.proofs.lemmas.Option.{slice_get_within}
use Rattle.lemmas.proofs.SliceGet.{get_some}
use Rattle.semantics.specs.Program.{Instr, CodeBlock, instr_from}
use Rattle.semantics.specs.Holders.{holder_of, holder_from}
use Rattle.semantics.specs.Machine.{slot_used}
use Rattle.semantics.specs.Plan.{Plan}
use Rattle.semantics.proofs.BlockPlaces.{first_in, first_next}
use Rattle.fanout.specs.Sides.{parted}
use Rattle.fanout.specs.Places.{place_of}
use Rattle.fanout.specs.Trees.{moved}
use Rattle.fanout.specs.Narrowed.{layout_of, narrowed_block, narrowed_blocks}
use Rattle.fanout.proofs.Spots.{places_differ}
use Rattle.fanout.proofs.Standing.{instrs_stay}
use Rattle.fanout.proofs.Plans.{is, ts, l, all}
use Rattle.fanout.proofs.Arrows.{in_parts}
use Rattle.law_simulation.proofs.SimulationTraces.{slot_same}

abbrev pub new_ip : Plan → List CodeBlock → ℕ → ℕ
new_ip p [] ip = ip
new_ip p (c ∷ cs) ip =
    if nat_lt ip (length c.instrs) then place_of (layout_of p c) ip else length (narrowed_block p c).instrs + new_ip p cs (ip - length c.instrs)

pub ip_at : (p : Plan) (bs : List CodeBlock) (b n : ℕ) (c : CodeBlock) → slice_get bs b ≡ Some c → n < length c.instrs
    → new_ip p bs (first_in bs b + n) ≡ first_in (narrowed_blocks p bs) b + place_of (layout_of p c) n
ip_at p [] b n c e l = absurd (cc)
ip_at p (x ∷ bs) zero n c e l =
    let same : x ≡ c = cc in
    let len : length x.instrs ≡ length c.instrs = ap (λ (c : CodeBlock). length c.instrs) same in
    ap (λ (t : Bool). if t then place_of (layout_of p x) (0 + n) else length (narrowed_block p x).instrs + new_ip p bs (0 + n - length x.instrs))
    (lt-ltb (0 + n) (length x.instrs) (omega (arith, l, len)))
    ∙ (λ k. place_of (layout_of p (same k)) (zero-add n k)) ∙ sym (zero-add (place_of (layout_of p c) n))
ip_at p (x ∷ bs) (suc b) n c e l =
    let m = first_next x bs b in
    let k = first_next (narrowed_block p x) (narrowed_blocks p bs) b in
    let ip = first_in (x ∷ bs) (suc b) + n in
    let back : ip - length x.instrs ≡ first_in bs b + n = omega (arith, m) in
    let one : new_ip p (x ∷ bs) ip ≡ length (narrowed_block p x).instrs + new_ip p bs (ip - length x.instrs) =
    ap (λ (t : Bool). if t then place_of (layout_of p x) ip else length (narrowed_block p x).instrs + new_ip p bs (ip - length x.instrs))
    (le-ltb ip (length x.instrs) (omega (arith, m))) in
    let more : new_ip p bs (ip - length x.instrs) ≡ first_in (narrowed_blocks p bs) b + place_of (layout_of p c) n = ap (new_ip p bs) back
    ∙ ip_at p bs b n c e l in
    omega (arith, one, more, k)

-- an instruction's place lies in the block
pub place_in : (p : Plan) (c : CodeBlock) (n : ℕ) → n < length c.instrs → place_of (layout_of p c) n < length (narrowed_block p c).instrs
place_in p c n low =
    let i = get_some c.instrs n low in slice_get_within (narrowed_block p c).instrs (place_of (layout_of p c) n) (moved (layout_of p c) n (parted i.0))
    (instrs_stay p c n i.0 i.1)

places_one : (p : Plan) (c : CodeBlock) (m n : ℕ) → m < length c.instrs → n < length c.instrs → place_of (layout_of p c) m ≡ place_of (layout_of p c) n → m ≡ n
places_one p c m n lm ln e =
    let i = get_some c.instrs m lm in let k = get_some c.instrs n ln in
    places_differ (ts p c) (is p c) (all p c) m n (parted i.0) (parted k.0) (in_parts c m i.0 i.1) (in_parts c n k.0 k.1) e

-- no two instructions have one new number
pub apart_in : (p : Plan) (bs : List CodeBlock) (x y : ℕ) → new_ip p bs x ≡ new_ip p bs y → x ≡ y
apart_in p [] x y e = e
apart_in p (c ∷ cs) x y e = go (nat_lt x (length c.instrs)) (nat_lt y (length c.instrs)) refl refl e (apart_in p cs (x - length c.instrs) (y - length c.instrs))
  where
    go : (s t : Bool) → nat_lt x (length c.instrs) ≡ s → nat_lt y (length c.instrs) ≡ t
        → (if s then place_of (layout_of p c) x else length (narrowed_block p c).instrs + new_ip p cs (x - length c.instrs))
        ≡ (if t then place_of (layout_of p c) y else length (narrowed_block p c).instrs + new_ip p cs (y - length c.instrs))
        → (new_ip p cs (x - length c.instrs) ≡ new_ip p cs (y - length c.instrs) → x - length c.instrs ≡ y - length c.instrs) → x ≡ y
    go true true a b e more = places_one p c x y (ltb-true x (length c.instrs) a) (ltb-true y (length c.instrs) b) e
    go true false a b e more = let k = place_in p c x (ltb-true x (length c.instrs) a) in absurd (omega (arith, k, e))
    go false true a b e more = let k = place_in p c y (ltb-true y (length c.instrs) b) in absurd (omega (arith, k, e))
    go false false a b e more =
        let k = ltb-false x (length c.instrs) a in let m = ltb-false y (length c.instrs) b in
        let d = more (omega (arith, e)) in omega (arith, k, m, d)

-- each instruction has its holder
pub holders_in : (p : Plan) (b : ℕ) (bs : List CodeBlock) (a : ℕ) → holder_from b (narrowed_blocks p bs) (new_ip p bs a) ≡ holder_from b bs a
holders_in p b [] a = refl
holders_in p b (c ∷ cs) a = go (nat_lt a (length c.instrs)) refl (holders_in p (b + 1) cs (a - length c.instrs))
  where
    go : (t : Bool) → nat_lt a (length c.instrs) ≡ t
        → holder_from (b + 1) (narrowed_blocks p cs) (new_ip p cs (a - length c.instrs)) ≡ holder_from (b + 1) cs (a - length c.instrs)
        → holder_from b (narrowed_blocks p (c ∷ cs))
        (if t then place_of (layout_of p c) a else length (narrowed_block p c).instrs + new_ip p cs (a - length c.instrs))
        ≡ (if t then holder_of b (slot_used (slice_get c.instrs a)) else holder_from (b + 1) cs (a - length c.instrs))
    go true t more =
        let i = get_some c.instrs a (ltb-true a (length c.instrs) t) in
        ap (λ (t : Bool). if t then holder_of b (slot_used (slice_get (narrowed_block p c).instrs (place_of (layout_of p c) a)))
        else holder_from (b + 1) (narrowed_blocks p cs) (place_of (layout_of p c) a - length (narrowed_block p c).instrs))
        (lt-ltb (place_of (layout_of p c) a) (length (narrowed_block p c).instrs) (place_in p c a (ltb-true a (length c.instrs) t)))
        ∙ ap (λ (o : Option Instr). holder_of b (slot_used o)) (instrs_stay p c a i.0 i.1)
        ∙ ap (holder_of b) (slot_same i.0 (moved (layout_of p c) a (parted i.0)) refl refl)
        ∙ sym (ap (λ (o : Option Instr). holder_of b (slot_used o)) i.1)
    go false t more =
        let x : ℕ = length (narrowed_block p c).instrs + new_ip p cs (a - length c.instrs) in
        let e : x - length (narrowed_block p c).instrs ≡ new_ip p cs (a - length c.instrs) = omega arith in
        ap (λ (t : Bool). if t then holder_of b (slot_used (slice_get (narrowed_block p c).instrs x))
        else holder_from (b + 1) (narrowed_blocks p cs) (x - length (narrowed_block p c).instrs)) (le-ltb x (length (narrowed_block p c).instrs) (omega arith))
        ∙ ap (holder_from (b + 1) (narrowed_blocks p cs)) e
        ∙ more

-- and nothing else is at its place
pub instrs_in : (p : Plan) (bs : List CodeBlock) (a : ℕ) (j : Instr) → instr_from (narrowed_blocks p bs) (new_ip p bs a) ≡ Some j
    → (i : Instr) × (instr_from bs a ≡ Some i)
instrs_in p [] a j e = absurd (cc)
instrs_in p (c ∷ cs) a j e = go (nat_lt a (length c.instrs)) refl e (instrs_in p cs (a - length c.instrs) j)
  where
    go : (t : Bool) → nat_lt a (length c.instrs) ≡ t
        → instr_from (narrowed_blocks p (c ∷ cs))
        (if t then place_of (layout_of p c) a else length (narrowed_block p c).instrs + new_ip p cs (a - length c.instrs)) ≡ Some j
        → (instr_from (narrowed_blocks p cs) (new_ip p cs (a - length c.instrs)) ≡ Some j → (i : Instr) × (instr_from cs (a - length c.instrs) ≡ Some i))
        → (i : Instr) × ((if t then slice_get c.instrs a else instr_from cs (a - length c.instrs)) ≡ Some i)
    go true t e more = get_some c.instrs a (ltb-true a (length c.instrs) t)
    go false t e more =
        let x : ℕ = length (narrowed_block p c).instrs + new_ip p cs (a - length c.instrs) in
        let z : new_ip p cs (a - length c.instrs) ≡ x - length (narrowed_block p c).instrs = omega arith in
        more
        (ap (instr_from (narrowed_blocks p cs)) z
        ∙ sym (ap (λ (t : Bool). if t then slice_get (narrowed_block p c).instrs x
        else instr_from (narrowed_blocks p cs) (x - length (narrowed_block p c).instrs)) (le-ltb x (length (narrowed_block p c).instrs) (omega arith)))
        ∙ e)

-- a new number in a block is that of an instruction of the block
pub back_in : (p : Plan) (bs : List CodeBlock) (b x a : ℕ) (c : CodeBlock) → slice_get bs b ≡ Some c → x < length (narrowed_block p c).instrs
    → new_ip p bs a ≡ first_in (narrowed_blocks p bs) b + x
    → (n : ℕ) × (n < length c.instrs) × (a ≡ first_in bs b + n) × (x ≡ place_of (layout_of p c) n)
back_in p [] b x a c e low is = absurd (cc)
back_in p (y ∷ bs) zero x a c e low is = go (nat_lt a (length y.instrs)) refl is
  where
    same : y ≡ c
    same = cc

    go : (t : Bool) → nat_lt a (length y.instrs) ≡ t
        → (if t then place_of (layout_of p y) a else length (narrowed_block p y).instrs + new_ip p bs (a - length y.instrs)) ≡ 0 + x
        → (n : ℕ) × (n < length c.instrs) × (a ≡ 0 + n) × (x ≡ place_of (layout_of p c) n)
    go true t is =
        let k = ltb-true a (length y.instrs) t in let len = ap (λ (c : CodeBlock). length c.instrs) same in
        (a, omega (arith, k, len), omega arith, sym (zero-add x) ∙ sym is ∙ ap (λ (c : CodeBlock). place_of (layout_of p c) a) same)
    go false t is = let len = ap (λ (c : CodeBlock). length (narrowed_block p c).instrs) same in absurd (omega (arith, low, is, len))
back_in p (y ∷ bs) (suc b) x a c e low is = go (nat_lt a (length y.instrs)) refl is (back_in p bs b x (a - length y.instrs) c e low)
  where
    k : first_in (narrowed_blocks p (y ∷ bs)) (suc b) ≡ length (narrowed_block p y).instrs + first_in (narrowed_blocks p bs) b
    k = first_next (narrowed_block p y) (narrowed_blocks p bs) b

    go : (t : Bool) → nat_lt a (length y.instrs) ≡ t
        → (if t then place_of (layout_of p y) a else length (narrowed_block p y).instrs + new_ip p bs (a - length y.instrs))
        ≡ first_in (narrowed_blocks p (y ∷ bs)) (suc b) + x
        → (new_ip p bs (a - length y.instrs) ≡ first_in (narrowed_blocks p bs) b + x
        → (n : ℕ) × (n < length c.instrs) × (a - length y.instrs ≡ first_in bs b + n) × (x ≡ place_of (layout_of p c) n))
        → (n : ℕ) × (n < length c.instrs) × (a ≡ first_in (y ∷ bs) (suc b) + n) × (x ≡ place_of (layout_of p c) n)
    go true t is more = let m = place_in p y a (ltb-true a (length y.instrs) t) in absurd (omega (arith, m, is, k))
    go false t is more =
        let r = more (omega (arith, is, k)) in
        let far = ltb-false a (length y.instrs) t in let m = first_next y bs b in let r2 = r.2 in
        (r.0, r.1, omega (arith, far, m, r2), r.3)
