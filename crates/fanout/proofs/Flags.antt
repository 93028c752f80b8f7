-- Which instructions are tied, where there is no link: the entries but the last one.
use Rattle.std.proofs.Common.{◌≡◌, ℕ, zero, suc, ◌+◌, ◌-◌, ◌<◌, ◌≤◌, Bool, true, false, List, ◌∷◌, length, replicate, refl, sym, ap, ◌∙◌, inl, inr}
use Rattle.std.proofs.Common.{◌⊎◌, arith, true≢false, Some, if◌then◌else◌, length-set, []}
use Rattle.std.specs.Prelude.{slice_get, slice_set}
use Rattle.std.proofs.lemmas.Bool.{cases_eq}
use Rattle.std.proofs.lemmas.List.{get_or-set_same, get_or-set_other}
use Rattle.std.proofs.lemmas.Option.{same_Some}
use Rattle.lemmas.proofs.Lists.{length_of_falses}
use Rattle.semantics.specs.declared.program.Dest.{Dest}
use Rattle.semantics.specs.declared.program.Op.{Op}
use Rattle.semantics.specs.declared.program.Op.TheVariants.{Link}
use Rattle.semantics.specs.Program.{Instr}
use Rattle.semantics.specs.Plan.{Plan, landing}
use Rattle.fanout.specs.Rows.{tie, tie_landings, tie_instr, tie_all, tied_in, is_tied}
use Rattle.fanout.specs.Places.{size, places_from}

-- there are as many flags as instructions
pub tie_length : (ts : List Bool) (from k : ℕ) → length (tie ts from k) ≡ length ts
tie_length ts from zero = refl
tie_length ts from (suc k) = length-set (tie ts from k) (from + k) true ∙ tie_length ts from k

landings_length : (ts : List Bool) (n size : ℕ) (ds : List Dest) → length (tie_landings ts n size ds) ≡ length ts
landings_length ts n size [] = refl
landings_length ts n size (d ∷ ds) = landings_length (tie ts (n + d.ahead) (size - 1)) n size ds ∙ tie_length ts (n + d.ahead) (size - 1)

pub instr_length : (p : Plan) (ts : List Bool) (n : ℕ) (i : Instr) (op : Op) → length (tie_instr p ts n i op) ≡ length ts
instr_length p ts n i (Link b) = landings_length ts n (landing p b) i.firsts
instr_length p ts n i op = refl

all_length : (p : Plan) (ts : List Bool) (n : ℕ) (is : List Instr) → length (tie_all p ts n is) ≡ length ts
all_length p ts n [] = refl
all_length p ts n (i ∷ is) = all_length p (tie_instr p ts n i i.op) (n + 1) is ∙ instr_length p ts n i i.op

pub tied_length : (p : Plan) (inputs : ℕ) (is : List Instr) → length (tied_in p inputs is) ≡ length is
tied_length p inputs is =
    all_length p (tie (replicate (length is) false) 0 inputs) 0 is ∙ tie_length (replicate (length is) false) 0 inputs ∙ length_of_falses (length is)

pub tie_these : (ts : List Bool) (from count k : ℕ) → from ≤ k → k < from + count → k < length ts → is_tied (tie ts from count) k ≡ true
tie_these ts from zero k l h there = absurd (omega (arith, l, h))
tie_these ts from (suc c) k l h there = pick (cases_eq k (from + c)) (tie_these ts from c k)
  where
    len : length (tie ts from c) ≡ length ts
    len = tie_length ts from c

    pick : (k ≡ from + c) ⊎ (k ≡ from + c → ⊥) → (from ≤ k → k < from + c → k < length ts → is_tied (tie ts from c) k ≡ true)
        → is_tied (slice_set (tie ts from c) (from + c) true) k ≡ true
    pick (inl e) more = ap (is_tied (slice_set (tie ts from c) (from + c) true)) e ∙ get_or-set_same (tie ts from c) (from + c) true false
        (omega (arith, there, len, e))
    pick (inr d) more = get_or-set_other (tie ts from c) (from + c) k true false d ∙ more l (omega (arith, h, d)) there

-- the instructions of the first row keep their places
pub place_tied : (ts : List Bool) (n before copied : ℕ) (is : List Instr) (v m : ℕ) → ((k : ℕ) → k < v → is_tied ts (n + k) ≡ true)
    → slice_get (places_from ts n before copied is) v ≡ Some m → m ≡ n + v + before
place_tied ts n before copied [] v m h e = absurd (cc)
place_tied ts n before copied (i ∷ is) zero m h e = let k = same_Some (n + before) m e in omega (arith, k)
place_tied ts n before copied (i ∷ is) (suc v) m h e =
    let z : n + 0 ≡ n = omega arith in
    let t : is_tied ts n ≡ true = sym (ap (is_tied ts) z) ∙ h 0 (omega arith) in
    let r = place_tied ts (n + 1) before (copied + size i) is v m (λ k l. let y : n + 1 + k ≡ n + suc k = omega arith in ap (is_tied ts) y
    ∙ h (suc k) (omega (arith, l)))
    (sym (ap (λ (t : Bool). slice_get (places_from ts (n + 1) (if t then before else copied + size i) (copied + size i) is) v) t) ∙ e) in
    omega (arith, r)

-- WHERE THERE ARE LINKS the entries are tied, too
tie_keeps : (ts : List Bool) (from count k : ℕ) → is_tied ts k ≡ true → is_tied (tie ts from count) k ≡ true
tie_keeps ts from zero k h = h
tie_keeps ts from (suc c) k h = pick (cases_eq k (from + c)) (tie_keeps ts from c k h)
  where
    within : (ts : List Bool) (k : ℕ) → is_tied ts k ≡ true → k < length ts
    within [] k e = absurd (true≢false (sym e))
    within (t ∷ ts) zero e = omega arith
    within (t ∷ ts) (suc k) e = let r = within ts k e in omega (arith, r)

    pick : (k ≡ from + c) ⊎ (k ≡ from + c → ⊥) → is_tied (tie ts from c) k ≡ true → is_tied (slice_set (tie ts from c) (from + c) true) k ≡ true
    pick (inl e) more =
        let low = within (tie ts from c) k more in
        ap (is_tied (slice_set (tie ts from c) (from + c) true)) e ∙ get_or-set_same (tie ts from c) (from + c) true false (omega (arith, low, e))
    pick (inr d) more = get_or-set_other (tie ts from c) (from + c) k true false d ∙ more

pub landings_keep : (ts : List Bool) (n size : ℕ) (ds : List Dest) (k : ℕ) → is_tied ts k ≡ true → is_tied (tie_landings ts n size ds) k ≡ true
landings_keep ts n size [] k h = h
landings_keep ts n size (d ∷ ds) k h = landings_keep (tie ts (n + d.ahead) (size - 1)) n size ds k (tie_keeps ts (n + d.ahead) (size - 1) k h)

instr_keeps : (p : Plan) (ts : List Bool) (n : ℕ) (i : Instr) (op : Op) (k : ℕ) → is_tied ts k ≡ true → is_tied (tie_instr p ts n i op) k ≡ true
instr_keeps p ts n i (Link b) k h = landings_keep ts n (landing p b) i.firsts k h
instr_keeps p ts n i op k h = h

pub all_keeps : (p : Plan) (ts : List Bool) (n : ℕ) (is : List Instr) (k : ℕ) → is_tied ts k ≡ true → is_tied (tie_all p ts n is) k ≡ true
all_keeps p ts n [] k h = h
all_keeps p ts n (i ∷ is) k h = all_keeps p (tie_instr p ts n i i.op) (n + 1) is k (instr_keeps p ts n i i.op k h)

pub entries_tied : (p : Plan) (inputs : ℕ) (is : List Instr) (k : ℕ) → k < inputs → k < length is → is_tied (tied_in p inputs is) k ≡ true
entries_tied p inputs is k h there =
    let len = length_of_falses (length is) in
    all_keeps p (tie (replicate (length is) false) 0 inputs) 0 is k (tie_these (replicate (length is) false) 0 inputs k (omega arith)
    (omega (arith, h)) (omega (arith, there, len)))
