-- Which code block an instruction lies in, and which instructions are entries.
use Rattle.std.proofs.Common.{◌≡◌, ℕ, zero, suc, ◌+◌, ◌-◌, ◌<◌, Bool, true, List, ◌∷◌, length, ap, ◌∙◌, arith, Some, nat_lt, lt-ltb, le-ltb, if◌then◌else◌, []}
use Rattle.std.specs.Prelude.{slice_get}
use Rattle.semantics.specs.Program.{CodeBlock}
use Rattle.semantics.specs.Orderly.{is_entry}
use Rattle.semantics.proofs.BlockPlaces.{first_in, first_next}

pub entry_in : (bs : List CodeBlock) (m k : ℕ) (c : CodeBlock) → slice_get bs m ≡ Some c → k < length c.instrs → k < c.inputs + 1
    → is_entry bs (first_in bs m + k) ≡ true
entry_in [] m k c e h g = absurd (cc)
entry_in (x ∷ bs) zero k c e h g =
    let same : x ≡ c = cc in
    let n : length x.instrs ≡ length c.instrs = ap (λ (c : CodeBlock). length c.instrs) same in
    let i : x.inputs ≡ c.inputs = ap (λ (c : CodeBlock). c.inputs) same in
    ap (λ (t : Bool). if t then nat_lt (0 + k) (x.inputs + 1) else is_entry bs (0 + k - length x.instrs))
    (lt-ltb (0 + k) (length x.instrs) (omega (arith, h, n)))
    ∙ lt-ltb (0 + k) (x.inputs + 1) (omega (arith, g, i))
entry_in (x ∷ bs) (suc m) k c e h g =
    let n = first_next x bs m in
    let a = first_in (x ∷ bs) (suc m) + k in
    ap (λ (t : Bool). if t then nat_lt a (x.inputs + 1) else is_entry bs (a - length x.instrs)) (le-ltb a (length x.instrs) (omega (arith, n)))
    ∙ ap (is_entry bs) (let ak : a - length x.instrs ≡ first_in bs m + k = omega (arith, n) in ak)
    ∙ entry_in bs m k c e h g
