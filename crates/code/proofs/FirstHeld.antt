-- One instruction of a walk to the first that has a holder.
use Rattle.std.proofs.Common.{◌≡◌, ◌<◌, ◌≤◌, ◌+◌, ◌∙◌, ℕ, Bool, true, false, List, ◌∷◌, length, drop, ap, sym, get_or, Some, None, if◌then◌else◌}
use Rattle.std.proofs.lemmas.List.{at_drop_more, drop_all}
use Rattle.semantics.specs.Program.{Instr}
use Rattle.code.specs.Holders.{held_by, holding, is_of}

-- the instructions from one on, by whether that one has the holder
by_first : (i : Instr) (is : List Instr) (n : ℕ) (b : Bool) → is_of n i ≡ b → held_by (i ∷ is) n ≡ (if b then Some (holding i.op) else held_by is n)
by_first i is n b e = ap (λ (x : Bool). if x then Some (holding i.op) else held_by is n) e

at_place : (is : List Instr) (n k : ℕ) (i : Instr) (b : Bool) → k < length is → i ≡ get_or is k i → b ≡ is_of n i
    → held_by (drop k is) n ≡ (if b then Some (holding i.op) else held_by (drop (k + 1) is) n)
at_place is n k i b lt e f =
    at_drop_more (λ (l : List Instr). held_by l n) is k i lt ∙ ap (λ (x : Instr). held_by (x ∷ drop (k + 1) is) n) (sym e)
    ∙ by_first i (drop (k + 1) is) n b (sym f)

pub found : (is : List Instr) (n k : ℕ) (i : Instr) → k < length is → i ≡ get_or is k i → true ≡ is_of n i → held_by (drop k is) n ≡ Some (holding i.op)
found is n k i lt e f = at_place is n k i true lt e f

pub passed : (is : List Instr) (n k : ℕ) (i : Instr) → k < length is → i ≡ get_or is k i → false ≡ is_of n i → held_by (drop k is) n
    ≡ held_by (drop (k + 1) is) n
passed is n k i lt e f = at_place is n k i false lt e f

pub none : (is : List Instr) (n k : ℕ) → length is ≤ k → held_by (drop k is) n ≡ None
none is n k le = ap (λ (l : List Instr). held_by l n) (drop_all k is le)
