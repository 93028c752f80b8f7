-- The table of literals: each literal that an instruction uses, once, in ascending order; and the first block that goes too
-- far for an object.
use Rattle.std.specs.Prelude.{◌≡◌, ℕ, ◌+◌, ℤ, List, [], ◌∷◌, length, flat_map, Option, Some, None, nat_lt, int_lt, slice_get, if◌then◌else◌, true, ⊤}
use Rattle.std.specs.Ordering.{int_cmp}
use Rattle.std.specs.BTreeSet.{insert_key}
use Rattle.semantics.specs.declared.program.Op.{Op}
use Rattle.semantics.specs.declared.program.Op.TheVariants.{Apply2Right, Apply2Left, Lit}
use Rattle.semantics.specs.Program.{Instr, CodeBlock}
use Rattle.select.specs.declared.fault.EmitFault.{EmitFault}
use Rattle.select.specs.declared.fault.EmitFault.TheVariants.{TooFar, Memory}

abbrev pub literal_of : Op → Option ℤ
literal_of (Apply2Right op z) = Some z
literal_of (Apply2Left op z) = Some z
literal_of (Lit z) = Some z
literal_of op = None

abbrev pub as_list : Option ℤ → List ℤ
as_list None = []
as_list (Some z) = z ∷ []

-- the literals that instructions use, in their order
abbrev pub used_by : List Instr → List ℤ
used_by is = flat_map (λ (i : Instr). as_list (literal_of i.op)) is

abbrev pub used_in : List CodeBlock → List ℤ
used_in cs = flat_map (λ (c : CodeBlock). used_by c.instrs) cs

-- a table with more literals: each in its place, if it is not there yet
abbrev pub entered : List ℤ → List ℤ → List ℤ
entered table [] = table
entered table (z ∷ zs) = entered (insert_key int_cmp table z) zs

abbrev pub table_of : List CodeBlock → List ℤ
table_of cs = entered [] (used_in cs)

-- The first block, of those numbered from b on, that has more than 32,768 instructions or with which the table has more
-- than 65,536 literals.
abbrev pub first_too_far : ℕ → List ℤ → List CodeBlock → Option ℕ
first_too_far b table [] = None
first_too_far b table (c ∷ cs) = if nat_lt 32768 (length c.instrs) then Some b
    else if nat_lt 65536 (length (entered table (used_by c.instrs))) then Some b
    else first_too_far (b + 1) (entered table (used_by c.instrs)) cs

abbrev pub too_far : List CodeBlock → Option ℕ
too_far cs = first_too_far 0 [] cs

-- what a refusal says
abbrev pub IsRefused : List CodeBlock → EmitFault → Type 0
IsRefused cs (TooFar b) = too_far cs ≡ Some b
IsRefused cs Memory = ⊤

pub record IsAscending (literals : List ℤ) : Type 0 where
  pub steps : (k : ℕ) (y z : ℤ) → slice_get literals k ≡ Some y → slice_get literals (k + 1) ≡ Some z → int_lt y z ≡ true
