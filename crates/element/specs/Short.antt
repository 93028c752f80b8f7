-- An instruction as an element reads it.
use Rattle.std.specs.Prelude.{ℕ}
use Rattle.semantics.specs.declared.program.Op.{Op}

-- the operation, the number of its origin, its slot, and the half words of its destinations
pub record ShortInstr : Type 0 where
  pub op : Op
  pub origin : ℕ
  pub slot : ℕ
  pub first : ℕ
  pub second : ℕ
