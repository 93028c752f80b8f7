-- What was read of a listing so far.
use Rattle.std.specs.Prelude.{ℕ, ℤ, List}
use Rattle.semantics.specs.Program.{CodeBlock}

pub record Found : Type 0 where
  pub version : ℕ
  pub main : ℕ
  -- up to the last one
  pub blocks : List CodeBlock
  -- the last one
  pub last : CodeBlock
  pub arrays : List ℕ
  -- of the lines of the table
  pub literals : List ℤ
  -- of the instructions, in ascending order
  pub used : List ℤ
