-- What an activity does, with the value that it sends or stores. Each invocation is given by its number.
use Rattle.std.specs.Prelude.{ℕ}
use Rattle.tags.specs.declared.value.Value.{Value}
use Rattle.oracle.specs.declared.invocations.Made.{Made}

pub data Deed : Type 0 where
  Sends : (context node port : ℕ) (value : Value) → Deed
  Steers : (context cond : ℕ) (value : Value) → Deed
  Enters : (made : Made) (block input : ℕ) (value : Value) → Deed
  EntersAll : (made : Made) (block : ℕ) → Deed
  Stops : Deed
  Reads : (context node cell : ℕ) → Deed
  Fills : (context node cell array index : ℕ) (value : Value) → Deed
  Puts : (number : ℕ) (value : Value) → Deed
