use Rattle.std.proofs.Common.{ℕ, List}
use Rattle.semantics.specs.Graph.{Graph}
use Rattle.driver.specs.Refused.{IsCompiled}
use Rattle.commands.specs.Profiled.{AreRows, sizes_below}
use Rattle.commands.proofs.profiling.rows_of.Given as goal

abbrev pub invariant-loop-elements : goal.invariant-loop-elements
invariant-loop-elements g l = (text : List ℕ) (gr : Graph) → IsCompiled text gr l.code.bytes
    → AreRows text l.inputs l.options (sizes_below l.sizes l.elements) l.rows.items
