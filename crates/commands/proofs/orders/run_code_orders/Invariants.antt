use Rattle.std.proofs.Common.{ℕ, List}
use Rattle.semantics.specs.Graph.{Graph}
use Rattle.driver.specs.Refused.{IsCompiled}
use Rattle.commands.specs.Agreed.{AllAgree}
use Rattle.commands.proofs.orders.run_code_orders.Given as goal

abbrev pub invariant-loop-number : goal.invariant-loop-number
invariant-loop-number g l = (text : List ℕ) (gr : Graph) → IsCompiled text gr l.code.bytes → AllAgree text l.inputs l.config l.seed l.number gr l.first
