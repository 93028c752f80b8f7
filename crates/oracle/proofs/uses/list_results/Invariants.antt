use Rattle.std.proofs.Common.{◌≡◌, ◌++◌, drop}
use Rattle.oracle.specs.Uses.{result_uses}
use Rattle.oracle.proofs.uses.list_results.Given as goal

abbrev pub invariant-loop-number : goal.invariant-loop-number
invariant-loop-number g l =
    l.fn.uses.items ++ result_uses l.node 0 l.results ≡ l.uses.items ++ result_uses l.node l.number (drop l.number l.results)
