use Rattle.std.proofs.Common.{◌≡◌, ◌++◌, drop}
use Rattle.oracle.specs.Sending.{results_tokens}
use Rattle.oracle.proofs.sending.send_to_results.Given as goal

abbrev pub invariant-loop-number : goal.invariant-loop-number
invariant-loop-number g l =
    l.fn.fresh.items ++ results_tokens l.sent l.made l.inputs l.from.0 l.from.1 0 l.results ≡ l.fresh.items ++ results_tokens l.sent l.made l.inputs
    l.from.0 l.from.1 l.number (drop l.number l.results)
