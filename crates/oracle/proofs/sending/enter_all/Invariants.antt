use Rattle.std.proofs.Common.{◌≡◌, ◌++◌, drop}
use Rattle.oracle.specs.Sending.{entering_tokens}
use Rattle.oracle.proofs.sending.enter_all.Given as goal

abbrev pub invariant-loop-node : goal.invariant-loop-node
invariant-loop-node g l = l.fn.fresh.items ++ entering_tokens l.context 0 l.values ≡ l.fresh.items ++ entering_tokens l.context l.node (drop l.node l.values)
