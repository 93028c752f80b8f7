use Rattle.std.proofs.Common.{◌≡◌, ◌++◌, drop}
use Rattle.oracle.proofs.state.append.Given as goal

abbrev pub invariant-loop-token : goal.invariant-loop-token
invariant-loop-token g l = l.fn.fresh.items ++ l.tokens ≡ l.fresh.items ++ drop l.token-index l.tokens
