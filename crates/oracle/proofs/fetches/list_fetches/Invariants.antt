use Rattle.std.proofs.Common.{◌≡◌, ◌++◌, drop}
use Rattle.oracle.specs.Fetches.{fetches_of}
use Rattle.oracle.proofs.fetches.list_fetches.Given as goal

abbrev pub invariant-loop-token : goal.invariant-loop-token
invariant-loop-token g l = fetches_of l.checked l.invocations l.tokens ≡ l.fetches.items ++ fetches_of l.checked l.invocations (drop l.token-index l.tokens)
