use Rattle.std.proofs.Common.{◌≡◌, ◌+◌, ◌-◌, ◌++◌}
use Rattle.oracle.specs.Sending.{flag_tokens}
use Rattle.oracle.proofs.sending.send_flags.Given as goal

abbrev pub invariant-loop-i : goal.invariant-loop-i
invariant-loop-i g l = l.fn.fresh.items ++ flag_tokens l.sent 1 l.inputs ≡ l.fresh.items ++ flag_tokens l.sent (l.i + 1) (l.inputs - l.i)
