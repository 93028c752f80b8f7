use Rattle.std.proofs.Common.{◌≡◌, ◌++◌, drop}
use Rattle.oracle.specs.Uses.{used_tokens}
use Rattle.oracle.proofs.sending.send_to_each.Given as goal

abbrev pub invariant-loop-it : goal.invariant-loop-it
invariant-loop-it g l =
    l.fn.fresh.items ++ used_tokens l.sent l.made l.inputs l.port l.uses ≡ l.fresh.items ++ used_tokens l.sent l.made l.inputs l.port (drop l.it-index l.uses)
