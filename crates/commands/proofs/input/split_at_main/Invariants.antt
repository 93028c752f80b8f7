use Rattle.std.proofs.Common.{◌≡◌, ◌+◌, drop}
use Rattle.commands.specs.Input.{graph_bytes, graph_length}
use Rattle.commands.proofs.input.split_at_main.Given as goal

abbrev pub invariant-loop-i : goal.invariant-loop-i
invariant-loop-i l = graph_bytes l.is_main (drop l.i l.input) + l.i ≡ graph_length l.input
