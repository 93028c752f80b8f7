use Rattle.std.proofs.Common.{◌≤◌}
use Rattle.std.specs.Io.KnownBytes.{Appends}
use Rattle.dot.specs.GraphDot.{inputs_dot}
use Rattle.dot.proofs.graph_dot.send_inputs.Given as goal

abbrev pub invariant-loop-input : goal.invariant-loop-input
invariant-loop-input g l = (l.input ≤ l.inputs) × Appends (g.W.Write.contents l.fn.writer) (g.W.Write.contents l.writer) (inputs_dot l.place l.input)
