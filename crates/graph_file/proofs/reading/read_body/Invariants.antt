use Rattle.std.proofs.Common.{◌≡◌, ◌+◌, ◌≤◌, length}
use Rattle.graph_file.specs.Reading.{lines_from, body_from}
use Rattle.graph_file.proofs.reading.read_body.Given as goal

abbrev pub invariant-loop-text : goal.invariant-loop-text
invariant-loop-text g l = record {
  so_far : lines_from l.line l.state.0 l.state.1 l.lines ≡ body_from l.fn.version l.fn.body;
  room : l.line + length l.lines ≤ length l.fn.body + 3;
}

abbrev pub decreases-loop-text : goal.decreases-loop-text
decreases-loop-text g l = length l.lines
