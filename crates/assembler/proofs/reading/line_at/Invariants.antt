use Rattle.std.proofs.Common.{◌≡◌, ◌+◌, ◌≤◌, length}
use Rattle.graph_file.specs.Lines.{parts}
use Rattle.assembler.specs.Assembling.{line_at}
use Rattle.assembler.proofs.reading.line_at.Given as goal

abbrev pub decreases-loop-bytes : goal.decreases-loop-bytes
decreases-loop-bytes l = length l.lines

abbrev pub invariant-loop-bytes : goal.invariant-loop-bytes
invariant-loop-bytes l = record {
  so_far : line_at l.line l.left l.lines ≡ line_at 0 l.fn.index (parts 10 l.fn.text);
  room : l.line + length l.lines ≤
      length l.fn.text + 1;
}
