use Rattle.std.proofs.Common.{◌≡◌, ◌+◌, ◌≤◌, length}
use Rattle.assembler.specs.Reading.{lines_from, text_from}
use Rattle.assembler.proofs.reading.read_text.Given as goal

abbrev pub decreases-loop-bytes : goal.decreases-loop-bytes
decreases-loop-bytes g l = length l.lines

abbrev pub invariant-loop-bytes : goal.invariant-loop-bytes
invariant-loop-bytes g l = record {
  so_far : lines_from l.line l.state.0 l.state.1 l.lines ≡ text_from l.fn.text;
  room : l.line + length l.lines ≤
      length l.fn.text + 1;
}
