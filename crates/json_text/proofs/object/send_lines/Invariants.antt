use Rattle.std.proofs.Common.{length}
use Rattle.graph_file.specs.Lines.{parts}
use Rattle.json_text.specs.Json.{lines_text, nothing_open}
use Rattle.json_text.proofs.Steps.{Walked}
use Rattle.json_text.proofs.object.send_lines.Given as goal

abbrev pub invariant-loop-line : goal.invariant-loop-line
invariant-loop-line g l =
    Walked (lines_text nothing_open (parts 10 l.text)) (lines_text l.object l.lines) (g.W.Write.contents l.fn.writer) (g.W.Write.contents l.writer)

abbrev pub decreases-loop-line : goal.decreases-loop-line
decreases-loop-line g l = length l.lines
