use Rattle.std.proofs.Common.{◌-◌, ◌≤◌, length}
use Rattle.json_text.specs.Json.{values_text}
use Rattle.json_text.proofs.Steps.{Walked}
use Rattle.json_text.proofs.row.send_values.Given as goal

abbrev pub invariant-loop : goal.invariant-loop
invariant-loop g l =
    (l.counter ≤ length l.words) × Walked (values_text (length l.words) l.words) (values_text (length l.words - l.counter) l.left)
    (g.W.Write.contents l.fn.writer) (g.W.Write.contents l.writer)
