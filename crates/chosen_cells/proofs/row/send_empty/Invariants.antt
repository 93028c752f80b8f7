use Rattle.std.proofs.Common.{◌≤◌}
use Rattle.std.specs.Io.KnownBytes.{Appends}
use Rattle.chosen_cells.specs.Chosen.{empty_cells}
use Rattle.chosen_cells.proofs.row.send_empty.Given as goal

abbrev pub invariant-loop : goal.invariant-loop
invariant-loop g l =
    (l.counter ≤ l.count) × Appends (g.W.Write.contents l.fn.writer) (g.W.Write.contents l.writer) (empty_cells l.counter)
