use Rattle.std.proofs.Common.{option_map, length}
use Rattle.chosen_cells.proofs.Walk.{Walked}
use Rattle.chosen_cells.proofs.printing.write_chosen.Given as goal

abbrev pub invariant-loop-line : goal.invariant-loop-line
invariant-loop-line g l =
    Walked (option_map (λ s. s.now) l.cells) (option_map (λ s. s.now) l.grid) l.text l.row l.lines (g.W.Write.contents l.fn.writer)
    (g.W.Write.contents l.writer)

abbrev pub decreases-loop-line : goal.decreases-loop-line
decreases-loop-line g l = length l.lines
