use Rattle.std.proofs.Common.{◌∙◌, sym, ap, ℕ, ◌%◌, ◌<◌, ◌+◌, length, map, arith}
use Rattle.std.proofs.Math.Nat.{mod-lt}
use Rattle.semantics.specs.Report.{sum_below}
use Rattle.istructure.specs.OwnCells.{OwnCells, cell_at, readers_in}
use Rattle.element.specs.Holding.{held_of}
use Rattle.schedule.specs.Reported.{cell_readers}
use Rattle.schedule.proofs.Sums.{sum_next, readers_there}
use Rattle.schedule.proofs.counting.deferred.Goals as goal

pub loop-cell-preserved : goal.loop-cell-preserved
loop-cell-preserved g c =
    let n = c.args.elements in
    let x = c.loop-cell.cell in
    let lanes = map held_of c.args.lanes.now in
    let below = mod-lt x c.requires.some in
    let count = c.requires.count in
    let low : x % n < length c.args.lanes.now = omega arith in
    let more = c.in-Some.ensures.1 in
    let readers = c.readers.ensures ∙ ap (λ (own : OwnCells). readers_in (cell_at own x)) c.cells.ensures
    ∙ readers_there c.args.lanes.now n x c.index-lanes-cell.result low c.index-lanes-cell.is in
    more ∙ ap (λ (k : ℕ). k + c.readers.result) c.loop-cell.invariant ∙ ap (λ (k : ℕ). sum_below x (λ y. cell_readers n lanes y) + k) readers
    ∙ sym (sum_next x (λ y. cell_readers n lanes y))
