use Rattle.std.proofs.Common.{◌≡◌, ◌∙◌, sym, ap, ℕ, ◌%◌, ◌<◌, ◌++◌, List, length, map, arith}
use Rattle.std.proofs.Math.Nat.{mod-lt}
use Rattle.tags.specs.declared.value.Value.{Value}
use Rattle.std.specs.Prelude.{Option}
use Rattle.istructure.specs.OwnCells.{OwnCells, value_at}
use Rattle.element.specs.Holding.{held_of}
use Rattle.schedule.specs.Reported.{full_below, entry}
use Rattle.schedule.proofs.Sums.{full_next, value_there}
use Rattle.schedule.proofs.counting.full_cells.Goals as goal

pub loop-cell-preserved : goal.loop-cell-preserved
loop-cell-preserved g c =
    let n = c.args.elements in
    let x = c.loop-cell.cell in
    let lanes = map held_of c.args.lanes.now in
    let below = mod-lt x c.requires.some in
    let count = c.requires.count in
    let low : x % n < length c.args.lanes.now = omega arith in
    let got = c.in_ok-list_full.ensures in
    let value = c.value.ensures ∙ ap (λ (own : OwnCells). value_at own x) c.cells.ensures ∙ value_there c.args.lanes.now n x c.index-lanes-cell.result
    low c.index-lanes-cell.is in
    got ∙ ap (λ (l : List _). l ++ entry x c.value.result) c.loop-cell.invariant ∙ ap (λ (v : Option Value). full_below n lanes x ++ entry x v) value
    ∙ sym (full_next n lanes x)

pub returns : goal.returns
returns g c =
    let past = c.loop-cell-test.false in
    let within = c.loop-cell.auto.cell-end in
    let all : c.loop-cell.cell ≡ c.args.cells = omega arith in
    c.loop-cell.invariant ∙ ap (λ (k : ℕ). full_below c.args.elements (map held_of c.args.lanes.now) k) all
