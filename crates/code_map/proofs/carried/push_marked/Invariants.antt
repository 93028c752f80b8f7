use Rattle.std.proofs.Common.{◌≡◌, ◌++◌, ◌≤◌, drop}
use Rattle.code_map.specs.Numbered as Numbered
use Rattle.code_map.proofs.carried.push_marked.Given as goal

abbrev pub invariant-loop-mark : goal.invariant-loop-mark
invariant-loop-mark g l =
    (l.map.items ++ Numbered.picked l.owners l.copies l.next (drop l.mark-index l.marks) ≡ l.fn.map.items ++ Numbered.picked l.owners l.copies 0 l.marks)
    × (l.next ≤ l.mark-index)
