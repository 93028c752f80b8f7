use Rattle.std.proofs.Common.{◌≡◌, ◌++◌, drop}
use Rattle.code_map.specs.Numbered as Numbered
use Rattle.code_map.proofs.carried.copies_of.Given as goal

abbrev pub invariant-loop-place : goal.invariant-loop-place
invariant-loop-place g l = l.copies.items ++ Numbered.copies_from l.owners l.marks l.place (drop l.place l.instrs)
    ≡ Numbered.copies_from l.owners l.marks 0 l.instrs
