use Rattle.std.proofs.Common.{◌≡◌, drop}
use Rattle.folding.specs.Places as of_places
use Rattle.folding.proofs.layout.freed_in.Given as goal

abbrev pub invariant-loop-number : goal.invariant-loop-number
invariant-loop-number g l = of_places.freed_from l.folds l.freed.items l.number (drop l.number l.instr-items) ≡ of_places.freed_in l.folds l.block
