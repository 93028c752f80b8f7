use Rattle.std.proofs.Common.{◌≡◌, drop}
use Rattle.folding.specs.Namers as of_namers
use Rattle.folding.proofs.namers.note_landings.Given as goal

abbrev pub invariant-loop-dest : goal.invariant-loop-dest
invariant-loop-dest l = of_namers.note_landings l.namers l.from l.size (drop l.dest-index l.dests) ≡ of_namers.note_landings l.fn.namers l.from l.size l.dests
