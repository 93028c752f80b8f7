use Rattle.std.proofs.Common.{◌≡◌, drop}
use Rattle.code_map.specs.Ends as Ends
use Rattle.code_map.proofs.ends.ends_of.Given as goal

abbrev pub invariant-loop-place : goal.invariant-loop-place
invariant-loop-place g l = Ends.ends_from l.ends.items l.marks l.regions l.place (drop l.place l.instrs) ≡ Ends.ends_of l.instrs l.marks l.regions
