use Rattle.std.proofs.Common.{◌≡◌, drop}
use Rattle.code_map.specs.Ends as Ends
use Rattle.code_map.proofs.ends.all_behind.Given as goal

abbrev pub invariant-loop-dest : goal.invariant-loop-dest
invariant-loop-dest l = Ends.all_behind l.limit l.place (drop l.dest-index l.dests) ≡ Ends.all_behind l.limit l.place l.dests
