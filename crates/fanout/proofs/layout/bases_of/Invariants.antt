use Rattle.std.proofs.Common.{◌≡◌, ◌⊎◌, ◌+◌, ◌≤◌, ◌++◌, drop, length}
use Rattle.fanout.specs.Rows.{run}
use Rattle.fanout.specs.Places.{bases_from}
use Rattle.fanout.proofs.layout.bases_of.Given as goal

-- `end` is where the present row ends; between two rows it is the present place
abbrev pub invariant-loop-place : goal.invariant-loop-place
invariant-loop-place g l = record {
  exact : l.bases.items ++ bases_from l.tied l.place l.copied (drop l.place l.instrs) ≡ bases_from l.tied 0 0 l.instrs;
  row : (l.place ≡ l.end) ⊎ (l.end ≡ l.place + run (drop l.place l.tied));
  within : l.end ≤ length l.tied;
}
