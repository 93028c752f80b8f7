use Rattle.std.proofs.Common.{◌≡◌, ◌+◌, ◌≤◌, drop}
use Rattle.code_map.specs.Joins as Joins
use Rattle.code_map.proofs.joins.ends_in.Given as goal

abbrev pub invariant-loop-end : goal.invariant-loop-end
invariant-loop-end l = (l.count + Joins.ends_in l.region (drop l.end-index l.ends) ≡ Joins.ends_in l.region l.ends) × (l.count ≤ l.end-index)
