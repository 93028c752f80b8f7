use Rattle.std.proofs.Common.{◌≡◌, ◌+◌, ◌*◌, ◌≤◌, drop}
use Rattle.oracle.specs.Waves.{work}
use Rattle.profile_text.proofs.numbers.work_of.Given as goal

abbrev pub invariant-loop-count : goal.invariant-loop-count
invariant-loop-count l = (work l.counts ≡ l.total + work (drop l.count-index l.counts)) × (l.total ≤ l.count-index * 18446744073709551615)
