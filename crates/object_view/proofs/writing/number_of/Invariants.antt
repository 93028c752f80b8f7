use Rattle.std.proofs.Common.{◌≤◌, ◌-◌, length}
use Rattle.semantics.specs.Bytes.{number_from}
use Rattle.object_view.proofs.writing.number_of.Given as goal

abbrev pub invariant-loop-low : goal.invariant-loop-low
invariant-loop-low l = record {
  least : l.low ≤ number_from 0 l.literal l.literals;
  most : number_from 0 l.literal l.literals ≤ l.high;
  inside :
      l.high ≤ length l.literals;
}

abbrev pub decreases-loop-low : goal.decreases-loop-low
decreases-loop-low l = l.high - l.low
