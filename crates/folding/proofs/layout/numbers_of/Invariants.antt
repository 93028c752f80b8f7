use Rattle.std.proofs.Common.{◌≡◌, ◌≤◌, ◌++◌, drop}
use Rattle.folding.specs.Places.{numbers_from}
use Rattle.folding.proofs.layout.numbers_of.Given as goal

abbrev pub invariant-loop-flag : goal.invariant-loop-flag
invariant-loop-flag g l = record {
  exact : l.numbers.items ++ numbers_from l.next (drop l.flag-index l.gone) ≡ numbers_from 0 l.gone;
  few : l.next ≤ l.flag-index;
}
