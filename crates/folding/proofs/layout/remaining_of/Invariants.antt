use Rattle.std.proofs.Common.{◌≡◌, ◌+◌, ◌≤◌, drop}
use Rattle.folding.specs.Places as of_places
use Rattle.folding.proofs.layout.remaining_of.Given as goal

abbrev pub invariant-loop-flag : goal.invariant-loop-flag
invariant-loop-flag l = record {
  exact : l.left + of_places.remaining_of (drop l.flag-index l.gone) ≡ of_places.remaining_of l.gone;
  few : l.left ≤ l.flag-index;
}
