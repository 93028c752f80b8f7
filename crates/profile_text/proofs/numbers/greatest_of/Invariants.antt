use Rattle.std.proofs.Common.{◌≡◌, drop}
use Rattle.profile_text.specs.Picture.{greatest, greatest_from}
use Rattle.profile_text.proofs.numbers.greatest_of.Given as goal

abbrev pub invariant-loop-count : goal.invariant-loop-count
invariant-loop-count l = greatest l.counts ≡ greatest_from l.most (drop l.count-index l.counts)
