use Rattle.std.proofs.Common.{◌≡◌, ◌≤◌, drop, length, reverse}
use Rattle.surface_check.specs.Machine.{ahead, closing}
use Rattle.surface_check.proofs.ahead.Ahead.new.Given as goal

abbrev pub invariant-loop-index : goal.invariant-loop-index
invariant-loop-index g l = (reverse l.stricts.items ≡ ahead (drop l.index l.words)) × (l.closing ≡ closing (drop l.index l.words)) × (l.index ≤ length l.words)
