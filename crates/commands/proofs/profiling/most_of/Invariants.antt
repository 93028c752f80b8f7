use Rattle.std.proofs.Common.{◌≡◌, drop, map}
use Rattle.profile_text.specs.Picture.{greatest_from}
use Rattle.commands.specs.Profiled.{quantity_in}
use Rattle.commands.proofs.profiling.most_of.Given as goal

abbrev pub invariant-loop-moment : goal.invariant-loop-moment
invariant-loop-moment l = greatest_from l.fn.first (map (quantity_in l.quantity) l.moments)
    ≡ greatest_from l.most (map (quantity_in l.quantity) (drop l.moment-index l.moments))
