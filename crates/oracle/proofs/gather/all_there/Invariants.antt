use Rattle.std.proofs.Common.{◌≡◌, drop}
use Rattle.oracle.specs.Acting.{all_there}
use Rattle.oracle.proofs.gather.all_there.Given as goal

abbrev pub invariant-loop-spot : goal.invariant-loop-spot
invariant-loop-spot l = all_there l.token l.spots l.waiting ≡ all_there l.token (drop l.spot-index l.spots) l.waiting
