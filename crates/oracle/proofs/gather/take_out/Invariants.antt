use Rattle.std.proofs.Common.{◌≡◌, ◌++◌, drop}
use Rattle.oracle.specs.Acting.{remaining_of, values_of}
use Rattle.oracle.proofs.gather.take_out.Given as goal

abbrev pub invariant-loop-spot : goal.invariant-loop-spot
invariant-loop-spot g l =
    (remaining_of l.token l.spots l.fn.waiting.items ≡ remaining_of l.token (drop l.spot-index l.spots) l.waiting.items)
    × (values_of l.token l.spots l.fn.waiting.items ≡ l.values.items ++ values_of l.token (drop l.spot-index l.spots) l.waiting.items)
