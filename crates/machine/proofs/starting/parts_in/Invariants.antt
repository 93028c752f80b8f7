use Rattle.std.proofs.Common.{◌≡◌, map}
use Rattle.element.specs.Holding.{held_of}
use Rattle.machine.specs.Starts.{lanes_in, seats_in, logs_in}
use Rattle.machine.proofs.starting.parts_in.Given as goal

abbrev pub invariant-loop-padded : goal.invariant-loop-padded
invariant-loop-padded g l = (map held_of l.lanes.items ≡ lanes_in l.yielded) × (l.seats.items ≡ seats_in l.yielded) × (l.logs.items ≡ logs_in l.yielded)
