use Rattle.std.proofs.Common.{◌≡◌, ◌++◌, drop}
use Rattle.fanout.specs.Places.{places_from}
use Rattle.fanout.proofs.layout.places_of.Given as goal

abbrev pub invariant-loop-place : goal.invariant-loop-place
invariant-loop-place g l = l.places.items ++ places_from l.tied l.place l.before l.copied (drop l.place l.instrs) ≡ places_from l.tied 0 0 0 l.instrs
