use Rattle.std.proofs.Common.{◌≡◌, map, take}
use Rattle.ets_core.specs.Values.{event_of}
use Rattle.ets_core.proofs.values.events_of.Given as goal

abbrev pub invariant-loop-event : goal.invariant-loop-event
invariant-loop-event l = l.listed.items ≡ map event_of (take l.event-index l.events)
