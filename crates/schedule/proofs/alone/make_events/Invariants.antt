use Rattle.std.proofs.Common.{◌≡◌, ◌-◌, ℕ, []}
use Rattle.element.specs.Holding.{fixed_of}
use Rattle.element.specs.Steps.{MakesEvents}
use Rattle.schedule.proofs.alone.make_events.Given as goal

abbrev pub invariant-events : goal.invariant-events
invariant-events g l = record {
  made : (events : ℕ) × MakesEvents l.fn.lane.program l.fn.lane.steps events l.fn.lane.held l.lane.held;
  none : l.sent.items ≡ [];
  fixed : fixed_of l.lane ≡ fixed_of l.fn.lane;
}

abbrev pub decreases-events : goal.decreases-events
decreases-events g l = l.fn.lane.steps - l.lane.held.made
