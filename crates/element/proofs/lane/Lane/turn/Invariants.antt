use Rattle.std.proofs.Common.{◌≡◌, ◌-◌, ℕ}
use Rattle.element.specs.Holding.{fixed_of}
use Rattle.element.specs.Steps.{MakesEvents}
use Rattle.element.proofs.lane.Lane.turn.Given as goal

abbrev pub invariant-rations : goal.invariant-rations
invariant-rations g l = record {
  made : (events : ℕ) × MakesEvents l.fn.self.program l.fn.self.steps events l.fn.self.held l.self.held;
  none : l.sent.items ≡ l.fn.sent.items;
  fixed : fixed_of l.self ≡ fixed_of l.fn.self;
}

abbrev pub decreases-rations : goal.decreases-rations
decreases-rations g l = l.self.steps - l.self.held.made
