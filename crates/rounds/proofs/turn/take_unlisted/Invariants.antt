use Rattle.std.proofs.Common.{◌≡◌, ◌+◌, ◌-◌, ◌≤◌, List, length}
use Rattle.tags.specs.declared.token.Token.{Token}
use Rattle.element.specs.Holding.{fixed_of, IsSoundLane}
use Rattle.rounds.specs.Turns.{Turns}
use Rattle.rounds.proofs.turn.take_unlisted.Given as goal

abbrev pub invariant-events : goal.invariant-events
invariant-events g l = record {
  sound : IsSoundLane l.fn.lane.program l.fn.lane.held → IsSoundLane l.lane.program l.lane.held;
  turns : (taken : List Token) × Turns l.fn.lane.program l.fn.lane.steps l.fn.lane.held l.fn.sent.items taken l.lane.held l.sent.items
      × (l.lane.held.made ≡ l.fn.lane.held.made + length taken);
  within : l.lane.held.made ≤ l.fn.lane.held.made + l.turn;
  fixed : fixed_of l.lane ≡ fixed_of l.fn.lane;
}

abbrev pub decreases-events : goal.decreases-events
decreases-events g l = l.fn.lane.held.made + l.turn - l.lane.held.made
