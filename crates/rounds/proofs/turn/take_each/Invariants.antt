use Rattle.std.proofs.Common.{◌≡◌, ◌+◌, ◌≤◌, List, length}
use Rattle.tags.specs.declared.token.Token.{Token}
use Rattle.element.specs.Holding.{fixed_of, IsSoundLane}
use Rattle.schedule.specs.Steps.{logged}
use Rattle.rounds.specs.Turns.{by, Turns}
use Rattle.rounds.proofs.turn.take_each.Given as goal

abbrev pub invariant-events : goal.invariant-events
invariant-events g l = record {
  sound : IsSoundLane l.fn.lane.program l.fn.lane.held → IsSoundLane l.lane.program l.lane.held;
  made : l.lane.held.made ≡ l.fn.lane.held.made + l._done;
  fixed : fixed_of l.lane ≡ fixed_of l.fn.lane;
  turns : (taken : List Token) × Turns l.fn.lane.program l.fn.lane.steps l.fn.lane.held l.fn.sent.items taken l.lane.held l.sent.items
      × (l.log.events.items ≡ logged g.L.Log.KEEPS_EVENTS l.fn.log.events.items (by l.fn.lane.held.part.shape.element taken)) × (length taken ≤ l._done);
}
