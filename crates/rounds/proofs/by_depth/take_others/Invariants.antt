use Rattle.std.proofs.Common.{◌≡◌, ◌+◌, ◌≤◌, List, length}
use Rattle.tags.specs.declared.token.Token.{Token}
use Rattle.element.specs.Holding.{fixed_of, IsSoundLane}
use Rattle.element.specs.Requests.{held_back}
use Rattle.schedule.specs.Steps.{logged}
use Rattle.rounds.specs.Turns.{by}
use Rattle.rounds.specs.ByDepth.{Takes, MayTake}
use Rattle.rounds.proofs.by_depth.take_others.Given as goal

abbrev pub invariant-others : goal.invariant-others
invariant-others g l = record {
  sound : IsSoundLane l.fn.lane.program l.fn.lane.held → IsSoundLane l.lane.program l.lane.held;
  fixed : fixed_of l.lane ≡ fixed_of l.fn.lane;
  held : l.held ≤ held_back l.lane.held.queue;
  turns : (taken : List Token) × Takes MayTake l.fn.lane.program l.fn.lane.steps 0 l.fn.lane.held l.fn.sent.items taken l.lane.held l.sent.items
      × (l.log.events.items ≡ logged g.L.Log.KEEPS_EVENTS l.fn.log.events.items (by l.fn.lane.held.part.shape.element taken)) × (length taken ≡ l._done);
  made : l.lane.held.made ≡ l.fn.lane.held.made + l._done;
}
