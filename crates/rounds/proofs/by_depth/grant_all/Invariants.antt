use Rattle.std.proofs.Common.{◌≡◌, ◌+◌, List, length}
use Rattle.tags.specs.declared.token.Token.{Token}
use Rattle.element.specs.Holding.{fixed_of, IsSoundLane}
use Rattle.schedule.specs.Steps.{logged}
use Rattle.rounds.specs.Turns.{by}
use Rattle.rounds.specs.ByDepth.{Takes, MayGrant}
use Rattle.rounds.proofs.by_depth.grant_all.Given as goal

abbrev pub invariant-grants : goal.invariant-grants
invariant-grants g l = record {
  sound : IsSoundLane l.fn.lane.program l.fn.lane.held → IsSoundLane l.lane.program l.lane.held;
  fixed : fixed_of l.lane ≡ fixed_of l.fn.lane;
  turns : (taken : List Token) × Takes (MayGrant l.fn.ordinary) l.fn.lane.program l.fn.lane.steps 0 l.fn.lane.held l.fn.sent.items taken l.lane.held
      l.sent.items
      × (l.log.events.items ≡ logged g.L.Log.KEEPS_EVENTS l.fn.log.events.items (by l.fn.lane.held.part.shape.element taken)) × (length taken ≡ l.granted);
  made : l.lane.held.made ≡ l.fn.lane.held.made + l.granted;
}
