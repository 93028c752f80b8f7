use Rattle.std.proofs.Common.{◌≡◌, ap, subst, ◌+◌, ◌≤◌, List, arith}
use Rattle.std.proofs.lemmas.Grind.{common_steps}
use Rattle.tags.specs.declared.token.Token.{Token}
use Rattle.element.specs.Holding.{Holding, LaneView, held_in}
use Rattle.element.specs.Steps.{SendsEvents}
use Rattle.element.proofs.lane.Lane.makes_ration.Goals as goal

pub returns-clause-exact : goal.returns-clause-exact
returns-clause-exact g c =
    let lane = c.self.inside in
    let p = g.C.Instructions.program lane.code.now in
    let new : Holding = held_in c.make_at_once.new.self in
    let after = c.make_at_once.new.sent.items in
    let held : held_in c.ration.new.self ≡ held_in lane.contents = c.ration.ensures.held in
    let same : c.ration.new.self.queue.gone ≡ lane.contents.queue.gone = ap (λ (h : Holding). h.made) held in
    let within : c.ration.new.self.queue.gone + c.min-events.result ≤ lane.steps = grind (arith, common_steps) in
    let all = c.make_at_once.ensures.exact lane.steps within in
    let view : LaneView = record { program = p; steps = lane.steps; held = held_in lane.contents } in
    let seen = c.self.view_is in
    let is : view ≡ c.args.self.now = cc in (
      all.0,
      subst (λ (l : LaneView). SendsEvents l.program l.steps all.0 l.held c.args.sent.now.items new after) is
          (subst (λ (h : Holding). SendsEvents p lane.steps all.0 h c.args.sent.now.items new after) held
          (subst (λ (ts : List Token). SendsEvents p lane.steps all.0 (held_in c.ration.new.self) ts new after) c.room_in.ensures.sent all.1)),
    )
