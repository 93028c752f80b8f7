use Rattle.std.proofs.Common.{◌≡◌, ap, subst, ◌+◌, ◌≤◌, arith}
use Rattle.std.proofs.lemmas.Grind.{common_steps}
use Rattle.element.specs.Holding.{Holding, LaneView, held_in}
use Rattle.element.specs.ByDepth.{MakesByDepth}
use Rattle.element.proofs.lane.Lane.turn_by_depth.Goals as goal

pub returns-clause-exact : goal.returns-clause-exact
returns-clause-exact g c =
    let lane = c.self.inside in
    let p = g.C.Instructions.program lane.code.now in
    let new : Holding = held_in c.make_by_depth.new.self in
    let held : held_in c.long_ration.new.self ≡ held_in lane.contents = c.long_ration.ensures.held in
    let same : c.long_ration.new.self.queue.gone ≡ lane.contents.queue.gone = ap (λ (h : Holding). h.made) held in
    let within : c.long_ration.new.self.queue.gone + c.min-most.result ≤ lane.steps = grind (arith, common_steps) in
    let all = c.make_by_depth.ensures.exact lane.steps within in
    let view : LaneView = record { program = p; steps = lane.steps; held = held_in lane.contents } in
    let seen = c.self.view_is in
    let is : view ≡ c.args.self.now = cc in (
      all.0,
      subst (λ (l : LaneView). MakesByDepth l.program l.steps all.0 l.held new) is
          (subst (λ (h : Holding). MakesByDepth p lane.steps all.0 h new) held all.1),
    )
