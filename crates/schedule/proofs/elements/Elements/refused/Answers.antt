use Rattle.std.proofs.Common.{◌∙◌, refl, ◌<◌, length, drop, arith}
use Rattle.lemmas.proofs.SliceGet.{get_some}
use Rattle.element.specs.Holding.{held_of, queued}
use Rattle.schedule.specs.State.{state_of}
use Rattle.schedule.proofs.Memory.{lane_count, seen_at}
use Rattle.schedule.proofs.Staying.{runs_at}
use Rattle.schedule.specs.State.{RunsAs}
use Rattle.schedule.proofs.Stepping.{is_idle, is_used_up, is_refused}
use Rattle.schedule.proofs.elements.Elements.refused.Goals as goal

pub returns-then-not-has_token-clause-exact : goal.returns-then-not-has_token-clause-exact
returns-then-not-has_token-clause-exact g c = λ pick.
    let s = state_of g.C.Instructions.program g.C.Instructions.width c.args.self.now in
    let low : c.args.element < length s.lanes = (let l = c.requires.element in let n = c.requires.well.sound.count in omega arith) in
    let lane = get_some s.lanes c.args.element low in
    is_idle s s c.args.element pick lane.0 refl lane.1 (c.has_token.ensures.no c.if-not-has_token.true lane.0 lane.1)

pub returns-then-is_spent-clause-exact : goal.returns-then-is_spent-clause-exact
returns-then-is_spent-clause-exact g c = λ pick.
    let m = c.args.self.now in
    let s = state_of g.C.Instructions.program g.C.Instructions.width m in
    let e = c.args.element in
    let ts = drop m.arrived m.sent.items in
    let x = c.index.result.now in
    let count = lane_count m.lanes.items ts m.shape.elements c.requires.well.sound.count in
    let low : e < length m.lanes.items = (let l = c.requires.element in omega arith) in
    let there = seen_at m.lanes.items ts e x low c.index.ensures in
    let some = c.has_token.ensures.yes c.if-not-has_token.false (queued (held_of x) ts) there in
    let runs = runs_at (RunsAs s.setting) m.lanes.items e x c.requires.well.runs low c.index.ensures in
    is_used_up s s e pick (queued (held_of x) ts) refl there some (c.is_spent.ensures.yes c.if-is_spent.true ∙ runs.steps)

pub returns-clause-exact : goal.returns-clause-exact
returns-clause-exact g c = λ pick.
    let m = c.args.self.now in
    let s = state_of g.C.Instructions.program g.C.Instructions.width m in
    let e = c.args.element in
    let ts = drop m.arrived m.sent.items in
    let x = c.index.result.now in
    let count = lane_count m.lanes.items ts m.shape.elements c.requires.well.sound.count in
    let low : e < length m.lanes.items = (let l = c.requires.element in omega arith) in
    let there = seen_at m.lanes.items ts e x low c.index.ensures in
    let some = c.has_token.ensures.yes c.if-not-has_token.false (queued (held_of x) ts) there in
    let steps = (runs_at (RunsAs s.setting) m.lanes.items e x c.requires.well.runs low c.index.ensures).steps in
    let left = c.is_spent.ensures.no c.if-is_spent.false in
    let few : x.held.made < m.shape.steps = omega arith in
    is_refused s s e pick (queued (held_of x) ts) refl there some few
