use Rattle.std.proofs.Common.{◌∙◌, sym, ap, subst, ◌<◌, ◌≤◌, List, length, drop, arith}
use Rattle.std.specs.Prelude.{All}
use Rattle.element.specs.Holding.{Fixed, held_of}
use Rattle.schedule.specs.State.{State, RunsAs, IsSoundState, state_of}
use Rattle.schedule.specs.Runs.{steps_over}
use Rattle.schedule.specs.Turns.{Leads}
use Rattle.schedule.proofs.Memory.{lane_count, lane_there}
use Rattle.schedule.proofs.Staying.{runs_at, fixed_set}
use Rattle.schedule.proofs.OneLane.{alone, is_alone, next_alone}
use Rattle.schedule.proofs.OneByDepth.{depth_ran_lane}
use Rattle.schedule.proofs.elements.Elements.run_by_depth.Goals as goal

pub returns-clause-well : goal.returns-clause-well
returns-clause-well g c =
    let m = c.args.self.now in
    let x = c.index_mut-lane.result.now in
    let new = c.turn_by_depth.new.self in
    let s = state_of g.C.Instructions.program g.C.Instructions.width m in
    let is = c.index_mut-lane.ensures.value in
    let one = c.requires.one in
    let settled = c.is_settled.ensures.sent c.if-not-is_settled.false in
    let arrived = c.is_settled.ensures.arrived c.if-not-is_settled.false in
    let some : 0 < m.shape.elements = omega arith in
    let there = lane_there g.C.Instructions.program g.C.Instructions.width m 0 x c.requires.well some settled arrived is in
    let count = lane_count m.lanes.items (drop m.arrived m.sent.items) m.shape.elements c.requires.well.sound.count in
    let low : 0 < length m.lanes.items = omega arith in
    let runs = runs_at (RunsAs s.setting) m.lanes.items 0 x c.requires.well.runs low is in
    let first = is_alone s (held_of x) (c.requires.well.sound.count ∙ one) there in
    let made = c.turn_by_depth.ensures in
    let all = depth_ran_lane s.setting one x new (subst (λ (t : State). IsSoundState t) first c.requires.well.sound) runs made.exact in
    let same = next_alone s.setting m.lanes.items m.sent.items c.turn_by_depth.new.sent.items m.arrived
    (held_of x) new settled (made.sent ∙ settled) arrived (ap (λ (t : State). t.lanes) first) in
    record {
      arrived = omega arith;
      runs = subst (λ (fs : List Fixed). All (RunsAs s.setting) fs) (sym (fixed_set m.lanes.items 0 x new low is made.fixed)) c.requires.well.runs;
      sound = subst (λ (t : State). IsSoundState t) (sym same) all.0;
    }

pub returns-clause-exact : goal.returns-clause-exact
returns-clause-exact g c =
    let m = c.args.self.now in
    let x = c.index_mut-lane.result.now in
    let new = c.turn_by_depth.new.self in
    let s = state_of g.C.Instructions.program g.C.Instructions.width m in
    let is = c.index_mut-lane.ensures.value in
    let one = c.requires.one in
    let settled = c.is_settled.ensures.sent c.if-not-is_settled.false in
    let arrived = c.is_settled.ensures.arrived c.if-not-is_settled.false in
    let some : 0 < m.shape.elements = omega arith in
    let there = lane_there g.C.Instructions.program g.C.Instructions.width m 0 x c.requires.well some settled arrived is in
    let count = lane_count m.lanes.items (drop m.arrived m.sent.items) m.shape.elements c.requires.well.sound.count in
    let low : 0 < length m.lanes.items = omega arith in
    let runs = runs_at (RunsAs s.setting) m.lanes.items 0 x c.requires.well.runs low is in
    let first = is_alone s (held_of x) (c.requires.well.sound.count ∙ one) there in
    let made = c.turn_by_depth.ensures in
    let all = depth_ran_lane s.setting one x new (subst (λ (t : State). IsSoundState t) first c.requires.well.sound) runs made.exact in
    let same = next_alone s.setting m.lanes.items m.sent.items c.turn_by_depth.new.sent.items m.arrived
    (held_of x) new settled (made.sent ∙ settled) arrived (ap (λ (t : State). t.lanes) first) in
    (all.1.0, subst (λ (t : State). Leads 1 s all.1.0 0 t) (sym same) (subst (λ (t : State). Leads 1 t all.1.0 0 (alone s.setting (held_of new))) (sym first) all.1.1))

pub returns-clause-fewer : goal.returns-clause-fewer
returns-clause-fewer g c =
    let m = c.args.self.now in
    let x = c.index_mut-lane.result.now in
    let new = c.turn_by_depth.new.self in
    let s = state_of g.C.Instructions.program g.C.Instructions.width m in
    let is = c.index_mut-lane.ensures.value in
    let one = c.requires.one in
    let settled = c.is_settled.ensures.sent c.if-not-is_settled.false in
    let arrived = c.is_settled.ensures.arrived c.if-not-is_settled.false in
    let some : 0 < m.shape.elements = omega arith in
    let there = lane_there g.C.Instructions.program g.C.Instructions.width m 0 x c.requires.well some settled arrived is in
    let count = lane_count m.lanes.items (drop m.arrived m.sent.items) m.shape.elements c.requires.well.sound.count in
    let low : 0 < length m.lanes.items = omega arith in
    let runs = runs_at (RunsAs s.setting) m.lanes.items 0 x c.requires.well.runs low is in
    let first = is_alone s (held_of x) (c.requires.well.sound.count ∙ one) there in
    let made = c.turn_by_depth.ensures in
    let all = depth_ran_lane s.setting one x new (subst (λ (t : State). IsSoundState t) first c.requires.well.sound) runs made.exact in
    let same = next_alone s.setting m.lanes.items m.sent.items c.turn_by_depth.new.sent.items m.arrived
    (held_of x) new settled (made.sent ∙ settled) arrived (ap (λ (t : State). t.lanes) first) in
    subst (λ (t : State). steps_over t ≤ steps_over s) (sym same) (subst (λ (t : State). steps_over (alone s.setting (held_of new)) ≤ steps_over t) (sym first) all.2)
