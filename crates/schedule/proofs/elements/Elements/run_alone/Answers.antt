use Rattle.std.proofs.Common.{◌∙◌, sym, ap, subst, ◌<◌, List, length, drop, arith}
use Rattle.std.specs.Prelude.{All}
use Rattle.element.specs.Holding.{Fixed, held_of}
use Rattle.schedule.specs.State.{State, RunsAs, IsSoundState, state_of}
use Rattle.schedule.specs.Steps.{Steps}
use Rattle.schedule.specs.Alone.{LeadsTo}
use Rattle.schedule.proofs.Memory.{lane_count, lane_there}
use Rattle.schedule.proofs.Staying.{runs_at, fixed_set}
use Rattle.schedule.proofs.OneLane.{is_alone, ran_alone, next_alone}
use Rattle.schedule.proofs.elements.Elements.run_alone.Goals as goal

pub returns-clause-well : goal.returns-clause-well
returns-clause-well g c =
    let m = c.args.self.now in
    let x = c.index_mut-lane.result.now in
    let new = c.make_events.new.lane in
    let s = state_of g.C.Instructions.program g.C.Instructions.width m in
    let is = c.index_mut-lane.ensures.value in
    let one = c.requires.one in
    let some : 0 < m.shape.elements = omega arith in
    let there = lane_there g.C.Instructions.program g.C.Instructions.width m 0 x c.requires.well some c.requires.sent c.requires.arrived is in
    let count = lane_count m.lanes.items (drop m.arrived m.sent.items) m.shape.elements c.requires.well.sound.count in
    let low : 0 < length m.lanes.items = omega arith in
    let runs = runs_at (RunsAs s.setting) m.lanes.items 0 x c.requires.well.runs low is in
    let first = is_alone s (held_of x) (c.requires.well.sound.count ∙ one) there in
    let made = c.make_events.ensures in
    let both = ran_alone s.setting x new c.make_events.result (subst (λ (t : State). IsSoundState t) first c.requires.well.sound) runs made.fixed
    made.sound made.most made.exact.0 made.exact.1 made.exact.2 made.exact.3 in
    let same = next_alone s.setting m.lanes.items m.sent.items c.make_events.new.sent.items m.arrived
    (held_of x) new c.requires.sent made.none c.requires.arrived (ap (λ (t : State). t.lanes) first) in
    let none = c.requires.arrived in
    record {
      arrived = omega arith;
      runs = subst (λ (fs : List Fixed). All (RunsAs s.setting) fs) (sym (fixed_set m.lanes.items 0 x new low is made.fixed)) c.requires.well.runs;
      sound = subst (λ (t : State). IsSoundState t) (sym same) both.0;
    }

pub returns-clause-exact : goal.returns-clause-exact
returns-clause-exact g c =
    let m = c.args.self.now in
    let x = c.index_mut-lane.result.now in
    let new = c.make_events.new.lane in
    let s = state_of g.C.Instructions.program g.C.Instructions.width m in
    let is = c.index_mut-lane.ensures.value in
    let one = c.requires.one in
    let some : 0 < m.shape.elements = omega arith in
    let there = lane_there g.C.Instructions.program g.C.Instructions.width m 0 x c.requires.well some c.requires.sent c.requires.arrived is in
    let count = lane_count m.lanes.items (drop m.arrived m.sent.items) m.shape.elements c.requires.well.sound.count in
    let low : 0 < length m.lanes.items = omega arith in
    let runs = runs_at (RunsAs s.setting) m.lanes.items 0 x c.requires.well.runs low is in
    let first = is_alone s (held_of x) (c.requires.well.sound.count ∙ one) there in
    let made = c.make_events.ensures in
    let both = ran_alone s.setting x new c.make_events.result (subst (λ (t : State). IsSoundState t) first c.requires.well.sound) runs made.fixed
    made.sound made.most made.exact.0 made.exact.1 made.exact.2 made.exact.3 in
    let same = next_alone s.setting m.lanes.items m.sent.items c.make_events.new.sent.items m.arrived
    (held_of x) new c.requires.sent made.none c.requires.arrived (ap (λ (t : State). t.lanes) first) in
    let all = both.1 in (
      all.0,
      all.1,
      subst (λ (t : State). LeadsTo 1 t all.0 all.1) (sym first) all.2,
      all.3,
      subst (λ (t : State). Steps all.1 0 0 c.make_events.result t all.3) (sym same) all.4,
    )
