use Rattle.std.proofs.Common.{refl, sym, ◌∙◌, ap, subst, ◌<◌, ◌≤◌, [], List, length, drop, Option, Some, arith}
use Rattle.std.specs.Prelude.{All, slice_set}
use Rattle.semantics.specs.Program.{Program}
use Rattle.tags.specs.declared.token.Token.{Token}
use Rattle.element.specs.declared.lane.Stepped.{Stepped}
use Rattle.element.specs.Holding.{Holding, Fixed, held_of, IsSoundLane}
use Rattle.element.specs.Steps as one
use Rattle.schedule.specs.State.{State, RunsAs, IsSoundState, lanes_of, state_of}
use Rattle.schedule.specs.Steps.{Steps, events_of}
use Rattle.schedule.proofs.Memory.{lane_count, lane_there, state_next}
use Rattle.schedule.proofs.Staying.{runs_at, fixed_set, stays_so}
use Rattle.schedule.proofs.Playing.{logged_none}
use Rattle.schedule.proofs.Stepping.{answered, is_idle, is_used_up}
use Rattle.schedule.proofs.elements.Elements.step_lane.Goals as goal

pub returns-in_default-clause-exact : goal.returns-in_default-clause-exact
returns-in_default-clause-exact g c =
    let m = c.args.self.now in
    let x = c.index_mut-lane.result.now in
    let s = state_of g.C.Instructions.program g.C.Instructions.width m in
    let there = lane_there g.C.Instructions.program g.C.Instructions.width m c.args.element x c.requires.well c.requires.element c.requires.sent
    c.requires.arrived c.index_mut-lane.ensures.value in
    let same = stays_so s.setting m.lanes.items m.sent.items m.sent.items m.arrived c.args.element x x c.requires.sent c.requires.arrived there refl refl in
    ([], is_idle s _ c.args.element c.args.pick (held_of x) same there c.in_default.ensures.none, logged_none g.L.Log.KEEPS_EVENTS c.args.log.now.events.items)

pub returns-in_err-stepped-clause-well : goal.returns-in_err-stepped-clause-well
returns-in_err-stepped-clause-well g c =
    let m = c.args.self.now in
    let x = c.index_mut-lane.result.now in
    let s = state_of g.C.Instructions.program g.C.Instructions.width m in
    let there = lane_there g.C.Instructions.program g.C.Instructions.width m c.args.element x c.requires.well c.requires.element c.requires.sent
    c.requires.arrived c.index_mut-lane.ensures.value in
    let stays = c.in_err-stepped.ensures.spent.2 in
    let same = stays_so s.setting m.lanes.items m.sent.items c.step.new.sent.items m.arrived c.args.element x c.step.new.self c.requires.sent
    c.requires.arrived there stays.held stays.sent in
    let count = lane_count m.lanes.items _ m.shape.elements c.requires.well.sound.count in
    let low : c.args.element < length m.lanes.items = (let l = c.requires.element in omega arith) in
    let first = c.requires.arrived in
    record {
      arrived = omega arith;
      runs = subst (λ (fs : List Fixed). All (RunsAs s.setting) fs)
          (sym (fixed_set m.lanes.items c.args.element x c.step.new.self low c.index_mut-lane.ensures.value c.step.ensures.fixed)) c.requires.well.runs;
      sound = subst (λ (t : State). IsSoundState t) (sym same) c.requires.well.sound;
    }

pub returns-in_err-stepped-clause-exact : goal.returns-in_err-stepped-clause-exact
returns-in_err-stepped-clause-exact g c =
    let m = c.args.self.now in
    let e = c.args.element in
    let x = c.index_mut-lane.result.now in
    let s = state_of g.C.Instructions.program g.C.Instructions.width m in
    let there = lane_there g.C.Instructions.program g.C.Instructions.width m e x c.requires.well c.requires.element c.requires.sent c.requires.arrived
    c.index_mut-lane.ensures.value in
    let spent = c.in_err-stepped.ensures.spent in
    let same = stays_so s.setting m.lanes.items m.sent.items c.step.new.sent.items m.arrived e x c.step.new.self c.requires.sent c.requires.arrived
    there spent.2.held spent.2.sent in
    let count = lane_count m.lanes.items _ m.shape.elements c.requires.well.sound.count in
    let low : e < length m.lanes.items = (let l = c.requires.element in omega arith) in
    let runs = runs_at (RunsAs s.setting) m.lanes.items e x c.requires.well.runs low c.index_mut-lane.ensures.value in
    let next : State = record { setting = s.setting; lanes = lanes_of (slice_set m.lanes.items e c.step.new.self) (drop m.arrived c.step.new.sent.items) } in (
      [],
      subst (λ (r : Option Stepped). Steps s e c.args.pick r next []) (sym c.from_residual.ensures) (is_used_up s next e c.args.pick (held_of x) same
          there spent.1 (spent.0 ∙ runs.steps)),
      logged_none g.L.Log.KEEPS_EVENTS c.args.log.now.events.items,
    )

pub returns-clause-well : goal.returns-clause-well
returns-clause-well g c =
    let m = c.args.self.now in
    let e = c.args.element in
    let x = c.index_mut-lane.result.now in
    let new = c.step.new.self in
    let s = state_of g.C.Instructions.program g.C.Instructions.width m in
    let there = lane_there g.C.Instructions.program g.C.Instructions.width m e x c.requires.well c.requires.element c.requires.sent c.requires.arrived
    c.index_mut-lane.ensures.value in
    let count = lane_count m.lanes.items _ m.shape.elements c.requires.well.sound.count in
    let low : e < length m.lanes.items = (let l = c.requires.element in omega arith) in
    let runs = runs_at (RunsAs s.setting) m.lanes.items e x c.requires.well.runs low c.index_mut-lane.ensures.value in
    let program = ap (λ (f : Fixed). f.program) c.step.ensures.fixed ∙ runs.program in
    let steps = ap (λ (f : Fixed). f.steps) c.step.ensures.fixed ∙ runs.steps in
    let some = c.in-Some.ensures.some.some in
    let allowed = c.in_ok-stepped.ensures.allowed some in
    let is = runs.steps in
    let few : x.held.made < m.shape.steps = omega arith in
    let within = c.step.ensures.most in
    let most : new.held.made ≤ m.shape.steps = omega arith in
    let exact = subst (λ (p : Program). one.Steps p x.held c.args.pick m.sent.items c.in_ok-stepped.stepped new.held c.step.new.sent.items)
    runs.program c.in_ok-stepped.ensures.exact in
    let both = answered s e c.args.pick (held_of x) (held_of new) c.in-Some.token c.step.new.sent.items c.in_ok-stepped.stepped c.requires.well.sound
    there some few c.in-Some.ensures.some
    (subst (λ (ts : List Token). one.Steps s.setting.program x.held c.args.pick ts c.in_ok-stepped.stepped new.held c.step.new.sent.items)
    c.requires.sent exact) (subst (λ (p : Program). IsSoundLane p new.held) program c.step.ensures.sound) most in
    let first = c.requires.arrived in
    record {
      arrived = omega arith;
      runs = subst (λ (fs : List Fixed). All (RunsAs s.setting) fs)
          (sym (fixed_set m.lanes.items e x new low c.index_mut-lane.ensures.value c.step.ensures.fixed)) c.requires.well.runs;
      sound = subst (λ (l : List Holding). IsSoundState (record { setting = s.setting; lanes = l }))
          (state_next m.lanes.items m.sent.items c.step.new.sent.items m.arrived e new c.requires.sent first) both.0;
    }

pub returns-clause-exact : goal.returns-clause-exact
returns-clause-exact g c =
    let m = c.args.self.now in
    let e = c.args.element in
    let x = c.index_mut-lane.result.now in
    let new = c.step.new.self in
    let s = state_of g.C.Instructions.program g.C.Instructions.width m in
    let there = lane_there g.C.Instructions.program g.C.Instructions.width m e x c.requires.well c.requires.element c.requires.sent c.requires.arrived
    c.index_mut-lane.ensures.value in
    let count = lane_count m.lanes.items _ m.shape.elements c.requires.well.sound.count in
    let low : e < length m.lanes.items = (let l = c.requires.element in omega arith) in
    let runs = runs_at (RunsAs s.setting) m.lanes.items e x c.requires.well.runs low c.index_mut-lane.ensures.value in
    let program = ap (λ (f : Fixed). f.program) c.step.ensures.fixed ∙ runs.program in
    let steps = ap (λ (f : Fixed). f.steps) c.step.ensures.fixed ∙ runs.steps in
    let some = c.in-Some.ensures.some.some in
    let allowed = c.in_ok-stepped.ensures.allowed some in
    let is = runs.steps in
    let few : x.held.made < m.shape.steps = omega arith in
    let within = c.step.ensures.most in
    let most : new.held.made ≤ m.shape.steps = omega arith in
    let exact = subst (λ (p : Program). one.Steps p x.held c.args.pick m.sent.items c.in_ok-stepped.stepped new.held c.step.new.sent.items)
    runs.program c.in_ok-stepped.ensures.exact in
    let events = events_of c.in_ok-stepped.stepped e c.in-Some.token in
    let both = answered s e c.args.pick (held_of x) (held_of new) c.in-Some.token c.step.new.sent.items c.in_ok-stepped.stepped c.requires.well.sound
    there some few c.in-Some.ensures.some
    (subst (λ (ts : List Token). one.Steps s.setting.program x.held c.args.pick ts c.in_ok-stepped.stepped new.held c.step.new.sent.items)
    c.requires.sent exact) (subst (λ (p : Program). IsSoundLane p new.held) program c.step.ensures.sound) most in (
      events,
      subst (λ (l : List Holding). Steps s e c.args.pick (Some c.in_ok-stepped.stepped) (record { setting = s.setting; lanes = l }) events)
          (state_next m.lanes.items m.sent.items c.step.new.sent.items m.arrived e new c.requires.sent c.requires.arrived) both.1,
      c.note_step.ensures,
    )
