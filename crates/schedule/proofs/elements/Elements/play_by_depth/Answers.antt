use Rattle.std.proofs.Common.{◌≡◌, refl, ◌∙◌, ap, ◌<◌, [], ◌++◌, length, arith}
use Rattle.schedule.specs.Setting.{Setting}
use Rattle.schedule.specs.State.{state_of}
use Rattle.schedule.proofs.Playing.{logged_more, logged_none}
use Rattle.schedule.proofs.Turning.{leads_none, leads_turn, leads_last, leads_pass, goes, passes_none, passes_turn, passes_all, turn_setting}
use Rattle.schedule.proofs.elements.Elements.play_by_depth.Goals as goal

pub passes-init : goal.passes-init
passes-init g c = record {
  well = c.requires;
  elements = refl;
  played = (
    [],
    leads_none c.args.self.now.shape.elements (state_of g.C.Instructions.program g.C.Instructions.width c.args.self.now),
    logged_none g.L.Log.KEEPS_EVENTS c.args.log.now.events.items,
  );
}

pub loop-element-init : goal.loop-element-init
loop-element-init g c = record {
  well = c.passes.invariant.well;
  elements = c.passes.invariant.elements;
  played = c.passes.invariant.played;
  passes = passes_none (state_of g.C.Instructions.program g.C.Instructions.width c.passes.self);
}

pub passes-smaller : goal.passes-smaller
passes-smaller g c =
    let first = state_of g.C.Instructions.program g.C.Instructions.width c.passes.self in
    let s = state_of g.C.Instructions.program g.C.Instructions.width c.loop-element.self in
    let count = c.loop-element.invariant.well.sound.count in
    let some = c.loop-element.invariant.well.sound.setting.some in
    let past = c.loop-element-test.false in
    let within = c.loop-element.auto.element-end in
    let a = c.loop-element.invariant.elements in
    let b = c.passes.invariant.elements in
    let all : c.loop-element.element ≡ length s.lanes = omega arith in
    passes_all first s c.loop-element.element all (omega arith) c.loop-element.invariant.passes

pub passes-preserved : goal.passes-preserved
passes-preserved g c =
    let played = c.loop-element.invariant.played in
    let n = c.args.self.now.shape.elements in
    let s0 = state_of g.C.Instructions.program g.C.Instructions.width c.args.self.now in
    let s = state_of g.C.Instructions.program g.C.Instructions.width c.loop-element.self in
    let past = c.loop-element-test.false in
    let within = c.loop-element.auto.element-end in
    let some = c.loop-element.invariant.well.sound.setting.some in
    let a = c.loop-element.invariant.elements in
    let b = c.passes.invariant.elements in
    let all : c.loop-element.element ≡ n = omega arith in
    let some_n : 0 < n = omega arith in
    record {
      well = c.loop-element.invariant.well;
      elements = c.loop-element.invariant.elements;
      played = (played.0, leads_pass n c.loop-element.element s0 s played.0 all some_n played.1, played.2);
    }

pub returns-in-Some-clause-exact : goal.returns-in-Some-clause-exact
returns-in-Some-clause-exact g c =
    let played = c.loop-element.invariant.played in
    let n = c.args.self.now.shape.elements in
    let k = c.loop-element.element in
    let s0 = state_of g.C.Instructions.program g.C.Instructions.width c.args.self.now in
    let s = state_of g.C.Instructions.program g.C.Instructions.width c.loop-element.self in
    let next = state_of g.C.Instructions.program g.C.Instructions.width c.take_turn.new.self in
    let x = c.in-Some.ensures.exact in
    let low : k < n = (let l = c.loop-element-test.true in let b = c.passes.invariant.elements in omega arith) in
    let all = leads_last n k s0 s next played.0 x.1 x.0 c.in-Some.halt low played.1 x.2 in (
      all.0,
      played.0 ++ x.1,
      all.1,
      all.2,
      logged_more g.L.Log.KEEPS_EVENTS c.args.log.now.events.items c.loop-element.log.events.items
          c.take_turn.new.log.events.items played.0 x.1 played.2 x.3,
    )

pub loop-element-preserved : goal.loop-element-preserved
loop-element-preserved g c =
    let played = c.loop-element.invariant.played in
    let n = c.args.self.now.shape.elements in
    let k = c.loop-element.element in
    let s0 = state_of g.C.Instructions.program g.C.Instructions.width c.args.self.now in
    let first = state_of g.C.Instructions.program g.C.Instructions.width c.passes.self in
    let s = state_of g.C.Instructions.program g.C.Instructions.width c.loop-element.self in
    let next = state_of g.C.Instructions.program g.C.Instructions.width c.take_turn.new.self in
    let x = c.in-None.ensures.exact in
    let low : k < n = (let l = c.loop-element-test.true in let b = c.passes.invariant.elements in omega arith) in
    record {
      well = c.in-None.ensures.well;
      elements = ap (λ (z : Setting). z.elements) (turn_setting s next k x.0 x.1 _ x.2) ∙ c.loop-element.invariant.elements;
      played = (
        played.0 ++ x.1,
        leads_turn n k s0 s next played.0 x.1 x.0 low played.1 x.2,
        logged_more g.L.Log.KEEPS_EVENTS c.args.log.now.events.items c.loop-element.log.events.items c.take_turn.new.log.events.items played.0 x.1 played.2 x.3,
      );
      passes = passes_turn first s next k c.loop-element.invariant.passes (goes s next k x.0 x.1 x.2);
    }
