use Rattle.std.proofs.Common.{◌≡◌, refl, ◌∙◌, sym, ap, subst, false, ℕ, suc, ◌-◌, ◌<◌, [], ◌++◌, length, inr, arith, append_assoc}
use Rattle.semantics.specs.Machine.{Events}
use Rattle.schedule.specs.Setting.{Setting}
use Rattle.schedule.specs.State.{state_of}
use Rattle.schedule.specs.Runs.{Plays, in_turn, rounds_of}
use Rattle.schedule.proofs.Playing.{Passes, logged_more, logged_none, setting_stays, turn_last, turn_on, turn_done, passes_more, passes_all}
use Rattle.schedule.proofs.elements.Elements.play_passes.Goals as goal

pub passes-init : goal.passes-init
passes-init g c = record {
  well = c.requires;
  elements = refl;
  played = ([], (λ rounds last halt later p. (rounds, p)), logged_none g.L.Log.KEEPS_EVENTS c.args.log.now.events.items);
}

pub loop-element-init : goal.loop-element-init
loop-element-init g c =
    let played = c.passes.invariant.played in
    let n = c.args.self.now.shape.elements in
    let s = state_of g.C.Instructions.program g.C.Instructions.width c.passes.self in
    let whole : n - 0 ≡ n = omega arith in
    record {
      well = c.passes.invariant.well;
      elements = c.passes.invariant.elements;
      played = (
        played.0,
        (λ rounds last halt later p. played.1 (suc rounds) last halt later
            (subst (λ (m : ℕ). Plays false (in_turn 0 m ++ rounds_of rounds n) s last halt later) whole p)),
        played.2,
      );
      passes = inr (refl, (λ i h low e. absurd (omega arith)), (λ l. absurd (omega arith)));
    }

pub passes-smaller : goal.passes-smaller
passes-smaller g c =
    let first = state_of g.C.Instructions.program g.C.Instructions.width c.passes.self in
    let s = state_of g.C.Instructions.program g.C.Instructions.width c.loop-element.self in
    let count = c.loop-element.invariant.well.sound.count in
    let some = c.loop-element.invariant.well.sound.setting.some in
    let past = c.loop-element-test.false in
    let within = c.loop-element.auto.element-end in
    let a = c.loop-element.invariant.elements in
    let b = c.passes.invariant.elements in
    let all : c.loop-element.element ≡ length s.lanes = omega arith in
    passes_all first s (omega arith) (subst (λ (k : ℕ). Passes first k s) all c.loop-element.invariant.passes)

pub passes-preserved : goal.passes-preserved
passes-preserved g c =
    let played = c.loop-element.invariant.played in
    let n = c.args.self.now.shape.elements in
    let s = state_of g.C.Instructions.program g.C.Instructions.width c.loop-element.self in
    let past = c.loop-element-test.false in
    let within = c.loop-element.auto.element-end in
    let b = c.passes.invariant.elements in
    let all : c.loop-element.element ≡ n = omega arith in
    record {
      well = c.loop-element.invariant.well;
      elements = c.loop-element.invariant.elements;
      played = (
        played.0,
        (λ rounds last halt later p. played.1 rounds last halt later (turn_done s last c.loop-element.element n rounds later halt
            all p)),
        played.2,
      );
    }

pub returns-in-Some-clause-exact : goal.returns-in-Some-clause-exact
returns-in-Some-clause-exact g c =
    let played = c.loop-element.invariant.played in
    let n = c.args.self.now.shape.elements in
    let k = c.loop-element.element in
    let s = state_of g.C.Instructions.program g.C.Instructions.width c.loop-element.self in
    let next = state_of g.C.Instructions.program g.C.Instructions.width c.advance.new.self in
    let x = c.in-Some.ensures.exact in
    let low : k < n = (let l = c.loop-element-test.true in let b = c.passes.invariant.elements in omega arith) in
    let all = played.1 0 next c.in-Some.halt x.0 (turn_last s next k n x.0 c.in-Some.halt low x.1) in (
      all.0,
      played.0 ++ x.0,
      all.1,
      logged_more g.L.Log.KEEPS_EVENTS c.args.log.now.events.items c.loop-element.log.events.items
          c.advance.new.log.events.items played.0 x.0 played.2 x.2,
    )

pub loop-element-preserved : goal.loop-element-preserved
loop-element-preserved g c =
    let played = c.loop-element.invariant.played in
    let n = c.args.self.now.shape.elements in
    let k = c.loop-element.element in
    let s0 = state_of g.C.Instructions.program g.C.Instructions.width c.args.self.now in
    let first = state_of g.C.Instructions.program g.C.Instructions.width c.passes.self in
    let s = state_of g.C.Instructions.program g.C.Instructions.width c.loop-element.self in
    let next = state_of g.C.Instructions.program g.C.Instructions.width c.advance.new.self in
    let x = c.in-None.ensures.exact in
    let low : k < n = (let l = c.loop-element-test.true in let b = c.passes.invariant.elements in omega arith) in
    record {
      well = c.in-None.ensures.well;
      elements = ap (λ (z : Setting). z.elements) (setting_stays s next _ _ x.1.answer x.0 x.1.step) ∙ c.loop-element.invariant.elements;
      played = (
        played.0 ++ x.0,
        (λ rounds last halt later rest.
            let all = played.1 rounds last halt (x.0 ++ later) (turn_on s next last k n rounds x.0 later halt low x.1 rest) in
            (all.0, subst (λ (l : Events). Plays false (rounds_of all.0 n) s0 last halt l) (sym (append_assoc played.0 x.0 later)) all.1)),
        logged_more g.L.Log.KEEPS_EVENTS c.args.log.now.events.items c.loop-element.log.events.items c.advance.new.log.events.items played.0 x.0 played.2 x.2,
      );
      passes = passes_more first s next k x.0 c.loop-element.invariant.passes x.1;
    }
