use Rattle.std.proofs.Common.{◌≡◌, refl, ◌∙◌, sym, ap, subst, false, ℕ, suc, ◌+◌, ◌-◌, ◌<◌, [], ◌++◌, arith, append_assoc}
use Rattle.semantics.specs.Machine.{Events}
use Rattle.schedule.specs.Setting.{Setting}
use Rattle.schedule.specs.State.{state_of}
use Rattle.schedule.specs.Runs.{Plays, in_turn, rounds_of}
use Rattle.schedule.proofs.Playing.{logged_more, logged_none, setting_stays, turn_last, turn_on, turn_done}
use Rattle.schedule.proofs.elements.Elements.play_listed.Goals as goal

pub events-init : goal.events-init
events-init g c = record {
  well = c.requires.well;
  elements = refl;
  played = ([], (λ rounds last halt later p. (rounds, p)), logged_none g.L.Log.KEEPS_EVENTS c.args.log.now.events.items);
}

pub returns-in-Some-clause-exact : goal.returns-in-Some-clause-exact
returns-in-Some-clause-exact g c =
    let played = c.events.invariant.played in
    let n = c.args.self.now.shape.elements in
    let s = state_of g.C.Instructions.program g.C.Instructions.width c.events.self in
    let next = state_of g.C.Instructions.program g.C.Instructions.width c.advance.new.self in
    let x = c.in-Some.ensures.exact in
    let one = c.requires.one in
    let low : 0 < n = omega arith in
    let whole : n - 0 ≡ n = omega arith in
    let all = played.1 1 next c.in-Some.halt x.0 (subst
    (λ (m : ℕ). Plays false (in_turn 0 m ++ rounds_of 0 n) s next c.in-Some.halt x.0) whole (turn_last s next 0 n x.0 c.in-Some.halt low x.1)) in (
      all.0,
      played.0 ++ x.0,
      all.1,
      logged_more g.L.Log.KEEPS_EVENTS c.args.log.now.events.items c.events.log.events.items
          c.advance.new.log.events.items played.0 x.0 played.2 x.2,
    )

pub events-preserved : goal.events-preserved
events-preserved g c =
    let played = c.events.invariant.played in
    let n = c.args.self.now.shape.elements in
    let s0 = state_of g.C.Instructions.program g.C.Instructions.width c.args.self.now in
    let s = state_of g.C.Instructions.program g.C.Instructions.width c.events.self in
    let next = state_of g.C.Instructions.program g.C.Instructions.width c.advance.new.self in
    let x = c.in-None.ensures.exact in
    let one = c.requires.one in
    let low : 0 < n = omega arith in
    let whole : n - 0 ≡ n = omega arith in
    record {
      well = c.in-None.ensures.well;
      elements = ap (λ (z : Setting). z.elements) (setting_stays s next _ _ x.1.answer x.0 x.1.step) ∙ c.events.invariant.elements;
      played = (
        played.0 ++ x.0,
        (λ rounds last halt later rest.
            let on = turn_on s next last 0 n rounds x.0 later halt low x.1 (turn_done next last (0 + 1) n rounds later halt (omega arith) rest) in
            let all = played.1 (suc rounds) last halt (x.0 ++ later) (subst
            (λ (m : ℕ). Plays false (in_turn 0 m ++ rounds_of rounds n) s last halt (x.0 ++ later)) whole on) in
            (all.0, subst (λ (l : Events). Plays false (rounds_of all.0 n) s0 last halt l) (sym (append_assoc played.0 x.0 later)) all.1)),
        logged_more g.L.Log.KEEPS_EVENTS c.args.log.now.events.items c.events.log.events.items c.advance.new.log.events.items played.0 x.0 played.2 x.2,
      );
    }

pub returns-clause-exact : goal.returns-clause-exact
returns-clause-exact g c =
    let played = c.events.invariant.played in
    let n = c.args.self.now.shape.elements in
    let rest = c.play_passes.ensures.exact in
    let last = state_of g.C.Instructions.program g.C.Instructions.width c.play_passes.new.self in
    let s = state_of g.C.Instructions.program g.C.Instructions.width c.events.self in
    let plays = subst (λ (m : ℕ). Plays false (rounds_of rest.0 m) s last c.play_passes.result rest.1) c.events.invariant.elements rest.2 in
    let all = played.1 rest.0 last c.play_passes.result rest.1 plays in (
      all.0,
      played.0 ++ rest.1,
      all.1,
      logged_more g.L.Log.KEEPS_EVENTS c.args.log.now.events.items c.events.log.events.items
          c.play_passes.new.log.events.items played.0 rest.1 played.2 rest.3,
    )
