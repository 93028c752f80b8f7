use Rattle.std.proofs.Common.{◌≡◌, refl, sym, ◌∙◌, ap, subst, ℕ, ◌+◌, ◌<◌, ◌≤◌, [], ◌++◌, length, arith}
use Rattle.schedule.specs.Setting.{Setting}
use Rattle.schedule.specs.State.{state_of}
use Rattle.schedule.specs.Runs.{steps_over}
use Rattle.schedule.specs.Turns.{AreInTurn}
use Rattle.schedule.proofs.OneByDepth.{leads_both, lone_goes, quiet_log, log_quiet}
use Rattle.schedule.proofs.Turning.{leads_none, leads_turn, leads_last, leads_pass, goes, turn_setting}
use Rattle.schedule.proofs.elements.Elements.play_alone_by_depth.Goals as goal

pub turns-init : goal.turns-init
turns-init g c = record {
  well = c.requires.well;
  elements = c.requires.one;
  played = ([], leads_none 1 (state_of g.C.Instructions.program g.C.Instructions.width c.args.self.now));
  log = refl;
}

pub returns-in-Some-clause-exact : goal.returns-in-Some-clause-exact
returns-in-Some-clause-exact g c =
    let inv = c.turns.invariant in
    let s0 = state_of g.C.Instructions.program g.C.Instructions.width c.args.self.now in
    let s = state_of g.C.Instructions.program g.C.Instructions.width c.turns.self in
    let new = state_of g.C.Instructions.program g.C.Instructions.width c.take_turns.new.self in
    let x = c.in-Some.ensures.exact in
    let leads = leads_both 1 s0 s x.1 inv.played.0 x.0 inv.played.1 x.2 in
    let all = leads_last 1 0 s0 x.1 new (inv.played.0 ++ x.0) x.6 x.5 c.in-Some.halt (omega arith) leads x.7 in
    let one = c.requires.one in (
      all.0,
      (inv.played.0 ++ x.0) ++ x.6,
      subst (λ (n : ℕ). AreInTurn n 0 all.0) (sym one) all.1,
      all.2,
      log_quiet g.L.Log.KEEPS_EVENTS c.args.log.now.events.items ((inv.played.0 ++ x.0) ++ x.6) c.take_turns.new.log.events.items c.requires.quiet
          (quiet_log g.L.Log.KEEPS_EVENTS c.turns.log.events.items x.6 c.take_turns.new.log.events.items c.requires.quiet x.8 ∙ inv.log),
    )

pub turns-preserved : goal.turns-preserved
turns-preserved g c =
    let inv = c.turns.invariant in
    let s0 = state_of g.C.Instructions.program g.C.Instructions.width c.args.self.now in
    let s = state_of g.C.Instructions.program g.C.Instructions.width c.turns.self in
    let new = state_of g.C.Instructions.program g.C.Instructions.width c.take_turns.new.self in
    let x = c.in-None.ensures.exact in
    let leads = leads_both 1 s0 s x.1 inv.played.0 x.0 inv.played.1 x.2 in
    let all = leads_turn 1 0 s0 x.1 new (inv.played.0 ++ x.0) x.6 x.5 (omega arith) leads x.7 in
    record {
      well = c.in-None.ensures.well;
      elements = ap (λ (z : Setting). z.elements) (turn_setting x.1 new 0 x.5 x.6 _ x.7 ∙ x.4) ∙ inv.elements;
      played = ((inv.played.0 ++ x.0) ++ x.6, leads_pass 1 (0 + 1) s0 new ((inv.played.0 ++ x.0) ++ x.6) refl (omega arith) all);
      log = quiet_log g.L.Log.KEEPS_EVENTS c.turns.log.events.items x.6 c.take_turns.new.log.events.items c.requires.quiet x.8 ∙ inv.log;
    }

pub turns-smaller : goal.turns-smaller
turns-smaller g c =
    let inv = c.turns.invariant in
    let s = state_of g.C.Instructions.program g.C.Instructions.width c.turns.self in
    let new = state_of g.C.Instructions.program g.C.Instructions.width c.take_turns.new.self in
    let x = c.in-None.ensures.exact in
    let elements = ap (λ (z : Setting). z.elements) (turn_setting x.1 new 0 x.5 x.6 _ x.7 ∙ x.4) ∙ inv.elements in
    let count : length new.lanes ≡ 1 = c.in-None.ensures.well.sound.count ∙ elements in
    let less : steps_over new < steps_over x.1 = lone_goes x.1 new count (goes x.1 new 0 x.5 x.6 x.7) in
    let fewer : steps_over x.1 ≤ steps_over s = x.3 in
    omega arith
