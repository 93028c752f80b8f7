use Rattle.std.proofs.Common.{◌≡◌, refl, ◌∙◌, ap, subst, ℕ, suc, ◌+◌, ◌<◌, ◌≤◌, true, Result, Ok, Err, arith}
use Rattle.std.specs.Prelude.{OnErr, is_err}
use Rattle.element.specs.declared.lane.Stepped.{Stepped}
use Rattle.element.specs.Holding.{Fixed}
use Rattle.element.specs.Steps.{Steps}
use Rattle.element.proofs.Turns.{lane_events_more, events_grow}
use Rattle.schedule.proofs.OneLane.{one_answer, one_more}
use Rattle.schedule.proofs.alone.make_events.Goals as goal

pub events-preserved : goal.events-preserved
events-preserved g c =
    let inv = c.events.invariant in
    let start = c.args.lane.now in
    let mid = c.turn.new.self in
    let next = c.step_otherwise.new.self in
    let fixed = c.turn.ensures.fixed ∙ inv.fixed in
    let events = lane_events_more start c.events.lane mid inv.fixed inv.made c.turn.ensures.exact in
    let made = c.in-Some-Did.ensures in
    let step = subst (λ (s : Stepped). Steps mid.program mid.held 0 c.turn.new.sent.items s next.held c.step_otherwise.new.sent.items)
    c.in-Some-Did.field-0-is made.exact in
    let more = one_more start mid next c.turn.new.sent.items c.step_otherwise.new.sent.items fixed c.step_otherwise.ensures.fixed c.requires.one
    c.step_otherwise.ensures.sound c.step_otherwise.ensures.most (c.turn.ensures.none ∙ inv.none) made.allowed step in
    record {
      made = (suc events.0, (mid.held, events.1, more.1, more.2, more.3, more.4));
      none = more.0;
      fixed = c.step_otherwise.ensures.fixed ∙ fixed;
    }

pub events-smaller : goal.events-smaller
events-smaller g c =
    let inv = c.events.invariant in
    let start = c.args.lane.now in
    let old = c.events.lane in
    let mid = c.turn.new.self in
    let next = c.step_otherwise.new.self in
    let fixed = c.step_otherwise.ensures.fixed ∙ (c.turn.ensures.fixed ∙ inv.fixed) in
    let grows : old.held.made ≤ mid.held.made = events_grow old.program old.steps c.turn.ensures.exact.0 old.held mid.held c.turn.ensures.exact.1 in
    let step = subst (λ (s : Stepped). Steps mid.program mid.held 0 c.turn.new.sent.items s next.held c.step_otherwise.new.sent.items)
    c.in-Some-Did.field-0-is c.in-Some-Did.ensures.exact in
    let count : next.held.made ≡ mid.held.made + 1 = step.count in
    let steps : next.steps ≡ start.steps = ap (λ (f : Fixed). f.steps) fixed in
    let most : next.held.made ≤ next.steps = c.step_otherwise.ensures.most in
    omega arith

on_error : {T E : Type 0} (r : Result T E) (P : Type 0) → OnErr r P → is_err r ≡ true → P
on_error (Ok x) P h e = absurd (let no : ⊥ = cc in no)
on_error (Err x) P h e = h

pub returns-then-is_err-clause-exact : goal.returns-then-is_err-clause-exact
returns-then-is_err-clause-exact g c =
    let inv = c.events.invariant in
    let mid = c.turn.new.self in
    let events = lane_events_more c.args.lane.now c.events.lane mid inv.fixed inv.made c.turn.ensures.exact in
    let value = c.is_err.ensures.value in
    let true_here = c.if-is_err.true in
    let failed : is_err c.turn.result ≡ true = cc in
    let refused = on_error c.turn.result _ c.turn.ensures.refused failed in
    let steps = ap (λ (f : Fixed). f.steps) (c.turn.ensures.fixed ∙ inv.fixed) in
    (events.0, mid.held, events.1, ((λ _. subst (λ (n : ℕ). mid.held.made < n) steps refused.1), (refused.0, record { held = refl; sent = refl })))

pub returns-then-is_err-clause-none : goal.returns-then-is_err-clause-none
returns-then-is_err-clause-none g c = c.turn.ensures.none ∙ c.events.invariant.none

pub returns-in-None-clause-exact : goal.returns-in-None-clause-exact
returns-in-None-clause-exact g c =
    let inv = c.events.invariant in
    let mid = c.turn.new.self in
    let events = lane_events_more c.args.lane.now c.events.lane mid inv.fixed inv.made c.turn.ensures.exact in
    let spent = c.in-None.ensures.spent in
    let steps = ap (λ (f : Fixed). f.steps) (c.turn.ensures.fixed ∙ inv.fixed) in
    (events.0, mid.held, events.1, (spent.1, spent.0 ∙ steps, spent.2.held))

pub returns-in-None-clause-none : goal.returns-in-None-clause-none
returns-in-None-clause-none g c = c.in-None.ensures.spent.2.sent ∙ c.turn.ensures.none ∙ c.events.invariant.none

pub returns-in-Some : goal.returns-in-Some
returns-in-Some g c =
    let inv = c.events.invariant in
    let start = c.args.lane.now in
    let mid = c.turn.new.self in
    let next = c.step_otherwise.new.self in
    let fixed = c.turn.ensures.fixed ∙ inv.fixed in
    let events = lane_events_more start c.events.lane mid inv.fixed inv.made c.turn.ensures.exact in
    let made = c.in-Some.ensures in
    let answers = one_answer start mid next c.turn.new.sent.items c.step_otherwise.new.sent.items c.in-Some.other fixed c.step_otherwise.ensures.fixed
    c.requires.one c.step_otherwise.ensures.sound (c.turn.ensures.none ∙ inv.none) made.allowed made.exact in
    record {
      exact = (events.0, mid.held, events.1, answers.1);
      none = answers.0;
      sound = c.step_otherwise.ensures.sound;
      most = c.step_otherwise.ensures.most;
      fixed = c.step_otherwise.ensures.fixed ∙ fixed;
    }
