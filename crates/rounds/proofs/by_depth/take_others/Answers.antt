use Rattle.std.proofs.Common.{◌≡◌, refl, sym, ◌∙◌, ap, subst, false, ℕ, ◌+◌, ◌<◌, ◌++◌, ◌∷◌, List, [], length, Some, arith, length-append}
use Rattle.tags.specs.declared.token.Token.{Token}
use Rattle.element.specs.Holding.{Holding, Fixed}
use Rattle.element.specs.Requests.{held_back}
use Rattle.schedule.proofs.Playing.{logged_none}
use Rattle.rounds.specs.ByDepth.{MayTake}
use Rattle.rounds.proofs.Turning.{noted_more}
use Rattle.rounds.proofs.Taking.{take_more, take_same, held_after, halts_start, halts_weaker, whole_halting}
use Rattle.rounds.proofs.by_depth.take_others.Goals as goal

pub others-init : goal.others-init
others-init g c = record {
  sound = λ s. s;
  fixed = refl;
  held = omega arith;
  turns = ([], (refl, refl), logged_none g.L.Log.KEEPS_EVENTS c.args.log.now.events.items, refl);
  made = omega arith;
}

pub others-preserved : goal.others-preserved
others-preserved g c =
    let inv = c.others.invariant in
    let so_far = inv.turns in
    let start = c.args.lane.now in
    let old = c.others.lane in
    let next = c.take.new.lane in
    let did = c.in-Ok.ensures.did in
    let does = did.0 in
    let queue = c.queue.ensures in
    let held : c.requests_before-requests.result ≡ held_back old.held.queue = c.requests_before-requests.ensures.exact ∙ ap (λ (q : List Token). held_back q) queue in
    let all : length c.queue.result.now.items ≡ length old.held.queue = ap (λ (q : List Token). length q) queue in
    let within = c.requests_before-requests.ensures.within in
    let other = c.if-requests-len.false in
    let long : c.len.result ≡ length old.held.queue = c.len.ensures ∙ ap (λ (q : List Token). length q) c.queue-in-others.ensures in
    let low : c.requests_before-requests.result < length old.held.queue = omega arith in
    let other_held : held_back old.held.queue < length old.held.queue = omega (arith, held, low) in
    record {
      sound = λ _. c.in-Ok.ensures.sound;
      fixed = c.take.ensures.fixed ∙ inv.fixed;
      held = held_after old.program old.held next.held c.others.sent.items c.take.new.sent.items c.requests_before-requests.result held low does;
      turns = (
        so_far.0 ++ does.token ∷ [],
        take_more MayTake start old next c.args.sent.now.items so_far.0 c.others.sent.items c.take.new.sent.items c.requests_before-requests.result inv.fixed
            c.take.ensures.fixed c.in-Ok.ensures.sound c.in-Ok.ensures.few (held, other_held) does so_far.1,
        noted_more g.L.Log.KEEPS_EVENTS c.args.log.now.events.items c.others.log.events.items c.others.log.events.items c.take.new.log.events.items
            old.held.part.shape.element start.held.part.shape.element so_far.0 does.token does.token so_far.2 refl did.1
            (ap (λ (f : Fixed). f.shape.element) inv.fixed) refl,
        (let l = length-append so_far.0 (does.token ∷ []) in let n = so_far.3 in omega arith),
      );
      made = (let m = inv.made in let d = does.count in omega arith);
    }

pub returns-in-Err-clause-turns : goal.returns-in-Err-clause-turns
returns-in-Err-clause-turns g c =
    let inv = c.others.invariant in
    let so_far = inv.turns in
    let start = c.args.lane.now in
    let low = c.others-test.true in
    let long = so_far.3 in (
      so_far.0,
      take_same MayTake start.program start.steps start.held c.others.lane.held c.take.new.lane.held c.args.sent.now.items so_far.0
          c.others.sent.items c.take.new.sent.items c.in-Err.ensures.stays so_far.1,
      c.in-Err.ensures.unnoted ∙ so_far.2,
      omega arith,
    )

pub returns-in-Err-clause-whole : goal.returns-in-Err-clause-whole
returns-in-Err-clause-whole g c =
    let inv = c.others.invariant in
    let made = inv.made in
    let low = c.others-test.true in
    let same = ap (λ (h : Holding). h.made) c.in-Err.ensures.stays.held in
    let start = c.args.lane.now in
    let halts = c.in-Err.ensures.halts in
    whole_halting (λ h pick. pick ≡ c.requests_before-requests.result) c.others.lane.program c.others.lane.steps c.args.turn start.held c.take.new.lane.held c.in-Err.halt halts (omega arith)

pub returns-in-Err-clause-halts : goal.returns-in-Err-clause-halts
returns-in-Err-clause-halts g c =
    let old = c.others.lane in
    let next = c.take.new.lane.held in
    let at = c.requests_before-requests.result in
    let queue = c.queue.ensures in
    let held : at ≡ held_back old.held.queue = c.requests_before-requests.ensures.exact ∙ ap (λ (q : List Token). held_back q) queue in
    let all : length c.queue.result.now.items ≡ length old.held.queue = ap (λ (q : List Token). length q) queue in
    let within = c.requests_before-requests.ensures.within in
    let other = c.if-requests-len.false in
    let long : c.len.result ≡ length old.held.queue = c.len.ensures ∙ ap (λ (q : List Token). length q) c.queue-in-others.ensures in
    let low : at < length old.held.queue = omega arith in
    let other_held : held_back old.held.queue < length old.held.queue = omega (arith, held, low) in
    let may : MayTake 0 next at = subst (λ (h : Holding). MayTake 0 h at) (sym c.in-Err.ensures.stays.held) (held, other_held) in
    halts_start (MayTake 0) c.args.lane.now old next (Some c.in-Err.halt) c.others.invariant.fixed
    (halts_weaker (λ h pick. pick ≡ at) (MayTake 0) old.program old.steps false next (Some c.in-Err.halt)
    (λ pick is. subst (λ (n : ℕ). MayTake 0 next n) (sym is) may) c.in-Err.ensures.halts)
