use Rattle.std.proofs.Common.{◌≡◌, refl, sym, ◌∙◌, ap, subst, false, ◌+◌, ◌-◌, ◌<◌, ◌++◌, ◌∷◌, List, [], inl, inr, length, Some, arith, length-append}
use Rattle.tags.specs.declared.token.Token.{Token}
use Rattle.element.specs.Holding.{Holding, Fixed}
use Rattle.element.specs.Requests.{held_back}
use Rattle.schedule.proofs.Playing.{logged_none}
use Rattle.rounds.specs.ByDepth.{AreFew, MayGrant}
use Rattle.rounds.proofs.Turning.{noted_more}
use Rattle.rounds.proofs.Taking.{take_more, take_same, halts_start, halts_weaker}
use Rattle.rounds.proofs.by_depth.grant_all.Goals as goal

pub grants-init : goal.grants-init
grants-init g c = record {
  sound = λ s. s;
  fixed = refl;
  turns = ([], (refl, refl), logged_none g.L.Log.KEEPS_EVENTS c.args.log.now.events.items, refl);
  made = omega arith;
}

pub grants-preserved : goal.grants-preserved
grants-preserved g c =
    let inv = c.grants.invariant in
    let so_far = inv.turns in
    let start = c.args.lane.now in
    let old = c.grants.lane in
    let next = c.grant.new.lane in
    let did = c.in-Ok.ensures.did in
    let does = did.2 in
    let from = c.from.ensures in
    let count = so_far.3 in
    let place : c.args.ordinary + c.from.result ≡ c.args.ordinary + (0 + length so_far.0) = omega arith in
    let few = subst (λ n. AreFew n old.held) place (c.are_few.ensures.yes c.if-not-are_few.false) in
    let fixed = c.grant.ensures.fixed ∙ inv.fixed in
    record {
      sound = λ _. c.in-Ok.ensures.sound;
      fixed = fixed;
      turns = (
        so_far.0 ++ does.token ∷ [],
        take_more (MayGrant c.args.ordinary) start old next c.args.sent.now.items so_far.0 c.grants.sent.items c.grant.new.sent.items did.0 inv.fixed
            c.grant.ensures.fixed c.in-Ok.ensures.sound c.in-Ok.ensures.few (did.1, few) does so_far.1,
        noted_more g.L.Log.KEEPS_EVENTS c.args.log.now.events.items c.grants.log.events.items c.grants.log.events.items c.grant.new.log.events.items
            old.held.part.shape.element start.held.part.shape.element so_far.0 does.token does.token so_far.2 refl did.3
            (ap (λ (f : Fixed). f.shape.element) inv.fixed) refl,
        (let l = length-append so_far.0 (does.token ∷ []) in omega arith),
      );
      made = (let m = inv.made in let d = does.count in omega arith);
    }

pub returns-then-held-eq0-clause-none : goal.returns-then-held-eq0-clause-none
returns-then-held-eq0-clause-none g c = inl (inl (ap (λ (q : List Token). held_back q) (sym c.queue.ensures) ∙ sym c.requests_before-held.ensures.exact
    ∙ c.if-held-eq0.true))

pub returns-then-not-are_few-clause-none : goal.returns-then-not-are_few-clause-none
returns-then-not-are_few-clause-none g c =
    let from = c.from.ensures in
    let place : c.args.ordinary + c.from.result ≡ c.args.ordinary + c.grants.granted = omega arith in
    inl (inr (λ few. c.are_few.ensures.no c.if-not-are_few.true (subst (λ n. AreFew n c.grants.lane.held) (sym place) few)))

pub returns-in-Err-clause-turns : goal.returns-in-Err-clause-turns
returns-in-Err-clause-turns g c =
    let inv = c.grants.invariant in
    let so_far = inv.turns in
    let start = c.args.lane.now in (
      so_far.0,
      take_same (MayGrant c.args.ordinary) start.program start.steps start.held c.grants.lane.held c.grant.new.lane.held c.args.sent.now.items so_far.0
          c.grants.sent.items c.grant.new.sent.items c.in-Err.ensures.stays so_far.1,
      c.in-Err.ensures.unnoted ∙ so_far.2,
    )

pub returns-in-Err-clause-fewer : goal.returns-in-Err-clause-fewer
returns-in-Err-clause-fewer g c =
    let inv = c.grants.invariant in
    let made = inv.made in
    let low = c.grants-test.true in
    let same = ap (λ (h : Holding). h.made) c.in-Err.ensures.stays.held in
    omega arith

pub returns-in-Err-clause-halts : goal.returns-in-Err-clause-halts
returns-in-Err-clause-halts g c =
    let inv = c.grants.invariant in
    let start = c.args.lane.now in
    let old = c.grants.lane.held in
    let next = c.grant.new.lane.held in
    let stays = c.in-Err.ensures.stays.held in
    let same = ap (λ (h : Holding). h.made) stays in
    let made = inv.made in
    let from = c.from.ensures in
    let place : c.args.ordinary + c.from.result ≡ c.args.ordinary + (next.made - start.held.made) = omega arith in
    let few = subst (λ n. AreFew n old) place (c.are_few.ensures.yes c.if-not-are_few.false) in
    let few_now = subst (λ (h : Holding). AreFew (c.args.ordinary + (next.made - start.held.made)) h) (sym stays) few in
    let may = MayGrant c.args.ordinary (next.made - start.held.made) in
    halts_start may start c.grants.lane next (Some c.in-Err.halt) inv.fixed
    (halts_weaker (λ h pick. pick < held_back h.queue) may c.grants.lane.program c.grants.lane.steps false next (Some c.in-Err.halt)
    (λ pick low. (low, few_now)) c.in-Err.ensures.halts)
