use Rattle.std.proofs.Common.{◌∙◌, ◌<◌, ◌≤◌, length, arith}
use Rattle.std.proofs.lemmas.List.{length-set}
use Rattle.rounds.specs.Rounds.{lane_held, lane_fixed, halt_in}
use Rattle.rounds.proofs.Changes.{map_kept, flat_kept, flat_moved, flat_taken, flat_all}
use Rattle.rounds.proofs.gathering.gather_tokens.Goals as goal

pub returns-in_err-take_tokens-clause-lanes : goal.returns-in_err-take_tokens-clause-lanes
returns-in_err-take_tokens-clause-lanes g c =
    let ts = c.loop-at.turners in
    let at = c.loop-at.at in
    let old = c.index-turners-at.result in
    let new = c.take_tokens.new.turner in
    let e = c.take_tokens.ensures in
    let inv = c.loop-at.invariant in
    let low : at < length ts = (let t = c.loop-at-test.true in let a = c.loop-at.auto.at-end in let n = inv.count in omega arith) in
    map_kept (λ t. lane_held t) ts at old new low e.held ∙ inv.lanes

pub returns-in_err-take_tokens-clause-fixed : goal.returns-in_err-take_tokens-clause-fixed
returns-in_err-take_tokens-clause-fixed g c =
    let ts = c.loop-at.turners in
    let at = c.loop-at.at in
    let old = c.index-turners-at.result in
    let new = c.take_tokens.new.turner in
    let e = c.take_tokens.ensures in
    let inv = c.loop-at.invariant in
    let low : at < length ts = (let t = c.loop-at-test.true in let a = c.loop-at.auto.at-end in let n = inv.count in omega arith) in
    map_kept (λ t. lane_fixed t) ts at old new low e.fixed ∙ inv.fixed

pub returns-in_err-take_tokens-clause-events : goal.returns-in_err-take_tokens-clause-events
returns-in_err-take_tokens-clause-events g c =
    let ts = c.loop-at.turners in
    let at = c.loop-at.at in
    let old = c.index-turners-at.result in
    let new = c.take_tokens.new.turner in
    let e = c.take_tokens.ensures in
    let inv = c.loop-at.invariant in
    let low : at < length ts = (let t = c.loop-at-test.true in let a = c.loop-at.auto.at-end in let n = inv.count in omega arith) in
    flat_kept (λ t. t.log.events.items) ts at old new low e.events ∙ inv.noted

pub returns-in_err-take_tokens-clause-halts : goal.returns-in_err-take_tokens-clause-halts
returns-in_err-take_tokens-clause-halts g c =
    let ts = c.loop-at.turners in
    let at = c.loop-at.at in
    let old = c.index-turners-at.result in
    let new = c.take_tokens.new.turner in
    let e = c.take_tokens.ensures in
    let inv = c.loop-at.invariant in
    let low : at < length ts = (let t = c.loop-at-test.true in let a = c.loop-at.auto.at-end in let n = inv.count in omega arith) in
    map_kept (λ t. halt_in t) ts at old new low e.halt ∙ inv.halts

pub returns-in_err-take_tokens-clause-tokens : goal.returns-in_err-take_tokens-clause-tokens
returns-in_err-take_tokens-clause-tokens g c =
    let ts = c.loop-at.turners in
    let at = c.loop-at.at in
    let old = c.index-turners-at.result in
    let new = c.take_tokens.new.turner in
    let e = c.take_tokens.ensures in
    let inv = c.loop-at.invariant in
    let low : at < length ts = (let t = c.loop-at-test.true in let a = c.loop-at.auto.at-end in let n = inv.count in omega arith) in
    flat_moved (λ t. t.sent.items) ts at old new c.loop-at.tokens.items c.take_tokens.new.tokens.items low inv.cleared e.tokens ∙ inv.tokens

pub loop-at-preserved : goal.loop-at-preserved
loop-at-preserved g c =
    let ts = c.loop-at.turners in
    let at = c.loop-at.at in
    let old = c.index-turners-at.result in
    let new = c.take_tokens.new.turner in
    let e = c.in_ok-take_tokens.ensures in
    let inv = c.loop-at.invariant in
    let low : at < length ts = (let t = c.loop-at-test.true in let a = c.loop-at.auto.at-end in let n = inv.count in omega arith) in
    record {
      fixed = map_kept (λ t. lane_fixed t) ts at old new low e.fixed ∙ inv.fixed;
      lanes = map_kept (λ t. lane_held t) ts at old new low e.held ∙ inv.lanes;
      noted = flat_kept (λ t. t.log.events.items) ts at old new low e.events ∙ inv.noted;
      halts = map_kept (λ t. halt_in t) ts at old new low e.halt ∙ inv.halts;
      tokens = flat_moved (λ t. t.sent.items) ts at old new c.loop-at.tokens.items c.take_tokens.new.tokens.items low inv.cleared e.tokens ∙ inv.tokens;
      cleared = flat_taken (λ t. t.sent.items) ts at new low inv.cleared e.cleared;
      count = length-set ts at new ∙ inv.count;
    }

pub returns-clause-cleared : goal.returns-clause-cleared
returns-clause-cleared g c =
    let past : length c.loop-at.turners ≤ c.loop-at.at = (let t = c.loop-at-test.false in let a = c.loop-at.auto.at-end
    in let n = c.loop-at.invariant.count in omega arith) in
    flat_all (λ t. t.sent.items) c.loop-at.turners c.loop-at.at past c.loop-at.invariant.cleared
