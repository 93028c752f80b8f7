use Rattle.std.proofs.Common.{◌≡◌, sym, ◌∙◌, ap, ◌-◌, List, length, drop, arith}
use Rattle.std.proofs.lemmas.List.{length-map, drop_all}
use Rattle.tags.specs.declared.token.Token.{Token}
use Rattle.element.specs.Holding.{Holding}
use Rattle.element.specs.Requests.{held_back}
use Rattle.schedule.specs.State.{tokens_in}
use Rattle.schedule.proofs.Turning.{others_first, tokens_drop}
use Rattle.rounds.specs.declared.turn.Turner.{Turner}
use Rattle.rounds.specs.Rounds.{lane_held, lanes_held}
use Rattle.rounds.proofs.Rounding.{held_at}
use Rattle.rounds.proofs.rounds.ordinary.Goals as goal

pub loop-place-init : goal.loop-place-init
loop-place-init g c =
    let lanes = lanes_held c.args.turners.now in
    let x : Turner g.row.C.Denot g.row.A.Denot g.row.L.Denot = c.index-turners-0.result in
    let there = held_at {C = g.row.C.Denot} {A = g.row.A.Denot} {L = g.row.L.Denot} c.args.turners.now 0 x c.requires.some c.index-turners-0.is in
    let all = others_first lanes (lane_held x) there in
    let first : c.besides-tokens.result ≡ length x.lane.held.queue - held_back x.lane.held.queue = c.besides-tokens.ensures.exact
    ∙ ap (λ (q : List Token). length q - held_back q) c.queue.ensures
    ∙ ap (λ (t : Turner g.row.C.Denot g.row.A.Denot g.row.L.Denot). length t.lane.held.queue - held_back t.lane.held.queue) (sym c.index-turners-0.is) in
    let few = c.besides-tokens.ensures.few in
    let some = c.requires.some in
    record { exact = omega arith; few = omega arith; within = omega arith }

pub loop-place-preserved : goal.loop-place-preserved
loop-place-preserved g c =
    let lanes = lanes_held c.args.turners.now in
    let k = c.loop-place.place in
    let x : Turner g.row.C.Denot g.row.A.Denot g.row.L.Denot = c.index-turners-place.result in
    let there = held_at {C = g.row.C.Denot} {A = g.row.A.Denot} {L = g.row.L.Denot} c.args.turners.now k x c.loop-place-test.true
    c.index-turners-place.is in
    let all = tokens_drop lanes k (lane_held x) there in
    let more : c.count-tokens.result ≡ length x.lane.held.queue = c.count-tokens.ensures.exact
    ∙ ap (λ (q : List Token). length q) c.queue-in-loop-place.ensures
    ∙ ap (λ (t : Turner g.row.C.Denot g.row.A.Denot g.row.L.Denot). length t.lane.held.queue) (sym c.index-turners-place.is) in
    let few = c.count-tokens.ensures.few in
    let so_far = c.loop-place.invariant.exact in
    let low = c.loop-place.invariant.few in
    let test = c.loop-place-test.true in
    record { exact = omega arith; few = omega arith; within = omega arith }

pub returns-clause-exact : goal.returns-clause-exact
returns-clause-exact g c =
    let lanes = lanes_held c.args.turners.now in
    let k = c.loop-place.place in
    let count : length lanes ≡ length c.args.turners.now = length-map c.args.turners.now lane_held in
    let past = c.loop-place-test.false in
    let none : length (tokens_in (drop k lanes)) ≡ 0 = ap (λ (l : List Holding). length (tokens_in l)) (drop_all k lanes (omega arith)) in
    let so_far = c.loop-place.invariant.exact in
    omega arith

pub returns-clause-few : goal.returns-clause-few
returns-clause-few g c =
    let few = c.loop-place.invariant.few in
    let within = c.loop-place.invariant.within in
    let most = c.requires.few in
    omega (arith, few, within, most)
