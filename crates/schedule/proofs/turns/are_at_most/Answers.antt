use Rattle.std.proofs.Common.{◌≡◌, ◌∙◌, sym, ap, List, length, drop, map, arith}
use Rattle.std.proofs.lemmas.List.{length-map, drop_all}
use Rattle.tags.specs.declared.token.Token.{Token}
use Rattle.element.specs.Holding.{Holding, held_of}
use Rattle.schedule.specs.State.{tokens_in}
use Rattle.element.specs.Requests.{held_back}
use Rattle.schedule.proofs.Memory.{held_at}
use Rattle.schedule.proofs.Turning.{first_is, others_first, tokens_drop}
use Rattle.schedule.proofs.turns.are_at_most.Goals as goal

pub besides-first-requires : goal.besides-first-requires
besides-first-requires g c =
    let lanes = map held_of c.args.lanes.now in
    let x = c.index-lanes-0.result in
    let there = held_at c.args.lanes.now 0 x c.requires.some c.index-lanes-0.is in
    c.requires.held ∙ ap (λ (q : List Token). held_back q) (first_is lanes (held_of x) there ∙ sym c.queue.ensures)

pub returns-then-most-first-clause-no : goal.returns-then-most-first-clause-no
returns-then-most-first-clause-no g c = λ _.
    let lanes = map held_of c.args.lanes.now in
    let x = c.index-lanes-0.result in
    let there = held_at c.args.lanes.now 0 x c.requires.some c.index-lanes-0.is in
    let all = others_first lanes (held_of x) there in
    let held : c.args.held ≡ held_back x.held.queue = c.requires.held ∙ ap (λ (q : List Token). held_back q) (first_is lanes (held_of x) there) in
    let long : length c.queue.result.now.items ≡ length x.held.queue = ap (λ (q : List Token). length q) c.queue.ensures in
    let first = c.besides-first.ensures in
    let less = c.if-most-first.true in
    omega arith

pub loop-place-init : goal.loop-place-init
loop-place-init g c =
    let lanes = map held_of c.args.lanes.now in
    let x = c.index-lanes-0.result in
    let there = held_at c.args.lanes.now 0 x c.requires.some c.index-lanes-0.is in
    let all = others_first lanes (held_of x) there in
    let held : c.args.held ≡ held_back x.held.queue = c.requires.held ∙ ap (λ (q : List Token). held_back q) (first_is lanes (held_of x) there) in
    let long : length c.queue.result.now.items ≡ length x.held.queue = ap (λ (q : List Token). length q) c.queue.ensures in
    let first = c.besides-first.ensures in
    let enough = c.if-most-first.false in
    omega arith

pub returns-then-left-tokens-clause-no : goal.returns-then-left-tokens-clause-no
returns-then-left-tokens-clause-no g c = λ _.
    let lanes = map held_of c.args.lanes.now in
    let k = c.loop-place.place in
    let x = c.index-lanes-place.result in
    let there = held_at c.args.lanes.now k x c.loop-place-test.true c.index-lanes-place.is in
    let all = tokens_drop lanes k (held_of x) there in
    let long : length c.queue-in-loop-place.result.now.items ≡ length x.held.queue = ap (λ (q : List Token). length q) c.queue-in-loop-place.ensures in
    let tokens = c.len-tokens.ensures in
    let so_far = c.loop-place.invariant in
    let less = c.if-left-tokens.true in
    omega arith

pub loop-place-preserved : goal.loop-place-preserved
loop-place-preserved g c =
    let lanes = map held_of c.args.lanes.now in
    let k = c.loop-place.place in
    let x = c.index-lanes-place.result in
    let there = held_at c.args.lanes.now k x c.loop-place-test.true c.index-lanes-place.is in
    let all = tokens_drop lanes k (held_of x) there in
    let long : length c.queue-in-loop-place.result.now.items ≡ length x.held.queue = ap (λ (q : List Token). length q) c.queue-in-loop-place.ensures in
    let tokens = c.len-tokens.ensures in
    let so_far = c.loop-place.invariant in
    let enough = c.if-left-tokens.false in
    omega arith

pub returns-clause-yes : goal.returns-clause-yes
returns-clause-yes g c = λ _.
    let lanes = map held_of c.args.lanes.now in
    let k = c.loop-place.place in
    let count : length lanes ≡ length c.args.lanes.now = length-map c.args.lanes.now held_of in
    let past = c.loop-place-test.false in
    let none : length (tokens_in (drop k lanes)) ≡ 0 = ap (λ (l : List Holding). length (tokens_in l)) (drop_all k lanes (omega arith)) in
    let so_far = c.loop-place.invariant in
    omega arith
