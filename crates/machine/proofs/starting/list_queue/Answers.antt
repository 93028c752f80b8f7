use Rattle.std.proofs.Common.{◌∙◌, ap, ◌++◌, ◌<◌, ◌≤◌, length, List, arith}
use Rattle.std.proofs.lemmas.List.{take_all}
use Rattle.tags.specs.declared.token.Token.{Token}
use Rattle.machine.proofs.Lists.{list_more}
use Rattle.machine.proofs.starting.list_queue.Goals as goal

pub returns : goal.returns
returns g c =
    let all = c.queue-queue.result.now.items in
    let past : length all ≤ c.loop-at.at = (let t = c.loop-at-test.false in let n = c.len-at-end.ensures in omega arith) in
    c.loop-at.invariant ∙ ap (λ (l : List Token). c.args.tokens.now.items ++ l) (take_all c.loop-at.at all past ∙ c.queue-queue.ensures)

pub loop-at-preserved : goal.loop-at-preserved
loop-at-preserved g c =
    let all = c.queue-queue.result.now.items in
    let low : c.loop-at.at < length all = (let t = c.loop-at-test.true in let n = c.len-at-end.ensures in omega arith) in
    list_more all c.args.tokens.now.items c.loop-at.tokens.items c.push.new.self.items c.loop-at.at c.get.result low c.get.ensures c.loop-at.invariant
    c.in_ok-push.ensures.items
