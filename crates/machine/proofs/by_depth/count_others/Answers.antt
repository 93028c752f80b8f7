use Rattle.std.proofs.Common.{◌≡◌, ◌≤◌, ◌<◌, ◌+◌, sym, ◌∙◌, suc, take, ap, false, true, arith, length, ◌∷◌, []}
use Rattle.element.specs.Requests.{is_for_manager}
use Rattle.machine.specs.ByDepth.{besides}
use Rattle.machine.proofs.Spending.{besides_first, besides_next, request_besides, other_besides}
use Rattle.machine.proofs.by_depth.count_others.Goals as goal
use Rattle.machine.proofs.by_depth.count_others.Goals.{then-not-is_request, else-not-is_request}

pub returns-then-others-most : goal.returns-then-others-most
returns-then-others-most g c =
    let q = c.args.queue.now.items in
    let n = c.loop-at.invariant.count in
    let all = c.if-others-most.true in
    let few = besides_first q c.loop-at.at in
    omega (arith, n, all, few)

pub loop-at-preserved : goal.loop-at-preserved
loop-at-preserved g c =
    let q = c.args.queue.now.items in
    let n = c.loop-at.invariant.count in
    let few = c.loop-at.invariant.few in
    let other = c.if-others-most.false in
    let low = c.loop-at-test.true in
    let end = c.len-at-end.ensures in
    let asks = c.is_request.ensures in
    let below : c.loop-at.at < length q = omega (arith, low, end) in
    let more = besides_next q c.loop-at.at c.packed.result below c.packed.ensures in
    elim c.if-not-is_request.branch [
      | then-not-is_request w ↦
          let is = w.others-is in
          let no = w.if-not-is_request in
          let one = other_besides c.packed.result (sym asks ∙ no.true) in
          record { count = omega (arith, is, n, more, one); few = omega (arith, is, few, other) }
      | else-not-is_request w ↦
          let is = w.others-is in
          let no = w.if-not-is_request in
          let none = request_besides c.packed.result (sym asks ∙ no.false) in
          record { count = omega (arith, is, n, more, none); few = omega (arith, is, few) }
    ]
