use Rattle.std.proofs.Common.{◌∙◌, ◌<◌, nat_lt, length, length-set, arith}
use Rattle.ordering.specs.Pools.{amount}
use Rattle.ordering.specs.Orders.{blocks_left}
use Rattle.ordering.proofs.Placing.{get_at, goes_further}
use Rattle.ordering.proofs.Passing.{or_first, or_second, stuck_more, left_less, same_left}
use Rattle.ordering.proofs.legal_order.pass.Goals as goal

pub loop-at-preserved : goal.loop-at-preserved
loop-at-preserved g c =
    let inv = c.loop-at.invariant in
    let rests = c.loop-at.rests.items in
    let at = c.loop-at.at in
    let old = c.index-rest.result.now in
    let new = c.in_ok-left.left in
    let goes = c.in_ok-left.ensures in
    let is = c.index-rest.ensures in
    let count = inv.count in
    let low : at < length rests = (let t = c.loop-at-test.true in let e = c.loop-at.auto.at-end in omega arith) in
    let within : at < length c.args.rests.now.items = omega (arith, low, count) in
    let before = amount c.loop-at.pool in
    let after = amount c.go_on.new.pool in
    record {
      so_far = λ log start last opening.
          goes_further (length c.args.rests.now.items) log start last before after rests c.loop-at.events.items c.go_on.new.events.items at old new
          within (get_at rests at old low is)
          (λ tokens blocks holds stands. goes.goes (length c.args.rests.now.items) tokens blocks holds stands) (inv.so_far log start last opening);
      stuck = λ none.
          let fewer = nat_lt (length new.blocks.now) (length old.blocks.now) in
          stuck_more rests at new before after (goes.less (same_left (length new.blocks.now) (length old.blocks.now) goes.fewer
          (or_second c.loop-at.went_on fewer none))) goes.stuck (inv.stuck (or_first c.loop-at.went_on fewer none));
      left = left_less rests at old new c.loop-at.went_on (blocks_left c.args.rests.now.items) low is goes.fewer inv.left;
      count = length-set rests at new ∙ count;
    }
