use Rattle.std.proofs.Common.{◌∙◌, ap, ◌+◌, arith}
use Rattle.ordering.specs.Pools.{amount}
use Rattle.ordering.proofs.Copies.{copies_more_at, copies_whole}
use Rattle.ordering.proofs.pool.Pool.put_all.Goals as goal

pub loop-token-preserved : goal.loop-token-preserved
loop-token-preserved g c q =
    let inv = c.loop-token.invariant q in
    let put = c.in_ok-put.ensures q in
    let more = copies_more_at q c.args.tokens.now c.loop-token.token-index c.token-item.result c.loop-token-test.true c.token-item.is in
    omega (arith, inv, put, more)

pub returns : goal.returns
returns g c q = c.loop-token.invariant q ∙ ap (λ n. amount c.args.self.now q + n) (copies_whole q c.args.tokens.now c.loop-token.token-index
    c.loop-token-test.false)
