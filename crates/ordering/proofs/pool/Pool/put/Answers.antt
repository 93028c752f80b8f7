use Rattle.std.proofs.Common.{Some, arith}
use Rattle.std.specs.HashMap as hash
use Rattle.ordering.specs.Pools.{same_key}
use Rattle.ordering.proofs.Copies.{one_more}
use Rattle.ordering.proofs.pool.Pool.put.Goals as goal

pub returns : goal.returns
returns g c =
    let updates = c.in_ok-insert.ensures.updates in
    let count = c.in_ok-count.ensures in
    one_more (λ q. hash.get same_key c.args.self.now.more (record { 0 = q })) (λ q. hash.get same_key c.insert.new.self (record { 0 = q }))
    c.args.token (Some c.in_ok-count.count)
    (λ q. updates.0 (record { 0 = q }))
    (omega (arith, count))
