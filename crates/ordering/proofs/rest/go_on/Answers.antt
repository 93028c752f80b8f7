use Rattle.std.proofs.Common.{◌≡◌, length, arith}
use Rattle.ordering.specs.Pools.{amount}
use Rattle.ordering.proofs.Going.{goes_nowhere, goes_twice}
use Rattle.ordering.proofs.rest.go_on.Goals as goal

pub turn-init : goal.turn-init
turn-init g c = record {
  goes = λ n tokens blocks holds stands. goes_nowhere n c.args.element tokens blocks c.args.events.now.items (amount c.args.pool.now) c.args.rest holds stands;
  fewer = omega arith;
  less = λ same q. omega arith;
}

pub turn-preserved : goal.turn-preserved
turn-preserved g c =
    let inv = c.turn.invariant in
    let took = c.in_ok-take_block.ensures in
    let fewer = took.fewer c.if-branch.true in
    let so_far = inv.fewer in
    record {
      goes = goes_twice c.args.element c.args.events.now.items c.turn.events.items c.take_block.new.events.items (amount c.args.pool.now)
          (amount c.turn.pool) (amount c.take_block.new.pool) c.args.rest c.turn.left c.take_block.new.rest inv.goes took.goes;
      fewer = omega (arith, fewer, so_far);
      less = λ same q. absurd (let all : length c.take_block.new.rest.blocks.now ≡ length c.args.rest.blocks.now = same
          in let no : ⊥ = omega (arith, fewer, so_far, all) in no);
    }

pub returns : goal.returns
returns g c =
    let inv = c.turn.invariant in
    let took = c.in_ok-take_block.ensures in
    let as_many = took.same c.if-branch.false in
    let so_far = inv.fewer in
    record {
      goes = goes_twice c.args.element c.args.events.now.items c.turn.events.items c.take_block.new.events.items (amount c.args.pool.now)
          (amount c.turn.pool) (amount c.take_block.new.pool) c.args.rest c.turn.left c.take_block.new.rest inv.goes took.goes;
      stuck = took.stuck c.if-branch.false;
      fewer = omega (arith, as_many, so_far);
      less = λ same q.
          let all : length c.take_block.new.rest.blocks.now ≡ length c.args.rest.blocks.now = same in
          let one = took.less c.if-branch.false q in
          let two = inv.less (omega (arith, as_many, all)) q in
          omega (arith, one, two);
    }
