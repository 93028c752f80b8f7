use Rattle.slot_alloc.proofs.Filling.{least_by, all_closed}
use Rattle.slot_alloc.proofs.table.Table.least_open.Goals as goal
use Rattle.std.proofs.Common.{arith, rules}

pub returns-then-not-blocked-slot-clause-some : goal.returns-then-not-blocked-slot-clause-some
returns-then-not-blocked-slot-clause-some g c =
    least_by c.args.self.now c.args.slots.now c.blocked-blocked.result c.loop-slot.slot c.requires (search rules) c.blocked-blocked.ensures
    c.loop-slot.invariant (search rules)

pub returns-clause-none : goal.returns-clause-none
returns-clause-none g c = all_closed c.args.self.now c.args.slots.now c.blocked-blocked.result c.blocked-blocked.ensures
    (λ r lt. c.loop-slot.invariant r (let h = c.loop-slot-test.false in omega (arith, lt, h)))
