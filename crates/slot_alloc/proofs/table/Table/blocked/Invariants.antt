use Rattle.std.proofs.Common.{◌≡◌, ◌*◌, length, replicate, false}
use Rattle.slot_alloc.specs.Tables.{blocked_from}
use Rattle.slot_alloc.proofs.table.Table.blocked.Given as goal

abbrev pub invariant-loop-group : goal.invariant-loop-group
invariant-loop-group g l =
    (length l.blocked ≡ 512)
    × (blocked_from l.fn.self l.slots l.blocked (l.group * 64) ≡ blocked_from l.fn.self l.slots (replicate 512 false) 0)
