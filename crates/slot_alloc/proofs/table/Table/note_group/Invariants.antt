use Rattle.std.proofs.Common.{◌≡◌, ◌*◌, length}
use Rattle.slot_alloc.specs.Tables.{blocked_from}
use Rattle.slot_alloc.proofs.table.Table.note_group.Given as goal

abbrev pub invariant-loop-holder : goal.invariant-loop-holder
invariant-loop-holder g l =
    (length l.blocked ≡ 512)
    × (blocked_from l.fn.self l.slots l.blocked l.holder ≡ blocked_from l.fn.self l.slots l.fn.blocked (l.group * 64))
