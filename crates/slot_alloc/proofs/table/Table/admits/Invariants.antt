use Rattle.std.proofs.Common.{ℕ, ◌<◌, get_or}
use Rattle.slot_alloc.specs.Tables.{Admits}
use Rattle.slot_alloc.proofs.table.Table.admits.Given as goal

abbrev pub invariant-loop-holder : goal.invariant-loop-holder
invariant-loop-holder g l = (h : ℕ) → h < l.holder → (get_or l.slots h 0 < 512) × Admits l.fn.self l.slots h (get_or l.slots h 0)
