use Rattle.std.proofs.Common.{◌≡◌, ℕ, ◌<◌, get_or, true}
use Rattle.slot_alloc.specs.Tables.{may_share}
use Rattle.slot_alloc.proofs.table.Table.admits_one.Given as goal

abbrev pub invariant-loop-earlier : goal.invariant-loop-earlier
invariant-loop-earlier g l = (h : ℕ) → h < l.earlier → get_or l.slots h 0 ≡ get_or l.slots l.holder 0 → may_share l.fn.self h l.holder ≡ true
