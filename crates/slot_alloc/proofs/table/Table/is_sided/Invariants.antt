use Rattle.std.proofs.Common.{◌≡◌, drop}
use Rattle.std.specs.List.{list_any}
use Rattle.slot_alloc.specs.Tables.{is_sided}
use Rattle.slot_alloc.proofs.table.Table.is_sided.Given as goal

abbrev pub invariant-loop-split : goal.invariant-loop-split
invariant-loop-split c l = list_any (is_sided l.holder) (drop l.split-index l.fn.self.splits) ≡ list_any (is_sided l.holder) l.fn.self.splits
