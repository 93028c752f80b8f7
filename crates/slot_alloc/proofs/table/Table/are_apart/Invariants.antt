use Rattle.std.proofs.Common.{◌≡◌, drop}
use Rattle.std.specs.List.{list_any}
use Rattle.slot_alloc.specs.Tables.{is_apart}
use Rattle.slot_alloc.proofs.table.Table.are_apart.Given as goal

abbrev pub invariant-loop-split : goal.invariant-loop-split
invariant-loop-split c l = list_any (is_apart l.g l.h) (drop l.split-index l.fn.self.splits) ≡ list_any (is_apart l.g l.h) l.fn.self.splits
