use Rattle.std.proofs.Common.{sym, ◌∙◌}
use Rattle.slot_alloc.proofs.Blocking.{unsided}
use Rattle.slot_alloc.proofs.table.Table.next_is_apart.Goals as goal

pub returns-else-next : goal.returns-else-next
returns-else-next g c = c.if-next.false ∙ sym (unsided c.args.holder c.args.next.number c.args.self.now.splits (sym c.requires ∙ c.if-next.false))
