use Rattle.std.proofs.Common.{◌≡◌, ap, ◌∙◌, subst}
use Rattle.slot_alloc.specs.Tables.{IsFilled, table_of}
use Rattle.slot_alloc.proofs.Holders.{the_table, assigned_from}
use Rattle.slot_alloc.proofs.Steps.{fill_refused}
use Rattle.slot_alloc.proofs.blocks.assign_block.Goals as goal

pub returns-in-Ok-clause-assigned : goal.returns-in-Ok-clause-assigned
returns-in-Ok-clause-assigned g c =
    let p = c.args.plan.now in
    let n = c.args.number in
    let b = c.args.block.now in
    let same : c.in_ok-table.table ≡ the_table p n b c.requires = c.in_ok-table.ensures ∙ ap (λ ms. table_of p ms b) c.marks_of.ensures in
    let size : c.block.inside.slots ≡ b.slots = ap (λ y. y.slots) c.block.view_is in
    assigned_from p n b c.requires c.in-Ok.slots.items (c.in-Ok.ensures.all ∙ size) (subst (λ t. IsFilled t c.in-Ok.slots.items) same c.in-Ok.ensures.filled)

pub returns-clause-refused : goal.returns-clause-refused
returns-clause-refused g c =
    let p = c.args.plan.now in
    let n = c.args.number in
    let b = c.args.block.now in
    let same : c.in_ok-table.table ≡ the_table p n b c.requires = c.in_ok-table.ensures ∙ ap (λ ms. table_of p ms b) c.marks_of.ensures in
    let size : c.block.inside.slots ≡ b.slots = ap (λ y. y.slots) c.block.view_is in
    fill_refused p n b c.requires c.in_ok-table.table c.block.inside.slots c.in-Err.fault same size c.in-Err.ensures.refused
