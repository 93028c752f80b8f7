use Rattle.std.proofs.Common.{◌≡◌, sym, ap, ◌∙◌, subst, length, arith}
use Rattle.slot_alloc.specs.Tables.{AdmitsAll, table_of}
use Rattle.slot_alloc.proofs.Holders.{the_table, good_from, admits_from}
use Rattle.slot_alloc.proofs.blocks.check_block.Goals as goal

pub returns : goal.returns
returns g c =
    let p = c.args.plan.now in
    let n = c.args.number in
    let b = c.args.block.now in
    let ss = c.args.slots.now in
    let here = c.requires in
    let same : c.in_ok-table.table ≡ the_table p n b here = c.in_ok-table.ensures ∙ ap (λ ms. table_of p ms b) c.marks_of.ensures in
    let size : c.block.inside.slots ≡ b.slots = ap (λ y. y.slots) c.block.view_is in
    let e = c.if-slots-block.false in
    let all : length ss ≡ b.slots = omega (arith, e, size) in
    let h = c.admits.ensures in (
      λ y. good_from p n b here ss all (subst (λ t. AdmitsAll t ss) same (h.0 y)),
      λ good. h.1 (subst (λ t. AdmitsAll t ss) (sym same) (admits_from p n b here ss good)),
    )
