use Rattle.std.proofs.Common.{◌≡◌, ◌≤◌, length, ap, ◌∙◌, arith}
use Rattle.select.specs.Literals.{entered, used_by, table_of, too_far}
use Rattle.select.proofs.Steps.{table_step, far_step}
use Rattle.select.proofs.literals.gather.Goals as goal

pub loop-number-preserved : goal.loop-number-preserved
loop-number-preserved g c =
    let b = c.index-blocks-number.result in
    let same : c.block.inside.instrs.items ≡ b.instrs = ap (λ y. y.instrs) c.block.view_is in
    let given : c.deref.result.now ≡ b.instrs = c.deref.ensures.value ∙ same in
    let made : c.enter.new.table.keys ≡ entered c.loop-number.table.keys (used_by b.instrs) = c.in_ok-enter.ensures
    ∙ ap (λ is. entered c.loop-number.table.keys (used_by is)) given in
    let size : length b.instrs ≤ 32768 = let h = c.if-len-gt-MAX_INSTRS.false in let e = ap length same in omega (arith, h, e, c.len.ensures) in
    let few : length c.enter.new.table.keys ≤ 65536 = let h = c.if-len-gt-MAX_LITERALS.false in omega (arith, h, c.len-in-loop-number.ensures.len) in (
      table_step c.loop-number.table.keys c.enter.new.table.keys (table_of c.args.blocks.now) c.loop-number.number c.args.blocks.now b
          c.loop-number-test.true c.index-blocks-number.is made c.loop-number.invariant.0,
      far_step c.loop-number.table.keys c.enter.new.table.keys (too_far c.args.blocks.now) c.loop-number.number c.args.blocks.now b
          c.loop-number-test.true c.index-blocks-number.is made size few c.loop-number.invariant.1,
    )
