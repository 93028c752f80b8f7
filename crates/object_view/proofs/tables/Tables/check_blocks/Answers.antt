use Rattle.std.proofs.Common.{◌+◌, sym, ap, ◌∙◌, arith}
use Rattle.object_view.specs.Fields.{word_at, count_in, slots_in}
use Rattle.object_view.specs.Checks.{block_checked}
use Rattle.object_view.proofs.Each.{each_passed, each_failed, below_next, below_all, block_same}
use Rattle.object_view.proofs.tables.Tables.check_blocks.Goals as goal

pub check_block-requires : goal.check_block-requires
check_block-requires c =
    let w = word_at c.args.self.now.bytes.now in
    let s = c.args.self.now in
    let l = c.loop-block in
    let all = below_all w (l.block + 1) (w 2) (omega (arith, s.blocks_parsed)) in
    let counted = c.instrs-count.ensures ∙ ap count_in c.entry-entry.ensures in
    omega (arith, s.instrs_parsed, all, l.invariant.counted, below_next w l.block, counted)

pub returns-in-Err : goal.returns-in-Err
returns-in-Err c =
    let w = word_at c.args.self.now.bytes.now in
    let l = c.loop-block in
    let same = block_same w l.block _ _ _ (c.slots.ensures ∙ ap slots_in c.entry-entry.ensures) l.invariant.counted (c.instrs-count.ensures
    ∙ ap count_in c.entry-entry.ensures) in
    sym (sym l.invariant.passed ∙ each_failed (block_checked w) l.block c.args.self.now.blocks c.in-Err.flaw.fault (omega arith) (sym same
    ∙ sym c.in-Err.ensures))

pub overflow_add-first : goal.overflow_add-first
overflow_add-first c =
    let w = word_at c.args.self.now.bytes.now in
    let s = c.args.self.now in
    let l = c.loop-block in
    let all = below_all w (l.block + 1) (w 2) (omega (arith, s.blocks_parsed)) in
    let counted = c.instrs-count.ensures ∙ ap count_in c.entry-entry.ensures in
    omega (arith, s.instrs_parsed, s.few_instrs, all, l.invariant.counted, below_next w l.block, counted)

pub loop-block-preserved : goal.loop-block-preserved
loop-block-preserved c =
    let w = word_at c.args.self.now.bytes.now in
    let l = c.loop-block in
    let counted = c.instrs-count.ensures ∙ ap count_in c.entry-entry.ensures in
    let same = block_same w l.block _ _ _ (c.slots.ensures ∙ ap slots_in c.entry-entry.ensures) l.invariant.counted counted in
    record {
      passed = sym (each_passed (block_checked w) l.block c.args.self.now.blocks (omega arith) (sym same ∙ sym c.in_default.ensures)) ∙ l.invariant.passed;
      counted = ap (λ n. l.first + n) counted ∙ ap (λ n. n + count_in (w (6 + l.block))) l.invariant.counted ∙ sym (below_next w l.block);
    }
