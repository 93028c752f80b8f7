use Rattle.std.proofs.Common.{◌≡◌, ◌+◌, Ok, Err, sym, ap, ◌∙◌, arith}
use Rattle.object_view.specs.declared.fault.ObjectFault.TheVariants.{BadTable}
use Rattle.object_view.specs.Fields.{word_at, count_in}
use Rattle.object_view.specs.Checks.{entry_checked, entry_fits, unless}
use Rattle.object_view.proofs.Facts.{entry_from, unless_ok}
use Rattle.object_view.proofs.Each.{each_passed, each_failed, below_next}
use Rattle.object_view.proofs.checks.check_entries.Goals as goal

pub returns-in-Err-clause-checked : goal.returns-in-Err-clause-checked
returns-in-Err-clause-checked c =
    let w = word_at c.args.bytes.now in
    let l = c.loop-block in
    let bad : entry_checked w l.block ≡ Err c.in-Err.flaw.fault =
    ap (λ x. unless (entry_fits x) BadTable) (sym c.entry_at-entry.ensures) ∙ ap (λ b. unless b BadTable) (sym c.fits.ensures) ∙ sym c.in-Err.ensures in
    sym l.invariant.passed ∙ each_failed (entry_checked w) l.block c.args.blocks c.in-Err.flaw.fault (omega arith) bad

pub loop-block-preserved : goal.loop-block-preserved
loop-block-preserved c =
    let w = word_at c.args.bytes.now in
    let l = c.loop-block in
    let good : entry_checked w l.block ≡ Ok tt =
    ap (λ x. unless (entry_fits x) BadTable) (sym c.entry_at-entry.ensures) ∙ ap (λ b. unless b BadTable) (sym c.fits.ensures) ∙ sym c.in_default.ensures in
    let fits = entry_from c.entry_at-entry.result.word (sym c.fits.ensures ∙ unless_ok c.fits.result BadTable (sym c.in_default.ensures)) in
    record {
      passed = sym (each_passed (entry_checked w) l.block c.args.blocks (omega arith) good) ∙ l.invariant.passed;
      counted = ap (λ n. l.instrs + n) (c.instrs.ensures ∙ ap count_in c.entry_at-entry.ensures) ∙ ap (λ n. n + count_in (w (6 + l.block)))
          l.invariant.counted ∙ sym (below_next w l.block);
      few = omega (arith, fits.few, c.instrs.ensures);
    }
