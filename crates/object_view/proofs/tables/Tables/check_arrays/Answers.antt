use Rattle.std.proofs.Common.{◌≡◌, ◌+◌, Err, sym, ap, ◌∙◌, arith}
use Rattle.object_view.specs.Fields.{word_at}
use Rattle.object_view.specs.Reading.{array_in}
use Rattle.object_view.specs.Checks.{array_checked, each}
use Rattle.object_view.proofs.Each.{each_passed, each_failed, cells_next, failed_first}
use Rattle.object_view.proofs.tables.Tables.check_arrays.Goals as goal

pub returns-in-Err : goal.returns-in-Err
returns-in-Err c =
    let w = word_at c.args.self.now.bytes.now in
    let l = c.loop-number in
    let n = c.args.self.now.arrays in
    let bad : each (array_checked w) 0 n ≡ Err c.in-Err.flaw.fault = sym l.invariant.passed ∙ each_failed (array_checked w) l.number n
    c.in-Err.flaw.fault (omega arith) (sym c.in-Err.ensures.checked) in
    sym (failed_first (each (array_checked w) 0 (w 4)) _ c.in-Err.flaw.fault (ap (each (array_checked w) 0) (sym c.args.self.now.arrays_parsed) ∙ bad))

pub loop-number-preserved : goal.loop-number-preserved
loop-number-preserved c =
    let w = word_at c.args.self.now.bytes.now in
    let l = c.loop-number in
    record {
      passed = sym (each_passed (array_checked w) l.number c.args.self.now.arrays (omega arith) (sym c.in_default.ensures.checked)) ∙ l.invariant.passed;
      counted = ap (λ n. l.cells + n) c.array-cells.ensures ∙ ap (λ n. n + array_in w l.number) l.invariant.counted ∙ sym (cells_next w l.number);
      few = omega (arith, c.in_default.ensures.few, c.array-cells.ensures);
    }
