use Rattle.std.proofs.Common.{◌≡◌, ◌-◌, Err, sym, ap, ◌∙◌, arith}
use Rattle.object_view.specs.Fields.{word_at}
use Rattle.object_view.specs.Checks.{literal_checked, each}
use Rattle.object_view.proofs.Each.{each_passed, each_failed}
use Rattle.object_view.proofs.tables.Tables.check_literals.Goals as goal

pub returns-in-Err : goal.returns-in-Err
returns-in-Err c =
    let w = word_at c.args.self.now.bytes.now in
    let l = c.loop-number in
    let n = c.saturating_sub-pairs.result in
    let same : w 3 - 1 ≡ n = omega (arith, c.args.self.now.literals_parsed) in
    let bad : each (literal_checked w) 0 n ≡ Err c.in-Err.flaw.fault = sym l.invariant ∙ each_failed (literal_checked w) l.number n
    c.in-Err.flaw.fault (omega arith) (sym c.in-Err.ensures) in
    sym (ap (each (literal_checked w) 0) same ∙ bad)

pub loop-number-preserved : goal.loop-number-preserved
loop-number-preserved c =
    let w = word_at c.args.self.now.bytes.now in
    let l = c.loop-number in
    sym (each_passed (literal_checked w) l.number c.saturating_sub-pairs.result (omega arith) (sym c.in_default.ensures)) ∙ l.invariant
