use Rattle.std.proofs.Common.{◌≡◌, ◌+◌, Err, sym, ap, ◌∙◌, arith}
use Rattle.object_view.specs.declared.fault.ObjectFault.{ObjectFault}
use Rattle.object_view.specs.Fields.{word_at}
use Rattle.object_view.specs.Checks.{Checked, each, instr_checked}
use Rattle.object_view.proofs.Each.{each_passed, each_failed}
use Rattle.object_view.proofs.tables.Tables.check_block.Goals as goal

pub returns-in-Err : goal.returns-in-Err
returns-in-Err c =
    let w = word_at c.args.self.now.bytes.now in
    let l = c.loop-ip in
    let end = c.args.first + c.args.count in
    let check = instr_checked w c.args.slots end in
    let bad : each check c.args.first c.args.count ≡ Err c.in-Err.flaw.fault = sym l.invariant.passed ∙ each_failed check l.ip end c.in-Err.flaw.fault
    (omega arith) (sym c.in-Err.ensures) in
    let failed : ObjectFault → Checked = λ fault. Err fault in
    ap failed c.at.ensures ∙ sym bad

pub loop-ip-preserved : goal.loop-ip-preserved
loop-ip-preserved c =
    let w = word_at c.args.self.now.bytes.now in
    let l = c.loop-ip in
    let end = c.args.first + c.args.count in
    let check = instr_checked w c.args.slots end in
    record {
      passed = sym (each_passed check l.ip end (omega arith) (sym c.in_default.ensures)) ∙ l.invariant.passed;
      ends = l.invariant.ends;
    }
