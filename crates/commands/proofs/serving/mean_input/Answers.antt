use Rattle.std.proofs.Common.{ℤ, List, subst}
use Rattle.oracle.specs.Reporting.{IsMeant}
use Rattle.driver.specs.Refused.{IsRefusedMeaning}
use Rattle.commands.proofs.Served.{meant, refused_meaning, bad_text, bad_line_to_mean, bad_line_of}
use Rattle.commands.proofs.serving.mean_input.Goals as goal

pub returns-in-Ok-check_text : goal.returns-in-Ok-check_text
returns-in-Ok-check_text g c =
    bad_line_to_mean c.args.input.now _ _ c.split_at_main.ensures.whole c.split_at_main.ensures.end c.in-Err-BadLine.line c.in-Ok-check_text._checked
    (bad_line_of c.split_at_main.result.1.now c.in-Err-BadLine.field-0 c.in-Err-BadLine.line c.in-Err-BadLine.field-0-is c.in-Err-BadLine.ensures)
    c.in-Ok-check_text.ensures

pub returns-in-Err : goal.returns-in-Err
returns-in-Err g c =
    bad_text c.args.input.now _ _ c.split_at_main.ensures.whole c.split_at_main.ensures.end c.in-Err-BadLine.line
    (bad_line_of c.split_at_main.result.1.now c.in-Err-BadLine.field-0 c.in-Err-BadLine.line c.in-Err-BadLine.field-0-is c.in-Err-BadLine.ensures)
    c.in-Err.fault c.in-Err.ensures c.fault_refusal.result c.fault_refusal.ensures

pub returns-in-Ok-mean_text : goal.returns-in-Ok-mean_text
returns-in-Ok-mean_text g c =
    let m = c.in-Ok-mean_text.meant in
    meant c.args.input.now _ _ c.split_at_main.ensures.whole c.split_at_main.ensures.end c.args.steps m.checked m.report.end m.report.outputs.items
    m.report.cells.items
    c.in-Ok-parse_integers.integers.items c.in-Ok-parse_integers.ensures c.in-Ok-mean_text.ensures.good
    (subst (λ (zs : List ℤ). IsMeant m.checked zs c.args.steps m.report.end m.report.outputs.items m.report.cells.items) c.deref.ensures.value
    c.in-Ok-mean_text.ensures.meant)

pub returns : goal.returns
returns g c =
    refused_meaning c.args.input.now _ _ c.split_at_main.ensures.whole c.split_at_main.ensures.end c.in-Ok-parse_integers.integers.items
    c.in-Ok-parse_integers.ensures c.in-Err-mean_text.fault
    (subst (λ (zs : List ℤ). IsRefusedMeaning c.split_at_main.result.0.now zs c.in-Err-mean_text.fault) c.deref.ensures.value
    c.in-Err-mean_text.ensures.refused) c.fault_refusal-in-Err-mean_text.result c.fault_refusal-in-Err-mean_text.ensures
