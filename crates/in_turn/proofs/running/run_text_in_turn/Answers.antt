use Rattle.std.proofs.Common.{List, ℕ, false, ap, ◌∙◌, subst}
use Rattle.std.proofs.lemmas.Result.{err_from_is_err_and}
use Rattle.object_view.specs.Reading.{Opened}
use Rattle.schedule.specs.Unlisted.{Quietly}
use Rattle.driver.specs.declared.order.Order.{Order}
use Rattle.driver.specs.Objects.{ShowsObjectIn}
use Rattle.driver.specs.Refused.{IsRefusedObject}
use Rattle.driver.proofs.Truth.{reports_quietly}
use Rattle.driver.proofs.TextObjects.{refused_as_text}
use Rattle.in_turn.proofs.running.run_text_in_turn.Goals as goal

pub returns : goal.returns
returns g c =
    let k = c.in_ok-checked.field-0 in
    let same = ap (λ (x : Opened). x.bytes) (c.in_ok-code.ensures ∙ c.as_object.ensures) in
    reports_quietly (Order.InTurn c.args.take) c.args.text.now k.checked k.object.bytes c.args.inputs.now c.args.config false c.in_ok-report.report
    c.in_ok-checked.ensures
    (subst (λ (bs : List ℕ). Quietly (ShowsObjectIn (Order.InTurn c.args.take) bs c.args.inputs.now c.args.config false) c.in_ok-report.report) same
    c.in_ok-report.ensures)

pub returns-in_err-report : goal.returns-in_err-report
returns-in_err-report g c =
    let p = err_from_is_err_and c.from_residual-in_err-report.result c.from_residual-in_err-report.ensures.1 in
    let k = c.in_ok-checked.field-0 in
    let same = ap (λ (x : Opened). x.bytes) (c.in_ok-code.ensures ∙ c.as_object.ensures) in
    rw (p.1, p.2)
    (refused_as_text c.args.text.now k.checked k.object.bytes c.args.inputs.now c.args.config c.in_ok-checked.ensures c.in_err-report.field-0.0
    (subst (λ (bs : List ℕ). IsRefusedObject bs c.args.inputs.now c.args.config c.in_err-report.field-0.0) same c.in_err-report.ensures))
