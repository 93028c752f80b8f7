use Rattle.std.proofs.Common.{List, ℕ, sym, ap, ◌∙◌, subst}
use Rattle.std.proofs.lemmas.Result.{err_from_is_err_and}
use Rattle.object_view.specs.Reading.{Opened}
use Rattle.driver.specs.Refused.{IsCompiled}
use Rattle.commands.proofs.orders.run_orders.Goals as goal

pub returns-clause-same : goal.returns-clause-same
returns-clause-same g c =
    let k = c.in_ok-checked.field-0 in
    let same = ap (λ (x : Opened). x.bytes) (c.in_ok-code.ensures ∙ c.as_object.ensures) in
    c.in_ok-reports.ensures.same c.args.text.now k.checked (subst (λ (bs : List ℕ). IsCompiled c.args.text.now k.checked bs) (sym same) c.in_ok-checked.ensures)

pub returns-clause-other : goal.returns-clause-other
returns-clause-other g c =
    let k = c.in_ok-checked.field-0 in
    let same = ap (λ (x : Opened). x.bytes) (c.in_ok-code.ensures ∙ c.as_object.ensures) in
    c.in_ok-reports.ensures.other c.args.text.now k.checked (subst (λ (bs : List ℕ). IsCompiled c.args.text.now k.checked bs) (sym same)
    c.in_ok-checked.ensures)

pub returns-in_err-reports-clause-refused : goal.returns-in_err-reports-clause-refused
returns-in_err-reports-clause-refused g c =
    let p = err_from_is_err_and c.from_residual-in_err-reports.result c.from_residual-in_err-reports.ensures.1 in
    let k = c.in_ok-checked.field-0 in
    let same = ap (λ (x : Opened). x.bytes) (c.in_ok-code.ensures ∙ c.as_object.ensures) in
    rw (p.1, p.2) (c.in_err-reports.ensures.refused c.args.text.now k.checked (subst (λ (bs : List ℕ). IsCompiled c.args.text.now k.checked bs)
    (sym same) c.in_ok-checked.ensures))
