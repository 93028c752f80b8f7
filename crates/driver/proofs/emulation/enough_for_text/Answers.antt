use Rattle.std.proofs.Common.{List, ℕ, ap, ◌∙◌, subst}
use Rattle.std.proofs.lemmas.Result.{err_from_is_err_and}
use Rattle.object_view.specs.Reading.{Opened}
use Rattle.driver.specs.Refused.{IsReadyObject, IsRefusedObject}
use Rattle.driver.proofs.TextObjects.{ready_as_text, refused_as_text}
use Rattle.driver.proofs.TextNeeds.{told_of_text}
use Rattle.driver.proofs.emulation.enough_for_text.Goals as goal

pub returns : goal.returns
returns g c =
    let k = c.in_ok-compiled.compiled in
    let same = ap (λ (x : Opened). x.bytes) (c.in_ok-code.ensures ∙ c.as_object.ensures) in
    let ready = subst (λ (bs : List ℕ). IsReadyObject bs c.args.inputs.now c.args.config) same c.in_ok-check_start.ensures in (
      ready_as_text c.args.text.now k.checked k.object.bytes c.args.inputs.now c.args.config c.in_ok-compiled.ensures ready,
      k.checked,
      c.in_ok-compiled.ensures.good,
      told_of_text c.args.text.now k.checked k.object.bytes c.args.inputs.now c.args.config c.in_ok-compiled.ensures ready c.in_ok-frames.frames c.in_ok-frames.ensures,
    )

pub returns-in_err-check_start : goal.returns-in_err-check_start
returns-in_err-check_start g c =
    let p = err_from_is_err_and c.from_residual-in_err-check_start.result c.from_residual-in_err-check_start.ensures.1 in
    let k = c.in_ok-compiled.compiled in
    let same = ap (λ (x : Opened). x.bytes) (c.in_ok-code.ensures ∙ c.as_object.ensures) in
    rw (p.1, p.2)
    (refused_as_text c.args.text.now k.checked k.object.bytes c.args.inputs.now c.args.config c.in_ok-compiled.ensures c.in_err-check_start.field-0.0
    (subst (λ (bs : List ℕ). IsRefusedObject bs c.args.inputs.now c.args.config c.in_err-check_start.field-0.0) same c.in_err-check_start.ensures))
