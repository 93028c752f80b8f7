use Rattle.std.proofs.Common.{List, ℕ, subst}
use Rattle.std.specs.Prelude.{MatchResult}
use Rattle.std.proofs.lemmas.Result.{err_from_is_err_and}
use Rattle.schedule.specs.Unlisted.{Quietly}
use Rattle.driver.specs.Objects.{ShowsObjectIn}
use Rattle.driver.specs.Refused.{IsRefusedObject}
use Rattle.driver.proofs.TextObjects.{unopened_refused}
use Rattle.driver.proofs.emulation.emulate_object_quietly.Goals as goal

pub returns : goal.returns
returns g c =
    subst (λ (bs : List ℕ). MatchResult c.run_code_quietly.result
    (Quietly (ShowsObjectIn c.args.order bs c.args.inputs.now c.args.config g.G.Gate.may_stop)) (IsRefusedObject bs c.args.inputs.now c.args.config))
    c.in_ok-code.ensures.bytes c.run_code_quietly.ensures

pub returns-in_err-code : goal.returns-in_err-code
returns-in_err-code g c =
    let p = err_from_is_err_and c.from_residual.result c.from_residual.ensures.1 in
    rw (p.1, p.2) (unopened_refused c.args.bytes.now c.args.inputs.now c.args.config c.in_err-code.field-0.0 c.in_err-code.ensures.opened)
