use Rattle.std.proofs.Common.{List, ℕ, subst, true, false}
use Rattle.std.specs.Prelude.{MatchResult, IfOk}
use Rattle.std.proofs.lemmas.Result.{err_from_is_err_and}
use Rattle.driver.specs.Objects.{ShowsObject, RunsObject}
use Rattle.driver.specs.Orders.{RunsByList}
use Rattle.driver.specs.Refused.{IsRefusedObject}
use Rattle.driver.proofs.TextObjects.{unopened_refused}
use Rattle.driver.proofs.emulation.emulate_object_picks.Goals as goal

pub returns-clause-shows : goal.returns-clause-shows
returns-clause-shows g c =
    subst (λ (bs : List ℕ). MatchResult c.run_code_picks.result (ShowsObject bs c.args.inputs.now c.args.config true false)
    (IsRefusedObject bs c.args.inputs.now c.args.config))
    c.in_ok-code.ensures.bytes c.run_code_picks.ensures.shows

pub returns-clause-list : goal.returns-clause-list
returns-clause-list g c =
    subst (λ (bs : List ℕ). IfOk c.run_code_picks.result (RunsObject bs c.args.inputs.now c.args.config (RunsByList c.args.picks.now)))
    c.in_ok-code.ensures.bytes c.run_code_picks.ensures.list

pub returns-in_err-code-clause-shows : goal.returns-in_err-code-clause-shows
returns-in_err-code-clause-shows g c =
    let p = err_from_is_err_and c.from_residual.result c.from_residual.ensures.1 in
    rw (p.1, p.2) (unopened_refused c.args.bytes.now c.args.inputs.now c.args.config c.in_err-code.field-0.0 c.in_err-code.ensures.opened)
