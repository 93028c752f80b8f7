use Rattle.std.proofs.Common.{List, ℕ, false, subst}
use Rattle.std.specs.Prelude.{MatchResult, IfOk}
use Rattle.std.proofs.lemmas.Result.{err_from_is_err_and}
use Rattle.driver.specs.Headline.{stops_in}
use Rattle.driver.specs.Objects.{ShowsObject, RunsObject}
use Rattle.driver.specs.Orders.{RunsByTurns}
use Rattle.driver.specs.Refused.{IsRefusedObject}
use Rattle.driver.proofs.TextObjects.{unopened_refused}
use Rattle.driver.proofs.emulation.run_object.Goals as goal

pub returns-clause-shows : goal.returns-clause-shows
returns-clause-shows g c =
    subst (λ (bs : List ℕ). MatchResult c.run_code.result (ShowsObject bs c.args.inputs.now c.args.config false
    (stops_in c.args.order g.G.Gate.may_stop)) (IsRefusedObject bs c.args.inputs.now c.args.config))
    c.in_ok-code.ensures.bytes c.run_code.ensures.shows

pub returns-clause-turns : goal.returns-clause-turns
returns-clause-turns g c = λ take turns.
    subst (λ (bs : List ℕ). IfOk c.run_code.result (RunsObject bs c.args.inputs.now c.args.config (RunsByTurns take))) c.in_ok-code.ensures.bytes
    (c.run_code.ensures.turns take turns)

pub returns-in_err-code-clause-shows : goal.returns-in_err-code-clause-shows
returns-in_err-code-clause-shows g c =
    let p = err_from_is_err_and c.from_residual.result c.from_residual.ensures.1 in
    rw (p.1, p.2) (unopened_refused c.args.bytes.now c.args.inputs.now c.args.config c.in_err-code.field-0.0 c.in_err-code.ensures.opened)
