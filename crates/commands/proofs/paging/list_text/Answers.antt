use Rattle.std.proofs.Common.{List, ℕ, false, subst}
use Rattle.std.proofs.lemmas.Result.{err_from_is_err_and}
use Rattle.driver.specs.Headline.{stops_in}
use Rattle.driver.specs.Objects.{ShowsObject, RunsObject}
use Rattle.driver.specs.Orders.{RunsByTurns}
use Rattle.driver.specs.Refused.{IsRefusedObject}
use Rattle.driver.proofs.Truth.{reports_in}
use Rattle.driver.proofs.TextObjects.{refused_as_text}
use Rattle.commands.proofs.paging.list_text.Goals as goal

pub returns : goal.returns
returns g c =
    let k = c.in_ok-compiled.compiled in
    let same = c.bytes-bytes.ensures in
    let shows = subst
    (λ (bs : List ℕ). ShowsObject bs c.args.inputs.now c.args.config false (stops_in c.args.order g.G.Gate.may_stop) c.in_ok-report.report) same
    c.in_ok-report.ensures.shows in
    record {
      compiled = c.in_ok-compiled.ensures;
      truth = reports_in c.args.order c.args.text.now k.checked k.object.bytes c.args.inputs.now c.args.config g.G.Gate.may_stop c.in_ok-report.report
          c.in_ok-compiled.ensures shows
          (λ take turns. subst (λ (bs : List ℕ). RunsObject bs c.args.inputs.now c.args.config (RunsByTurns take) c.in_ok-report.report) same
          (c.in_ok-report.ensures.turns take turns));
      shows = shows;
    }

pub returns-in_err-report : goal.returns-in_err-report
returns-in_err-report g c =
    let p = err_from_is_err_and c.from_residual-in_err-report.result c.from_residual-in_err-report.ensures.1 in
    let k = c.in_ok-compiled.compiled in
    rw (p.1, p.2)
    (refused_as_text c.args.text.now k.checked k.object.bytes c.args.inputs.now c.args.config c.in_ok-compiled.ensures c.in_err-report.field-0.0
    (subst (λ (bs : List ℕ). IsRefusedObject bs c.args.inputs.now c.args.config c.in_err-report.field-0.0) c.bytes-bytes.ensures
    c.in_err-report.ensures.shows))
