use Rattle.std.proofs.Common.{List, ℕ, ap, ◌∙◌, subst}
use Rattle.std.proofs.lemmas.Result.{err_from_is_err_and}
use Rattle.semantics.specs.Text.{text_of}
use Rattle.object_view.specs.Reading.{Opened}
use Rattle.schedule.specs.Unlisted.{Quietly}
use Rattle.driver.specs.Objects.{ShowsObjectIn}
use Rattle.driver.specs.Refused.{IsRefusedObject}
use Rattle.driver.proofs.Truth.{reports_quietly}
use Rattle.programs.proofs.Refusals.{not_run}
use Rattle.programs.proofs.Shown.{quiet_shows}
use Rattle.programs.proofs.running.run_program.Goals as goal

pub returns-in_err-report : goal.returns-in_err-report
returns-in_err-report g c =
    let p = err_from_is_err_and c.from_residual-in_err-report.result c.from_residual-in_err-report.ensures.1 in
    let k = c.in_ok-object.ensures in
    let same = ap (λ (x : Opened). x.bytes) (c.in_ok-code.ensures ∙ c.as_object.ensures) in
    rw p.1
    (not_run c.args.text.now k.program k.graph k.lowers c.in_ok-object.object.bytes k.compiled c.args.inputs.now c.args.config c.in_err-report.field-0.0 p.0 p.2
    (subst (λ (bs : List ℕ). IsRefusedObject bs c.args.inputs.now c.args.config c.in_err-report.field-0.0) same c.in_err-report.ensures))

pub returns : goal.returns
returns g c =
    let k = c.in_ok-object.ensures in
    let same = ap (λ (x : Opened). x.bytes) (c.in_ok-code.ensures ∙ c.as_object.ensures) in
    let reported = reports_quietly c.args.order (text_of k.graph) k.graph c.in_ok-object.object.bytes c.args.inputs.now c.args.config g.G.Gate.may_stop
    c.in_ok-report.report k.compiled
    (subst (λ (bs : List ℕ). Quietly (ShowsObjectIn c.args.order bs c.args.inputs.now c.args.config g.G.Gate.may_stop) c.in_ok-report.report) same
    c.in_ok-report.ensures) in
    record {
      program = k.program;
      graph = k.graph;
      lowers = k.lowers;
      truth = reported;
      shows = quiet_shows c.args.text.now k.program k.graph k.lowers c.args.order c.args.inputs.now c.args.config g.G.Gate.may_stop
          c.in_ok-report.report reported;
    }
