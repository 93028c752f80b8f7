use Rattle.std.proofs.Common.{ℕ, List, false, inl, inr, ap, subst, ◌∙◌}
use Rattle.object_view.specs.Reading.{Opened}
use Rattle.report_text.specs.ReportText.{object_report_text}
use Rattle.schedule.specs.Unlisted.{Quietly}
use Rattle.driver.specs.declared.order.Order.{Order}
use Rattle.driver.specs.Objects.{ShowsObjectIn}
use Rattle.driver.specs.Refused.{IsRefusedObject}
use Rattle.driver.proofs.TextObjects.{unopened_refused}
use Rattle.outcomes.specs.declared.outcome.Outcome.{Outcome}
use Rattle.outcomes.specs.Outcomes.{ending_of}
use Rattle.commands.proofs.Served.{printed, stopped}
use Rattle.in_turn.proofs.printing.print_object_run_on.Goals as goal

pub returns-in-Ok-write_object_report : goal.returns-in-Ok-write_object_report
returns-in-Ok-write_object_report g c =
    let r = c.in-Ok-run_code_quietly_in_turn.report in
    let is = subst (λ (bs : List ℕ). Quietly (ShowsObjectIn (Order.InTurn c.args.take) bs c.args.inputs.now c.args.config false) r) c.in-Ok.ensures.bytes
    c.in-Ok-run_code_quietly_in_turn.ensures in
    inl (
      r,
      is,
      printed _ _ _ _ _ _ _ (Outcome.Reported (ending_of r)) (ap (λ (o : Opened). object_report_text o.code.program.arrays r)
          (c.object.ensures ∙ c.in-Ok.ensures.opened.0)) (ap Outcome.Reported c.of.ensures) c.in-Ok-write_object_report.ensures,
    )

pub returns-in-Ok-run_code_quietly_in_turn : goal.returns-in-Ok-run_code_quietly_in_turn
returns-in-Ok-run_code_quietly_in_turn g c =
    let r = c.in-Ok-run_code_quietly_in_turn.report in
    let is = subst (λ (bs : List ℕ). Quietly (ShowsObjectIn (Order.InTurn c.args.take) bs c.args.inputs.now c.args.config false) r) c.in-Ok.ensures.bytes
    c.in-Ok-run_code_quietly_in_turn.ensures in
    inl (
      r,
      is,
      stopped _ _ _ _ _ _ (Outcome.Reported (ending_of r)) (ap (λ (o : Opened). object_report_text o.code.program.arrays r)
          (c.object.ensures ∙ c.in-Ok.ensures.opened.0)) c.in-Err-write_object_report.ensures,
    )

pub returns : goal.returns
returns g c =
    let fault = c.in-Err-run_code_quietly_in_turn.fault in
    let refused = subst (λ (bs : List ℕ). IsRefusedObject bs c.args.inputs.now c.args.config fault) c.in-Ok.ensures.bytes
    c.in-Err-run_code_quietly_in_turn.ensures in
    inr (
      c.refusal_of-in-Err-run_code_quietly_in_turn.result,
      (fault, refused, c.refusal_of-in-Err-run_code_quietly_in_turn.ensures),
      c.print_refusal-in-Err-run_code_quietly_in_turn.ensures,
    )

pub returns-in-Err : goal.returns-in-Err
returns-in-Err g c = inr (
  c.refusal_of.result,
  (c.in-Err.fault, unopened_refused c.args.bytes.now c.args.inputs.now c.args.config c.in-Err.fault c.in-Err.ensures.opened, c.refusal_of.ensures),
  c.print_refusal.ensures,
)
