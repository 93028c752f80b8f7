use Rattle.std.proofs.Common.{◌≡◌, inl, inr, ap, subst, rules, ◌∙◌, None, ℕ, List}
use Rattle.object_view.specs.Checks.{first_refusal}
use Rattle.object_view.specs.Reading.{Opened}
use Rattle.report_text.specs.ReportText.{object_report_text}
use Rattle.commands.specs.Served.{IsExecOf, IsNoExecOf}
use Rattle.outcomes.specs.declared.outcome.Outcome.{Outcome}
use Rattle.outcomes.specs.Outcomes.{ending_of}
use Rattle.commands.proofs.Served.{printed, stopped, unopened_exec}
use Rattle.commands.proofs.serving.print_exec.Goals as goal

pub exec_inputs-requires-clause-object : goal.exec_inputs-requires-clause-object
exec_inputs-requires-clause-object g c =
    let unrefused : first_refusal c.in-Ok.code.bytes ≡ None = ap first_refusal c.in-Ok.ensures.bytes ∙ c.in-Ok.ensures.opened.1.unrefused in
    search (rules, unrefused)

pub returns-in-Ok-write_object_report : goal.returns-in-Ok-write_object_report
returns-in-Ok-write_object_report g c =
    let r = c.in-Ok-exec_inputs.report in
    let is = subst (λ (bs : List ℕ). IsExecOf bs c.args.options.now c.args.inputs.now r) c.in-Ok.ensures.bytes c.in-Ok-exec_inputs.ensures in
    inl (
      r,
      is,
      printed _ _ _ _ _ _ _ (Outcome.Reported (ending_of r)) (ap (λ (o : Opened). object_report_text o.code.program.arrays r)
          (c.object.ensures ∙ c.in-Ok.ensures.opened.0)) (ap Outcome.Reported c.of.ensures) c.in-Ok-write_object_report.ensures,
    )

pub returns-in-Ok-exec_inputs : goal.returns-in-Ok-exec_inputs
returns-in-Ok-exec_inputs g c =
    let r = c.in-Ok-exec_inputs.report in
    let is = subst (λ (bs : List ℕ). IsExecOf bs c.args.options.now c.args.inputs.now r) c.in-Ok.ensures.bytes c.in-Ok-exec_inputs.ensures in
    inl (
      r,
      is,
      stopped _ _ _ _ _ _ (Outcome.Reported (ending_of r)) (ap (λ (o : Opened). object_report_text o.code.program.arrays r)
          (c.object.ensures ∙ c.in-Ok.ensures.opened.0)) c.in-Err-write_object_report.ensures,
    )

pub returns : goal.returns
returns g c =
    let f = c.in-Err-exec_inputs.refusal in
    inr (
      f,
      subst (λ (bs : List ℕ). IsNoExecOf bs c.args.options.now c.args.inputs.now f) c.in-Ok.ensures.bytes c.in-Err-exec_inputs.ensures,
      c.refuse-in-Err-exec_inputs.ensures,
    )

pub returns-in-Err : goal.returns-in-Err
returns-in-Err g c = inr (
  c.fault_refusal.result,
  unopened_exec c.args.bytes.now c.args.options.now c.args.inputs.now c.in-Err.fault
      c.in-Err.ensures.opened c.fault_refusal.result c.fault_refusal.ensures,
  c.refuse.ensures,
)
