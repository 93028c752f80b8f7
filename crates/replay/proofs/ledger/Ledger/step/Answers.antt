use Rattle.std.proofs.Common.{◌≡◌}
use Rattle.element.specs.declared.lane.Stepped.{Stepped}
use Rattle.replay.proofs.Fitting.{clash_excluded, stuck_excluded, clash_steps, stuck_steps}
use Rattle.replay.proofs.ledger.Ledger.step.Goals as goal

pub returns-in-Some-Clash-clause-excluded : goal.returns-in-Some-Clash-clause-excluded
returns-in-Some-Clash-clause-excluded g c =
    let l = c.args.self.now.lane in
    let cell = c.in-Some-Clash.field-0-0 in
    let told = c.in-Some-Clash.field-0-is in
    let is : c.in-Some-Clash.field-0 ≡ Stepped.Clash cell = cc (told) in
    clash_excluded l cell
    (clash_steps l cell c.in-Some-Clash.field-0 c.new-sent.result.items c.step.new.self.held c.step.new.sent.items is c.in-Some-Clash.ensures.exact)

pub returns-in-Some-Stuck-clause-excluded : goal.returns-in-Some-Stuck-clause-excluded
returns-in-Some-Stuck-clause-excluded g c =
    let l = c.args.self.now.lane in
    let rule = c.in-Some-Stuck.field-0-0 in
    let told = c.in-Some-Stuck.field-0-is in
    let is : c.in-Some-Stuck.field-0 ≡ Stepped.Stuck rule = cc (told) in
    stuck_excluded l rule
    (stuck_steps l rule c.in-Some-Stuck.field-0 c.new-sent.result.items c.step.new.self.held c.step.new.sent.items is c.in-Some-Stuck.ensures.exact)
