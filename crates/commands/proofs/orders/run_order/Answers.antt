use Rattle.std.proofs.Common.{◌≡◌, true, rules}
use Rattle.std.proofs.lemmas.Result.{err_from_is_err_and}
use Rattle.driver.proofs.ObjectRuns.{elements_of}
use Rattle.driver.proofs.TextObjects.{refused_as_text}
use Rattle.commands.proofs.OrderRuns.{order_of}
use Rattle.commands.proofs.orders.run_order.Goals as goal

pub play_drawn-requires-clause-elements : goal.play_drawn-requires-clause-elements
play_drawn-requires-clause-elements g c =
    let same : c.in_ok-machine.machine.state.setting.elements ≡ c.args.config.elements = elements_of c.args.code.now.bytes c.args.inputs.now
    c.args.config c.in_ok-machine.machine c.in_ok-machine.ensures in
    search (rules, same)

pub returns : goal.returns
returns g c = λ text gr compiled.
    order_of text gr c.args.code.now.bytes c.args.inputs.now c.args.config c.args.seed c.args.order c.first_number.result c.in_ok-machine.machine
    c.play_drawn.new.machine c.in_ok-halt.halt c.report.result
    compiled c.in_ok-machine.ensures c.first_number.ensures c.in_ok-halt.ensures c.report.ensures.reported (λ ins b h. c.report.ensures.shows ins true b h)

pub returns-in_err-machine : goal.returns-in_err-machine
returns-in_err-machine g c = λ text gr compiled.
    let p = err_from_is_err_and c.from_residual-in_err-machine.result c.from_residual-in_err-machine.ensures.1 in
    rw (p.1, p.2) (refused_as_text text gr c.args.code.now.bytes c.args.inputs.now c.args.config compiled c.in_err-machine.field-0.0 c.in_err-machine.ensures)

pub returns-in_err-halt : goal.returns-in_err-halt
returns-in_err-halt g c = λ text gr compiled.
    let p = err_from_is_err_and c.from_residual-in_err-halt.result c.from_residual-in_err-halt.ensures.1 in
    rw (p.1, p.2) tt
