use Rattle.std.proofs.Common.{sym, subst, false}
use Rattle.driver.specs.declared.order.Order.{Order}
use Rattle.schedule.specs.declared.take.Take.{Take}
use Rattle.schedule.specs.Shown.{ShowsInOrder}
use Rattle.schedule.specs.Unlisted.{RunsTaking}
use Rattle.schedule.specs.Setting.{Setting, size}
use Rattle.driver.specs.Headline.{stops_in}
use Rattle.driver.proofs.Taking.{same_take}
use Rattle.driver.proofs.modes.run_in.Goals as goal

pub returns-in-InTurn-clause-turns : goal.returns-in-InTurn-clause-turns
returns-in-InTurn-clause-turns g c = λ take turns.
    subst (λ (t : Take). RunsTaking t c.args.machine c.run_in_turn.result) (same_take c.args.order c.in-InTurn.take take c.in-InTurn.is turns)
    c.run_in_turn.ensures

pub returns-in-InTurn-clause-shows : goal.returns-in-InTurn-clause-shows
returns-in-InTurn-clause-shows g c = λ inputs began.
    let z : Setting = c.args.machine.state.setting in
    subst (λ (m : Order). ShowsInOrder z.program (size z) inputs z.steps false (stops_in m g.G.Gate.may_stop) c.run_in_turn.result) (sym c.in-InTurn.is)
    (c.run_in_turn.ensures.shows inputs began)

pub returns-in-InRounds-clause-shows : goal.returns-in-InRounds-clause-shows
returns-in-InRounds-clause-shows g c = λ inputs began.
    let z : Setting = c.args.machine.state.setting in
    subst (λ (m : Order). ShowsInOrder z.program (size z) inputs z.steps false (stops_in m g.G.Gate.may_stop) c.run_taking.result) (sym c.in-InRounds.is)
    (c.run_taking.ensures.shows inputs began)

pub returns-in-Free-clause-shows : goal.returns-in-Free-clause-shows
returns-in-Free-clause-shows g c = λ inputs began.
    let z : Setting = c.args.machine.state.setting in
    subst (λ (m : Order). ShowsInOrder z.program (size z) inputs z.steps false (stops_in m g.G.Gate.may_stop) c.run_taking-in-Free.result) (sym c.in-Free.is)
    (c.run_taking-in-Free.ensures.shows inputs began)
