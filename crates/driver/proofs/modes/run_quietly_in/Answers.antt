use Rattle.std.proofs.Common.{sym, subst, false}
use Rattle.driver.specs.declared.order.Order.{Order}
use Rattle.schedule.specs.Setting.{Setting, size}
use Rattle.schedule.specs.declared.take.Take.{Take}
use Rattle.schedule.specs.Unlisted.{ShowsQuietly, Quietly, RunsTaking}
use Rattle.driver.specs.Headline.{stops_in}
use Rattle.driver.proofs.Taking.{same_take}
use Rattle.driver.proofs.modes.run_quietly_in.Goals as goal

pub returns-in-InTurn-clause-turns : goal.returns-in-InTurn-clause-turns
returns-in-InTurn-clause-turns g c = λ take turns.
    subst (λ (t : Take). Quietly (RunsTaking t c.args.machine) c.run_quietly_in_turn.result)
    (same_take c.args.order c.in-InTurn.take take c.in-InTurn.is turns) c.run_quietly_in_turn.ensures

pub returns-in-InTurn-clause-shows : goal.returns-in-InTurn-clause-shows
returns-in-InTurn-clause-shows g c = λ inputs began.
    let z : Setting = c.args.machine.state.setting in
    subst (λ (m : Order). ShowsQuietly z.program (size z) inputs z.steps false (stops_in m g.G.Gate.may_stop) c.run_quietly_in_turn.result) (sym c.in-InTurn.is)
    (record { unlisted = c.run_quietly_in_turn.ensures.0; events = c.run_quietly_in_turn.ensures.1; shows = (c.run_quietly_in_turn.ensures.2).shows inputs began })

pub returns-in-InRounds-clause-shows : goal.returns-in-InRounds-clause-shows
returns-in-InRounds-clause-shows g c = λ inputs began.
    let z : Setting = c.args.machine.state.setting in
    subst (λ (m : Order). ShowsQuietly z.program (size z) inputs z.steps false (stops_in m g.G.Gate.may_stop) c.run_quietly_taking.result)
    (sym c.in-InRounds.is) (c.run_quietly_taking.ensures.shows inputs began)

pub returns-in-Free-clause-shows : goal.returns-in-Free-clause-shows
returns-in-Free-clause-shows g c = λ inputs began.
    let z : Setting = c.args.machine.state.setting in
    subst (λ (m : Order). ShowsQuietly z.program (size z) inputs z.steps false (stops_in m g.G.Gate.may_stop) c.run_quietly_taking-in-Free.result)
    (sym c.in-Free.is) (c.run_quietly_taking-in-Free.ensures.shows inputs began)
