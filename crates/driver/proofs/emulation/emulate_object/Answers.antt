use Rattle.std.proofs.Common.{false, ap, ◌∙◌, subst}
use Rattle.std.specs.Prelude.{MatchResult}
use Rattle.mode.specs.declared.Mode.{Mode}
use Rattle.schedule.specs.declared.take.Take.TheVariants.{Oldest}
use Rattle.driver.specs.declared.order.Order.{Order}
use Rattle.driver.specs.Headline.{stops_in}
use Rattle.driver.specs.Objects.{ShowsObject}
use Rattle.driver.specs.Orders.{order_of}
use Rattle.driver.specs.Refused.{IsRefusedObject}
use Rattle.driver.proofs.emulation.emulate_object.Goals as goal

pub returns-clause-shows : goal.returns-clause-shows
returns-clause-shows g c =
    subst (λ (o : Order). MatchResult c.run_object.result (ShowsObject c.args.bytes.now c.args.inputs.now c.args.config false
    (stops_in o g.G.Gate.may_stop)) (IsRefusedObject c.args.bytes.now c.args.inputs.now c.args.config)) c.in_mode-order.ensures c.run_object.ensures.shows

pub returns-clause-turns : goal.returns-clause-turns
returns-clause-turns g c = λ one. c.run_object.ensures.turns Oldest (c.in_mode-order.ensures ∙ ap (λ (m : Mode). order_of m Oldest) one)
