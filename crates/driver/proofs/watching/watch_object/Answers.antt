use Rattle.std.proofs.Common.{List, ℕ, ap, ◌∙◌, false, subst}
use Rattle.std.specs.Prelude.{MatchResult, IfOk}
use Rattle.object_view.specs.Reading.{Opened}
use Rattle.driver.specs.Headline.{stops_in}
use Rattle.driver.specs.ListedEvents.{AreMoments}
use Rattle.driver.specs.Objects.{ShowsObject, RunsObject}
use Rattle.driver.specs.Orders.{RunsByTurns}
use Rattle.driver.specs.Refused.{IsRefusedObject}
use Rattle.driver.proofs.watching.watch_object.Goals as goal

pub returns-clause-shows : goal.returns-clause-shows
returns-clause-shows g c =
    let same = ap (λ (x : Opened). x.bytes) (c.in_ok-code.ensures ∙ c.as_object.ensures) in
    subst (λ (bs : List ℕ). MatchResult c.watch_code.result (λ w. ShowsObject bs c.args.inputs.now c.args.config false
    (stops_in c.args.order g.G.Gate.may_stop) w.report) (IsRefusedObject bs c.args.inputs.now c.args.config)) same c.watch_code.ensures.shows

pub returns-clause-turns : goal.returns-clause-turns
returns-clause-turns g c = λ take turns.
    let same = ap (λ (x : Opened). x.bytes) (c.in_ok-code.ensures ∙ c.as_object.ensures) in
    subst (λ (bs : List ℕ). IfOk c.watch_code.result (λ w. RunsObject bs c.args.inputs.now c.args.config (RunsByTurns take) w.report)) same
    (c.watch_code.ensures.turns take turns)

pub returns-clause-moments : goal.returns-clause-moments
returns-clause-moments g c =
    let same = ap (λ (x : Opened). x.bytes) (c.in_ok-code.ensures ∙ c.as_object.ensures) in
    subst (λ (bs : List ℕ). IfOk c.watch_code.result (λ w. AreMoments bs c.args.inputs.now c.args.config w.report w.moments.items)) same
    c.watch_code.ensures.moments
