use Rattle.std.proofs.Common.{◌∙◌, ap, map, List}
use Rattle.std.proofs.lemmas.List.{take_all}
use Rattle.element.specs.Holding.{LaneView, held_of}
use Rattle.schedule.specs.State.{tokens_in}
use Rattle.machine.proofs.Lists.{queues_more}
use Rattle.machine.proofs.starting.tokens_of.Goals as goal

pub returns : goal.returns
returns g c = c.loop-at.invariant ∙ ap (λ (l : List LaneView). tokens_in (map held_of l)) (take_all c.loop-at.at c.args.lanes.now c.loop-at-test.false)

pub loop-at-preserved : goal.loop-at-preserved
loop-at-preserved g c = queues_more c.args.lanes.now c.loop-at.at c.index-lanes-at.result c.loop-at.tokens.items c.list_queue.new.tokens.items
    c.loop-at-test.true c.index-lanes-at.is c.loop-at.invariant c.in_ok-list_queue.ensures
