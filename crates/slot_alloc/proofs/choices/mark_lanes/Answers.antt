use Rattle.std.proofs.Common.{◌≡◌, ap, ◌∙◌, arith}
use Rattle.slot_alloc.specs.Words.{mark_lanes}
use Rattle.slot_alloc.proofs.choices.mark_lanes.Goals as goal

pub returns : goal.returns
returns c =
    let low = c.loop-lane-test.false in
    let high = c.loop-lane.auto.lane-end in
    let end : c.loop-lane.lane ≡ 64 = omega (arith, low, high) in
    c.loop-lane.invariant ∙ ap (mark_lanes c.args.known.now c.args.mark) end
