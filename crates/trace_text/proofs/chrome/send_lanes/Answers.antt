use Rattle.std.proofs.Common.{◌+◌, ◌-◌, ◌<◌, ◌≤◌, refl, arith}
use Rattle.std.proofs.lemmas.Result.{err_from_is_err_and}
use Rattle.trace_text.specs.TraceText.{lane_text, lanes_text}
use Rattle.sink.proofs.Sent.{sends_from, sends_other}
use Rattle.trace_text.proofs.Pairs.{less_left, stopped, none_left, next_lane, no_lane}
use Rattle.trace_text.proofs.chrome.send_lanes.Goals as goal

pub returns-in_err-send_lane : goal.returns-in_err-send_lane
returns-in_err-send_lane g c =
    let p = err_from_is_err_and c.from_residual.result c.from_residual.ensures.1 in
    let l = c.loop-element in
    let lt : l.element < c.args.elements = omega (arith, c.loop-element-test.true) in
    rw p.1 (stopped p.0 _ _ _ (lanes_text 0 c.args.elements) (lanes_text l.element (c.args.elements - l.element)) (lane_text l.element)
    (lanes_text (l.element + 1) (c.args.elements - (l.element + 1))) (next_lane l.element c.args.elements lt) l.invariant
    (sends_other c.in_err-send_lane.field-0.0 p.0 _ _ _ c.in_err-send_lane.ensures))

pub loop-element-preserved : goal.loop-element-preserved
loop-element-preserved g c =
    let l = c.loop-element in
    let lt : l.element < c.args.elements = omega (arith, c.loop-element-test.true) in
    less_left _ _ _ (lanes_text 0 c.args.elements) (lanes_text l.element (c.args.elements - l.element)) (lane_text l.element)
    (lanes_text (l.element + 1) (c.args.elements - (l.element + 1))) (next_lane l.element c.args.elements lt) l.invariant
    (sends_from c.send_lane.result _ _ _ c.in_ok-send_lane.was c.send_lane.ensures)

pub returns : goal.returns
returns g c =
    let l = c.loop-element in
    let le : c.args.elements ≤ l.element = omega (arith, c.loop-element-test.false) in
    none_left _ tt _ _ (lanes_text 0 c.args.elements) (lanes_text l.element (c.args.elements - l.element)) refl (no_lane l.element c.args.elements le)
    l.invariant
