use Rattle.std.proofs.Common.{◌-◌}
use Rattle.trace_text.specs.TraceText.{lanes_text}
use Rattle.trace_text.proofs.Pairs.{IsLeft}
use Rattle.trace_text.proofs.chrome.send_lanes.Given as goal

abbrev pub invariant-loop-element : goal.invariant-loop-element
invariant-loop-element g l = IsLeft (g.W.Write.contents l.fn.writer) (g.W.Write.contents l.writer) (lanes_text 0 l.elements)
    (lanes_text l.element (l.elements - l.element))
