use Rattle.std.proofs.Common.{◌+◌, drop}
use Rattle.trace_text.specs.TraceText.{event_objects, paired}
use Rattle.trace_text.proofs.Pairs.{IsLeft}
use Rattle.trace_text.proofs.chrome.send_events.Given as goal

abbrev pub invariant-loop-place : goal.invariant-loop-place
invariant-loop-place g l = IsLeft (g.W.Write.contents l.fn.writer) (g.W.Write.contents l.writer) (paired (event_objects l.object.code.program) l.first
    l.events l.moments) (paired (event_objects l.object.code.program) (l.first + l.place) (drop l.place l.events) (drop l.place l.moments))
