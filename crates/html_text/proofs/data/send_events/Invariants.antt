use Rattle.std.proofs.Common.{◌+◌, drop}
use Rattle.html_text.specs.DataText.{event_text}
use Rattle.trace_text.specs.TraceText.{paired}
use Rattle.trace_text.proofs.Pairs.{IsLeft}
use Rattle.html_text.proofs.data.send_events.Given as goal

abbrev pub invariant-loop-place : goal.invariant-loop-place
invariant-loop-place g l = IsLeft (g.W.Write.contents l.fn.writer) (g.W.Write.contents l.writer) (paired (event_text l.first) 0 l.events l.entries)
    (paired (event_text l.first) (0 + l.place) (drop l.place l.events) (drop l.place l.entries))
