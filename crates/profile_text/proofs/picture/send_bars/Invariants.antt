use Rattle.profile_text.proofs.Bars.{SentSo}
use Rattle.profile_text.proofs.picture.send_bars.Given as goal

abbrev pub invariant-loop-place : goal.invariant-loop-place
invariant-loop-place g l = SentSo l.bars l.size l.top l.counts l.rest l.place (g.W.Write.contents l.fn.writer) (g.W.Write.contents l.writer)
