use Rattle.std.proofs.Common.{take}
use Rattle.std.specs.Io.KnownBytes.{Appends}
use Rattle.sink.specs.Numbered.{numbered}
use Rattle.profile_text.specs.ProfileText.{wave_line}
use Rattle.profile_text.proofs.lines.send_waves.Given as goal

abbrev pub invariant-loop-place : goal.invariant-loop-place
invariant-loop-place g l = Appends (g.W.Write.contents l.fn.writer) (g.W.Write.contents l.writer) (numbered wave_line 0 (take l.place l.counts))
