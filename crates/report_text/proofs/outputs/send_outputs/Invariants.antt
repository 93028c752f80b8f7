use Rattle.std.proofs.Common.{take}
use Rattle.std.specs.Io.KnownBytes.{Appends}
use Rattle.sink.specs.Numbered.{numbered}
use Rattle.report_text.specs.ReportText.{output_line}
use Rattle.report_text.proofs.outputs.send_outputs.Given as goal

abbrev pub invariant-loop-port : goal.invariant-loop-port
invariant-loop-port g l = Appends (g.W.Write.contents l.fn.writer) (g.W.Write.contents l.writer) (numbered output_line 0 (take l.port l.outputs))
