use Rattle.std.proofs.Common.{◌≡◌, drop}
use Rattle.trace_text.specs.TraceText.{place_from}
use Rattle.trace_text.proofs.columns.place_of.Given as goal

abbrev pub invariant-loop-block : goal.invariant-loop-block
invariant-loop-block l = place_from l.block (drop l.block l.object.code.program.blocks) l.number ≡ place_from 0 l.object.code.program.blocks l.ip
