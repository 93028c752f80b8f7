use Rattle.std.proofs.Common.{All}
use Rattle.hints.specs.Hints.{IsPrinted}
use Rattle.hints.proofs.line.Line.of.Given as goal

abbrev pub invariant-loop-byte : goal.invariant-loop-byte
invariant-loop-byte g l = All IsPrinted l.bytes.items
