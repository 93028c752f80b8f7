use Rattle.std.proofs.Common.{ℕ, take}
use Rattle.std.specs.Io.KnownBytes.{Appends}
use Rattle.semantics.specs.Program.{CodeBlock}
use Rattle.disassembler.specs.Places.{IsBlockAt}
use Rattle.dot.specs.CodeDot.{instr_dot}
use Rattle.sink.specs.Numbered.{numbered}
use Rattle.dot.proofs.code_dot.send_instrs.Given as goal

abbrev pub invariant-loop-number : goal.invariant-loop-number
invariant-loop-number g l = (k : ℕ) → (b : CodeBlock) → IsBlockAt l.object.code.program k b l.block → Appends (g.W.Write.contents l.fn.writer)
    (g.W.Write.contents l.writer) (numbered (instr_dot l.place) 0 (take l.number b.instrs))
