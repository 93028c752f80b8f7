use Rattle.std.proofs.Common.{◌≡◌, ◌++◌, drop}
use Rattle.semantics.specs.Sharing.{placed_instrs}
use Rattle.semantics.specs.Versions.{version_number}
use Rattle.select.specs.Emitted.{emitted_instrs}
use Rattle.select.proofs.instrs.emit_instrs.Given as goal

abbrev pub invariant-loop-instr : goal.invariant-loop-instr
invariant-loop-instr g l =
    l.emitted.items ++ emitted_instrs (version_number l.version) (placed_instrs l.slots (drop l.instr-index l.instrs))
    ≡ emitted_instrs (version_number l.version) (placed_instrs l.slots l.instrs)
