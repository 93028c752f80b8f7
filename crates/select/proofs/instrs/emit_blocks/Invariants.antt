use Rattle.std.proofs.Common.{◌≡◌, ◌++◌, drop}
use Rattle.semantics.specs.Placed.{placed_blocks}
use Rattle.semantics.specs.Versions.{version_number}
use Rattle.select.specs.Emitted.{emitted_blocks}
use Rattle.select.proofs.instrs.emit_blocks.Given as goal

abbrev pub invariant-loop-number : goal.invariant-loop-number
invariant-loop-number g l =
    l.emitted.items ++ emitted_blocks (version_number l.version) (placed_blocks (drop l.number l.slots) (drop l.number l.blocks))
    ≡ emitted_blocks (version_number l.version) (placed_blocks l.slots l.blocks)
