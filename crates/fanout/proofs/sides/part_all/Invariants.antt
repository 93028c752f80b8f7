use Rattle.std.proofs.Common.{◌≡◌, ◌++◌, drop, map}
use Rattle.fanout.specs.Sides.{parted}
use Rattle.fanout.proofs.sides.part_all.Given as goal

abbrev pub invariant-loop-instr : goal.invariant-loop-instr
invariant-loop-instr g l = l.parts.items ++ map parted (drop l.instr-index l.instrs) ≡ map parted l.instrs
