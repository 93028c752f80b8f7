use Rattle.std.proofs.Common.{◌≡◌, drop}
use Rattle.code.specs.Holders.{held_by}
use Rattle.code.proofs.holders.first_held.Given as goal

abbrev pub invariant-loop-instr : goal.invariant-loop-instr
invariant-loop-instr g l = held_by (drop l.instr-index l.instrs) l.number ≡ held_by l.instrs l.number
