use Rattle.std.proofs.Common.{◌≡◌, drop}
use Rattle.select.specs.Literals.{entered, used_by}
use Rattle.select.proofs.literals.enter.Given as goal

abbrev pub invariant-loop-instr : goal.invariant-loop-instr
invariant-loop-instr g l = entered l.table.keys (used_by (drop l.instr-index l.instrs)) ≡ entered l.initial.table.keys (used_by l.instrs)
