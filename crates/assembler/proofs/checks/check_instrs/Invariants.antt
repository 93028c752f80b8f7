use Rattle.std.proofs.Common.{◌≡◌, drop}
use Rattle.assembler.specs.Checks.{each, instr_checked}
use Rattle.assembler.proofs.checks.check_instrs.Given as goal

abbrev pub invariant-loop-number : goal.invariant-loop-number
invariant-loop-number g l = each (instr_checked l.version l.code l.block l.index) l.number (drop l.number l.block.instrs)
    ≡ each (instr_checked l.version l.code l.block l.index) 0 l.block.instrs
