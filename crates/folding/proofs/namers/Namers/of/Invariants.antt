use Rattle.std.proofs.Common.{◌≡◌, drop, length}
use Rattle.folding.specs.Namers as of_namers
use Rattle.folding.proofs.namers.Namers.of.Given as goal

abbrev pub invariant-loop-number : goal.invariant-loop-number
invariant-loop-number g l = record {
  exact : of_namers.note_all l.plan l.namers l.number (drop l.number l.instr-items) ≡ of_namers.namers_of l.plan l.block;
  lefts : length l.namers.lefts ≡ length l.block.instrs;
  rights : length l.namers.rights ≡ length l.block.instrs;
}
