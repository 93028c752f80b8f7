use Rattle.std.proofs.Common.{◌≡◌, ◌+◌, length}
use Rattle.assembler.specs.Checks.{literals_checked}
use Rattle.assembler.proofs.checks.check_literals.Given as goal

abbrev pub decreases-loop-rest : goal.decreases-loop-rest
decreases-loop-rest l = length l.rest

abbrev pub invariant-loop-rest : goal.invariant-loop-rest
invariant-loop-rest l = record {
  so_far : literals_checked l.line l.rest ≡ literals_checked l.index l.literals;
  line : l.line + length l.rest
      ≡ l.index + length l.literals;
}
