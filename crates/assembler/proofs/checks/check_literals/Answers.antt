use Rattle.std.proofs.Common.{sym, ◌∙◌, arith}
use Rattle.assembler.proofs.Placed.{few_literals}
use Rattle.assembler.proofs.checks.check_literals.Goals as goal

pub returns : goal.returns
returns c = sym (few_literals c.loop-rest.line c.loop-rest.rest.now (omega (arith, c.in_default.len_below))) ∙ c.loop-rest.invariant.so_far
