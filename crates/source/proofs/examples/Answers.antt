use Rattle.source.proofs.Worked.{signs_give, else_if_gives, strict_call_gives, factorial_gives, sum_gives, count_gives, pairs_give, cells_give}
use Rattle.source.proofs.Worked.{outside_gives, faults_give, memory_is_computed}
use Rattle.source.proofs.examples.Goals as goal

pub returns-clause-factorial : goal.returns-clause-factorial
returns-clause-factorial c = factorial_gives

pub returns-clause-sum : goal.returns-clause-sum
returns-clause-sum c = sum_gives

pub returns-clause-count : goal.returns-clause-count
returns-clause-count c = count_gives

pub returns-clause-pairs : goal.returns-clause-pairs
returns-clause-pairs c = pairs_give

pub returns-clause-cells : goal.returns-clause-cells
returns-clause-cells c = cells_give

pub returns-clause-outside : goal.returns-clause-outside
returns-clause-outside c = outside_gives

pub returns-clause-faults : goal.returns-clause-faults
returns-clause-faults c = faults_give

pub returns-clause-memory : goal.returns-clause-memory
returns-clause-memory c = memory_is_computed

pub returns-clause-signs : goal.returns-clause-signs
returns-clause-signs c = signs_give

pub returns-clause-else_if : goal.returns-clause-else_if
returns-clause-else_if c = else_if_gives

pub returns-clause-strict_call : goal.returns-clause-strict_call
returns-clause-strict_call c = strict_call_gives
