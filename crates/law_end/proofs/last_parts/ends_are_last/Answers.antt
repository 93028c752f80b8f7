use Rattle.law_end.proofs.OverLeft.{ends_are_last, calls_are_over, loops_are_over}
use Rattle.law_end.proofs.last_parts.ends_are_last.Goals as goal

pub returns-clause-ends : goal.returns-clause-ends
returns-clause-ends c = ends_are_last

pub returns-clause-calls : goal.returns-clause-calls
returns-clause-calls c = calls_are_over

pub returns-clause-loops : goal.returns-clause-loops
returns-clause-loops c = loops_are_over
