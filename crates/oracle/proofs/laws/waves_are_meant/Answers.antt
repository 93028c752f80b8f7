use Rattle.oracle.proofs.WaveRuns.{work_law, span_law}
use Rattle.oracle.proofs.laws.waves_are_meant.Goals as goal

pub returns-clause-work : goal.returns-clause-work
returns-clause-work c = work_law

pub returns-clause-span : goal.returns-clause-span
returns-clause-span c = span_law
