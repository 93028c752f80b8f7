use Rattle.std.proofs.Common.{◌≡◌, ◌≤◌, ◌+◌, ◌-◌}
use Rattle.source.specs.Tokens.{position}
use Rattle.source_tokens.proofs.placing.column_at.Given as goal

abbrev pub invariant-loop-start : goal.invariant-loop-start
invariant-loop-start l = record {
  before : l.start ≤ l.at;
  column : (position l.program l.at).column ≡ (position l.program l.start).column + (l.at - l.start);
}

abbrev pub decreases-loop-start : goal.decreases-loop-start
decreases-loop-start l = l.start
