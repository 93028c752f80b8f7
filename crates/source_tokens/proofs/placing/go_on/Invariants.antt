use Rattle.std.proofs.Common.{◌≡◌, ◌≤◌, ◌+◌}
use Rattle.source.specs.Tokens.{position}
use Rattle.source_tokens.proofs.placing.go_on.Given as goal

abbrev pub invariant-loop-i : goal.invariant-loop-i
invariant-loop-i l = record {
  so_far : record { line = l.line; column = l.column } ≡ position l.program l.i;
  few_lines : l.line ≤ l.i + 1;
  few_columns : l.column ≤ l.i + 1;
}
