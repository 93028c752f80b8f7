use Rattle.std.proofs.Common.{◌≡◌, ◌≤◌, true}
use Rattle.source.specs.Tokens.{position}
use Rattle.source_tokens.proofs.placing.go_back.Given as goal

abbrev pub invariant-loop-i : goal.invariant-loop-i
invariant-loop-i l = record {
  before : l.i ≤ l.fn.from.at;
  behind : l.end ≤ l.i;
  line : l.line ≡ (position l.program l.i).line;
  column : l.same_line ≡ true → l.column ≡ (position l.program l.i).column;
}

abbrev pub decreases-loop-i : goal.decreases-loop-i
decreases-loop-i l = l.i
