use Rattle.std.proofs.Common.{◌≡◌, ◌≤◌, ◌-◌, drop, length}
use Rattle.surface.specs.Tokens.{lexed, lexed_from}
use Rattle.surface_tokens.proofs.Lexed.{with_front}
use Rattle.surface_tokens.proofs.lexing.lex.Given as goal

abbrev pub invariant-loop-beginning : goal.invariant-loop-beginning
invariant-loop-beginning g l = record {
  within : l.at ≤ length l.program;
  so_far : with_front l.tokens.items (lexed_from (drop l.at l.program) l.at 0) ≡ lexed l.program;
}

abbrev pub decreases-loop-beginning : goal.decreases-loop-beginning
decreases-loop-beginning g l = length l.program - l.at
