use Rattle.std.proofs.Common.{◌≡◌, List, All, length}
use Rattle.source.specs.Tree.{Name}
use Rattle.law_surface_text.specs.Automaton.{is_taken, would_take, advance}
use Rattle.law_surface_text.specs.Named.{named_stack}
use Rattle.surface_text.specs.Outcomes.{lexeme_named, IsShallow}
use Rattle.surface_text.proofs.parser.Parser.would_take.Given as goal

abbrev pub invariant-loop-symbol : goal.invariant-loop-symbol
invariant-loop-symbol g l = record {
  shallow : All IsShallow l.rest;
  same : (names : List Name) → would_take 200 (named_stack names l.self.stack.items) (lexeme_named names l.lexeme)
      ≡ is_taken (advance 200 (named_stack names l.rest) l.lacking 0 (lexeme_named names l.lexeme));
}

abbrev pub decreases-loop-symbol : goal.decreases-loop-symbol
decreases-loop-symbol g l = length l.rest
