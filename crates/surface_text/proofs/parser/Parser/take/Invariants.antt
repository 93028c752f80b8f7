use Rattle.std.proofs.Common.{◌≡◌, List, All, length, false}
use Rattle.source.specs.Tree.{Name}
use Rattle.surface_text.specs.Outcomes.{lexeme_named, IsShallow}
use Rattle.surface_text.specs.Running.{state, onward}
use Rattle.surface_text.proofs.parser.Parser.take.Given as goal

abbrev pub invariant-loop-symbol : goal.invariant-loop-symbol
invariant-loop-symbol g l = record {
  shallow : All IsShallow l.self.stack.items;
  same : (names : List Name) → onward false l.at (lexeme_named names l.lexeme) (state names l.initial.self.stack.items l.initial.self.words.items)
      ≡ onward l.lacking l.at (lexeme_named names l.lexeme) (state names l.self.stack.items l.self.words.items);
}

abbrev pub decreases-loop-symbol : goal.decreases-loop-symbol
decreases-loop-symbol g l = length l.self.stack.items
