use Rattle.std.proofs.Common.{◌≡◌, List, All, length}
use Rattle.source.specs.Tree.{Name}
use Rattle.source_text.specs.Outcomes.{lexeme_named, IsShallow}
use Rattle.source_text.specs.Running.{state, onward}
use Rattle.source_text.proofs.parser.Parser.take.Given as goal

abbrev pub invariant-loop-symbol : goal.invariant-loop-symbol
invariant-loop-symbol g l = record {
  shallow : All IsShallow l.self.stack.items;
  same : (names : List Name) → onward l.at (lexeme_named names l.lexeme) (state names l.initial.self.stack.items l.initial.self.words.items)
      ≡ onward l.at (lexeme_named names l.lexeme) (state names l.self.stack.items l.self.words.items);
}

abbrev pub decreases-loop-symbol : goal.decreases-loop-symbol
decreases-loop-symbol g l = length l.self.stack.items
