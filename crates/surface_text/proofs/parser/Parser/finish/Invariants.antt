use Rattle.std.proofs.Common.{◌≡◌, ℕ, List, length}
use Rattle.source.specs.Tree.{Name}
use Rattle.surface_text.specs.Running.{state, ending}
use Rattle.surface_text.proofs.parser.Parser.finish.Given as goal

abbrev pub invariant-loop-symbol : goal.invariant-loop-symbol
invariant-loop-symbol g l =
    (names : List Name) (end : ℕ) → ending end (state names l.initial.self.stack.items l.initial.self.words.items)
    ≡ ending end (state names l.self.stack.items l.self.words.items)

abbrev pub decreases-loop-symbol : goal.decreases-loop-symbol
decreases-loop-symbol g l = length l.self.stack.items
