use Rattle.std.proofs.Common.{◌≡◌, ◌++◌, reverse, length}
use Rattle.surface_text.proofs.parser.Parser.push_symbols.Given as goal

abbrev pub invariant-loop-last : goal.invariant-loop-last
invariant-loop-last g l = record {
  stack : l.self.stack.items ++ reverse l.rest ≡ l.initial.self.stack.items ++ reverse l.symbols;
  words : l.self.words.items ≡ l.initial.self.words.items;
}

abbrev pub decreases-loop-last : goal.decreases-loop-last
decreases-loop-last g l = length l.rest
