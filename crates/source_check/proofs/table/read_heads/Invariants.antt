use Rattle.std.proofs.Common.{◌≡◌, drop}
use Rattle.source_check.specs.Heads as heads
use Rattle.source_check.specs.Stack.{by_number, heads_in}
use Rattle.source_check.proofs.table.read_heads.Given as goal

-- the words that are left give the result of all words
abbrev pub invariant-loop-word : goal.invariant-loop-word
invariant-loop-word g l = heads.through (heads.head_step by_number) (heads_in l.heads) (drop l.word-index l.words) ≡ heads.through
    (heads.head_step by_number) heads.no_heads l.words
