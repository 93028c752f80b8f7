use Rattle.std.proofs.Common.{◌≡◌, drop}
use Rattle.surface_check.specs.Heads.{heads_read, no_heads}
use Rattle.surface_check.specs.Renamed.{numbers_in}
use Rattle.surface_check.specs.Table.{heads_in}
use Rattle.surface_check.proofs.heads.read.Given as goal

-- the words that are left give the result of all words
abbrev pub invariant-loop-word : goal.invariant-loop-word
invariant-loop-word g l = heads_read (numbers_in l.names) (heads_in l.reader) (drop l.word-index l.words) ≡ heads_read (numbers_in l.names) no_heads l.words
