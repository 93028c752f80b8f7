use Rattle.std.proofs.Common.{◌≡◌, drop}
use Rattle.lowering.specs.Numbered.{run_numbered}
use Rattle.lowering.proofs.machine.Machine.run.Given as goal

-- the words that are left do what all do
abbrev pub invariant-loop-word : goal.invariant-loop-word
invariant-loop-word g l = run_numbered l.names.names.now l.names.results.now l.self (drop l.word-index l.words)
    ≡ run_numbered l.names.names.now l.names.results.now l.fn.self l.words
