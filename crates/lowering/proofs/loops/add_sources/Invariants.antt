use Rattle.std.proofs.Common.{◌≡◌, ◌++◌, take, map}
use Rattle.source.specs.Lowered.{source_in}
use Rattle.lowering.proofs.loops.add_sources.Given as goal

abbrev pub invariant-loop-name : goal.invariant-loop-name
invariant-loop-name g l = l.sources.items ≡ l.fn.sources.items ++ map (source_in l.scope) (take l.name-index l.names)
