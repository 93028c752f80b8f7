use Rattle.std.proofs.Common.{◌≡◌, ◌≤◌, drop, length}
use Rattle.source.specs.Lowered.{scoped}
use Rattle.lowering.proofs.scope.Scope.bind_all.Given as goal

abbrev pub invariant-loop-i : goal.invariant-loop-i
invariant-loop-i g l = record {
  in_names : l.i ≤ length l.names;
  in_sources : l.i ≤ length l.sources;
  bound : l.self ≡ scoped (drop l.i l.names) (drop l.i l.sources) l.fn.self;
}

abbrev pub decreases-loop-i : goal.decreases-loop-i
decreases-loop-i g l = l.i
