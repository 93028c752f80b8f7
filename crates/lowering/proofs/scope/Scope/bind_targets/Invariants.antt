use Rattle.std.proofs.Common.{◌≡◌, ◌≤◌, drop, length}
use Rattle.source.specs.Lowered.{let_scoped}
use Rattle.lowering.proofs.scope.Scope.bind_targets.Given as goal

abbrev pub invariant-loop-i : goal.invariant-loop-i
invariant-loop-i g l = record {
  in_names : l.i ≤ length l.targets;
  in_sources : l.i ≤ length l.sources;
  bound : l.self ≡ let_scoped (drop l.i l.targets) (drop l.i l.sources) l.fn.self;
}

abbrev pub decreases-loop-i : goal.decreases-loop-i
decreases-loop-i g l = l.i
