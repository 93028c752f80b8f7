use Rattle.std.proofs.Common.{◌≤◌}
use Rattle.semantics.specs.Rule.{array_base}
use Rattle.schedule.proofs.locating.locate.Given as goal

abbrev pub invariant-loop-number : goal.invariant-loop-number
invariant-loop-number g l = array_base (g.C.Instructions.program l.code) l.number ≤ l.cell
