use Rattle.std.proofs.Common.{◌≡◌, drop}
use Rattle.source.specs.Lowered.{merges}
use Rattle.lowering.specs.Conditionals.{with_merges}
use Rattle.lowering.proofs.machine.Machine.merge.Given as goal

abbrev pub invariant-loop-i : goal.invariant-loop-i
invariant-loop-i g l =
    with_merges l.self (merges l.self.site l.at l.cond (drop l.i l.left) (drop l.i l.right))
    ≡ with_merges l.fn.self (merges l.fn.self.site l.at l.cond l.left l.right)
