use Rattle.std.proofs.Common.{◌≡◌, drop}
use Rattle.lowering.specs.Conditionals.{with_merges, entered_nodes}
use Rattle.lowering.proofs.machine.Machine.put_enters.Given as goal

abbrev pub invariant-loop-i : goal.invariant-loop-i
invariant-loop-i g l =
    with_merges l.self (entered_nodes l.self.site l.at (drop l.i l.sources)) ≡ with_merges l.fn.self (entered_nodes l.fn.self.site l.at l.sources)
