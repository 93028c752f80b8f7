use Rattle.std.proofs.Common.{◌≡◌, ◌+◌}
use Rattle.slot_alloc.specs.Words.{enter_row}
use Rattle.slot_alloc.proofs.passes.enter_row.Given as goal

abbrev pub invariant-loop-k : goal.invariant-loop-k
invariant-loop-k l = l.flows ≡ enter_row l.fn.flows (l.from + l.ahead) l.lanes l.k
