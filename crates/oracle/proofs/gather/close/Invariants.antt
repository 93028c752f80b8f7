use Rattle.std.proofs.Common.{◌≡◌, ◌-◌, ◌+◌, ◌≤◌, length, remove}
use Rattle.oracle.proofs.gather.close.Given as goal

abbrev pub invariant-loop-i : goal.invariant-loop-i
invariant-loop-i l =
    (length l.tokens ≡ length l.fn.tokens) × (l.place + 1 ≤ l.i) × (l.i ≤ length l.tokens) × (remove l.tokens (l.i - 1) ≡ remove l.fn.tokens l.place)
