use Rattle.std.proofs.Common.{◌≡◌, drop, length, replicate}
use Rattle.slot_alloc.specs.Words.{bare, pass}
use Rattle.slot_alloc.proofs.passes.pass.Given as goal

abbrev pub invariant-loop-place : goal.invariant-loop-place
invariant-loop-place g l =
    (pass l.plan l.choice l.known l.marks l.flows.items l.place (drop l.place l.fn.block.instrs)
    ≡ pass l.plan l.choice l.known l.marks (replicate (length l.fn.block.instrs) bare) 0 l.fn.block.instrs)
    × (length l.flows.items ≡ length l.fn.block.instrs)
