use Rattle.std.proofs.Common.{◌≡◌, ℕ, take}
use Rattle.semantics.specs.Program.{CodeBlock}
use Rattle.object_view.specs.Taking.{IsBlockAt}
use Rattle.object_view.proofs.taking.instrs_of.Given as goal

abbrev pub invariant-loop-number : goal.invariant-loop-number
invariant-loop-number g l = (k : ℕ) → (b : CodeBlock) → IsBlockAt l.object.code.program k b l.block → l.instrs.items ≡ take l.number b.instrs
