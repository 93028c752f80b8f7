use Rattle.std.proofs.Common.{◌≡◌, ◌++◌, ℤ, map, drop}
use Rattle.tags.specs.declared.value.Value.TheVariants.{Int}
use Rattle.oracle.specs.Sending.{entering_tokens}
use Rattle.oracle.proofs.runs.entering.Given as goal

abbrev pub invariant-loop-node : goal.invariant-loop-node
invariant-loop-node g l = entering_tokens 0 0 (map (λ (z : ℤ). Int z) l.inputs) ≡ l.fresh.items
    ++ entering_tokens 0 l.node (map (λ (z : ℤ). Int z) (drop l.node l.inputs))
