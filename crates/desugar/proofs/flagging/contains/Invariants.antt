use Rattle.std.proofs.Common.{◌≡◌, ◌==◌, ◌-◌, drop, take}
use Rattle.std.specs.List.{list_any}
use Rattle.desugar.proofs.flagging.contains.Given as goal

-- the names that are left say whether any is this one
abbrev pub invariant-loop-depth : goal.invariant-loop-depth
invariant-loop-depth g l = list_any (λ x. l.name == x) (take (l.count - l.depth) (drop l.depth l.names)) ≡ list_any (λ x. l.name == x) (take l.count l.names)

abbrev pub decreases-loop-depth : goal.decreases-loop-depth
decreases-loop-depth g l = l.count - l.depth
