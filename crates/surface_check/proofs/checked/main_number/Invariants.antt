use Rattle.std.proofs.Common.{◌≡◌, ℕ, ◌<◌}
use Rattle.source.specs.Words.{name_of}
use Rattle.source.specs.Rules.{main_name}
use Rattle.surface_check.proofs.checked.main_number.Given as goal

-- no earlier name is `main`
abbrev pub invariant-loop-i : goal.invariant-loop-i
invariant-loop-i l = (k : ℕ) → k < l.i → name_of l.names k ≡ main_name → ⊥
