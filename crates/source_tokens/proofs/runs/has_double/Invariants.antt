use Rattle.std.proofs.Common.{◌≡◌, ◌∷◌, drop, if◌then◌else◌}
use Rattle.source.specs.Tokens.{has_double}
use Rattle.source_tokens.proofs.runs.has_double.Given as goal

abbrev pub invariant-loop-b : goal.invariant-loop-b
invariant-loop-b l = has_double (if l.behind then 95 ∷ drop l.b-index l.run else drop l.b-index l.run) ≡ has_double l.run
