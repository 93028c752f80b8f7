use Rattle.std.proofs.Common.{◌≡◌, drop}
use Rattle.std.specs.Prelude.{◌==◌}
use Rattle.std.specs.List.{list_any}
use Rattle.tags.specs.Addresses.{element_of}
use Rattle.schedule.proofs.delivery.has_token_for.Given as goal

-- what is left decides
abbrev pub invariant-loop-place : goal.invariant-loop-place
invariant-loop-place l = list_any (λ t. element_of l.elements t.to == l.element) (drop l.place l.tokens)
    ≡ list_any (λ t. element_of l.elements t.to == l.element) (drop l.start l.tokens)
