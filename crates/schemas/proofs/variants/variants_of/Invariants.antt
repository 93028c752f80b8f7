use Rattle.std.proofs.Common.{◌≡◌, ◌+◌, ◌≤◌, length}
use Rattle.schemas.specs.Variants as Variants
use Rattle.schemas.proofs.variants.variants_of.Given as goal

abbrev pub invariant-loop-looped : goal.invariant-loop-looped
invariant-loop-looped g l =
    (l.variants.items ≡ Variants.variants_from l.blocks l.looped-index)
    × (l.next ≡ Variants.next_variant l.blocks l.looped-index)
    × (l.next ≤ length l.blocks + l.looped-index)
