use Rattle.std.proofs.Common.{◌≡◌, drop}
use Rattle.semantics.specs.Versions.{version_number}
use Rattle.schemas.specs.Expanded as Expanded
use Rattle.schemas.proofs.plans.push_variants.Given as goal

abbrev pub invariant-loop-number : goal.invariant-loop-number
invariant-loop-number g l =
    Expanded.variant_codes l.codes (version_number l.version) l.blocks l.variants l.number (drop l.number l.blocks)
    ≡ Expanded.variant_codes l.fn.codes (version_number l.version) l.blocks l.variants 0 l.blocks
