use Rattle.std.proofs.Common.{◌∙◌, ap, ℤ}
use Rattle.surface.specs.Constants as constants
use Rattle.surface_check.proofs.Places.{product_back}
use Rattle.surface_check.proofs.constant.multiplied.Goals as goal

pub returns : goal.returns
returns c = c.in_64_bits.ensures ∙ ap (λ (z : ℤ). constants.in_64_bits c.args.at z) (product_back c.args.x c.args.y c.ranges.x c.ranges.y)
