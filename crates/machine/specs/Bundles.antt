-- What contracts see of a bundle.
use Rattle.std.specs.Prelude.{List}
use Rattle.tags.specs.declared.token.Token.{Token}
use Rattle.element.specs.Near.{Bounds}
use Rattle.machine.specs.declared.bundle.Reach.{Reach}

abbrev pub bounds_within : Reach → Bounds
bounds_within r = record { frames = r.frames; cells = r.cells }

-- Its tokens, and how much there is of what they may name
pub record BundleView : Type 0 where
  pub tokens : List Token
  pub bounds : Bounds
