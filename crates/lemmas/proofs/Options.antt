-- The result of a function on an option, and what follows for the option.
use Rattle.std.proofs.Common.{◌≡◌, None, Option, Some, option_map, refl}

pub option_map_none : {X Y : Type 0} (f : X → Y) (o : Option X) → option_map f o ≡ None → o ≡ None
option_map_none f None e = refl
option_map_none f (Some x) e = absurd cc

pub option_map_some : {X Y : Type 0} (f : X → Y) (o : Option X) (y : Y) → option_map f o ≡ Some y → (x : X) × (o ≡ Some x) × (y ≡ f x)
option_map_some f None y e = absurd cc
option_map_some f (Some x) y e = (x, refl, cc (e))
