-- The builder's types that have no name outside their crate.
use Rattle.semantics.specs.declared.graph.Region.TheVariants.{Root}
use Rattle.schemas.specs.Builds.{nowhere}
use Rattle.schemas.specs.Ends.{end_at}

abbrev pub type_of : {X : Type 0} → X → Type 0
type_of {X} x = X

-- where a value leaves
abbrev pub Outlet : Type 0
Outlet = type_of nowhere

-- an end of a region
abbrev pub End : Type 0
End = type_of (end_at Root nowhere)
