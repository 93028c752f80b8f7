use Rattle.std.proofs.Common.{◌≡◌, [], drop}
use Rattle.surface_check.specs.Renamed.{numbers_in}
use Rattle.surface_check.specs.Steps.{lookup_by}
use Rattle.surface_check.proofs.array_parameters.ArrayParameters.get.Given as goal

-- the name is not found before
abbrev pub invariant-loop-entry : goal.invariant-loop-entry
invariant-loop-entry g l = lookup_by (numbers_in []) (drop l.entry-index l.self) l.name ≡ lookup_by (numbers_in []) l.self l.name
