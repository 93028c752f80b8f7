use Rattle.std.proofs.Common.{ap, ◌∙◌}
use Rattle.object_view.specs.Reading.{opened}
use Rattle.object_view.specs.Checks.{checked}
use Rattle.object_view.proofs.owned.OwnedObject.as_object.Goals as goal

pub of_checked-requires : goal.of_checked-requires
of_checked-requires g c = ap checked c.deref.ensures.value ∙ c.self.invariant

pub returns : goal.returns
returns g c = c.of_checked.ensures ∙ ap opened c.deref.ensures.value ∙ c.self.view_is
