use Rattle.law_surface.proofs.InstancesAreNew.{instances_are_new}
use Rattle.law_surface.proofs.instances_are_new.Goals as goal

pub returns : goal.returns
returns c = record { law = instances_are_new }
