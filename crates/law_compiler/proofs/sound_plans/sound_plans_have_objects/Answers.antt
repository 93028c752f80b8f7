use Rattle.law_compiler.proofs.ObjectsSound.{sound_have_objects}
use Rattle.law_compiler.proofs.sound_plans.sound_plans_have_objects.Goals as goal

pub returns : goal.returns
returns c = sound_have_objects
