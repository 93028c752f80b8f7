use Rattle.law_compiler.proofs.Objects.{plans_are_sound, plans_have_objects, plans_take_inputs, code_has_bounds}
use Rattle.law_compiler.proofs.composition.graphs_compile.Goals as goal

pub returns-clause-sound : goal.returns-clause-sound
returns-clause-sound c = plans_are_sound

pub returns-clause-objects : goal.returns-clause-objects
returns-clause-objects c = plans_have_objects

pub returns-clause-inputs : goal.returns-clause-inputs
returns-clause-inputs c = plans_take_inputs

pub returns-clause-bounds : goal.returns-clause-bounds
returns-clause-bounds c = code_has_bounds
