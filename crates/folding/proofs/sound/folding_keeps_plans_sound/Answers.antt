use Rattle.folding.proofs.SoundPlans.{still_sound}
use Rattle.folding.proofs.sound.folding_keeps_plans_sound.Goals as goal

pub returns : goal.returns
returns c = still_sound
