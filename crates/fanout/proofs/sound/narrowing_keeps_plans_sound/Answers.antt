use Rattle.fanout.proofs.SoundFlags.{sound_keeps_clear}
use Rattle.fanout.proofs.SoundPlans.{stays_sound, sound_has_dests}
use Rattle.fanout.proofs.sound.narrowing_keeps_plans_sound.Goals as goal

pub returns-clause-clear : goal.returns-clause-clear
returns-clause-clear c = sound_keeps_clear

pub returns-clause-sound : goal.returns-clause-sound
returns-clause-sound c = stays_sound

pub returns-clause-dests : goal.returns-clause-dests
returns-clause-dests c = sound_has_dests
