use Rattle.commands.proofs.refusal_text.write_refusal.Goals as goal

pub returns-in-TooManySlots : goal.returns-in-TooManySlots
returns-in-TooManySlots g c = rw c.in-TooManySlots.is c.write_numbered.ensures

pub returns-in-TooManyFrames : goal.returns-in-TooManyFrames
returns-in-TooManyFrames g c = rw c.in-TooManyFrames.is c.write_too_many_frames.ensures

pub returns-in-NotAtRest : goal.returns-in-NotAtRest
returns-in-NotAtRest g c = rw c.in-NotAtRest.is c.send-in-NotAtRest.ensures
