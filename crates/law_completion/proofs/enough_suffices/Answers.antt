use Rattle.law_completion.proofs.OneSlot as One
use Rattle.law_completion.proofs.BoundsCredits as Bounds
use Rattle.law_completion.proofs.TotalEnds as Ends
use Rattle.law_completion.proofs.FramesOut as Out
use Rattle.law_completion.proofs.DueGrows as Grows
use Rattle.law_completion.proofs.enough_suffices.Goals as goal

pub returns-clause-frames : goal.returns-clause-frames
returns-clause-frames c = Out.frames_suffice

pub returns-clause-length : goal.returns-clause-length
returns-clause-length c = Grows.length_bounds

pub returns-clause-complete : goal.returns-clause-complete
returns-clause-complete c = Ends.runs_complete

pub returns-clause-bounds : goal.returns-clause-bounds
returns-clause-bounds c = Bounds.bounds_are_credits

pub returns-clause-slots : goal.returns-clause-slots
returns-clause-slots c = One.one_slot

pub returns-clause-rest : goal.returns-clause-rest
returns-clause-rest c = Ends.runs_rest

pub returns-clause-room_rest : goal.returns-clause-room_rest
returns-clause-room_rest c = Ends.roomy_runs_rest

pub returns-clause-room_complete : goal.returns-clause-room_complete
returns-clause-room_complete c = Ends.roomy_runs_complete
