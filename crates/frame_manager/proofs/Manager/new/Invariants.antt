use Rattle.frame_manager.proofs.Counts.{IsOpened}
use Rattle.frame_manager.proofs.Manager.new.Given as goal

abbrev pub invariant-loop-frame : goal.invariant-loop-frame
invariant-loop-frame g l = IsOpened l.flags l.frames l.frame
