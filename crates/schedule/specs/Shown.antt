-- What a report says of a run that hands out frames in order.
use Rattle.std.specs.Prelude.{ℕ, Bool, ℤ, List}
use Rattle.semantics.specs.Program.{Program}
use Rattle.semantics.specs.Machine.{Machine, Size, at_start}
use Rattle.semantics.specs.Report.{Report, IsPicture, HasEnd, IsWithinSteps}
use Rattle.frame_order.specs.InOrder.{OrderedRun}

-- The report shows a run in which the free frame of least number is handed out, and a released frame goes to the request that has waited longest.
pub record ShowsInOrder (p : Program) (z : Size) (inputs : List ℤ) (steps : ℕ) (by_list may_stop : Bool) (r : Report) : Type 0 where
  pub last : Machine
  pub run : OrderedRun p z (at_start p inputs) r.events last
  pub picture : IsPicture p z last r
  pub ends : HasEnd p z steps by_list may_stop r.events last r.end
  pub within : IsWithinSteps z steps r.events
