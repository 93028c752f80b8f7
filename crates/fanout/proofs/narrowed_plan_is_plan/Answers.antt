use Rattle.fanout.proofs.Plans.{stays_plan, marks_stay, loops_stay}
use Rattle.fanout.proofs.Arrows.{dests_stay}
use Rattle.fanout.proofs.Wires.{stays_wired}
use Rattle.fanout.proofs.Standing.{instrs_stay, landings_stay}
use Rattle.fanout.proofs.narrowed_plan_is_plan.Goals as goal

pub returns-clause-plan : goal.returns-clause-plan
returns-clause-plan c = stays_plan

pub returns-clause-marks : goal.returns-clause-marks
returns-clause-marks c = marks_stay

pub returns-clause-loops : goal.returns-clause-loops
returns-clause-loops c = loops_stay

pub returns-clause-dests : goal.returns-clause-dests
returns-clause-dests c = dests_stay

pub returns-clause-wired : goal.returns-clause-wired
returns-clause-wired c = stays_wired

pub returns-clause-places : goal.returns-clause-places
returns-clause-places c = instrs_stay

pub returns-clause-landings : goal.returns-clause-landings
returns-clause-landings c = landings_stay
