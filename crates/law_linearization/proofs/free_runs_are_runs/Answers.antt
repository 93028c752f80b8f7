use Rattle.law_linearization.proofs.HistoryActing.{steps_act, acts_commute}
use Rattle.law_linearization.proofs.HistoryRunning.{run_of_history}
use Rattle.law_linearization.proofs.HistoryReordering.{takes_first}
use Rattle.law_linearization.proofs.EndsBalancing.{what_is_left}
use Rattle.law_linearization.proofs.EndsShowing.{began_freely, shows_freely, stops_freely}
use Rattle.law_linearization.proofs.Ends.{ends_freely}
use Rattle.law_linearization.proofs.free_runs_are_runs.Goals as goal

pub returns-clause-step : goal.returns-clause-step
returns-clause-step c = steps_act

pub returns-clause-commute : goal.returns-clause-commute
returns-clause-commute c = acts_commute

pub returns-clause-run : goal.returns-clause-run
returns-clause-run c = run_of_history

pub returns-clause-began : goal.returns-clause-began
returns-clause-began c = began_freely

pub returns-clause-shows : goal.returns-clause-shows
returns-clause-shows c = shows_freely

pub returns-clause-stops : goal.returns-clause-stops
returns-clause-stops c = stops_freely

pub returns-clause-first : goal.returns-clause-first
returns-clause-first c = takes_first

pub returns-clause-left : goal.returns-clause-left
returns-clause-left c = what_is_left

pub returns-clause-ends : goal.returns-clause-ends
returns-clause-ends c = ends_freely
