use Rattle.law_reuse.proofs.SlotsLaw.{once_runs_are_own}
use Rattle.law_reuse.proofs.FramesUnfolded.{each_run_unfolds}
use Rattle.law_reuse.proofs.FramesTheorem.{shared_slots_are_faithful, releases_are_last, holders_are_alone}
use Rattle.law_reuse.proofs.Bounds.{code_uses_again}
use Rattle.law_reuse.proofs.shared_slots_are_faithful.Goals as goal

pub returns-clause-own : goal.returns-clause-own
returns-clause-own c = once_runs_are_own

pub returns-clause-unfold : goal.returns-clause-unfold
returns-clause-unfold c = each_run_unfolds

pub returns-clause-faithful : goal.returns-clause-faithful
returns-clause-faithful c = shared_slots_are_faithful

pub returns-clause-release : goal.returns-clause-release
returns-clause-release c = releases_are_last

pub returns-clause-alone : goal.returns-clause-alone
returns-clause-alone c = holders_are_alone

pub returns-clause-again : goal.returns-clause-again
returns-clause-again c = code_uses_again
