use Rattle.std.proofs.Common.{ℕ, ◌<◌, sym, subst, true, false}
use Rattle.std.specs.Prelude.{slice_index_or}
use Rattle.driver.proofs.ObjectRuns.{elements_of, shows_object, runs_by_list}
use Rattle.driver.proofs.running.run_code_picks.Goals as goal

pub run-requires : goal.run-requires
run-requires g c = λ k d h.
    let same = elements_of c.args.code.now.bytes c.args.inputs.now c.args.config c.in_ok-machine.machine c.in_ok-machine.ensures in
    subst (λ (n : ℕ). (slice_index_or c.args.picks.now k d).0 < n) (sym same) (c.requires k d h)

pub returns-clause-shows : goal.returns-clause-shows
returns-clause-shows g c =
    shows_object c.args.code.now.bytes c.args.inputs.now c.args.config c.in_ok-machine.machine c.in_ok-machine.ensures true false c.run.result
    c.run.ensures.shows

pub returns-clause-list : goal.returns-clause-list
returns-clause-list g c =
    runs_by_list c.args.code.now.bytes c.args.inputs.now c.args.config c.in_ok-machine.machine c.in_ok-machine.ensures c.args.picks.now c.run.result
    c.run.ensures.plays
