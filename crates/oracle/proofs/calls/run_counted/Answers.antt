use Rattle.std.proofs.Common.{ap, sym, ◌∙◌, [], Some}
use Rattle.oracle.specs.Running.{plain, start_of}
use Rattle.oracle.proofs.Called.{counted_some, counted_none}
use Rattle.oracle.proofs.RowRuns.{run_kept, told_none}
use Rattle.oracle.proofs.calls.run_counted.Goals as goal

pub run-requires-clause-has_end : goal.run-requires-clause-has_end
run-requires-clause-has_end g c =
    let s = c.in_ok-state.state in
    let first = plain s.invocations s.fresh.items [] s.deferred.items s.cells.items s.outputs.items in
    λ e. c.requires.has_end (told_none c.args.checked.now c.args.inputs.now c.args.steps first s.waiting.items (λ v. v.items) c.in_ok-state.ensures.0
    c.in_ok-state.ensures.1 e)

pub returns-in-Rest-clause-counts : goal.returns-in-Rest-clause-counts
returns-in-Rest-clause-counts g c =
    let s = c.in_ok-state.state in
    let n = c.run.new.state in
    let checked = c.args.checked.now in
    let first = plain s.invocations s.fresh.items [] s.deferred.items s.cells.items s.outputs.items in
    let last = plain n.invocations n.fresh.items [] n.deferred.items n.cells.items n.outputs.items in
    counted_some checked c.args.inputs.now c.args.steps last
    (run_kept checked c.args.steps (start_of checked c.args.inputs.now) first [] s.waiting.items (λ v. v.items) (sym c.in_ok-state.ensures.0)
    c.in_ok-state.ensures.1
    ∙ c.in_ok-run.ensures
    ∙ ap (λ e. Some (e, last)) c.in-Rest.is)
    c.deref-in-Rest.result.now c.deref-in-Rest.ensures.value c.counts_of.result c.counts_of.ensures.some

pub returns-in-Rest-clause-none : goal.returns-in-Rest-clause-none
returns-in-Rest-clause-none g c =
    let s = c.in_ok-state.state in
    let n = c.run.new.state in
    let checked = c.args.checked.now in
    let first = plain s.invocations s.fresh.items [] s.deferred.items s.cells.items s.outputs.items in
    let last = plain n.invocations n.fresh.items [] n.deferred.items n.cells.items n.outputs.items in
    counted_none checked c.args.inputs.now c.args.steps last
    (run_kept checked c.args.steps (start_of checked c.args.inputs.now) first [] s.waiting.items (λ v. v.items) (sym c.in_ok-state.ensures.0)
    c.in_ok-state.ensures.1
    ∙ c.in_ok-run.ensures
    ∙ ap (λ e. Some (e, last)) c.in-Rest.is)
    c.deref-in-Rest.result.now c.deref-in-Rest.ensures.value c.counts_of.result c.counts_of.ensures.none
