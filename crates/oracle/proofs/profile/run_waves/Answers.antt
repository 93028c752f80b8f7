use Rattle.std.proofs.Common.{◌∙◌, suc, [], map, arith}
use Rattle.oracle.specs.Running.{plain}
use Rattle.oracle.specs.Rows.{rows_of}
use Rattle.oracle.proofs.WaveSteps.{waves_from, waves_none, waves_halt, waves_next, passed_by, halted_by, some_by, few_by}
use Rattle.oracle.proofs.profile.run_waves.Goals as goal

pub loop-counts-init : goal.loop-counts-init
loop-counts-init g c =
    let s = c.in_ok-state.state in
    let first = plain s.invocations s.fresh.items [] s.deferred.items s.cells.items s.outputs.items in (
      suc c.args.steps,
      omega arith,
      waves_from c.args.checked.now c.args.inputs.now c.args.steps first s.waiting.items (λ v. v.items) c.new-counts.result.items
          c.in_ok-state.ensures.0 c.in_ok-state.ensures.1 c.new-counts.ensures.items,
    )

pub next_wave-requires-clause-never_broken : goal.next_wave-requires-clause-never_broken
next_wave-requires-clause-never_broken g c =
    let s = c.loop-counts.state in
    let now = plain s.invocations s.fresh.items [] s.deferred.items s.cells.items s.outputs.items in
    let rows = rows_of (map (λ v. v.items) s.waiting.items) in
    λ e. c.requires.has_end (c.loop-counts.invariant.2 ∙ waves_none c.args.checked.now now rows c.loop-counts.counts.items c.loop-counts.invariant.0
    c.loop-counts.left e)

pub loop-counts-preserved : goal.loop-counts-preserved
loop-counts-preserved g c =
    let s = c.loop-counts.state in
    let t = c.next_wave.new.state in
    let checked = c.args.checked.now in
    let left = c.loop-counts.left in
    let n = c.in-Ok.count in
    let now = plain s.invocations s.fresh.items [] s.deferred.items s.cells.items s.outputs.items in
    let next = plain t.invocations t.fresh.items [] t.deferred.items t.cells.items t.outputs.items in
    let rows = rows_of (map (λ v. v.items) s.waiting.items) in
    let rs = rows_of (map (λ v. v.items) t.waiting.items) in
    let run_result = c.in_ok-count.ensures in
    waves_next checked now rows c.loop-counts.counts.items c.loop-counts.invariant.0 left n c.loop-counts.invariant.1
    (some_by c.in_ok-count.field-0 n c.in-Ok.is run_result.some) (few_by left c.in_ok-count.field-0 n c.in-Ok.is run_result.few)
    next rs (passed_by checked left now next rows rs c.in_ok-count.field-0 n c.in-Ok.is run_result.wave) _ c.loop-counts.invariant.2
    c.push.new.self.items c.in_ok-push-in-Ok.ensures.items

pub returns-in-Err : goal.returns-in-Err
returns-in-Err g c =
    let s = c.loop-counts.state in
    let t = c.next_wave.new.state in
    let checked = c.args.checked.now in
    let left = c.loop-counts.left in
    let now = plain s.invocations s.fresh.items [] s.deferred.items s.cells.items s.outputs.items in
    let next = plain t.invocations t.fresh.items [] t.deferred.items t.cells.items t.outputs.items in
    let rows = rows_of (map (λ v. v.items) s.waiting.items) in
    let rs = rows_of (map (λ v. v.items) t.waiting.items) in
    c.loop-counts.invariant.2 ∙ waves_halt checked now rows c.loop-counts.counts.items c.loop-counts.invariant.0 left c.loop-counts.invariant.1 c.in-Err.end
    (halted_by checked left now next rows rs c.in_ok-count.field-0 c.in-Err.end c.in-Err.is c.in_ok-count.ensures.wave)
