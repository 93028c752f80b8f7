use Rattle.std.proofs.Common.{◌∙◌, sym, ap}
use Rattle.std.proofs.lemmas.Result.{err_from_is_err_and}
use Rattle.replay.specs.declared.extent.Extent.{Extent}
use Rattle.replay.specs.Entering.{IsUnfit, AreUnfit}
use Rattle.replay.proofs.Determined.{event_after}
use Rattle.replay.proofs.Fitting.{passed_on}
use Rattle.replay.proofs.Ledgers.{entries_next, entries_all}
use Rattle.replay.proofs.ledger.Ledger.enter_all.Goals as goal

pub loop-event-preserved : goal.loop-event-preserved
loop-event-preserved g c =
    let p = g.C.Instructions.program c.args.code.now in
    let l = c.loop-event in
    let ev = c.event-item.result in
    record {
      whole = c.enter.ensures.whole;
      extent = c.enter.ensures.extent ∙ l.invariant.extent;
      ready = c.in_ok-entry.ensures.ready;
      so_far = λ z b elements frames records.
          let here = l.invariant.so_far z b elements frames records in
          let next = c.in_ok-entry.ensures.entered z here.0 (elements ∙ ap (λ (x : Extent). x.elements) (sym l.invariant.extent))
          (frames ∙ ap (λ (x : Extent). x.frames) (sym l.invariant.extent)) here.2 in (
            next.0,
            entries_next p z b here.0 next.0 c.args.events.now l.event-index ev l.entries.items c.push.new.self.items c.in_ok-entry.entry
                c.loop-event-test.true c.event-item.is c.in_ok-push.ensures.items here.1 next.1,
            next.2,
          );
    }

pub returns-clause-entered : goal.returns-clause-entered
returns-clause-entered g c z b elements frames records =
    let p = g.C.Instructions.program c.args.code.now in
    let l = c.loop-event in
    let here = l.invariant.so_far z b elements frames records in
    (here.0, entries_all p z b here.0 c.args.events.now l.event-index l.entries.items c.loop-event-test.false here.1)

pub returns-in_err-entry-clause-unfit : goal.returns-in_err-entry-clause-unfit
returns-in_err-entry-clause-unfit g c =
    let p = g.C.Instructions.program c.args.code.now in
    let l = c.loop-event in
    let ev = c.event-item.result in
    let from = err_from_is_err_and c.from_residual-in_err-entry.result c.from_residual-in_err-entry.ensures.1 in
    passed_on (IsUnfit p l.self ev) (AreUnfit p c.args.self.now c.args.events.now) c.from_residual-in_err-entry.result from.0 c.in_err-entry.field-0.0
    from.1 from.2
    (λ unfit z b elements frames records last run.
    let here = l.invariant.so_far z b elements frames records in
    let next = event_after p z b here.0 c.args.events.now l.event-index ev l.entries.items last c.loop-event-test.true c.event-item.is here.1 run in
    unfit z here.0 (elements ∙ ap (λ (x : Extent). x.elements) (sym l.invariant.extent)) (frames ∙ ap (λ (x : Extent). x.frames) (sym l.invariant.extent))
    here.2 next.0 next.1.event)
    c.in_err-entry.ensures.unfit
