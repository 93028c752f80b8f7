use Rattle.std.proofs.Common.{◌∙◌, ◌++◌, sym, ap}
use Rattle.std.proofs.lemmas.Result.{err_from_is_err_and}
use Rattle.semantics.specs.Machine.{at_start}
use Rattle.frame_order.proofs.InOrder.{run_split}
use Rattle.replay.specs.declared.extent.Extent.{Extent}
use Rattle.replay.specs.Books.{opening}
use Rattle.replay.specs.Entering.{on_way, numbers_from, AreUnfit, HasNoRun}
use Rattle.replay.proofs.Determined.{run_after}
use Rattle.replay.proofs.Fitting.{passed_on}
use Rattle.replay.proofs.ledger.Ledger.keep.Goals as goal

pub returns-clause-books : goal.returns-clause-books
returns-clause-books g c z elements frames =
    let p = g.C.Instructions.program c.args.code.now in
    let begun = c.begin.ensures.extent in
    let same = c.pass_all.ensures.extent ∙ begun in
    let passed = c.in_ok-changes.ensures.passed z (opening p c.args.inputs.now) (elements ∙ ap (λ (x : Extent). x.elements) (sym begun))
    (frames ∙ ap (λ (x : Extent). x.frames) (sym begun)) c.in_ok-begin.ensures.begun in
    let n = passed.0 in
    let entered = c.in_ok-entries.ensures.entered z n (elements ∙ ap (λ (x : Extent). x.elements) (sym same))
    (frames ∙ ap (λ (x : Extent). x.frames) (sym same)) passed.2 in
    record {
      first = n;
      passed = passed.1;
      tokens = c.in_ok-tokens.ensures ∙ ap on_way c.deref.ensures.value ∙ sym passed.2.pool;
      numbers = c.in_ok-numbers.ensures ∙ ap (numbers_from 0) c.deref-2.ensures.value ∙ sym passed.2.numbers;
      next = c.len-next.ensures ∙ c.pass_all.new.self.places.ok.0 ∙ sym passed.2.next;
      last = entered.0;
      entries = entered.1;
    }

pub returns-in_err-changes-clause-unfit : goal.returns-in_err-changes-clause-unfit
returns-in_err-changes-clause-unfit g c =
    let p = g.C.Instructions.program c.args.code.now in
    let ins = c.args.inputs.now in
    let begun = c.begin.ensures.extent in
    let from = err_from_is_err_and c.from_residual-in_err-changes.result c.from_residual-in_err-changes.ensures.1 in
    passed_on (AreUnfit p c.begin.new.self c.args.earlier.now) (HasNoRun p c.args.self.now.extent ins (c.args.earlier.now ++ c.args.events.now))
    c.from_residual-in_err-changes.result from.0 c.in_err-changes.field-0.0 from.1 from.2
    (λ unfit z elements frames run.
    let split = run_split p z (at_start p ins) run.0 c.args.earlier.now c.args.events.now run.1 in
    unfit z (opening p ins) (elements ∙ ap (λ (x : Extent). x.elements) (sym begun)) (frames ∙ ap (λ (x : Extent). x.frames) (sym begun))
    c.in_ok-begin.ensures.begun split.0 split.1)
    c.in_err-changes.ensures.unfit

pub returns-in_err-entries-clause-unfit : goal.returns-in_err-entries-clause-unfit
returns-in_err-entries-clause-unfit g c =
    let p = g.C.Instructions.program c.args.code.now in
    let ins = c.args.inputs.now in
    let begun = c.begin.ensures.extent in
    let same = c.pass_all.ensures.extent ∙ begun in
    let from = err_from_is_err_and c.from_residual-in_err-entries.result c.from_residual-in_err-entries.ensures.1 in
    passed_on (AreUnfit p c.pass_all.new.self c.args.events.now) (HasNoRun p c.args.self.now.extent ins (c.args.earlier.now ++ c.args.events.now))
    c.from_residual-in_err-entries.result from.0 c.in_err-entries.field-0.0 from.1 from.2
    (λ unfit z elements frames run.
    let passed = c.in_ok-changes.ensures.passed z (opening p ins) (elements ∙ ap (λ (x : Extent). x.elements) (sym begun))
    (frames ∙ ap (λ (x : Extent). x.frames) (sym begun)) c.in_ok-begin.ensures.begun in
    let later = run_after p z (opening p ins) passed.0 c.args.earlier.now c.args.events.now passed.1.entries run.0 passed.1.are run.1 in
    unfit z passed.0 (elements ∙ ap (λ (x : Extent). x.elements) (sym same)) (frames ∙ ap (λ (x : Extent). x.frames) (sym same)) passed.2 run.0 later)
    c.in_err-entries.ensures.unfit
