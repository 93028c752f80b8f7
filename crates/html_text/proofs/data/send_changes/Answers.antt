use Rattle.std.proofs.Common.{refl}
use Rattle.std.proofs.lemmas.Result.{err_from_is_err_and}
use Rattle.std.proofs.lemmas.Option.{slice_get_read}
use Rattle.html_text.specs.DataText.{listed_change}
use Rattle.sink.proofs.Sent.{sends_from, sends_other}
use Rattle.sink.proofs.Numbered.{more, stop, done}
use Rattle.html_text.proofs.data.send_changes.Goals as goal

pub returns-in_err-send_listed_change : goal.returns-in_err-send_listed_change
returns-in_err-send_listed_change g c =
    let p = err_from_is_err_and c.from_residual.result c.from_residual.ensures.1 in
    let l = c.loop-place in
    rw p.1 (stop listed_change l.place c.args.changes.now c.index-changes-place.result p.0 _ _ _
    (slice_get_read c.args.changes.now _ l.place c.index-changes-place.result refl c.loop-place-test.true c.index-changes-place.is) l.invariant
    (sends_other c.in_err-send_listed_change.field-0.0 p.0 _ _ _ c.in_err-send_listed_change.ensures))

pub loop-place-preserved : goal.loop-place-preserved
loop-place-preserved g c =
    let l = c.loop-place in
    more listed_change l.place c.args.changes.now c.index-changes-place.result _ _ _
    (slice_get_read c.args.changes.now _ l.place c.index-changes-place.result refl c.loop-place-test.true c.index-changes-place.is) l.invariant
    (sends_from _ _ _ _ c.in_ok-send_listed_change.was c.send_listed_change.ensures)

pub returns : goal.returns
returns g c =
    let l = c.loop-place in
    done listed_change l.place c.args.changes.now _ tt _ _ refl c.loop-place-test.false l.invariant
