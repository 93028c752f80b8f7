use Rattle.std.proofs.Common.{refl, get_or}
use Rattle.std.proofs.lemmas.Result.{err_from_is_err_and}
use Rattle.std.proofs.lemmas.Option.{slice_get-get_or}
use Rattle.html_text.specs.PaneText.{next_number}
use Rattle.sink.proofs.Sent.{sends_from, sends_other}
use Rattle.sink.proofs.Numbered.{more, stop, done}
use Rattle.html_text.proofs.pane.send_nodes.Goals as goal

pub returns-in_err-send_next : goal.returns-in_err-send_next
returns-in_err-send_next g c =
    let p = err_from_is_err_and c.from_residual.result c.from_residual.ensures.1 in
    let l = c.loop-place in
    rw p.1 (stop next_number l.place c.args.nodes.now (get_or c.args.nodes.now l.place 0) p.0 _ _ _
    (slice_get-get_or c.args.nodes.now l.place 0 c.loop-place-test.true) l.invariant
    (sends_other c.in_err-send_next.field-0.0 p.0 _ _ _ c.in_err-send_next.ensures))

pub loop-place-preserved : goal.loop-place-preserved
loop-place-preserved g c =
    let l = c.loop-place in
    more next_number l.place c.args.nodes.now (get_or c.args.nodes.now l.place 0) _ _ _
    (slice_get-get_or c.args.nodes.now l.place 0 c.loop-place-test.true) l.invariant
    (sends_from _ _ _ _ c.in_ok-send_next.was c.send_next.ensures)

pub returns : goal.returns
returns g c =
    let l = c.loop-place in
    done next_number l.place c.args.nodes.now _ tt _ _ refl c.loop-place-test.false l.invariant
