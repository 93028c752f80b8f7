use Rattle.std.proofs.Common.{refl}
use Rattle.std.proofs.lemmas.Result.{err_from_is_err_and}
use Rattle.std.proofs.lemmas.Option.{slice_get_read}
use Rattle.html_text.specs.PaneText.{block_text}
use Rattle.sink.proofs.Sent.{sends_from, sends_other}
use Rattle.sink.proofs.Numbered.{more, stop, done}
use Rattle.html_text.proofs.pane.send_blocks.Goals as goal

pub returns-in_err-send_block : goal.returns-in_err-send_block
returns-in_err-send_block g c =
    let p = err_from_is_err_and c.from_residual.result c.from_residual.ensures.1 in
    let l = c.loop-place in
    rw p.1 (stop block_text l.place c.args.places.now c.index-places-place.result p.0 _ _ _
    (slice_get_read c.args.places.now _ l.place c.index-places-place.result refl c.loop-place-test.true c.index-places-place.is) l.invariant
    (sends_other c.in_err-send_block.field-0.0 p.0 _ _ _ c.in_err-send_block.ensures))

pub loop-place-preserved : goal.loop-place-preserved
loop-place-preserved g c =
    let l = c.loop-place in
    more block_text l.place c.args.places.now c.index-places-place.result _ _ _
    (slice_get_read c.args.places.now _ l.place c.index-places-place.result refl c.loop-place-test.true c.index-places-place.is) l.invariant
    (sends_from _ _ _ _ c.in_ok-send_block.was c.send_block.ensures)

pub returns : goal.returns
returns g c =
    let l = c.loop-place in
    done block_text l.place c.args.places.now _ tt _ _ refl c.loop-place-test.false l.invariant
