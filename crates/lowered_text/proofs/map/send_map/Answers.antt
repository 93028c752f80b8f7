use Rattle.std.proofs.Common.{refl}
use Rattle.std.proofs.lemmas.Result.{err_from_is_err_and}
use Rattle.std.proofs.lemmas.Option.{slice_get_read}
use Rattle.sink.proofs.Sent.{sends_from, sends_other}
use Rattle.sink.proofs.Numbered.{more, stop, done}
use Rattle.lowered_text.specs.Texts.{block_lines}
use Rattle.lowered_text.proofs.map.send_map.Goals as goal

pub returns-in_err-send_block : goal.returns-in_err-send_block
returns-in_err-send_block g c =
    let p = err_from_is_err_and c.from_residual.result c.from_residual.ensures.1 in
    let l = c.loop-block in
    rw p.1 (stop (block_lines c.args.program.now) l.block c.args.places.now c.index-places-block.result p.0 _ _ _
    (slice_get_read c.args.places.now _ l.block c.index-places-block.result refl c.loop-block-test.true c.index-places-block.is)
    l.invariant.appended (sends_other c.in_err-send_block.field-0.0 p.0 _ _ _ c.in_err-send_block.ensures.lines))

pub loop-block-preserved : goal.loop-block-preserved
loop-block-preserved g c =
    let l = c.loop-block in
    record {
      appended = more (block_lines c.args.program.now) l.block c.args.places.now c.index-places-block.result _ _ _
          (slice_get_read c.args.places.now _ l.block c.index-places-block.result refl c.loop-block-test.true c.index-places-block.is)
          l.invariant.appended (sends_from _ _ _ _ c.in_ok-send_block.was c.send_block.ensures.lines);
      reached = c.send_block.ensures.reached;
    }

pub returns : goal.returns
returns g c =
    let l = c.loop-block in
    done (block_lines c.args.program.now) l.block c.args.places.now _ tt _ _ refl c.loop-block-test.false l.invariant.appended
