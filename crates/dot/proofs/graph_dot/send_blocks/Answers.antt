use Rattle.std.proofs.Common.{◌≡◌, ◌+◌, ◌++◌, ◌∷◌, [], ◌∙◌, ℕ, List, Option, Some, None, Ok, Err, refl, sym, ap, take, length, arith, append_assoc}
use Rattle.std.specs.Prelude.{codes, decimal, option_to_list, slice_get}
use Rattle.std.proofs.lemmas.Result.{err_from_is_err_and}
use Rattle.std.proofs.lemmas.Option.{slice_get_read}
use Rattle.std.proofs.Math.Nat.{add-zero}
use Rattle.semantics.specs.Graph.{Node, Block}
use Rattle.semantics.specs.Text.{field, kind_text}
use Rattle.sink.specs.Numbered.{numbered}
use Rattle.sink.proofs.Sent.{appends_then, appends_none, sends_from, sends_more, sends_less, sends_other, sends_same, sends_whole}
use Rattle.sink.proofs.Numbered.{more, stop, done, outside}
use Rattle.dot.specs.GraphDot.{region_of, arm_letter, arm_sign, arm_opens, opens, closes, node_box, style_of, edge, node_place, node_dot, input_box}
use Rattle.dot.specs.GraphDot.{inputs_dot, result_dot, block_head, block_dot, graph_head, graph_dot}
use Rattle.dot.specs.CodeDot as C
use Rattle.disassembler.specs.Listing as L
use Rattle.dot.proofs.graph_dot.send_blocks.Goals as goal

pub returns-in_err-send_block : goal.returns-in_err-send_block
returns-in_err-send_block g c =
    let p = err_from_is_err_and c.from_residual.result c.from_residual.ensures.1 in
    let l = c.loop-place in
    rw p.1 (stop (block_dot) l.place c.args.blocks.now c.index-blocks-place.result p.0 _ _ _
    (slice_get_read c.args.blocks.now _ l.place c.index-blocks-place.result refl c.loop-place-test.true c.index-blocks-place.is) l.invariant
    (sends_other c.in_err-send_block.field-0.0 p.0 _ _ _ c.in_err-send_block.ensures))

pub loop-place-preserved : goal.loop-place-preserved
loop-place-preserved g c =
    let l = c.loop-place in
    more (block_dot) l.place c.args.blocks.now c.index-blocks-place.result _ _ _
    (slice_get_read c.args.blocks.now _ l.place c.index-blocks-place.result refl c.loop-place-test.true c.index-blocks-place.is) l.invariant
    (sends_from _ _ _ _ c.in_ok-send_block.was c.send_block.ensures)

pub returns : goal.returns
returns g c =
    let l = c.loop-place in
    done (block_dot) l.place c.args.blocks.now _ tt _ _ refl c.loop-place-test.false l.invariant
