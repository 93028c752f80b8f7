use Rattle.std.proofs.Common.{◌≡◌, ◌+◌, ◌++◌, ◌∷◌, [], ◌∙◌, ℕ, List, Option, Some, None, Ok, Err, refl, sym, ap, take, length, arith, append_assoc}
use Rattle.std.specs.Prelude.{codes, decimal, option_to_list, slice_get}
use Rattle.std.proofs.lemmas.Result.{err_from_is_err_and}
use Rattle.std.proofs.lemmas.Option.{slice_get_read}
use Rattle.std.proofs.Math.Nat.{add-zero}
use Rattle.semantics.specs.Graph.{Node, Block}
use Rattle.semantics.specs.Text.{field, kind_text}
use Rattle.sink.specs.Numbered.{numbered}
use Rattle.sink.proofs.Sent.{appends_then, appends_none, sends_from, sends_more, sends_less, sends_other, sends_same, sends_whole}
use Rattle.sink.proofs.Numbered.{more, stop, done, outside}
use Rattle.dot.specs.GraphDot.{region_of, arm_letter, arm_sign, arm_opens, opens, closes, node_box, style_of, edge, node_place, node_dot, input_box}
use Rattle.dot.specs.GraphDot.{inputs_dot, result_dot, block_head, block_dot, graph_head, graph_dot}
use Rattle.dot.specs.CodeDot as C
use Rattle.disassembler.specs.Listing as L
use Rattle.dot.proofs.graph_dot.send_nodes.Goals as goal

pub returns-in_err-send_node : goal.returns-in_err-send_node
returns-in_err-send_node g c =
    let p = err_from_is_err_and c.from_residual.result c.from_residual.ensures.1 in
    let l = c.loop-line in
    rw p.1 (stop (node_dot c.args.place c.args.block.now.1) l.line c.args.nodes.now c.index-nodes-line.result p.0 _ _ _
    (slice_get_read c.args.nodes.now _ l.line c.index-nodes-line.result refl c.loop-line-test.true c.index-nodes-line.is) l.invariant
    (sends_other c.in_err-send_node.field-0.0 p.0 _ _ _ c.in_err-send_node.ensures))

pub loop-line-preserved : goal.loop-line-preserved
loop-line-preserved g c =
    let l = c.loop-line in
    more (node_dot c.args.place c.args.block.now.1) l.line c.args.nodes.now c.index-nodes-line.result _ _ _
    (slice_get_read c.args.nodes.now _ l.line c.index-nodes-line.result refl c.loop-line-test.true c.index-nodes-line.is) l.invariant
    (sends_from _ _ _ _ c.in_ok-send_node.was c.send_node.ensures)

pub returns : goal.returns
returns g c =
    let l = c.loop-line in
    done (node_dot c.args.place c.args.block.now.1) l.line c.args.nodes.now _ tt _ _ refl c.loop-line-test.false l.invariant
