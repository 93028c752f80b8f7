use Rattle.std.proofs.Common.{refl}
use Rattle.std.proofs.lemmas.Result.{err_from_is_err_and}
use Rattle.semantics.specs.Text.{node_line}
use Rattle.sink.proofs.Sent.{loop_more_at, loop_stop_at, loop_done, sends_other, sends_from}
use Rattle.graph_file.proofs.writing.send_nodes.Goals as goal

pub returns-in_err-send_node : goal.returns-in_err-send_node
returns-in_err-send_node g c =
    let p = err_from_is_err_and c.from_residual.result c.from_residual.ensures.1 in
    let l = c.loop-node in
    rw p.1 (loop_stop_at node_line c.args.nodes.now l.node-index c.node-item.result p.0 _ _ _ c.loop-node-test.true c.node-item.is l.invariant
    (sends_other c.in_err-send_node.field-0.0 p.0 _ _ _ c.in_err-send_node.ensures))

pub loop-node-preserved : goal.loop-node-preserved
loop-node-preserved g c =
    let l = c.loop-node in
    loop_more_at node_line c.args.nodes.now l.node-index c.node-item.result _ _ _ c.loop-node-test.true c.node-item.is l.invariant
    (sends_from _ _ _ _ c.in_ok-send_node.was c.send_node.ensures)

pub returns : goal.returns
returns g c =
    let l = c.loop-node in
    loop_done node_line c.args.nodes.now l.node-index _ tt _ _ refl c.loop-node-test.false l.invariant
