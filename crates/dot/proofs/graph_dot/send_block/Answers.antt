use Rattle.disassembler.specs.Listing as L
use Rattle.std.proofs.Common.{◌≡◌, ◌+◌, ◌++◌, ◌∷◌, [], ◌∙◌, ℕ, List, Option, Some, None, Ok, Err, refl, sym, ap, take, length, arith, append_assoc}
use Rattle.std.specs.Prelude.{codes, decimal, option_to_list, slice_get}
use Rattle.std.proofs.lemmas.Result.{err_from_is_err_and}
use Rattle.std.proofs.lemmas.Option.{slice_get_read}
use Rattle.std.proofs.Math.Nat.{add-zero}
use Rattle.semantics.specs.Graph.{Node, Block}
use Rattle.semantics.specs.Text.{field, kind_text}
use Rattle.sink.specs.Numbered.{numbered}
use Rattle.sink.proofs.Sent.{appends_then, appends_none, sends_from, sends_more, sends_less, sends_other, sends_same, sends_whole}
use Rattle.sink.proofs.Numbered.{more, stop, done, outside}
use Rattle.dot.specs.GraphDot.{region_of, arm_letter, arm_sign, arm_opens, opens, closes, node_box, style_of, edge, node_place, node_dot, input_box}
use Rattle.dot.specs.GraphDot.{inputs_dot, result_dot, block_head, block_dot, graph_head, graph_dot}
use Rattle.dot.specs.CodeDot as C
use Rattle.dot.proofs.graph_dot.send_block.Goals as goal

pub returns-in_err-open_inputs : goal.returns-in_err-open_inputs
returns-in_err-open_inputs g c =
    let p = err_from_is_err_and c.from_residual.result c.from_residual.ensures.1 in
    let t1 : List ℕ = block_head c.args.place c.args.block.now.0 ++ inputs_dot c.args.place c.args.block.now.1.inputs in
    let t2 : List ℕ = numbered (node_dot c.args.place c.args.block.now.1) 0 c.args.block.now.1.nodes in
    let t3 : List ℕ = numbered (result_dot c.args.place) 0 c.args.block.now.1.results in
    let t4 : List ℕ = codes "}\n" in
    let w0 : Option (List ℕ) = g.W.Write.contents c.args.writer.now in
    let w1 : Option (List ℕ) = g.W.Write.contents c.open_inputs.new.writer in
    rw p.1 (sends_less p.0 w0 w1 ((t1 ++ t2) ++ t3) t4
    (sends_less p.0 w0 w1 (t1 ++ t2) t3 (sends_less p.0 w0 w1 t1 t2 (sends_other c.in_err-open_inputs.field-0.0 p.0 w0 w1 t1
    (sends_same (Err c.in_err-open_inputs.field-0.0) w0 w1 _ t1 (ap (λ (b : List ℕ × Block (List ℕ)). block_head c.args.place b.0
    ++ inputs_dot c.args.place b.1.inputs) c.block.view_is) c.in_err-open_inputs.ensures)))))

pub returns-in_err-send_nodes : goal.returns-in_err-send_nodes
returns-in_err-send_nodes g c =
    let p = err_from_is_err_and c.from_residual-in_err-send_nodes.result c.from_residual-in_err-send_nodes.ensures.1 in
    let t1 : List ℕ = block_head c.args.place c.args.block.now.0 ++ inputs_dot c.args.place c.args.block.now.1.inputs in
    let t2 : List ℕ = numbered (node_dot c.args.place c.args.block.now.1) 0 c.args.block.now.1.nodes in
    let t3 : List ℕ = numbered (result_dot c.args.place) 0 c.args.block.now.1.results in
    let t4 : List ℕ = codes "}\n" in
    let w0 : Option (List ℕ) = g.W.Write.contents c.args.writer.now in
    let w1 : Option (List ℕ) = g.W.Write.contents c.open_inputs.new.writer in
    let w2 : Option (List ℕ) = g.W.Write.contents c.send_nodes.new.writer in
    rw p.1 (sends_less p.0 w0 w2 ((t1 ++ t2) ++ t3) t4
    (sends_less p.0 w0 w2 (t1 ++ t2) t3 (sends_more (Err p.0) w0 w1 w2 t1 t2 (sends_from c.open_inputs.result w0 w1 t1 c.in_ok-open_inputs.was
    (sends_same c.open_inputs.result w0 w1 _ t1 (ap (λ (b : List ℕ × Block (List ℕ)). block_head c.args.place b.0
    ++ inputs_dot c.args.place b.1.inputs) c.block.view_is) c.open_inputs.ensures)) (sends_other c.in_err-send_nodes.field-0.0 p.0 w1 w2 t2
    (sends_same (Err c.in_err-send_nodes.field-0.0) w1 w2 _ t2 (ap (numbered (node_dot c.args.place c.args.block.now.1) 0) (c.deref.ensures.value
    ∙ ap (λ (b : List ℕ × Block (List ℕ)). b.1.nodes) c.block.view_is)) c.in_err-send_nodes.ensures)))))

pub returns-in_err-send_results : goal.returns-in_err-send_results
returns-in_err-send_results g c =
    let p = err_from_is_err_and c.from_residual-in_err-send_results.result c.from_residual-in_err-send_results.ensures.1 in
    let t1 : List ℕ = block_head c.args.place c.args.block.now.0 ++ inputs_dot c.args.place c.args.block.now.1.inputs in
    let t2 : List ℕ = numbered (node_dot c.args.place c.args.block.now.1) 0 c.args.block.now.1.nodes in
    let t3 : List ℕ = numbered (result_dot c.args.place) 0 c.args.block.now.1.results in
    let t4 : List ℕ = codes "}\n" in
    let w0 : Option (List ℕ) = g.W.Write.contents c.args.writer.now in
    let w1 : Option (List ℕ) = g.W.Write.contents c.open_inputs.new.writer in
    let w2 : Option (List ℕ) = g.W.Write.contents c.send_nodes.new.writer in
    let w3 : Option (List ℕ) = g.W.Write.contents c.send_results.new.writer in
    rw p.1 (sends_less p.0 w0 w3 ((t1 ++ t2) ++ t3) t4
    (sends_more (Err p.0) w0 w2 w3 (t1 ++ t2) t3
    (appends_then w0 w1 w2 t1 t2 (sends_from c.open_inputs.result w0 w1 t1 c.in_ok-open_inputs.was
    (sends_same c.open_inputs.result w0 w1 _ t1 (ap (λ (b : List ℕ × Block (List ℕ)). block_head c.args.place b.0
    ++ inputs_dot c.args.place b.1.inputs) c.block.view_is) c.open_inputs.ensures))
    (sends_from c.send_nodes.result w1 w2 t2 c.in_ok-send_nodes.was
    (sends_same c.send_nodes.result w1 w2 _ t2 (ap (numbered (node_dot c.args.place c.args.block.now.1) 0) (c.deref.ensures.value
    ∙ ap (λ (b : List ℕ × Block (List ℕ)). b.1.nodes) c.block.view_is)) c.send_nodes.ensures))) (sends_other c.in_err-send_results.field-0.0 p.0
    w2 w3 t3 (sends_same (Err c.in_err-send_results.field-0.0) w2 w3 _ t3 (ap (numbered (result_dot c.args.place) 0) (c.deref-2.ensures.value
    ∙ ap (λ (b : List ℕ × Block (List ℕ)). b.1.results) c.block.view_is)) c.in_err-send_results.ensures))))

pub returns : goal.returns
returns g c =
    let t1 : List ℕ = block_head c.args.place c.args.block.now.0 ++ inputs_dot c.args.place c.args.block.now.1.inputs in
    let t2 : List ℕ = numbered (node_dot c.args.place c.args.block.now.1) 0 c.args.block.now.1.nodes in
    let t3 : List ℕ = numbered (result_dot c.args.place) 0 c.args.block.now.1.results in
    let t4 : List ℕ = codes "}\n" in
    let w0 : Option (List ℕ) = g.W.Write.contents c.args.writer.now in
    let w1 : Option (List ℕ) = g.W.Write.contents c.open_inputs.new.writer in
    let w2 : Option (List ℕ) = g.W.Write.contents c.send_nodes.new.writer in
    let w3 : Option (List ℕ) = g.W.Write.contents c.send_results.new.writer in
    let w4 : Option (List ℕ) = g.W.Write.contents c.send.new.writer in
    sends_more c.send.result w0 w3 w4 ((t1 ++ t2) ++ t3) t4
    (appends_then w0 w2 w3 (t1 ++ t2) t3 (appends_then w0 w1 w2 t1 t2 (sends_from c.open_inputs.result w0 w1 t1 c.in_ok-open_inputs.was
    (sends_same c.open_inputs.result w0 w1 _ t1 (ap (λ (b : List ℕ × Block (List ℕ)). block_head c.args.place b.0
    ++ inputs_dot c.args.place b.1.inputs) c.block.view_is) c.open_inputs.ensures))
    (sends_from c.send_nodes.result w1 w2 t2 c.in_ok-send_nodes.was
    (sends_same c.send_nodes.result w1 w2 _ t2 (ap (numbered (node_dot c.args.place c.args.block.now.1) 0) (c.deref.ensures.value
    ∙ ap (λ (b : List ℕ × Block (List ℕ)). b.1.nodes) c.block.view_is)) c.send_nodes.ensures)))
    (sends_from c.send_results.result w2 w3 t3 c.in_ok-send_results.was
    (sends_same c.send_results.result w2 w3 _ t3 (ap (numbered (result_dot c.args.place) 0) (c.deref-2.ensures.value
    ∙ ap (λ (b : List ℕ × Block (List ℕ)). b.1.results) c.block.view_is)) c.send_results.ensures))) c.send.ensures
