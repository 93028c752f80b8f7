use Rattle.std.proofs.Common.{◌++◌, ◌∷◌, [], ◌∙◌, ℕ, List, Option, Err, ap}
use Rattle.std.specs.Prelude.{codes}
use Rattle.std.proofs.lemmas.Result.{err_from_is_err_and}
use Rattle.semantics.specs.Text.{node_line}
use Rattle.std.specs.Prelude.{flat_map}
use Rattle.semantics.specs.Graph.{Block}
use Rattle.graph_file.specs.Sending.{head_text, out_text}
use Rattle.sink.proofs.Sent.{appends_then, sends_from, sends_more, sends_less, sends_other, sends_same}
use Rattle.graph_file.proofs.writing.send_block.Goals as goal

pub returns-in_err-send_head : goal.returns-in_err-send_head
returns-in_err-send_head g c =
    let p = err_from_is_err_and c.from_residual.result c.from_residual.ensures.1 in
    let t1 : List ℕ = head_text c.args.block.now in
    let t2 : List ℕ = flat_map node_line c.args.block.now.1.nodes in
    let t3 : List ℕ = out_text c.args.block.now.1.results in
    let t4 : List ℕ = codes "end" ++ 10 ∷ [] in
    let w0 : Option (List ℕ) = g.W.Write.contents c.args.writer.now in
    let w1 : Option (List ℕ) = g.W.Write.contents c.send_head.new.writer in
    rw p.1 (sends_less p.0 w0 w1 ((t1 ++ t2) ++ t3) t4
    (sends_less p.0 w0 w1 (t1 ++ t2) t3 (sends_less p.0 w0 w1 t1 t2 (sends_other c.in_err-send_head.field-0.0 p.0 w0 w1 t1 c.in_err-send_head.ensures))))

pub returns-in_err-send_nodes : goal.returns-in_err-send_nodes
returns-in_err-send_nodes g c =
    let p = err_from_is_err_and c.from_residual-in_err-send_nodes.result c.from_residual-in_err-send_nodes.ensures.1 in
    let t1 : List ℕ = head_text c.args.block.now in
    let t2 : List ℕ = flat_map node_line c.args.block.now.1.nodes in
    let t3 : List ℕ = out_text c.args.block.now.1.results in
    let t4 : List ℕ = codes "end" ++ 10 ∷ [] in
    let w0 : Option (List ℕ) = g.W.Write.contents c.args.writer.now in
    let w1 : Option (List ℕ) = g.W.Write.contents c.send_head.new.writer in
    let w2 : Option (List ℕ) = g.W.Write.contents c.send_nodes.new.writer in
    rw p.1 (sends_less p.0 w0 w2 ((t1 ++ t2) ++ t3) t4
    (sends_less p.0 w0 w2 (t1 ++ t2) t3 (sends_more (Err p.0) w0 w1 w2 t1 t2 (sends_from c.send_head.result w0 w1 t1 c.in_ok-send_head.was
    c.send_head.ensures) (sends_other c.in_err-send_nodes.field-0.0 p.0 w1 w2 t2 (sends_same (Err c.in_err-send_nodes.field-0.0) w1 w2 _ t2
    (ap (flat_map node_line) (c.deref.ensures.value ∙ ap (λ (b : List ℕ × Block (List ℕ)). b.1.nodes) c.block.view_is)) c.in_err-send_nodes.ensures)))))

pub returns-in_err-send_out : goal.returns-in_err-send_out
returns-in_err-send_out g c =
    let p = err_from_is_err_and c.from_residual-in_err-send_out.result c.from_residual-in_err-send_out.ensures.1 in
    let t1 : List ℕ = head_text c.args.block.now in
    let t2 : List ℕ = flat_map node_line c.args.block.now.1.nodes in
    let t3 : List ℕ = out_text c.args.block.now.1.results in
    let t4 : List ℕ = codes "end" ++ 10 ∷ [] in
    let w0 : Option (List ℕ) = g.W.Write.contents c.args.writer.now in
    let w1 : Option (List ℕ) = g.W.Write.contents c.send_head.new.writer in
    let w2 : Option (List ℕ) = g.W.Write.contents c.send_nodes.new.writer in
    let w3 : Option (List ℕ) = g.W.Write.contents c.send_out.new.writer in
    rw p.1 (sends_less p.0 w0 w3 ((t1 ++ t2) ++ t3) t4
    (sends_more (Err p.0) w0 w2 w3 (t1 ++ t2) t3
    (appends_then w0 w1 w2 t1 t2 (sends_from c.send_head.result w0 w1 t1 c.in_ok-send_head.was c.send_head.ensures)
    (sends_from c.send_nodes.result w1 w2 t2 c.in_ok-send_nodes.was
    (sends_same c.send_nodes.result w1 w2 _ t2 (ap (flat_map node_line) (c.deref.ensures.value ∙ ap (λ (b : List ℕ × Block (List ℕ)). b.1.nodes)
    c.block.view_is)) c.send_nodes.ensures))) (sends_other c.in_err-send_out.field-0.0 p.0 w2 w3 t3
    (sends_same (Err c.in_err-send_out.field-0.0) w2 w3 _ t3
    (ap out_text (c.deref-2.ensures.value ∙ ap (λ (b : List ℕ × Block (List ℕ)). b.1.results) c.block.view_is)) c.in_err-send_out.ensures))))

pub returns : goal.returns
returns g c =
    let t1 : List ℕ = head_text c.args.block.now in
    let t2 : List ℕ = flat_map node_line c.args.block.now.1.nodes in
    let t3 : List ℕ = out_text c.args.block.now.1.results in
    let t4 : List ℕ = codes "end" ++ 10 ∷ [] in
    let w0 : Option (List ℕ) = g.W.Write.contents c.args.writer.now in
    let w1 : Option (List ℕ) = g.W.Write.contents c.send_head.new.writer in
    let w2 : Option (List ℕ) = g.W.Write.contents c.send_nodes.new.writer in
    let w3 : Option (List ℕ) = g.W.Write.contents c.send_out.new.writer in
    let w4 : Option (List ℕ) = g.W.Write.contents c.send.new.writer in
    sends_more c.send.result w0 w3 w4 ((t1 ++ t2) ++ t3) t4
    (appends_then w0 w2 w3 (t1 ++ t2) t3 (appends_then w0 w1 w2 t1 t2 (sends_from c.send_head.result w0 w1 t1 c.in_ok-send_head.was
    c.send_head.ensures) (sends_from c.send_nodes.result w1 w2 t2 c.in_ok-send_nodes.was
    (sends_same c.send_nodes.result w1 w2 _ t2 (ap (flat_map node_line) (c.deref.ensures.value ∙ ap (λ (b : List ℕ × Block (List ℕ)). b.1.nodes)
    c.block.view_is)) c.send_nodes.ensures))) (sends_from c.send_out.result w2 w3 t3 c.in_ok-send_out.was
    (sends_same c.send_out.result w2 w3 _ t3
    (ap out_text (c.deref-2.ensures.value ∙ ap (λ (b : List ℕ × Block (List ℕ)). b.1.results) c.block.view_is)) c.send_out.ensures))) c.send.ensures
