use Rattle.disassembler.specs.Listing as L
use Rattle.std.proofs.Common.{◌≡◌, ◌+◌, ◌++◌, ◌∷◌, [], ◌∙◌, ℕ, List, Option, Some, None, Ok, Err, refl, sym, ap, take, length, arith, append_assoc}
use Rattle.std.specs.Prelude.{codes, decimal, option_to_list, slice_get}
use Rattle.std.proofs.lemmas.Result.{err_from_is_err_and}
use Rattle.std.proofs.lemmas.Option.{slice_get_read}
use Rattle.std.proofs.Math.Nat.{add-zero}
use Rattle.semantics.specs.Graph.{Node, Block, Graph}
use Rattle.semantics.specs.Text.{field, kind_text}
use Rattle.sink.specs.Numbered.{numbered}
use Rattle.sink.proofs.Sent.{appends_then, appends_none, sends_from, sends_more, sends_less, sends_other, sends_same, sends_whole}
use Rattle.sink.proofs.Numbered.{more, stop, done, outside}
use Rattle.dot.specs.GraphDot.{region_of, arm_letter, arm_sign, arm_opens, opens, closes, node_box, style_of, edge, node_place, node_dot, input_box}
use Rattle.dot.specs.GraphDot.{inputs_dot, result_dot, block_head, block_dot, graph_head, graph_dot}
use Rattle.dot.specs.CodeDot as C
use Rattle.dot.proofs.graph_dot.write_graph_dot.Goals as goal

pub returns-in_err-open_picture : goal.returns-in_err-open_picture
returns-in_err-open_picture g c =
    let p = err_from_is_err_and c.from_residual.result c.from_residual.ensures.1 in
    let t1 : List ℕ = graph_head c.args.graph.now.main in
    let t2 : List ℕ = numbered block_dot 0 c.args.graph.now.blocks in
    let t3 : List ℕ = codes "}\n" in
    let w0 : Option (List ℕ) = g.W.Write.contents c.args.writer.now in
    let w1 : Option (List ℕ) = g.W.Write.contents c.open_picture.new.writer in
    rw p.1 (sends_less p.0 w0 w1 (t1 ++ t2) t3
    (sends_less p.0 w0 w1 t1 t2 (sends_other c.in_err-open_picture.field-0.0 p.0 w0 w1 t1 (sends_same (Err c.in_err-open_picture.field-0.0) w0 w1
    _ t1 (ap (λ (x : Graph). graph_head x.main) c.graph.view_is) c.in_err-open_picture.ensures))))

pub returns-in_err-send_blocks : goal.returns-in_err-send_blocks
returns-in_err-send_blocks g c =
    let p = err_from_is_err_and c.from_residual-in_err-send_blocks.result c.from_residual-in_err-send_blocks.ensures.1 in
    let t1 : List ℕ = graph_head c.args.graph.now.main in
    let t2 : List ℕ = numbered block_dot 0 c.args.graph.now.blocks in
    let t3 : List ℕ = codes "}\n" in
    let w0 : Option (List ℕ) = g.W.Write.contents c.args.writer.now in
    let w1 : Option (List ℕ) = g.W.Write.contents c.open_picture.new.writer in
    let w2 : Option (List ℕ) = g.W.Write.contents c.send_blocks.new.writer in
    rw p.1 (sends_less p.0 w0 w2 (t1 ++ t2) t3
    (sends_more (Err p.0) w0 w1 w2 t1 t2 (sends_from c.open_picture.result w0 w1 t1 c.in_ok-open_picture.was
    (sends_same c.open_picture.result w0 w1 _ t1 (ap (λ (x : Graph). graph_head x.main) c.graph.view_is) c.open_picture.ensures))
    (sends_other c.in_err-send_blocks.field-0.0 p.0 w1 w2 t2 (sends_same (Err c.in_err-send_blocks.field-0.0) w1 w2 _ t2
    (ap (numbered block_dot 0) (c.deref.ensures.value ∙ ap (λ (x : Graph). x.blocks) c.graph.view_is)) c.in_err-send_blocks.ensures))))

pub returns : goal.returns
returns g c =
    let t1 : List ℕ = graph_head c.args.graph.now.main in
    let t2 : List ℕ = numbered block_dot 0 c.args.graph.now.blocks in
    let t3 : List ℕ = codes "}\n" in
    let w0 : Option (List ℕ) = g.W.Write.contents c.args.writer.now in
    let w1 : Option (List ℕ) = g.W.Write.contents c.open_picture.new.writer in
    let w2 : Option (List ℕ) = g.W.Write.contents c.send_blocks.new.writer in
    let w3 : Option (List ℕ) = g.W.Write.contents c.send.new.writer in
    sends_more c.send.result w0 w2 w3 (t1 ++ t2) t3 (appends_then w0 w1 w2 t1 t2 (sends_from c.open_picture.result w0 w1 t1 c.in_ok-open_picture.was
    (sends_same c.open_picture.result w0 w1 _ t1 (ap (λ (x : Graph). graph_head x.main) c.graph.view_is) c.open_picture.ensures))
    (sends_from c.send_blocks.result w1 w2 t2 c.in_ok-send_blocks.was
    (sends_same c.send_blocks.result w1 w2 _ t2 (ap (numbered block_dot 0) (c.deref.ensures.value ∙ ap (λ (x : Graph). x.blocks) c.graph.view_is))
    c.send_blocks.ensures))) c.send.ensures
