use Rattle.std.proofs.Common.{◌++◌, ◌∙◌, ℕ, List, Option, Err, ap}
use Rattle.std.proofs.lemmas.Result.{err_from_is_err_and}
use Rattle.semantics.specs.Text.{array_line, block_text}
use Rattle.std.specs.Prelude.{flat_map}
use Rattle.semantics.specs.Graph.{Graph}
use Rattle.graph_file.specs.Sending.{version_text, main_text}
use Rattle.sink.proofs.Sent.{appends_then, sends_from, sends_more, sends_less, sends_other, sends_same}
use Rattle.graph_file.proofs.writing.write.Goals as goal

pub returns-in_err-send_header : goal.returns-in_err-send_header
returns-in_err-send_header g c =
    let p = err_from_is_err_and c.from_residual.result c.from_residual.ensures.1 in
    let t1 : List ℕ = version_text c.args.graph.now.version in
    let t2 : List ℕ = flat_map array_line c.args.graph.now.arrays in
    let t3 : List ℕ = flat_map block_text c.args.graph.now.blocks in
    let t4 : List ℕ = main_text c.args.graph.now.main in
    let w0 : Option (List ℕ) = g.W.Write.contents c.args.writer.now in
    let w1 : Option (List ℕ) = g.W.Write.contents c.send_header.new.writer in
    rw p.1 (sends_less p.0 w0 w1 ((t1 ++ t2) ++ t3) t4
    (sends_less p.0 w0 w1 (t1 ++ t2) t3 (sends_less p.0 w0 w1 t1 t2 (sends_other c.in_err-send_header.field-0.0 p.0 w0 w1 t1
    c.in_err-send_header.ensures))))

pub returns-in_err-send_arrays : goal.returns-in_err-send_arrays
returns-in_err-send_arrays g c =
    let p = err_from_is_err_and c.from_residual-in_err-send_arrays.result c.from_residual-in_err-send_arrays.ensures.1 in
    let t1 : List ℕ = version_text c.args.graph.now.version in
    let t2 : List ℕ = flat_map array_line c.args.graph.now.arrays in
    let t3 : List ℕ = flat_map block_text c.args.graph.now.blocks in
    let t4 : List ℕ = main_text c.args.graph.now.main in
    let w0 : Option (List ℕ) = g.W.Write.contents c.args.writer.now in
    let w1 : Option (List ℕ) = g.W.Write.contents c.send_header.new.writer in
    let w2 : Option (List ℕ) = g.W.Write.contents c.send_arrays.new.writer in
    rw p.1 (sends_less p.0 w0 w2 ((t1 ++ t2) ++ t3) t4
    (sends_less p.0 w0 w2 (t1 ++ t2) t3 (sends_more (Err p.0) w0 w1 w2 t1 t2 (sends_from c.send_header.result w0 w1 t1 c.in_ok-send_header.was
    c.send_header.ensures) (sends_other c.in_err-send_arrays.field-0.0 p.0 w1 w2 t2 (sends_same (Err c.in_err-send_arrays.field-0.0) w1 w2 _ t2
    (ap (flat_map array_line) (c.deref.ensures.value ∙ ap (λ (g : Graph). g.arrays) c.graph.view_is)) c.in_err-send_arrays.ensures)))))

pub returns-in_err-send_blocks : goal.returns-in_err-send_blocks
returns-in_err-send_blocks g c =
    let p = err_from_is_err_and c.from_residual-in_err-send_blocks.result c.from_residual-in_err-send_blocks.ensures.1 in
    let t1 : List ℕ = version_text c.args.graph.now.version in
    let t2 : List ℕ = flat_map array_line c.args.graph.now.arrays in
    let t3 : List ℕ = flat_map block_text c.args.graph.now.blocks in
    let t4 : List ℕ = main_text c.args.graph.now.main in
    let w0 : Option (List ℕ) = g.W.Write.contents c.args.writer.now in
    let w1 : Option (List ℕ) = g.W.Write.contents c.send_header.new.writer in
    let w2 : Option (List ℕ) = g.W.Write.contents c.send_arrays.new.writer in
    let w3 : Option (List ℕ) = g.W.Write.contents c.send_blocks.new.writer in
    rw p.1 (sends_less p.0 w0 w3 ((t1 ++ t2) ++ t3) t4
    (sends_more (Err p.0) w0 w2 w3 (t1 ++ t2) t3
    (appends_then w0 w1 w2 t1 t2 (sends_from c.send_header.result w0 w1 t1 c.in_ok-send_header.was c.send_header.ensures)
    (sends_from c.send_arrays.result w1 w2 t2 c.in_ok-send_arrays.was
    (sends_same c.send_arrays.result w1 w2 _ t2 (ap (flat_map array_line) (c.deref.ensures.value ∙ ap (λ (g : Graph). g.arrays) c.graph.view_is))
    c.send_arrays.ensures))) (sends_other c.in_err-send_blocks.field-0.0 p.0 w2 w3 t3 (sends_same (Err c.in_err-send_blocks.field-0.0) w2 w3 _ t3
    (ap (flat_map block_text) (c.deref-2.ensures.value ∙ ap (λ (g : Graph). g.blocks) c.graph.view_is)) c.in_err-send_blocks.ensures))))

pub returns : goal.returns
returns g c =
    let t1 : List ℕ = version_text c.args.graph.now.version in
    let t2 : List ℕ = flat_map array_line c.args.graph.now.arrays in
    let t3 : List ℕ = flat_map block_text c.args.graph.now.blocks in
    let t4 : List ℕ = main_text c.args.graph.now.main in
    let w0 : Option (List ℕ) = g.W.Write.contents c.args.writer.now in
    let w1 : Option (List ℕ) = g.W.Write.contents c.send_header.new.writer in
    let w2 : Option (List ℕ) = g.W.Write.contents c.send_arrays.new.writer in
    let w3 : Option (List ℕ) = g.W.Write.contents c.send_blocks.new.writer in
    let w4 : Option (List ℕ) = g.W.Write.contents c.send_main.new.writer in
    sends_more c.send_main.result w0 w3 w4 ((t1 ++ t2) ++ t3) t4
    (appends_then w0 w2 w3 (t1 ++ t2) t3 (appends_then w0 w1 w2 t1 t2 (sends_from c.send_header.result w0 w1 t1 c.in_ok-send_header.was
    c.send_header.ensures) (sends_from c.send_arrays.result w1 w2 t2 c.in_ok-send_arrays.was
    (sends_same c.send_arrays.result w1 w2 _ t2 (ap (flat_map array_line) (c.deref.ensures.value ∙ ap (λ (g : Graph). g.arrays) c.graph.view_is))
    c.send_arrays.ensures))) (sends_from c.send_blocks.result w2 w3 t3 c.in_ok-send_blocks.was
    (sends_same c.send_blocks.result w2 w3 _ t3
    (ap (flat_map block_text) (c.deref-2.ensures.value ∙ ap (λ (g : Graph). g.blocks) c.graph.view_is)) c.send_blocks.ensures))) c.send_main.ensures
