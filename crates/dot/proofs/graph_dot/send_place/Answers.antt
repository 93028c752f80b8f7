use Rattle.std.proofs.Common.{◌≡◌, ◌+◌, ◌++◌, ◌∷◌, [], ◌∙◌, ℕ, List, Option, Some, None, Ok, Err, refl, sym, ap, take, length, arith, append_assoc}
use Rattle.std.specs.Prelude.{codes, decimal, option_to_list, slice_get}
use Rattle.std.proofs.lemmas.Result.{err_from_is_err_and}
use Rattle.std.proofs.lemmas.Option.{slice_get_read}
use Rattle.std.proofs.Math.Nat.{add-zero}
use Rattle.semantics.specs.Graph.{Node, Block}
use Rattle.semantics.specs.Text.{field, kind_text}
use Rattle.sink.specs.Numbered.{numbered}
use Rattle.sink.proofs.Sent.{appends_then, appends_none, sends_from, sends_more, sends_less, sends_other, sends_same, sends_whole}
use Rattle.sink.proofs.Numbered.{more, stop, done, outside}
use Rattle.dot.specs.GraphDot.{region_of, arm_letter, arm_sign, arm_opens, opens, closes, node_box, style_of, edge, node_place, node_dot, input_box}
use Rattle.dot.specs.GraphDot.{inputs_dot, result_dot, block_head, block_dot, graph_head, graph_dot}
use Rattle.dot.specs.CodeDot as C
use Rattle.disassembler.specs.Listing as L
use Rattle.dot.proofs.graph_dot.send_place.Goals as goal

pub returns-in_err-open_arms : goal.returns-in_err-open_arms
returns-in_err-open_arms g c =
    let p = err_from_is_err_and c.from_residual.result c.from_residual.ensures.1 in
    let t1 : List ℕ = opens c.args.depth c.args.spot.place c.args.block.now.1 c.args.spot.region in
    let t2 : List ℕ = node_box c.args.spot.place c.args.spot.number c.args.kind.now in
    let t3 : List ℕ = closes c.args.depth c.args.block.now.1 c.args.spot.region in
    let t4 : List ℕ = codes "\n" in
    let w0 : Option (List ℕ) = g.W.Write.contents c.args.writer.now in
    let w1 : Option (List ℕ) = g.W.Write.contents c.open_arms.new.writer in
    rw p.1 (sends_less p.0 w0 w1 ((t1 ++ t2) ++ t3) t4
    (sends_less p.0 w0 w1 (t1 ++ t2) t3 (sends_less p.0 w0 w1 t1 t2 (sends_other c.in_err-open_arms.field-0.0 p.0 w0 w1 t1 c.in_err-open_arms.ensures))))

pub returns-in_err-send_box : goal.returns-in_err-send_box
returns-in_err-send_box g c =
    let p = err_from_is_err_and c.from_residual-in_err-send_box.result c.from_residual-in_err-send_box.ensures.1 in
    let t1 : List ℕ = opens c.args.depth c.args.spot.place c.args.block.now.1 c.args.spot.region in
    let t2 : List ℕ = node_box c.args.spot.place c.args.spot.number c.args.kind.now in
    let t3 : List ℕ = closes c.args.depth c.args.block.now.1 c.args.spot.region in
    let t4 : List ℕ = codes "\n" in
    let w0 : Option (List ℕ) = g.W.Write.contents c.args.writer.now in
    let w1 : Option (List ℕ) = g.W.Write.contents c.open_arms.new.writer in
    let w2 : Option (List ℕ) = g.W.Write.contents c.send_box.new.writer in
    rw p.1 (sends_less p.0 w0 w2 ((t1 ++ t2) ++ t3) t4
    (sends_less p.0 w0 w2 (t1 ++ t2) t3 (sends_more (Err p.0) w0 w1 w2 t1 t2 (sends_from c.open_arms.result w0 w1 t1 c.in_ok-open_arms.was
    c.open_arms.ensures) (sends_other c.in_err-send_box.field-0.0 p.0 w1 w2 t2 c.in_err-send_box.ensures))))

pub returns-in_err-close_arms : goal.returns-in_err-close_arms
returns-in_err-close_arms g c =
    let p = err_from_is_err_and c.from_residual-in_err-close_arms.result c.from_residual-in_err-close_arms.ensures.1 in
    let t1 : List ℕ = opens c.args.depth c.args.spot.place c.args.block.now.1 c.args.spot.region in
    let t2 : List ℕ = node_box c.args.spot.place c.args.spot.number c.args.kind.now in
    let t3 : List ℕ = closes c.args.depth c.args.block.now.1 c.args.spot.region in
    let t4 : List ℕ = codes "\n" in
    let w0 : Option (List ℕ) = g.W.Write.contents c.args.writer.now in
    let w1 : Option (List ℕ) = g.W.Write.contents c.open_arms.new.writer in
    let w2 : Option (List ℕ) = g.W.Write.contents c.send_box.new.writer in
    let w3 : Option (List ℕ) = g.W.Write.contents c.close_arms.new.writer in
    rw p.1 (sends_less p.0 w0 w3 ((t1 ++ t2) ++ t3) t4
    (sends_more (Err p.0) w0 w2 w3 (t1 ++ t2) t3
    (appends_then w0 w1 w2 t1 t2 (sends_from c.open_arms.result w0 w1 t1 c.in_ok-open_arms.was c.open_arms.ensures)
    (sends_from c.send_box.result w1 w2 t2 c.in_ok-send_box.was c.send_box.ensures)) (sends_other c.in_err-close_arms.field-0.0 p.0 w2 w3 t3
    c.in_err-close_arms.ensures)))

pub returns : goal.returns
returns g c =
    let t1 : List ℕ = opens c.args.depth c.args.spot.place c.args.block.now.1 c.args.spot.region in
    let t2 : List ℕ = node_box c.args.spot.place c.args.spot.number c.args.kind.now in
    let t3 : List ℕ = closes c.args.depth c.args.block.now.1 c.args.spot.region in
    let t4 : List ℕ = codes "\n" in
    let w0 : Option (List ℕ) = g.W.Write.contents c.args.writer.now in
    let w1 : Option (List ℕ) = g.W.Write.contents c.open_arms.new.writer in
    let w2 : Option (List ℕ) = g.W.Write.contents c.send_box.new.writer in
    let w3 : Option (List ℕ) = g.W.Write.contents c.close_arms.new.writer in
    let w4 : Option (List ℕ) = g.W.Write.contents c.send.new.writer in
    sends_more c.send.result w0 w3 w4 ((t1 ++ t2) ++ t3) t4
    (appends_then w0 w2 w3 (t1 ++ t2) t3 (appends_then w0 w1 w2 t1 t2 (sends_from c.open_arms.result w0 w1 t1 c.in_ok-open_arms.was
    c.open_arms.ensures) (sends_from c.send_box.result w1 w2 t2 c.in_ok-send_box.was c.send_box.ensures))
    (sends_from c.close_arms.result w2 w3 t3 c.in_ok-close_arms.was c.close_arms.ensures)) c.send.ensures
