use Rattle.disassembler.specs.Listing as L
use Rattle.std.proofs.Common.{◌≡◌, ◌+◌, ◌++◌, ◌∷◌, [], ◌∙◌, ℕ, List, Option, Some, None, Ok, Err, refl, sym, ap, take, length, arith, append_assoc}
use Rattle.std.specs.Prelude.{codes, decimal, option_to_list, slice_get}
use Rattle.std.proofs.lemmas.Result.{err_from_is_err_and}
use Rattle.std.proofs.lemmas.Option.{slice_get_read}
use Rattle.std.proofs.Math.Nat.{add-zero}
use Rattle.semantics.specs.Graph.{Node, Block}
use Rattle.semantics.specs.Text.{field, kind_text}
use Rattle.sink.specs.Numbered.{numbered}
use Rattle.sink.proofs.Sent.{appends_then, appends_none, sends_from, sends_more, sends_less, sends_other, sends_same, sends_whole}
use Rattle.sink.proofs.Numbered.{more, stop, done, outside}
use Rattle.dot.specs.GraphDot.{region_of, arm_letter, arm_sign, arm_opens, opens, closes, node_box, style_of, edge, node_place, node_dot, input_box}
use Rattle.dot.specs.GraphDot.{inputs_dot, result_dot, block_head, block_dot, graph_head, graph_dot}
use Rattle.dot.specs.CodeDot as C
use Rattle.dot.proofs.code_dot.send_block.Goals as goal

pub returns-in_err-open_block : goal.returns-in_err-open_block
returns-in_err-open_block g c = λ b at.
    let p = err_from_is_err_and c.from_residual.result c.from_residual.ensures.1 in
    let t1 : List ℕ = C.code_head c.args.place in
    let t2 : List ℕ = numbered (C.instr_dot c.args.place) 0 b.instrs in
    let t3 : List ℕ = codes "}\n" in
    let w0 : Option (List ℕ) = g.W.Write.contents c.args.writer.now in
    let w1 : Option (List ℕ) = g.W.Write.contents c.open_block.new.writer in
    rw p.1 (sends_less p.0 w0 w1 (t1 ++ t2) t3
    (sends_less p.0 w0 w1 t1 t2 (sends_other c.in_err-open_block.field-0.0 p.0 w0 w1 t1 c.in_err-open_block.ensures)))

pub returns-in_err-send_instrs : goal.returns-in_err-send_instrs
returns-in_err-send_instrs g c = λ b at.
    let p = err_from_is_err_and c.from_residual-in_err-send_instrs.result c.from_residual-in_err-send_instrs.ensures.1 in
    let t1 : List ℕ = C.code_head c.args.place in
    let t2 : List ℕ = numbered (C.instr_dot c.args.place) 0 b.instrs in
    let t3 : List ℕ = codes "}\n" in
    let w0 : Option (List ℕ) = g.W.Write.contents c.args.writer.now in
    let w1 : Option (List ℕ) = g.W.Write.contents c.open_block.new.writer in
    let w2 : Option (List ℕ) = g.W.Write.contents c.send_instrs.new.writer in
    rw p.1 (sends_less p.0 w0 w2 (t1 ++ t2) t3 (sends_more (Err p.0) w0 w1 w2 t1 t2 (sends_from c.open_block.result w0 w1 t1 c.in_ok-open_block.was
    c.open_block.ensures) (sends_other c.in_err-send_instrs.field-0.0 p.0 w1 w2 t2 (c.in_err-send_instrs.ensures c.args.place b at))))

pub returns : goal.returns
returns g c = λ b at.
    let t1 : List ℕ = C.code_head c.args.place in
    let t2 : List ℕ = numbered (C.instr_dot c.args.place) 0 b.instrs in
    let t3 : List ℕ = codes "}\n" in
    let w0 : Option (List ℕ) = g.W.Write.contents c.args.writer.now in
    let w1 : Option (List ℕ) = g.W.Write.contents c.open_block.new.writer in
    let w2 : Option (List ℕ) = g.W.Write.contents c.send_instrs.new.writer in
    let w3 : Option (List ℕ) = g.W.Write.contents c.send.new.writer in
    sends_more c.send.result w0 w2 w3 (t1 ++ t2) t3
    (appends_then w0 w1 w2 t1 t2 (sends_from c.open_block.result w0 w1 t1 c.in_ok-open_block.was c.open_block.ensures)
    (sends_from c.send_instrs.result w1 w2 t2 c.in_ok-send_instrs.was (c.send_instrs.ensures c.args.place b at))) c.send.ensures
