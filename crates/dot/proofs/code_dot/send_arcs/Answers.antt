use Rattle.disassembler.specs.Listing as L
use Rattle.std.proofs.Common.{◌≡◌, ◌+◌, ◌++◌, ◌∷◌, [], ◌∙◌, ℕ, List, Option, Some, None, Ok, Err, refl, sym, ap, take, length, arith, append_assoc}
use Rattle.std.specs.Prelude.{codes, decimal, option_to_list, slice_get}
use Rattle.std.proofs.lemmas.Result.{err_from_is_err_and}
use Rattle.std.proofs.lemmas.Option.{slice_get_read}
use Rattle.std.proofs.Math.Nat.{add-zero}
use Rattle.semantics.specs.Graph.{Node, Block}
use Rattle.semantics.specs.Text.{field, kind_text}
use Rattle.sink.specs.Numbered.{numbered}
use Rattle.sink.proofs.Sent.{appends_then, appends_none, sends_from, sends_more, sends_less, sends_other, sends_same, sends_whole}
use Rattle.sink.proofs.Numbered.{more, stop, done, outside}
use Rattle.dot.specs.GraphDot.{region_of, arm_letter, arm_sign, arm_opens, opens, closes, node_box, style_of, edge, node_place, node_dot, input_box}
use Rattle.dot.specs.GraphDot.{inputs_dot, result_dot, block_head, block_dot, graph_head, graph_dot}
use Rattle.dot.specs.CodeDot as C
use Rattle.dot.proofs.code_dot.send_arcs.Goals as goal

pub returns-in_err-send_arc : goal.returns-in_err-send_arc
returns-in_err-send_arc g c =
    let p = err_from_is_err_and c.from_residual.result c.from_residual.ensures.1 in
    let t1 : List ℕ = C.arc c.args.place c.args.number 1 (option_to_list c.args.instr.now.first) in
    let t2 : List ℕ = C.arc c.args.place c.args.number 2 (option_to_list c.args.instr.now.second) in
    let w0 : Option (List ℕ) = g.W.Write.contents c.args.writer.now in
    let w1 : Option (List ℕ) = g.W.Write.contents c.send_arc.new.writer in
    rw p.1 (sends_less p.0 w0 w1 t1 t2 (sends_other c.in_err-send_arc.field-0.0 p.0 w0 w1 t1 c.in_err-send_arc.ensures))

pub returns : goal.returns
returns g c =
    let t1 : List ℕ = C.arc c.args.place c.args.number 1 (option_to_list c.args.instr.now.first) in
    let t2 : List ℕ = C.arc c.args.place c.args.number 2 (option_to_list c.args.instr.now.second) in
    let w0 : Option (List ℕ) = g.W.Write.contents c.args.writer.now in
    let w1 : Option (List ℕ) = g.W.Write.contents c.send_arc.new.writer in
    let w2 : Option (List ℕ) = g.W.Write.contents c.send_arc-2.new.writer in
    sends_more c.send_arc-2.result w0 w1 w2 t1 t2 (sends_from c.send_arc.result w0 w1 t1 c.in_ok-send_arc.was c.send_arc.ensures) c.send_arc-2.ensures
