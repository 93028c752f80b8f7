use Rattle.disassembler.specs.Listing as L
use Rattle.std.proofs.Common.{◌≡◌, ◌+◌, ◌++◌, ◌∷◌, [], ◌∙◌, ℕ, List, Option, Some, None, Ok, Err, refl, sym, ap, take, length, arith, append_assoc}
use Rattle.std.specs.Prelude.{codes, decimal, option_to_list, slice_get}
use Rattle.std.proofs.lemmas.Result.{err_from_is_err_and}
use Rattle.std.proofs.lemmas.Option.{slice_get_read}
use Rattle.std.proofs.Math.Nat.{add-zero}
use Rattle.semantics.specs.Graph.{Node, Block}
use Rattle.semantics.specs.Text.{field, kind_text}
use Rattle.sink.specs.Numbered.{numbered}
use Rattle.sink.proofs.Sent.{appends_then, appends_none, sends_from, sends_more, sends_less, sends_other, sends_same, sends_whole}
use Rattle.sink.proofs.Numbered.{more, stop, done, outside}
use Rattle.dot.specs.GraphDot.{region_of, arm_letter, arm_sign, arm_opens, opens, closes, node_box, style_of, edge, node_place, node_dot, input_box}
use Rattle.dot.specs.GraphDot.{inputs_dot, result_dot, block_head, block_dot, graph_head, graph_dot}
use Rattle.dot.specs.CodeDot as C
use Rattle.dot.proofs.Around.{same_place, same_edges}
use Rattle.dot.proofs.graph_dot.send_node.Goals as goal

pub returns-in_err-send_place : goal.returns-in_err-send_place
returns-in_err-send_place g c =
    let p = err_from_is_err_and c.from_residual.result c.from_residual.ensures.1 in
    let t1 : List ℕ = node_place (length c.args.block.now.1.nodes) c.args.place c.args.block.now.1 c.args.node.now.region
    (c.args.block.now.1.inputs + c.args.line) c.args.node.now.kind in
    let t2 : List ℕ = numbered (edge c.args.place (c.args.block.now.1.inputs + c.args.line) (style_of c.args.node.now.kind)) 0 c.args.node.now.sources in
    let w0 : Option (List ℕ) = g.W.Write.contents c.args.writer.now in
    let w1 : Option (List ℕ) = g.W.Write.contents c.send_place.new.writer in
    rw p.1 (sends_less p.0 w0 w1 t1 t2 (sends_other c.in_err-send_place.field-0.0 p.0 w0 w1 t1 (sends_same (Err c.in_err-send_place.field-0.0) w0 w1 _
    t1 (let d = c.len-depth.ensures ∙ c.block.inside.nodes.ok.0 ∙ ap (λ (b : List ℕ × Block (List ℕ)). length b.1.nodes) c.block.view_is
    in let i = c.from.ensures ∙ ap (λ (b : List ℕ × Block (List ℕ)). b.1.inputs) c.block.view_is
    in same_place _ _ _ _ _ _ _ _ _ d i c.node.view_is) c.in_err-send_place.ensures)))

pub returns : goal.returns
returns g c =
    let t1 : List ℕ = node_place (length c.args.block.now.1.nodes) c.args.place c.args.block.now.1 c.args.node.now.region
    (c.args.block.now.1.inputs + c.args.line) c.args.node.now.kind in
    let t2 : List ℕ = numbered (edge c.args.place (c.args.block.now.1.inputs + c.args.line) (style_of c.args.node.now.kind)) 0 c.args.node.now.sources in
    let w0 : Option (List ℕ) = g.W.Write.contents c.args.writer.now in
    let w1 : Option (List ℕ) = g.W.Write.contents c.send_place.new.writer in
    let w2 : Option (List ℕ) = g.W.Write.contents c.send_edges.new.writer in
    sends_more c.send_edges.result w0 w1 w2 t1 t2 (sends_from c.send_place.result w0 w1 t1 c.in_ok-send_place.was
    (sends_same c.send_place.result w0 w1 _ t1 (let d = c.len-depth.ensures ∙ c.block.inside.nodes.ok.0
    ∙ ap (λ (b : List ℕ × Block (List ℕ)). length b.1.nodes) c.block.view_is in let i = c.from.ensures
    ∙ ap (λ (b : List ℕ × Block (List ℕ)). b.1.inputs) c.block.view_is in same_place _ _ _ _ _ _ _ _ _ d i c.node.view_is) c.send_place.ensures))
    (sends_same c.send_edges.result w1 w2 _ t2 (let i = c.from.ensures ∙ ap (λ (b : List ℕ × Block (List ℕ)). b.1.inputs) c.block.view_is
    in same_edges _ _ _ _ _ _ _ _ i c.node.view_is c.style_of.ensures c.deref.ensures.value) c.send_edges.ensures)
