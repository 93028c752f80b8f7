use Rattle.disassembler.specs.Listing as L
use Rattle.std.proofs.Common.{◌≡◌, ◌+◌, ◌++◌, ◌∷◌, [], ◌∙◌, ℕ, List, Option, Some, None, Ok, Err, refl, sym, ap, take, length, arith, append_assoc}
use Rattle.std.specs.Prelude.{codes, decimal, option_to_list, slice_get}
use Rattle.std.proofs.lemmas.Result.{err_from_is_err_and}
use Rattle.std.proofs.lemmas.Option.{slice_get_read}
use Rattle.std.proofs.Math.Nat.{add-zero}
use Rattle.semantics.specs.Graph.{Node, Block}
use Rattle.semantics.specs.Text.{field, kind_text}
use Rattle.sink.specs.Numbered.{numbered}
use Rattle.sink.proofs.Sent.{appends_then, appends_none, sends_from, sends_more, sends_less, sends_other, sends_same, sends_whole}
use Rattle.sink.proofs.Numbered.{more, stop, done, outside}
use Rattle.dot.specs.GraphDot.{region_of, arm_letter, arm_sign, arm_opens, opens, closes, node_box, style_of, edge, node_place, node_dot, input_box}
use Rattle.dot.specs.GraphDot.{inputs_dot, result_dot, block_head, block_dot, graph_head, graph_dot}
use Rattle.dot.specs.CodeDot as C
use Rattle.dot.proofs.Around.{inputs_more, inputs_front, inputs_all}
use Rattle.dot.proofs.graph_dot.send_inputs.Goals as goal

pub returns-in_err-send_input : goal.returns-in_err-send_input
returns-in_err-send_input g c =
    let p = err_from_is_err_and c.from_residual.result c.from_residual.ensures.1 in
    let l = c.loop-input in
    let w0 : Option (List ℕ) = g.W.Write.contents c.args.writer.now in
    let w1 : Option (List ℕ) = g.W.Write.contents l.writer in
    let w2 : Option (List ℕ) = g.W.Write.contents c.send_input.new.writer in
    let test = c.loop-input-test.true in
    let rest = inputs_front c.args.place (l.input + 1) c.args.inputs (omega (arith, test)) in
    rw p.1 (sends_same (Err p.0) w0 w2 _ _ (ap (λ (t : List ℕ). t ++ rest.0) (sym (inputs_more c.args.place l.input)) ∙ sym rest.1)
    (sends_less p.0 w0 w2 (inputs_dot c.args.place l.input ++ input_box c.args.place l.input) rest.0
    (sends_more (Err p.0) w0 w1 w2 (inputs_dot c.args.place l.input) (input_box c.args.place l.input) l.invariant.1
    (sends_other c.in_err-send_input.field-0.0 p.0 w1 w2 (input_box c.args.place l.input) c.in_err-send_input.ensures))))

pub loop-input-preserved : goal.loop-input-preserved
loop-input-preserved g c =
    let l = c.loop-input in
    let w0 : Option (List ℕ) = g.W.Write.contents c.args.writer.now in
    let w1 : Option (List ℕ) = g.W.Write.contents l.writer in
    let w2 : Option (List ℕ) = g.W.Write.contents c.send_input.new.writer in
    let test = c.loop-input-test.true in (
      omega (arith, test),
      inputs_all c.args.place l.input w0 w2 (appends_then w0 w1 w2 (inputs_dot c.args.place l.input)
          (input_box c.args.place l.input) l.invariant.1 (sends_from c.send_input.result w1 w2 (input_box c.args.place l.input) c.in_ok-send_input.was
          c.send_input.ensures)),
    )

pub returns : goal.returns
returns g c =
    let l = c.loop-input in
    let w0 : Option (List ℕ) = g.W.Write.contents c.args.writer.now in
    let w1 : Option (List ℕ) = g.W.Write.contents l.writer in
    let test = c.loop-input-test.false in
    let at = l.invariant.0 in
    let same : l.input ≡ c.args.inputs = omega (arith, test, at) in
    sends_same (Ok tt) w0 w1 (inputs_dot c.args.place l.input) _ (ap (inputs_dot c.args.place) same)
    (sends_whole (Ok tt) tt w0 w1 (inputs_dot c.args.place l.input) refl l.invariant.1)
