use Rattle.disassembler.specs.Listing as L
use Rattle.std.proofs.Common.{◌≡◌, ◌+◌, ◌++◌, ◌∷◌, [], ◌∙◌, ℕ, List, Option, Some, None, Ok, Err, refl, sym, ap, take, length, arith, append_assoc}
use Rattle.std.specs.Prelude.{codes, decimal, option_to_list, slice_get}
use Rattle.std.proofs.lemmas.Result.{err_from_is_err_and}
use Rattle.std.proofs.lemmas.Option.{slice_get_read}
use Rattle.std.proofs.Math.Nat.{add-zero}
use Rattle.semantics.specs.Graph.{Node, Block}
use Rattle.semantics.specs.Text.{field, kind_text}
use Rattle.sink.specs.Numbered.{numbered}
use Rattle.sink.proofs.Sent.{appends_then, appends_none, sends_from, sends_more, sends_less, sends_other, sends_same, sends_whole}
use Rattle.sink.proofs.Numbered.{more, stop, done, outside}
use Rattle.dot.specs.GraphDot.{region_of, arm_letter, arm_sign, arm_opens, opens, closes, node_box, style_of, edge, node_place, node_dot, input_box}
use Rattle.dot.specs.GraphDot.{inputs_dot, result_dot, block_head, block_dot, graph_head, graph_dot}
use Rattle.dot.specs.CodeDot as C
use Rattle.sink.proofs.Sent.{sends_same}
use Rattle.std.proofs.lemmas.Option.{slice_get-get_or}
use Rattle.dot.proofs.graph_dot.send_results.Goals as goal

pub returns-in_err-send_result : goal.returns-in_err-send_result
returns-in_err-send_result g c =
    let p = err_from_is_err_and c.from_residual.result c.from_residual.ensures.1 in
    let l = c.loop-output in
    rw p.1 (stop (result_dot c.args.place) l.output c.args.results.now _ p.0 _ _ _
    (slice_get-get_or c.args.results.now l.output _ c.loop-output-test.true) l.invariant (sends_other c.in_err-send_result.field-0.0 p.0 _ _ _
    c.in_err-send_result.ensures))

pub loop-output-preserved : goal.loop-output-preserved
loop-output-preserved g c =
    let l = c.loop-output in
    more (result_dot c.args.place) l.output c.args.results.now _ _ _ _ (slice_get-get_or c.args.results.now l.output _ c.loop-output-test.true)
    l.invariant (sends_from _ _ _ _ c.in_ok-send_result.was c.send_result.ensures)

pub returns : goal.returns
returns g c =
    let l = c.loop-output in
    done (result_dot c.args.place) l.output c.args.results.now _ tt _ _ refl c.loop-output-test.false l.invariant
