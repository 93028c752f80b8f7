use Rattle.std.proofs.Common.{ℕ, List}
use Rattle.std.proofs.lemmas.Result.{err_from_is_err_and}
use Rattle.semantics.specs.Text.{text_of}
use Rattle.sink.proofs.Sent.{sends_from, sends_less, sends_more, sends_other}
use Rattle.lowered_text.proofs.send_graph.Goals as goal

pub returns-in_err-write : goal.returns-in_err-write
returns-in_err-write g c =
    let p = err_from_is_err_and c.from_residual.result c.from_residual.ensures.1 in
    let text : List ℕ = text_of c.args.graph.now in
    rw p.1 (sends_less p.0 _ _ text c.args.inputs.now (sends_other c.in_err-write.field-0.0 p.0 _ _ text c.in_err-write.ensures))

pub returns : goal.returns
returns g c =
    let text : List ℕ = text_of c.args.graph.now in
    sends_more c.send.result _ _ _ text c.args.inputs.now (sends_from c.write.result _ _ text c.in_ok-write.was c.write.ensures) c.send.ensures
