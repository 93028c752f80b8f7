use Rattle.std.proofs.Common.{◌++◌, ◌∷◌, [], ◌%◌, ℕ, List, Option, ap}
use Rattle.std.specs.Prelude.{codes, decimal}
use Rattle.std.proofs.lemmas.Result.{err_from_is_err_and}
use Rattle.semantics.specs.Text.{field, line}
use Rattle.sink.proofs.Sent.{sends_from, sends_less, sends_more, sends_other, sends_same}
use Rattle.chosen_cells.specs.Chosen.{beginning, closing, value_after}
use Rattle.chosen_cells.proofs.row.send_first.Goals as goal

pub returns-in_err-begin : goal.returns-in_err-begin
returns-in_err-begin g c =
    let p = err_from_is_err_and c.from_residual.result c.from_residual.ensures.1 in
    let t1 : List ℕ = closing c.args.row.now ++ beginning c.args.name.now c.args.index c.args.length in
    let t2 : List ℕ = value_after (c.args.index % c.args.length) c.args.value.now in
    let w0 : Option (List ℕ) = g.W.Write.contents c.args.writer.now in
    let w1 : Option (List ℕ) = g.W.Write.contents c.begin.new.writer in
    rw p.1 (sends_less p.0 w0 w1 t1 t2 (sends_other c.in_err-begin.field-0.0 p.0 w0 w1 t1 c.in_err-begin.ensures))

pub returns : goal.returns
returns g c =
    let t1 : List ℕ = closing c.args.row.now ++ beginning c.args.name.now c.args.index c.args.length in
    let t2 : List ℕ = value_after (c.args.index % c.args.length) c.args.value.now in
    let w0 : Option (List ℕ) = g.W.Write.contents c.args.writer.now in
    let w1 : Option (List ℕ) = g.W.Write.contents c.begin.new.writer in
    let w2 : Option (List ℕ) = g.W.Write.contents c.send_after.new.writer in
    sends_more c.send_after.result w0 w1 w2 t1 t2 (sends_from c.begin.result w0 w1 t1 c.in_ok-begin.was c.begin.ensures)
    (sends_same c.send_after.result w1 w2 (value_after c.place_of.result c.args.value.now) t2 (ap (λ (n : ℕ). value_after n c.args.value.now) c.place_of.ensures)
    c.send_after.ensures)
