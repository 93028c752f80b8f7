use Rattle.std.proofs.Common.{ℕ, List, Option}
use Rattle.std.specs.Prelude.{codes}
use Rattle.html_text.specs.PaneText.{owners_text}
use Rattle.std.proofs.lemmas.Result.{err_from_is_err_and}
use Rattle.sink.proofs.Sent.{sends_from, sends_more, sends_less, sends_other}
use Rattle.html_text.proofs.pane.send_graph_parts.Goals as goal

pub returns-in_err-send_owners : goal.returns-in_err-send_owners
returns-in_err-send_owners g c =
    let p = err_from_is_err_and c.from_residual.result c.from_residual.ensures.1 in
    let t1 : List ℕ = owners_text c.args.owners.now in
    let t2 : List ℕ = codes "}" in
    let w0 : Option (List ℕ) = g.W.Write.contents c.args.writer.now in
    let w1 : Option (List ℕ) = g.W.Write.contents c.send_owners.new.writer in
    rw p.1 (sends_less p.0 w0 w1 t1 t2 (sends_other c.in_err-send_owners.field-0.0 p.0 w0 w1 t1 c.in_err-send_owners.ensures))

pub returns : goal.returns
returns g c =
    let t1 : List ℕ = owners_text c.args.owners.now in
    let t2 : List ℕ = codes "}" in
    let w0 : Option (List ℕ) = g.W.Write.contents c.args.writer.now in
    let w1 : Option (List ℕ) = g.W.Write.contents c.send_owners.new.writer in
    let w2 : Option (List ℕ) = g.W.Write.contents c.send.new.writer in
    sends_more c.send.result w0 w1 w2 t1 t2 (sends_from c.send_owners.result w0 w1 t1 c.in_ok-send_owners.was c.send_owners.ensures) c.send.ensures
