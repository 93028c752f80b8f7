use Rattle.std.specs.Prelude.{codes}
use Rattle.std.proofs.Common.{◌++◌, ℕ, List, Option, Err}
use Rattle.std.proofs.lemmas.Result.{err_from_is_err_and}
use Rattle.semantics.specs.Text.{line}
use Rattle.sink.proofs.Sent.{appends_then, sends_from, sends_more, sends_less, sends_other}
use Rattle.commands.specs.Agreed.{order_text}
use Rattle.commands.proofs.orders.write_differing.Goals as goal

pub returns-in_err-send : goal.returns-in_err-send
returns-in_err-send g c =
    let p = err_from_is_err_and c.from_residual.result c.from_residual.ensures.1 in
    let t1 : List ℕ = line (codes "orders differ") in
    let t2 : List ℕ = order_text 0 c.args.graph.now c.args.first.now in
    let t3 : List ℕ = order_text c.args.number c.args.graph.now c.args.other.now in
    let w0 : Option (List ℕ) = g.W.Write.contents c.args.writer.now in
    let w1 : Option (List ℕ) = g.W.Write.contents c.send.new.writer in
    rw p.1 (sends_less p.0 w0 w1 (t1 ++ t2) t3 (sends_less p.0 w0 w1 t1 t2 (sends_other c.in_err-send.field-0.0 p.0 w0 w1 t1 c.in_err-send.ensures)))

pub returns-in_err-write_order : goal.returns-in_err-write_order
returns-in_err-write_order g c =
    let p = err_from_is_err_and c.from_residual-in_err-write_order.result c.from_residual-in_err-write_order.ensures.1 in
    let t1 : List ℕ = line (codes "orders differ") in
    let t2 : List ℕ = order_text 0 c.args.graph.now c.args.first.now in
    let t3 : List ℕ = order_text c.args.number c.args.graph.now c.args.other.now in
    let w0 : Option (List ℕ) = g.W.Write.contents c.args.writer.now in
    let w1 : Option (List ℕ) = g.W.Write.contents c.send.new.writer in
    let w2 : Option (List ℕ) = g.W.Write.contents c.write_order.new.writer in
    rw p.1 (sends_less p.0 w0 w2 (t1 ++ t2) t3
    (sends_more (Err p.0) w0 w1 w2 t1 t2 (sends_from c.send.result w0 w1 t1 c.in_ok-send.was c.send.ensures)
    (sends_other c.in_err-write_order.field-0.0 p.0 w1 w2 t2 c.in_err-write_order.ensures)))

pub returns : goal.returns
returns g c =
    let t1 : List ℕ = line (codes "orders differ") in
    let t2 : List ℕ = order_text 0 c.args.graph.now c.args.first.now in
    let t3 : List ℕ = order_text c.args.number c.args.graph.now c.args.other.now in
    let w0 : Option (List ℕ) = g.W.Write.contents c.args.writer.now in
    let w1 : Option (List ℕ) = g.W.Write.contents c.send.new.writer in
    let w2 : Option (List ℕ) = g.W.Write.contents c.write_order.new.writer in
    let w3 : Option (List ℕ) = g.W.Write.contents c.write_order-2.new.writer in
    sends_more c.write_order-2.result w0 w2 w3 (t1 ++ t2) t3
    (appends_then w0 w1 w2 t1 t2 (sends_from c.send.result w0 w1 t1 c.in_ok-send.was c.send.ensures)
    (sends_from c.write_order.result w1 w2 t2 c.in_ok-write_order.was c.write_order.ensures)) c.write_order-2.ensures
