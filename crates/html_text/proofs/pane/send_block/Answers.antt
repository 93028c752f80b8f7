use Rattle.std.proofs.Common.{◌++◌, ℕ, List, Option, Err, ap, ◌∙◌}
use Rattle.std.specs.Prelude.{codes}
use Rattle.html_text.specs.DataText.{number_text}
use Rattle.sink.specs.Numbered.{numbered}
use Rattle.lowering.specs.Built.{Places}
use Rattle.html_text.specs.PaneText.{place_lead, next_number}
use Rattle.std.proofs.lemmas.Result.{err_from_is_err_and}
use Rattle.sink.proofs.Sent.{appends_then, sends_from, sends_more, sends_less, sends_other, sends_same}
use Rattle.html_text.proofs.pane.send_block.Goals as goal

pub returns-in_err-send_long : goal.returns-in_err-send_long
returns-in_err-send_long g c =
    let p = err_from_is_err_and c.from_residual.result c.from_residual.ensures.1 in
    let t1 : List ℕ = number_text (place_lead c.args.number) c.args.places.now.block in
    let t2 : List ℕ = number_text (codes ",") c.args.places.now.inputs in
    let t3 : List ℕ = numbered next_number 0 c.args.places.now.nodes in
    let t4 : List ℕ = codes "]" in
    let w0 : Option (List ℕ) = g.W.Write.contents c.args.writer.now in
    let w1 : Option (List ℕ) = g.W.Write.contents c.send_long.new.writer in
    let e1 = ap (λ (l : List ℕ). number_text l c.places.inside.block) c.place_lead.ensures ∙ ap (λ (p : Places). number_text (place_lead c.args.number) p.block) c.places.view_is in
    rw p.1 (sends_less p.0 w0 w1 ((t1 ++ t2) ++ t3) t4 (sends_less p.0 w0 w1 (t1 ++ t2) t3 (sends_less p.0 w0 w1 t1 t2 (sends_other c.in_err-send_long.field-0.0 p.0 w0 w1 t1 (sends_same (Err c.in_err-send_long.field-0.0) w0 w1 _ t1 e1 c.in_err-send_long.ensures)))))

pub returns-in_err-send_number : goal.returns-in_err-send_number
returns-in_err-send_number g c =
    let p = err_from_is_err_and c.from_residual-in_err-send_number.result c.from_residual-in_err-send_number.ensures.1 in
    let t1 : List ℕ = number_text (place_lead c.args.number) c.args.places.now.block in
    let t2 : List ℕ = number_text (codes ",") c.args.places.now.inputs in
    let t3 : List ℕ = numbered next_number 0 c.args.places.now.nodes in
    let t4 : List ℕ = codes "]" in
    let w0 : Option (List ℕ) = g.W.Write.contents c.args.writer.now in
    let w1 : Option (List ℕ) = g.W.Write.contents c.send_long.new.writer in
    let w2 : Option (List ℕ) = g.W.Write.contents c.send_number.new.writer in
    let e1 = ap (λ (l : List ℕ). number_text l c.places.inside.block) c.place_lead.ensures ∙ ap (λ (p : Places). number_text (place_lead c.args.number) p.block) c.places.view_is in
    let e2 = ap (λ (p : Places). number_text (codes ",") p.inputs) c.places.view_is in
    rw p.1 (sends_less p.0 w0 w2 ((t1 ++ t2) ++ t3) t4 (sends_less p.0 w0 w2 (t1 ++ t2) t3 (sends_more (Err p.0) w0 w1 w2 t1 t2 (sends_from c.send_long.result w0 w1 t1 c.in_ok-send_long.was (sends_same c.send_long.result w0 w1 _ t1 e1 c.send_long.ensures)) (sends_other c.in_err-send_number.field-0.0 p.0 w1 w2 t2 (sends_same (Err c.in_err-send_number.field-0.0) w1 w2 _ t2 e2 c.in_err-send_number.ensures)))))

pub returns-in_err-send_nodes : goal.returns-in_err-send_nodes
returns-in_err-send_nodes g c =
    let p = err_from_is_err_and c.from_residual-in_err-send_nodes.result c.from_residual-in_err-send_nodes.ensures.1 in
    let t1 : List ℕ = number_text (place_lead c.args.number) c.args.places.now.block in
    let t2 : List ℕ = number_text (codes ",") c.args.places.now.inputs in
    let t3 : List ℕ = numbered next_number 0 c.args.places.now.nodes in
    let t4 : List ℕ = codes "]" in
    let w0 : Option (List ℕ) = g.W.Write.contents c.args.writer.now in
    let w1 : Option (List ℕ) = g.W.Write.contents c.send_long.new.writer in
    let w2 : Option (List ℕ) = g.W.Write.contents c.send_number.new.writer in
    let w3 : Option (List ℕ) = g.W.Write.contents c.send_nodes.new.writer in
    let e1 = ap (λ (l : List ℕ). number_text l c.places.inside.block) c.place_lead.ensures ∙ ap (λ (p : Places). number_text (place_lead c.args.number) p.block) c.places.view_is in
    let e2 = ap (λ (p : Places). number_text (codes ",") p.inputs) c.places.view_is in
    let e3 = ap (numbered next_number 0) (c.deref.ensures.value ∙ ap (λ (p : Places). p.nodes) c.places.view_is) in
    rw p.1 (sends_less p.0 w0 w3 ((t1 ++ t2) ++ t3) t4 (sends_more (Err p.0) w0 w2 w3 (t1 ++ t2) t3 (appends_then w0 w1 w2 t1 t2 (sends_from c.send_long.result w0 w1 t1 c.in_ok-send_long.was (sends_same c.send_long.result w0 w1 _ t1 e1 c.send_long.ensures)) (sends_from c.send_number.result w1 w2 t2 c.in_ok-send_number.was (sends_same c.send_number.result w1 w2 _ t2 e2 c.send_number.ensures))) (sends_other c.in_err-send_nodes.field-0.0 p.0 w2 w3 t3 (sends_same (Err c.in_err-send_nodes.field-0.0) w2 w3 _ t3 e3 c.in_err-send_nodes.ensures))))

pub returns : goal.returns
returns g c =
    let t1 : List ℕ = number_text (place_lead c.args.number) c.args.places.now.block in
    let t2 : List ℕ = number_text (codes ",") c.args.places.now.inputs in
    let t3 : List ℕ = numbered next_number 0 c.args.places.now.nodes in
    let t4 : List ℕ = codes "]" in
    let w0 : Option (List ℕ) = g.W.Write.contents c.args.writer.now in
    let w1 : Option (List ℕ) = g.W.Write.contents c.send_long.new.writer in
    let w2 : Option (List ℕ) = g.W.Write.contents c.send_number.new.writer in
    let w3 : Option (List ℕ) = g.W.Write.contents c.send_nodes.new.writer in
    let w4 : Option (List ℕ) = g.W.Write.contents c.send.new.writer in
    let e1 = ap (λ (l : List ℕ). number_text l c.places.inside.block) c.place_lead.ensures ∙ ap (λ (p : Places). number_text (place_lead c.args.number) p.block) c.places.view_is in
    let e2 = ap (λ (p : Places). number_text (codes ",") p.inputs) c.places.view_is in
    let e3 = ap (numbered next_number 0) (c.deref.ensures.value ∙ ap (λ (p : Places). p.nodes) c.places.view_is) in
    sends_more c.send.result w0 w3 w4 ((t1 ++ t2) ++ t3) t4 (appends_then w0 w2 w3 (t1 ++ t2) t3 (appends_then w0 w1 w2 t1 t2 (sends_from c.send_long.result w0 w1 t1 c.in_ok-send_long.was (sends_same c.send_long.result w0 w1 _ t1 e1 c.send_long.ensures)) (sends_from c.send_number.result w1 w2 t2 c.in_ok-send_number.was (sends_same c.send_number.result w1 w2 _ t2 e2 c.send_number.ensures))) (sends_from c.send_nodes.result w2 w3 t3 c.in_ok-send_nodes.was (sends_same c.send_nodes.result w2 w3 _ t3 e3 c.send_nodes.ensures))) c.send.ensures
