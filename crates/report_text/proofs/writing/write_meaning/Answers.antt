use Rattle.std.proofs.Common.{◌++◌, ◌∙◌, ℕ, List, Option, Err, ap}
use Rattle.std.specs.Prelude.{flat_map}
use Rattle.std.proofs.lemmas.Result.{err_from_is_err_and}
use Rattle.semantics.specs.Graph.{Graph}
use Rattle.report_text.specs.ReportText.{Arrays, outputs_text, full_line, meaning_end}
use Rattle.sink.proofs.Sent.{appends_then, sends_from, sends_more, sends_less, sends_other, sends_same}
use Rattle.report_text.proofs.writing.write_meaning.Goals as goal

pub returns-in_err-send_outputs : goal.returns-in_err-send_outputs
returns-in_err-send_outputs g c =
    let p = err_from_is_err_and c.from_residual.result c.from_residual.ensures.1 in
    let t1 : List ℕ = outputs_text c.args.report.now.outputs.items in
    let t2 : List ℕ = flat_map (full_line c.args.graph.now.arrays) c.args.report.now.cells.items in
    let t3 : List ℕ = meaning_end c.args.graph.now.arrays c.args.report.now.end in
    let w0 : Option (List ℕ) = g.W.Write.contents c.args.writer.now in
    let w1 : Option (List ℕ) = g.W.Write.contents c.send_outputs.new.writer in
    let e1 = ap outputs_text c.deref.ensures.value in
    rw p.1 (sends_less p.0 w0 w1 (t1 ++ t2) t3
    (sends_less p.0 w0 w1 t1 t2 (sends_other c.in_err-send_outputs.field-0.0 p.0 w0 w1 t1 (sends_same (Err c.in_err-send_outputs.field-0.0) w0 w1
    _ t1 e1 c.in_err-send_outputs.ensures))))

pub returns-in_err-send_fulls : goal.returns-in_err-send_fulls
returns-in_err-send_fulls g c =
    let p = err_from_is_err_and c.from_residual-in_err-send_fulls.result c.from_residual-in_err-send_fulls.ensures.1 in
    let t1 : List ℕ = outputs_text c.args.report.now.outputs.items in
    let t2 : List ℕ = flat_map (full_line c.args.graph.now.arrays) c.args.report.now.cells.items in
    let t3 : List ℕ = meaning_end c.args.graph.now.arrays c.args.report.now.end in
    let w0 : Option (List ℕ) = g.W.Write.contents c.args.writer.now in
    let w1 : Option (List ℕ) = g.W.Write.contents c.send_outputs.new.writer in
    let w2 : Option (List ℕ) = g.W.Write.contents c.send_fulls.new.writer in
    let e1 = ap outputs_text c.deref.ensures.value in
    let e2 = ap (λ (l : Arrays). flat_map (full_line l) c.deref-3.result.now) (c.deref-2.ensures.value ∙ ap (λ (h : Graph). h.arrays) c.graph.view_is)
    ∙ ap (flat_map (full_line c.args.graph.now.arrays)) c.deref-3.ensures.value in
    rw p.1 (sends_less p.0 w0 w2 (t1 ++ t2) t3
    (sends_more (Err p.0) w0 w1 w2 t1 t2 (sends_from c.send_outputs.result w0 w1 t1 c.in_ok-send_outputs.was
    (sends_same c.send_outputs.result w0 w1 _ t1 e1 c.send_outputs.ensures)) (sends_other c.in_err-send_fulls.field-0.0 p.0 w1 w2 t2
    (sends_same (Err c.in_err-send_fulls.field-0.0) w1 w2 _ t2 e2 c.in_err-send_fulls.ensures))))

pub returns : goal.returns
returns g c =
    let t1 : List ℕ = outputs_text c.args.report.now.outputs.items in
    let t2 : List ℕ = flat_map (full_line c.args.graph.now.arrays) c.args.report.now.cells.items in
    let t3 : List ℕ = meaning_end c.args.graph.now.arrays c.args.report.now.end in
    let w0 : Option (List ℕ) = g.W.Write.contents c.args.writer.now in
    let w1 : Option (List ℕ) = g.W.Write.contents c.send_outputs.new.writer in
    let w2 : Option (List ℕ) = g.W.Write.contents c.send_fulls.new.writer in
    let w3 : Option (List ℕ) = g.W.Write.contents c.send_meaning_end.new.writer in
    let e1 = ap outputs_text c.deref.ensures.value in
    let e2 = ap (λ (l : Arrays). flat_map (full_line l) c.deref-3.result.now) (c.deref-2.ensures.value ∙ ap (λ (h : Graph). h.arrays) c.graph.view_is)
    ∙ ap (flat_map (full_line c.args.graph.now.arrays)) c.deref-3.ensures.value in
    let e3 = ap (λ (l : Arrays). meaning_end l c.args.report.now.end) (c.deref-4.ensures.value ∙ ap (λ (h : Graph). h.arrays) c.graph.view_is) in
    sends_more c.send_meaning_end.result w0 w2 w3 (t1 ++ t2) t3
    (appends_then w0 w1 w2 t1 t2 (sends_from c.send_outputs.result w0 w1 t1 c.in_ok-send_outputs.was
    (sends_same c.send_outputs.result w0 w1 _ t1 e1 c.send_outputs.ensures)) (sends_from c.send_fulls.result w1 w2 t2 c.in_ok-send_fulls.was
    (sends_same c.send_fulls.result w1 w2 _ t2 e2 c.send_fulls.ensures))) (sends_same c.send_meaning_end.result w2 w3 _ t3 e3 c.send_meaning_end.ensures)
