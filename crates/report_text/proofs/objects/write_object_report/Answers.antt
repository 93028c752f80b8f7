use Rattle.std.proofs.Common.{◌++◌, ◌∙◌, ℕ, List, Option, Err, ap}
use Rattle.std.specs.Prelude.{flat_map}
use Rattle.std.proofs.lemmas.Result.{err_from_is_err_and}
use Rattle.semantics.specs.Report.{Report}
use Rattle.report_text.specs.ReportText.{outputs_text, cell_line, counts, end_line, named_by_number}
use Rattle.sink.proofs.Sent.{appends_then, sends_from, sends_more, sends_less, sends_other, sends_same}
use Rattle.report_text.proofs.objects.write_object_report.Goals as goal

pub returns-in_err-send_outputs : goal.returns-in_err-send_outputs
returns-in_err-send_outputs g c =
    let p = err_from_is_err_and c.from_residual.result c.from_residual.ensures.1 in
    let t1 : List ℕ = outputs_text c.args.report.now.outputs in
    let t2 : List ℕ = flat_map (cell_line (named_by_number 0 c.args.object.now.code.program.arrays)) c.args.report.now.cells in
    let t3 : List ℕ = counts c.args.report.now in
    let t4 : List ℕ = end_line (named_by_number 0 c.args.object.now.code.program.arrays) c.args.report.now.end in
    let w0 : Option (List ℕ) = g.W.Write.contents c.args.writer.now in
    let w1 : Option (List ℕ) = g.W.Write.contents c.send_outputs.new.writer in
    let e1 = ap outputs_text (c.as_slice.ensures.value ∙ ap (λ (r : Report). r.outputs) c.report.view_is) in
    rw p.1 (sends_less p.0 w0 w1 ((t1 ++ t2) ++ t3) t4
    (sends_less p.0 w0 w1 (t1 ++ t2) t3 (sends_less p.0 w0 w1 t1 t2 (sends_other c.in_err-send_outputs.field-0.0 p.0 w0 w1 t1
    (sends_same (Err c.in_err-send_outputs.field-0.0) w0 w1 _ t1 e1 c.in_err-send_outputs.ensures)))))

pub returns-in_err-send_cells : goal.returns-in_err-send_cells
returns-in_err-send_cells g c =
    let p = err_from_is_err_and c.from_residual-in_err-send_cells.result c.from_residual-in_err-send_cells.ensures.1 in
    let t1 : List ℕ = outputs_text c.args.report.now.outputs in
    let t2 : List ℕ = flat_map (cell_line (named_by_number 0 c.args.object.now.code.program.arrays)) c.args.report.now.cells in
    let t3 : List ℕ = counts c.args.report.now in
    let t4 : List ℕ = end_line (named_by_number 0 c.args.object.now.code.program.arrays) c.args.report.now.end in
    let w0 : Option (List ℕ) = g.W.Write.contents c.args.writer.now in
    let w1 : Option (List ℕ) = g.W.Write.contents c.send_outputs.new.writer in
    let w2 : Option (List ℕ) = g.W.Write.contents c.send_cells.new.writer in
    let e1 = ap outputs_text (c.as_slice.ensures.value ∙ ap (λ (r : Report). r.outputs) c.report.view_is) in
    let e2 = ap (flat_map (cell_line (named_by_number 0 c.args.object.now.code.program.arrays))) (c.deref.ensures.value
    ∙ ap (λ (r : Report). r.cells) c.report.view_is) in
    rw p.1 (sends_less p.0 w0 w2 ((t1 ++ t2) ++ t3) t4
    (sends_less p.0 w0 w2 (t1 ++ t2) t3 (sends_more (Err p.0) w0 w1 w2 t1 t2 (sends_from c.send_outputs.result w0 w1 t1 c.in_ok-send_outputs.was
    (sends_same c.send_outputs.result w0 w1 _ t1 e1 c.send_outputs.ensures)) (sends_other c.in_err-send_cells.field-0.0 p.0 w1 w2 t2
    (sends_same (Err c.in_err-send_cells.field-0.0) w1 w2 _ t2 e2 c.in_err-send_cells.ensures)))))

pub returns-in_err-send_counts : goal.returns-in_err-send_counts
returns-in_err-send_counts g c =
    let p = err_from_is_err_and c.from_residual-in_err-send_counts.result c.from_residual-in_err-send_counts.ensures.1 in
    let t1 : List ℕ = outputs_text c.args.report.now.outputs in
    let t2 : List ℕ = flat_map (cell_line (named_by_number 0 c.args.object.now.code.program.arrays)) c.args.report.now.cells in
    let t3 : List ℕ = counts c.args.report.now in
    let t4 : List ℕ = end_line (named_by_number 0 c.args.object.now.code.program.arrays) c.args.report.now.end in
    let w0 : Option (List ℕ) = g.W.Write.contents c.args.writer.now in
    let w1 : Option (List ℕ) = g.W.Write.contents c.send_outputs.new.writer in
    let w2 : Option (List ℕ) = g.W.Write.contents c.send_cells.new.writer in
    let w3 : Option (List ℕ) = g.W.Write.contents c.send_counts.new.writer in
    let e1 = ap outputs_text (c.as_slice.ensures.value ∙ ap (λ (r : Report). r.outputs) c.report.view_is) in
    let e2 = ap (flat_map (cell_line (named_by_number 0 c.args.object.now.code.program.arrays))) (c.deref.ensures.value
    ∙ ap (λ (r : Report). r.cells) c.report.view_is) in
    rw p.1 (sends_less p.0 w0 w3 ((t1 ++ t2) ++ t3) t4
    (sends_more (Err p.0) w0 w2 w3 (t1 ++ t2) t3 (appends_then w0 w1 w2 t1 t2 (sends_from c.send_outputs.result w0 w1 t1 c.in_ok-send_outputs.was
    (sends_same c.send_outputs.result w0 w1 _ t1 e1 c.send_outputs.ensures)) (sends_from c.send_cells.result w1 w2 t2 c.in_ok-send_cells.was
    (sends_same c.send_cells.result w1 w2 _ t2 e2 c.send_cells.ensures))) (sends_other c.in_err-send_counts.field-0.0 p.0 w2 w3 t3
    c.in_err-send_counts.ensures)))

pub returns : goal.returns
returns g c =
    let t1 : List ℕ = outputs_text c.args.report.now.outputs in
    let t2 : List ℕ = flat_map (cell_line (named_by_number 0 c.args.object.now.code.program.arrays)) c.args.report.now.cells in
    let t3 : List ℕ = counts c.args.report.now in
    let t4 : List ℕ = end_line (named_by_number 0 c.args.object.now.code.program.arrays) c.args.report.now.end in
    let w0 : Option (List ℕ) = g.W.Write.contents c.args.writer.now in
    let w1 : Option (List ℕ) = g.W.Write.contents c.send_outputs.new.writer in
    let w2 : Option (List ℕ) = g.W.Write.contents c.send_cells.new.writer in
    let w3 : Option (List ℕ) = g.W.Write.contents c.send_counts.new.writer in
    let w4 : Option (List ℕ) = g.W.Write.contents c.send_object_end.new.writer in
    let e1 = ap outputs_text (c.as_slice.ensures.value ∙ ap (λ (r : Report). r.outputs) c.report.view_is) in
    let e2 = ap (flat_map (cell_line (named_by_number 0 c.args.object.now.code.program.arrays))) (c.deref.ensures.value
    ∙ ap (λ (r : Report). r.cells) c.report.view_is) in
    let e4 = ap (end_line (named_by_number 0 c.args.object.now.code.program.arrays)) (ap (λ (r : Report). r.end) c.report.view_is) in
    sends_more c.send_object_end.result w0 w3 w4 ((t1 ++ t2) ++ t3) t4
    (appends_then w0 w2 w3 (t1 ++ t2) t3 (appends_then w0 w1 w2 t1 t2 (sends_from c.send_outputs.result w0 w1 t1 c.in_ok-send_outputs.was
    (sends_same c.send_outputs.result w0 w1 _ t1 e1 c.send_outputs.ensures)) (sends_from c.send_cells.result w1 w2 t2 c.in_ok-send_cells.was
    (sends_same c.send_cells.result w1 w2 _ t2 e2 c.send_cells.ensures))) (sends_from c.send_counts.result w2 w3 t3 c.in_ok-send_counts.was
    c.send_counts.ensures)) (sends_same c.send_object_end.result w3 w4 _ t4 e4 c.send_object_end.ensures)
