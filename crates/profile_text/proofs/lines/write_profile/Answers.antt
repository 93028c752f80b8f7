use Rattle.std.specs.Prelude.{flat_map}
use Rattle.std.proofs.Common.{◌++◌, ◌∙◌, ℕ, List, Option, Err, ap, length}
use Rattle.std.proofs.lemmas.Result.{err_from_is_err_and}
use Rattle.sink.proofs.Sent.{appends_then, sends_from, sends_more, sends_less, sends_other, sends_same}
use Rattle.semantics.specs.Graph.{Graph}
use Rattle.oracle.specs.Waves.{work}
use Rattle.profile_text.specs.ProfileText.{totals_text, waves_text, row_line, last_text}
use Rattle.profile_text.proofs.lines.write_profile.Goals as goal

pub returns-in_err-send_totals : goal.returns-in_err-send_totals
returns-in_err-send_totals g c =
    let p = err_from_is_err_and c.from_residual.result c.from_residual.ensures.1 in
    let t1 : List ℕ = totals_text (work c.args.waves.now.counts.items) (length c.args.waves.now.counts.items) in
    let t2 : List ℕ = waves_text c.args.waves.now.counts.items in
    let t3 : List ℕ = flat_map (row_line c.args.graph.now.arrays) c.args.rows.now in
    let t4 : List ℕ = last_text c.args.graph.now.arrays c.args.sufficient c.args.waves.now.end in
    let w0 : Option (List ℕ) = g.W.Write.contents c.args.writer.now in
    let w1 : Option (List ℕ) = g.W.Write.contents c.send_totals.new.writer in
    let e1 = ap (λ l. totals_text (work l) (length l)) c.deref.ensures.value in
    rw p.1 (sends_less p.0 w0 w1 ((t1 ++ t2) ++ t3) t4
    (sends_less p.0 w0 w1 (t1 ++ t2) t3 (sends_less p.0 w0 w1 t1 t2 (sends_other c.in_err-send_totals.field-0.0 p.0 w0 w1 t1
    (sends_same (Err c.in_err-send_totals.field-0.0) w0 w1 _ t1 e1 c.in_err-send_totals.ensures)))))

pub returns-in_err-send_waves : goal.returns-in_err-send_waves
returns-in_err-send_waves g c =
    let p = err_from_is_err_and c.from_residual-in_err-send_waves.result c.from_residual-in_err-send_waves.ensures.1 in
    let t1 : List ℕ = totals_text (work c.args.waves.now.counts.items) (length c.args.waves.now.counts.items) in
    let t2 : List ℕ = waves_text c.args.waves.now.counts.items in
    let t3 : List ℕ = flat_map (row_line c.args.graph.now.arrays) c.args.rows.now in
    let t4 : List ℕ = last_text c.args.graph.now.arrays c.args.sufficient c.args.waves.now.end in
    let w0 : Option (List ℕ) = g.W.Write.contents c.args.writer.now in
    let w1 : Option (List ℕ) = g.W.Write.contents c.send_totals.new.writer in
    let w2 : Option (List ℕ) = g.W.Write.contents c.send_waves.new.writer in
    let e1 = ap (λ l. totals_text (work l) (length l)) c.deref.ensures.value in
    let e2 = ap waves_text c.deref-2.ensures.value in
    rw p.1 (sends_less p.0 w0 w2 ((t1 ++ t2) ++ t3) t4
    (sends_less p.0 w0 w2 (t1 ++ t2) t3 (sends_more (Err p.0) w0 w1 w2 t1 t2 (sends_from c.send_totals.result w0 w1 t1 c.in_ok-send_totals.was
    (sends_same c.send_totals.result w0 w1 _ t1 e1 c.send_totals.ensures)) (sends_other c.in_err-send_waves.field-0.0 p.0 w1 w2 t2
    (sends_same (Err c.in_err-send_waves.field-0.0) w1 w2 _ t2 e2 c.in_err-send_waves.ensures)))))

pub returns-in_err-send_rows : goal.returns-in_err-send_rows
returns-in_err-send_rows g c =
    let p = err_from_is_err_and c.from_residual-in_err-send_rows.result c.from_residual-in_err-send_rows.ensures.1 in
    let t1 : List ℕ = totals_text (work c.args.waves.now.counts.items) (length c.args.waves.now.counts.items) in
    let t2 : List ℕ = waves_text c.args.waves.now.counts.items in
    let t3 : List ℕ = flat_map (row_line c.args.graph.now.arrays) c.args.rows.now in
    let t4 : List ℕ = last_text c.args.graph.now.arrays c.args.sufficient c.args.waves.now.end in
    let w0 : Option (List ℕ) = g.W.Write.contents c.args.writer.now in
    let w1 : Option (List ℕ) = g.W.Write.contents c.send_totals.new.writer in
    let w2 : Option (List ℕ) = g.W.Write.contents c.send_waves.new.writer in
    let w3 : Option (List ℕ) = g.W.Write.contents c.send_rows.new.writer in
    let e1 = ap (λ l. totals_text (work l) (length l)) c.deref.ensures.value in
    let e2 = ap waves_text c.deref-2.ensures.value in
    let e3 = ap (λ l. flat_map (row_line l) c.args.rows.now) (c.deref-3.ensures.value ∙ ap (λ (h : Graph). h.arrays) c.graph.view_is) in
    rw p.1 (sends_less p.0 w0 w3 ((t1 ++ t2) ++ t3) t4
    (sends_more (Err p.0) w0 w2 w3 (t1 ++ t2) t3
    (appends_then w0 w1 w2 t1 t2 (sends_from c.send_totals.result w0 w1 t1 c.in_ok-send_totals.was
    (sends_same c.send_totals.result w0 w1 _ t1 e1 c.send_totals.ensures)) (sends_from c.send_waves.result w1 w2 t2 c.in_ok-send_waves.was
    (sends_same c.send_waves.result w1 w2 _ t2 e2 c.send_waves.ensures))) (sends_other c.in_err-send_rows.field-0.0 p.0 w2 w3 t3
    (sends_same (Err c.in_err-send_rows.field-0.0) w2 w3 _ t3 e3 c.in_err-send_rows.ensures))))

pub returns : goal.returns
returns g c =
    let t1 : List ℕ = totals_text (work c.args.waves.now.counts.items) (length c.args.waves.now.counts.items) in
    let t2 : List ℕ = waves_text c.args.waves.now.counts.items in
    let t3 : List ℕ = flat_map (row_line c.args.graph.now.arrays) c.args.rows.now in
    let t4 : List ℕ = last_text c.args.graph.now.arrays c.args.sufficient c.args.waves.now.end in
    let w0 : Option (List ℕ) = g.W.Write.contents c.args.writer.now in
    let w1 : Option (List ℕ) = g.W.Write.contents c.send_totals.new.writer in
    let w2 : Option (List ℕ) = g.W.Write.contents c.send_waves.new.writer in
    let w3 : Option (List ℕ) = g.W.Write.contents c.send_rows.new.writer in
    let w4 : Option (List ℕ) = g.W.Write.contents c.send_last.new.writer in
    let e1 = ap (λ l. totals_text (work l) (length l)) c.deref.ensures.value in
    let e2 = ap waves_text c.deref-2.ensures.value in
    let e3 = ap (λ l. flat_map (row_line l) c.args.rows.now) (c.deref-3.ensures.value ∙ ap (λ (h : Graph). h.arrays) c.graph.view_is) in
    let e4 = ap (λ l. last_text l c.args.sufficient c.args.waves.now.end) (c.deref-4.ensures.value ∙ ap (λ (h : Graph). h.arrays) c.graph.view_is) in
    sends_more c.send_last.result w0 w3 w4 ((t1 ++ t2) ++ t3) t4
    (appends_then w0 w2 w3 (t1 ++ t2) t3 (appends_then w0 w1 w2 t1 t2 (sends_from c.send_totals.result w0 w1 t1 c.in_ok-send_totals.was
    (sends_same c.send_totals.result w0 w1 _ t1 e1 c.send_totals.ensures)) (sends_from c.send_waves.result w1 w2 t2 c.in_ok-send_waves.was
    (sends_same c.send_waves.result w1 w2 _ t2 e2 c.send_waves.ensures))) (sends_from c.send_rows.result w2 w3 t3 c.in_ok-send_rows.was
    (sends_same c.send_rows.result w2 w3 _ t3 e3 c.send_rows.ensures))) (sends_same c.send_last.result w3 w4 _ t4 e4 c.send_last.ensures)
