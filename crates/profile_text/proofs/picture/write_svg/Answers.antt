use Rattle.std.proofs.Common.{◌++◌, ℕ, List, Option, Err, ap, ap₂, length}
use Rattle.std.proofs.lemmas.Result.{err_from_is_err_and}
use Rattle.sink.proofs.Sent.{appends_then, sends_from, sends_more, sends_less, sends_other, sends_same}
use Rattle.oracle.specs.Waves.{work}
use Rattle.profile_text.specs.Picture.{greatest, waves_a_bar, open_text, legend_text, labels_text, field_text}
use Rattle.profile_text.proofs.picture.write_svg.Goals as goal

pub returns-in_err-send_open : goal.returns-in_err-send_open
returns-in_err-send_open g c =
    let p = err_from_is_err_and c.from_residual.result c.from_residual.ensures.1 in
    let t1 : List ℕ = open_text in
    let t2 : List ℕ = legend_text (work c.args.counts.now) (length c.args.counts.now) in
    let t3 : List ℕ = labels_text (greatest c.args.counts.now) (length c.args.counts.now) (waves_a_bar (length c.args.counts.now)) in
    let t4 : List ℕ = field_text c.args.counts.now in
    let w0 : Option (List ℕ) = g.W.Write.contents c.args.writer.now in
    let w1 : Option (List ℕ) = g.W.Write.contents c.send_open.new.writer in
    rw p.1 (sends_less p.0 w0 w1 ((t1 ++ t2) ++ t3) t4
    (sends_less p.0 w0 w1 (t1 ++ t2) t3 (sends_less p.0 w0 w1 t1 t2 (sends_other c.in_err-send_open.field-0.0 p.0 w0 w1 t1 c.in_err-send_open.ensures))))

pub returns-in_err-send_legend : goal.returns-in_err-send_legend
returns-in_err-send_legend g c =
    let p = err_from_is_err_and c.from_residual-in_err-send_legend.result c.from_residual-in_err-send_legend.ensures.1 in
    let t1 : List ℕ = open_text in
    let t2 : List ℕ = legend_text (work c.args.counts.now) (length c.args.counts.now) in
    let t3 : List ℕ = labels_text (greatest c.args.counts.now) (length c.args.counts.now) (waves_a_bar (length c.args.counts.now)) in
    let t4 : List ℕ = field_text c.args.counts.now in
    let w0 : Option (List ℕ) = g.W.Write.contents c.args.writer.now in
    let w1 : Option (List ℕ) = g.W.Write.contents c.send_open.new.writer in
    let w2 : Option (List ℕ) = g.W.Write.contents c.send_legend.new.writer in
    let e2 = ap (λ w. legend_text w (length c.args.counts.now)) c.work_of-work.ensures in
    rw p.1 (sends_less p.0 w0 w2 ((t1 ++ t2) ++ t3) t4
    (sends_less p.0 w0 w2 (t1 ++ t2) t3 (sends_more (Err p.0) w0 w1 w2 t1 t2 (sends_from c.send_open.result w0 w1 t1 c.in_ok-send_open.was
    c.send_open.ensures) (sends_other c.in_err-send_legend.field-0.0 p.0 w1 w2 t2 (sends_same (Err c.in_err-send_legend.field-0.0) w1 w2 _ t2 e2
    c.in_err-send_legend.ensures)))))

pub returns-in_err-send_labels : goal.returns-in_err-send_labels
returns-in_err-send_labels g c =
    let p = err_from_is_err_and c.from_residual-in_err-send_labels.result c.from_residual-in_err-send_labels.ensures.1 in
    let t1 : List ℕ = open_text in
    let t2 : List ℕ = legend_text (work c.args.counts.now) (length c.args.counts.now) in
    let t3 : List ℕ = labels_text (greatest c.args.counts.now) (length c.args.counts.now) (waves_a_bar (length c.args.counts.now)) in
    let t4 : List ℕ = field_text c.args.counts.now in
    let w0 : Option (List ℕ) = g.W.Write.contents c.args.writer.now in
    let w1 : Option (List ℕ) = g.W.Write.contents c.send_open.new.writer in
    let w2 : Option (List ℕ) = g.W.Write.contents c.send_legend.new.writer in
    let w3 : Option (List ℕ) = g.W.Write.contents c.send_labels.new.writer in
    let e2 = ap (λ w. legend_text w (length c.args.counts.now)) c.work_of-work.ensures in
    let e3 = ap₂ (λ m s. labels_text m (length c.args.counts.now) s) c.greatest_of-top.ensures c.size_of_bar-size.ensures in
    rw p.1 (sends_less p.0 w0 w3 ((t1 ++ t2) ++ t3) t4
    (sends_more (Err p.0) w0 w2 w3 (t1 ++ t2) t3
    (appends_then w0 w1 w2 t1 t2 (sends_from c.send_open.result w0 w1 t1 c.in_ok-send_open.was c.send_open.ensures)
    (sends_from c.send_legend.result w1 w2 t2 c.in_ok-send_legend.was (sends_same c.send_legend.result w1 w2 _ t2 e2 c.send_legend.ensures)))
    (sends_other c.in_err-send_labels.field-0.0 p.0 w2 w3 t3 (sends_same (Err c.in_err-send_labels.field-0.0) w2 w3 _ t3 e3 c.in_err-send_labels.ensures))))

pub returns : goal.returns
returns g c =
    let t1 : List ℕ = open_text in
    let t2 : List ℕ = legend_text (work c.args.counts.now) (length c.args.counts.now) in
    let t3 : List ℕ = labels_text (greatest c.args.counts.now) (length c.args.counts.now) (waves_a_bar (length c.args.counts.now)) in
    let t4 : List ℕ = field_text c.args.counts.now in
    let w0 : Option (List ℕ) = g.W.Write.contents c.args.writer.now in
    let w1 : Option (List ℕ) = g.W.Write.contents c.send_open.new.writer in
    let w2 : Option (List ℕ) = g.W.Write.contents c.send_legend.new.writer in
    let w3 : Option (List ℕ) = g.W.Write.contents c.send_labels.new.writer in
    let w4 : Option (List ℕ) = g.W.Write.contents c.send_field.new.writer in
    let e2 = ap (λ w. legend_text w (length c.args.counts.now)) c.work_of-work.ensures in
    let e3 = ap₂ (λ m s. labels_text m (length c.args.counts.now) s) c.greatest_of-top.ensures c.size_of_bar-size.ensures in
    sends_more c.send_field.result w0 w3 w4 ((t1 ++ t2) ++ t3) t4
    (appends_then w0 w2 w3 (t1 ++ t2) t3 (appends_then w0 w1 w2 t1 t2 (sends_from c.send_open.result w0 w1 t1 c.in_ok-send_open.was
    c.send_open.ensures) (sends_from c.send_legend.result w1 w2 t2 c.in_ok-send_legend.was
    (sends_same c.send_legend.result w1 w2 _ t2 e2 c.send_legend.ensures))) (sends_from c.send_labels.result w2 w3 t3 c.in_ok-send_labels.was
    (sends_same c.send_labels.result w2 w3 _ t3 e3 c.send_labels.ensures))) c.send_field.ensures
