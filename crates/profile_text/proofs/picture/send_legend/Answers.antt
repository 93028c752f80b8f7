use Rattle.std.proofs.Common.{ℕ, List, Option}
use Rattle.std.proofs.lemmas.Result.{err_from_is_err_and}
use Rattle.profile_text.specs.Picture.{sizes_text, ratio_text}
use Rattle.sink.proofs.Sent.{sends_from, sends_more, sends_less, sends_other}
use Rattle.profile_text.proofs.picture.send_legend.Goals as goal

pub returns-in_err-send_sizes : goal.returns-in_err-send_sizes
returns-in_err-send_sizes g c =
    let p = err_from_is_err_and c.from_residual.result c.from_residual.ensures.1 in
    let t1 : List ℕ = sizes_text c.args.work c.args.span in
    let t2 : List ℕ = ratio_text c.args.work c.args.span in
    let w0 : Option (List ℕ) = g.W.Write.contents c.args.writer.now in
    let w1 : Option (List ℕ) = g.W.Write.contents c.send_sizes.new.writer in
    rw p.1 (sends_less p.0 w0 w1 t1 t2 (sends_other c.in_err-send_sizes.field-0.0 p.0 w0 w1 t1 c.in_err-send_sizes.ensures))

pub returns : goal.returns
returns g c =
    let t1 : List ℕ = sizes_text c.args.work c.args.span in
    let t2 : List ℕ = ratio_text c.args.work c.args.span in
    let w0 : Option (List ℕ) = g.W.Write.contents c.args.writer.now in
    let w1 : Option (List ℕ) = g.W.Write.contents c.send_sizes.new.writer in
    let w2 : Option (List ℕ) = g.W.Write.contents c.send_ratio.new.writer in
    sends_more c.send_ratio.result w0 w1 w2 t1 t2 (sends_from c.send_sizes.result w0 w1 t1 c.in_ok-send_sizes.was c.send_sizes.ensures) c.send_ratio.ensures
