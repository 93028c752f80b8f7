use Rattle.std.proofs.Common.{◌++◌, ◌∷◌, [], ℕ, List, Option}
use Rattle.std.specs.Prelude.{codes}
use Rattle.std.proofs.lemmas.Result.{err_from_is_err_and}
use Rattle.semantics.specs.Text.{field}
use Rattle.report_text.specs.ReportText.{kind_word, origin_text}
use Rattle.sink.proofs.Sent.{sends_from, sends_other}
use Rattle.report_text.proofs.Lines.{ended, begun}
use Rattle.report_text.proofs.outputs.send_fault.Goals as goal

pub returns-in_err-send_kind : goal.returns-in_err-send_kind
returns-in_err-send_kind g c =
    let p = err_from_is_err_and c.from_residual.result c.from_residual.ensures.1 in
    let t1 : List ℕ = field (codes "fault" ++ field (kind_word c.args.kind)) in
    let w0 : Option (List ℕ) = g.W.Write.contents c.args.writer.now in
    let w1 : Option (List ℕ) = g.W.Write.contents c.send_kind.new.writer in
    rw p.1 (begun p.0 w0 w1 t1 (origin_text c.args.origin) (10 ∷ []) (sends_other c.in_err-send_kind.field-0.0 p.0 w0 w1 t1 c.in_err-send_kind.ensures))

pub returns : goal.returns
returns g c =
    let t1 : List ℕ = field (codes "fault" ++ field (kind_word c.args.kind)) in
    let w0 : Option (List ℕ) = g.W.Write.contents c.args.writer.now in
    let w1 : Option (List ℕ) = g.W.Write.contents c.send_kind.new.writer in
    let w2 : Option (List ℕ) = g.W.Write.contents c.send_origin.new.writer in
    ended c.send_origin.result w0 w1 w2 t1 (origin_text c.args.origin) (10 ∷ []) (sends_from c.send_kind.result w0 w1 t1 c.in_ok-send_kind.was
    c.send_kind.ensures) c.send_origin.ensures
