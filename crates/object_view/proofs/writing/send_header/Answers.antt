use Rattle.std.proofs.Common.{ap}
use Rattle.std.specs.Prelude.{flat_map, codes}
use Rattle.std.proofs.lemmas.Result.{err_from_is_err_and}
use Rattle.object_view.specs.Sending.{bytes_of_word}
use Rattle.sink.proofs.Sent.{sends_from, sends_more, sends_less, sends_other, sends_same}
use Rattle.object_view.proofs.writing.send_header.Goals as goal

pub returns-in_err-send : goal.returns-in_err-send
returns-in_err-send g c =
    let p = err_from_is_err_and c.from_residual.result c.from_residual.ensures.1 in
    rw p.1 (sends_less p.0 _ _ (codes "ETSOBJCT") _ (sends_other c.in_err-send.field-0.0 p.0 _ _ (codes "ETSOBJCT") c.in_err-send.ensures))

pub returns : goal.returns
returns g c =
    sends_more c.send_words.result _ _ _ (codes "ETSOBJCT") _ (sends_from c.send.result _ _ (codes "ETSOBJCT") c.in_ok-send.was c.send.ensures)
    (sends_same c.send_words.result _ _ _ _ (ap (flat_map bytes_of_word) c.counts.ensures) c.send_words.ensures)
