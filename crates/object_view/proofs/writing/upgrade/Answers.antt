use Rattle.std.proofs.Common.{◌≡◌, ℕ, List, ◌++◌, take, drop, Err, sym, ap, ◌∙◌, append_assoc}
use Rattle.std.proofs.lemmas.Result.{err_from_is_err_and}
use Rattle.object_view.specs.Sending.{bytes_of_word, upgraded}
use Rattle.sink.proofs.Sent.{sends_from, sends_more, sends_less, sends_other, sends_same}
use Rattle.object_view.proofs.Whole.{stopped, upgraded_same}
use Rattle.object_view.proofs.writing.upgrade.Goals as goal

pub returns-in_err-send : goal.returns-in_err-send
returns-in_err-send g c =
    let p = err_from_is_err_and c.from_residual.result c.from_residual.ensures.1 in
    let b : List ℕ = c.args.object.now.bytes in
    let same = upgraded_same c.args.object.now.version c.args.object.now.code b (sym c.bytes-bytes.ensures.same ∙ c.bytes-bytes.ensures.object.0) in
    let front : c.split_at.result.0.now ≡ take 8 b = c.split_at.ensures.front ∙ ap (take 8) c.bytes-bytes.ensures.same in
    rw p.1 (sends_same (Err p.0) _ _ (upgraded b) _ same (sends_less p.0 _ _ (take 8 b) (bytes_of_word 2 ++ drop 16 b)
    (sends_other c.in_err-send.field-0.0 p.0 _ _ (take 8 b) (sends_same _ _ _ _ (take 8 b) front c.in_err-send.ensures))))

pub returns-in_err-send_word : goal.returns-in_err-send_word
returns-in_err-send_word g c =
    let p = err_from_is_err_and c.from_residual-in_err-send_word.result c.from_residual-in_err-send_word.ensures.1 in
    let b : List ℕ = c.args.object.now.bytes in
    let same = upgraded_same c.args.object.now.version c.args.object.now.code b (sym c.bytes-bytes.ensures.same ∙ c.bytes-bytes.ensures.object.0) in
    let front : c.split_at.result.0.now ≡ take 8 b = c.split_at.ensures.front ∙ ap (take 8) c.bytes-bytes.ensures.same in
    let a1 = sends_from c.send.result _ _ (take 8 b) c.in_ok-send.was (sends_same c.send.result _ _ _ (take 8 b) front c.send.ensures) in
    rw p.1 (sends_same (Err p.0) _ _ (upgraded b) _ same (stopped c.in_err-send_word.field-0.0 p.0 _ _ _ (take 8 b) (bytes_of_word 2) (drop 16 b)
    (upgraded b) (sym (append_assoc (take 8 b) (bytes_of_word 2) (drop 16 b))) a1 c.in_err-send_word.ensures))

pub returns : goal.returns
returns g c =
    let b : List ℕ = c.args.object.now.bytes in
    let same = upgraded_same c.args.object.now.version c.args.object.now.code b (sym c.bytes-bytes.ensures.same ∙ c.bytes-bytes.ensures.object.0) in
    let front : c.split_at.result.0.now ≡ take 8 b = c.split_at.ensures.front ∙ ap (take 8) c.bytes-bytes.ensures.same in
    let rest : c.split_at-2.result.1.now ≡ drop 16 b = c.split_at-2.ensures.back ∙ ap (drop 16) c.bytes-bytes.ensures.same in
    let a1 = sends_from c.send.result _ _ (take 8 b) c.in_ok-send.was (sends_same c.send.result _ _ _ (take 8 b) front c.send.ensures) in
    let a2 = sends_from c.send_word.result _ _ (bytes_of_word 2) c.in_ok-send_word.was c.send_word.ensures in
    sends_same c.send-2.result _ _ (upgraded b) _ same (sends_more c.send-2.result _ _ _ (take 8 b) (bytes_of_word 2 ++ drop 16 b) a1
    (sends_more c.send-2.result _ _ _ (bytes_of_word 2) (drop 16 b) a2 (sends_same c.send-2.result _ _ _ (drop 16 b) rest c.send-2.ensures)))
