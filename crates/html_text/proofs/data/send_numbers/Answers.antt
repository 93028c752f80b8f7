use Rattle.std.proofs.Common.{refl, get_or}
use Rattle.std.proofs.lemmas.Result.{err_from_is_err_and}
use Rattle.std.proofs.lemmas.Option.{slice_get-get_or}
use Rattle.html_text.specs.DataText.{listed_number}
use Rattle.sink.proofs.Sent.{sends_from, sends_other}
use Rattle.sink.proofs.Numbered.{more, stop, done}
use Rattle.html_text.proofs.data.send_numbers.Goals as goal

pub returns-in_err-send_listed_number : goal.returns-in_err-send_listed_number
returns-in_err-send_listed_number g c =
    let p = err_from_is_err_and c.from_residual.result c.from_residual.ensures.1 in
    let l = c.loop-place in
    rw p.1 (stop listed_number l.place c.args.numbers.now (get_or c.args.numbers.now l.place 0) p.0 _ _ _
    (slice_get-get_or c.args.numbers.now l.place 0 c.loop-place-test.true) l.invariant
    (sends_other c.in_err-send_listed_number.field-0.0 p.0 _ _ _ c.in_err-send_listed_number.ensures))

pub loop-place-preserved : goal.loop-place-preserved
loop-place-preserved g c =
    let l = c.loop-place in
    more listed_number l.place c.args.numbers.now (get_or c.args.numbers.now l.place 0) _ _ _
    (slice_get-get_or c.args.numbers.now l.place 0 c.loop-place-test.true) l.invariant
    (sends_from _ _ _ _ c.in_ok-send_listed_number.was c.send_listed_number.ensures)

pub returns : goal.returns
returns g c =
    let l = c.loop-place in
    done listed_number l.place c.args.numbers.now _ tt _ _ refl c.loop-place-test.false l.invariant
