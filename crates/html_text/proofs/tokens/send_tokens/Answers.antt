use Rattle.std.proofs.Common.{refl}
use Rattle.std.proofs.lemmas.Result.{err_from_is_err_and}
use Rattle.std.proofs.lemmas.Option.{slice_get_read}
use Rattle.html_text.specs.DataText.{listed_token}
use Rattle.sink.proofs.Sent.{sends_from, sends_other}
use Rattle.sink.proofs.Numbered.{more, stop, done}
use Rattle.html_text.proofs.tokens.send_tokens.Goals as goal

pub returns-in_err-send_listed : goal.returns-in_err-send_listed
returns-in_err-send_listed g c =
    let p = err_from_is_err_and c.from_residual.result c.from_residual.ensures.1 in
    let l = c.loop-place in
    rw p.1 (stop listed_token l.place c.args.tokens.now c.index-tokens-place.result p.0 _ _ _
    (slice_get_read c.args.tokens.now _ l.place c.index-tokens-place.result refl c.loop-place-test.true c.index-tokens-place.is) l.invariant
    (sends_other c.in_err-send_listed.field-0.0 p.0 _ _ _ c.in_err-send_listed.ensures))

pub loop-place-preserved : goal.loop-place-preserved
loop-place-preserved g c =
    let l = c.loop-place in
    more listed_token l.place c.args.tokens.now c.index-tokens-place.result _ _ _
    (slice_get_read c.args.tokens.now _ l.place c.index-tokens-place.result refl c.loop-place-test.true c.index-tokens-place.is) l.invariant
    (sends_from _ _ _ _ c.in_ok-send_listed.was c.send_listed.ensures)

pub returns : goal.returns
returns g c =
    let l = c.loop-place in
    done listed_token l.place c.args.tokens.now _ tt _ _ refl c.loop-place-test.false l.invariant
