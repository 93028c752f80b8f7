use Rattle.std.proofs.Common.{refl, ap}
use Rattle.std.proofs.lemmas.Result.{err_from_is_err_and}
use Rattle.profile_text.specs.Picture.{bar_text}
use Rattle.sink.proofs.Sent.{sends_from, sends_other, sends_same}
use Rattle.profile_text.proofs.Bars.{more_sent, stopped, all_sent, by_counts}
use Rattle.profile_text.proofs.picture.send_bars.Goals as goal

pub returns-in_err-send_bar : goal.returns-in_err-send_bar
returns-in_err-send_bar g c =
    let p = err_from_is_err_and c.from_residual.result c.from_residual.ensures.1 in
    let l = c.loop-place in
    let bars = c.count_bars-bars.result in
    let top = c.greatest_of-top.result in
    let size = c.size_of_bar-size.result in
    let sent = sends_same _ _ _ _ _ (ap (λ n. bar_text bars l.place n top) c.greatest_of.ensures) (sends_other c.in_err-send_bar.field-0.0 p.0 _ _ _
    c.in_err-send_bar.ensures) in
    rw p.1 (sends_same _ _ _ _ _ (by_counts c.args.counts.now bars size top c.count_bars-bars.ensures c.size_of_bar-size.ensures c.greatest_of-top.ensures)
    (stopped p.0 bars size top l.place c.args.counts.now l.rest.now c.split.result.0.now _ _ _ c.loop-place-test.true c.split.ensures.first l.invariant sent))

pub loop-place-preserved : goal.loop-place-preserved
loop-place-preserved g c =
    let l = c.loop-place in
    let bars = c.count_bars-bars.result in
    let top = c.greatest_of-top.result in
    let size = c.size_of_bar-size.result in
    let sent = sends_same _ _ _ _ _ (ap (λ n. bar_text bars l.place n top) c.greatest_of.ensures) c.send_bar.ensures in
    more_sent bars size top l.place c.args.counts.now l.rest.now c.split.result.0.now c.split.result.1.now _ _ _ c.loop-place-test.true
    c.split.ensures.first c.split.ensures.rest l.invariant (sends_from _ _ _ _ c.in_ok-send_bar.was sent)

pub returns : goal.returns
returns g c =
    let l = c.loop-place in
    let bars = c.count_bars-bars.result in
    let top = c.greatest_of-top.result in
    let size = c.size_of_bar-size.result in
    sends_same _ _ _ _ _ (by_counts c.args.counts.now bars size top c.count_bars-bars.ensures c.size_of_bar-size.ensures c.greatest_of-top.ensures)
    (all_sent _ tt bars size top l.place c.args.counts.now l.rest.now _ _ refl c.loop-place-test.false l.invariant)
