use Rattle.std.proofs.Common.{refl}
use Rattle.std.proofs.lemmas.Result.{err_from_is_err_and}
use Rattle.profile_text.specs.ProfileText.{wave_line}
use Rattle.sink.proofs.Sent.{sends_from, sends_other}
use Rattle.sink.proofs.Numbered.{done}
use Rattle.profile_text.proofs.Counted.{more_at, stop_at}
use Rattle.profile_text.proofs.lines.send_waves.Goals as goal

pub returns-in_err-send_wave : goal.returns-in_err-send_wave
returns-in_err-send_wave g c =
    let p = err_from_is_err_and c.from_residual.result c.from_residual.ensures.1 in
    let l = c.loop-place in
    rw p.1 (stop_at wave_line l.place c.args.counts.now _ p.0 _ _ _ c.loop-place-test.true l.invariant
    (sends_other c.in_err-send_wave.field-0.0 p.0 _ _ _ c.in_err-send_wave.ensures))

pub loop-place-preserved : goal.loop-place-preserved
loop-place-preserved g c =
    let l = c.loop-place in
    more_at wave_line l.place c.args.counts.now _ _ _ _ c.loop-place-test.true l.invariant (sends_from _ _ _ _ c.in_ok-send_wave.was c.send_wave.ensures)

pub returns : goal.returns
returns g c =
    let l = c.loop-place in
    done wave_line l.place c.args.counts.now _ tt _ _ refl c.loop-place-test.false l.invariant
