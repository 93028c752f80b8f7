use Rattle.std.proofs.Common.{◌∙◌}
use Rattle.sink.proofs.Sent.{sends_same}
use Rattle.commands.proofs.refusal_text.write_too_many_frames.Goals as goal

pub returns : goal.returns
returns g c =
    let x0 = c.as_bytes-frames.ensures.value ∙ c.format.ensures.text in
    sends_same c.send_all.result _ _ _ _ (simp x0) c.send_all.ensures
