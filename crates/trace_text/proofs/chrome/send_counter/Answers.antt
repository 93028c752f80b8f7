use Rattle.std.proofs.Common.{◌∙◌}
use Rattle.trace_text.proofs.Objects.{counter}
use Rattle.trace_text.proofs.chrome.send_counter.Goals as goal

pub returns : goal.returns
returns g c =
    counter c.send_all.result _ _ c.args.number c.args.moment.now c.as_bytes-number.result.now c.as_bytes-tokens.result.now
    c.as_bytes-slots.result.now c.as_bytes-frames.result.now
    (c.as_bytes-number.ensures.value ∙ c.format.ensures.text) (c.as_bytes-tokens.ensures.value ∙ c.format-2.ensures.text)
    (c.as_bytes-slots.ensures.value ∙ c.format-3.ensures.text) (c.as_bytes-frames.ensures.value ∙ c.format-4.ensures.text) c.send_all.ensures
