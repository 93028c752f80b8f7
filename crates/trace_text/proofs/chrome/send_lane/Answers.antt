use Rattle.std.proofs.Common.{◌∙◌}
use Rattle.trace_text.proofs.Objects.{lane}
use Rattle.trace_text.proofs.chrome.send_lane.Goals as goal

pub returns : goal.returns
returns g c = lane c.send_all.result _ _ c.args.element c.as_bytes-element.result.now (c.as_bytes-element.ensures.value ∙ c.format.ensures.text)
    c.send_all.ensures
