use Rattle.std.proofs.Common.{◌∙◌}
use Rattle.trace_text.proofs.Objects.{opened}
use Rattle.trace_text.proofs.chrome.send_open.Goals as goal

pub returns : goal.returns
returns g c =
    opened c.send_all.result _ _ c.args.object.now.code.program c.args.number c.args.element c.args.to.now c.as_bytes-element.result.now
    c.as_bytes-number.result.now c.name_at.result.now
    (c.as_bytes-element.ensures.value ∙ c.format.ensures.text) (c.as_bytes-number.ensures.value ∙ c.format-2.ensures.text) c.name_at.ensures c.send_all.ensures
