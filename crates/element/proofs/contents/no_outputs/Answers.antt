use Rattle.std.proofs.Common.{◌∙◌, ap, take, None}
use Rattle.std.proofs.lemmas.List.{take-replicate}
use Rattle.element.proofs.contents.no_outputs.Goals as goal

pub returns : goal.returns
returns c = c.truncate.ensures.items ∙ ap (take c.args.count) c.from-outputs.ensures.0 ∙ take-replicate c.args.count 16 None c.requires
