use Rattle.std.proofs.Common.{◌∙◌, ap, take, None}
use Rattle.std.proofs.lemmas.List.{take-replicate}
use Rattle.schedule.proofs.Reports.{opening_is}
use Rattle.schedule.proofs.reporting.opening_report.Goals as goal

pub returns : goal.returns
returns g c = opening_is c.args.outputs c.truncate.new.self.items c.new.result.items c.clear.new.self.items
    (c.truncate.ensures.items ∙ ap (take c.args.outputs) c.from-none.ensures.0 ∙ take-replicate c.args.outputs 16 None c.requires) c.new.ensures.items
    c.clear.ensures.items
