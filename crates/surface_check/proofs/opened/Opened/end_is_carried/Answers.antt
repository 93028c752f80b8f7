use Rattle.std.proofs.Common.{◌∙◌, ℕ, [], ap}
use Rattle.source_check.specs.Steps.{since}
use Rattle.surface_check.specs.Renamed.{numbers_in}
use Rattle.surface_check.specs.Steps.{Open, is_carried}
use Rattle.surface_check.proofs.OpenParts.{width_after}
use Rattle.surface_check.proofs.opened.Opened.end_is_carried.Goals as goal

pub returns-clause-carried : goal.returns-clause-carried
returns-clause-carried g c = c.is_carried.ensures
    ∙ ap (λ (o : Open ℕ). is_carried (numbers_in []) (since o.turn.base o.scope) (since o.turn.start o.used) o.ends) c.leave_body.ensures
    ∙ width_after c.args.self.now c.args.mark
