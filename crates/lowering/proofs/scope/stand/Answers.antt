use Rattle.lowering.proofs.NameMaps.{one_stands}
use Rattle.lowering.proofs.scope.stand.Goals as goal

pub returns-in-Ok-clause-stands : goal.returns-in-Ok-clause-stands
returns-in-Ok-clause-stands g c = λ scope latest. one_stands c.args.latest.now c.insert.new.self c.args.name.now c.args.source scope
    c.in-Ok.ensures.updates latest
