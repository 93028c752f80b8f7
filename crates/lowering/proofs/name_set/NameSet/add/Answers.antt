use Rattle.lowering.proofs.NameMaps.{one_more}
use Rattle.lowering.proofs.name_set.NameSet.add.Goals as goal

pub returns-in-Ok-clause-added : goal.returns-in-Ok-clause-added
returns-in-Ok-clause-added g c = one_more c.args.self.now.names c.insert.new.self c.args.name.now c.in-Ok.ensures.updates
