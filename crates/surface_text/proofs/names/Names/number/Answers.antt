use Rattle.surface_text.proofs.Named.{recent_name}
use Rattle.surface_text.proofs.names.Names.number.Goals as goal

pub returns-in-Some-clause-numbered : goal.returns-in-Some-clause-numbered
returns-in-Some-clause-numbered g c = λ table.
    let self = c.args.self.now in
    recent_name self.numbers self.table.items c.args.name.now c.in-Some.number (c.recent_number.ensures c.in-Some.number c.in-Some.is) table
