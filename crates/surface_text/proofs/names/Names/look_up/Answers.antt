use Rattle.std.proofs.Common.{◌∙◌, arith}
use Rattle.surface_text.proofs.Named.{found_name, new_name}
use Rattle.surface_text.proofs.names.Names.look_up.Goals as goal

pub returns-in-Some-clause-numbered : goal.returns-in-Some-clause-numbered
returns-in-Some-clause-numbered g c = λ table.
    found_name c.args.self.now.numbers c.args.self.now.table.items c.args.name.now c.in-Some.number c.copied.result (c.copied.ensures ∙ c.get.ensures.value)
    c.in-Some.is table

pub returns-clause-numbered : goal.returns-clause-numbered
returns-clause-numbered g c = λ table.
    new_name c.args.self.now.numbers c.insert.new.self c.args.self.now.table.items c.push.new.self.items c.args.name.now c.len-number.result c.copied.result
    (c.copied.ensures ∙ c.get.ensures.value) c.in_default.is (omega (arith, c.len-number.ensures)) c.in-Ok.ensures.items c.in-Ok-insert.ensures.updates table
