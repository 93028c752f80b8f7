use Rattle.std.proofs.Common.{◌∙◌}
use Rattle.graph_check.proofs.Places.{is_new, absent_if, index_more}
use Rattle.graph_check.proofs.names.add.Goals as goal

pub returns-in-Ok : goal.returns-in-Ok
returns-in-Ok g c = record {
  added = λ names index at.
      let new = is_new c.args.name.now names c.in-Ok.old c.is_none.result (c.in-Ok.ensures.old ∙ index c.args.name.now) c.is_none.ensures in
      (new, λ yes. index_more c.args.index.now c.insert.new.self names c.args.name.now c.args.place index (absent_if _ _ new yes) at c.in-Ok.ensures.updates);
}
