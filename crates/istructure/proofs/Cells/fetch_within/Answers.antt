-- What one cell answered is what the cells answer.
use Rattle.std.proofs.Common.{◌∙◌, sym}
use Rattle.istructure.proofs.Lifts.{fetched_of_cells, elements_above}
use Rattle.istructure.proofs.Events.{fetch_is_event}
use Rattle.istructure.proofs.Cells.fetch_within.Goals as goal

pub returns-clause-exact : goal.returns-clause-exact
returns-clause-exact g c =
    fetched_of_cells c.args.self.now c.self.inside.element c.self.inside.elements c.self.inside.cells.items c.args.cell c.in-Some.place
    c.index_mut-held.result.now c.fetch_within.new.self c.self.view_is (sym c.place.ensures ∙ c.in-Some.is) c.index_mut-held.ensures.value c.args.reader
    c.fetch_within.result c.fetch_within.ensures

pub returns-clause-event : goal.returns-clause-event
returns-clause-event g c =
    fetch_is_event c.args.self.now c.args.cell c.args.reader c.fetch_within.result _ (elements_above _ _ _ _ c.self.view_is c.self.invariant)
    (returns-clause-exact g c)
