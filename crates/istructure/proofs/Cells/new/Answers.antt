-- The cells that were made are as many as the element owns.
use Rattle.std.proofs.Common.{◌≡◌, subst, arith, Some, None}
use Rattle.semantics.specs.Machine.{Vacant}
use Rattle.istructure.specs.OwnCells.{own_count, cell_at}
use Rattle.istructure.proofs.Lifts.{seen_vacant}
use Rattle.istructure.proofs.Fresh.{vacant_here, none_beyond}
use Rattle.istructure.proofs.Cells.new.Goals as goal

pub returns-clause-here : goal.returns-clause-here
returns-clause-here g c x below ours =
    let all : c.loop.counter ≡ own_count c.args.cells c.args.element c.args.elements = omega arith in
    subst (λ o. cell_at o x ≡ Some Vacant) (seen_vacant c.args.cells c.args.element c.args.elements _ _ c.loop.invariant all)
    (vacant_here c.args.cells c.args.element c.args.elements x c.requires below ours)

pub returns-clause-beyond : goal.returns-clause-beyond
returns-clause-beyond g c x above =
    let all : c.loop.counter ≡ own_count c.args.cells c.args.element c.args.elements = omega arith in
    subst (λ o. cell_at o x ≡ None) (seen_vacant c.args.cells c.args.element c.args.elements _ _ c.loop.invariant all)
    (none_beyond c.args.cells c.args.element c.args.elements x c.requires above)
