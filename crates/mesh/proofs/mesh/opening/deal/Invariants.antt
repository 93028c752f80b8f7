use Rattle.std.proofs.Common.{◌≡◌, length}
use Rattle.mesh.specs.Seats.{AreFresh, mesh_id}
use Rattle.mesh.proofs.mesh.opening.deal.Given as goal

abbrev pub invariant-loop-element : goal.invariant-loop-element
invariant-loop-element g l = (l.maker.table_id ≡ l.fn.maker.table_id) × (l.maker.me.0 ≡ record l.fn.maker.me.0 { spare = l.element })
    × (length l.seats.items ≡ l.element)
    × AreFresh (mesh_id l.fn.maker.table_id l.elements l.fn.maker.me.0.start) l.seats.items
