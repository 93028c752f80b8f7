-- What a cell in memory stands for.
use Rattle.semantics.specs.Machine as machine
use Rattle.semantics.specs.Machine.{CellState}
use Rattle.istructure.specs.declared.cell.Cell.{Cell}
use Rattle.istructure.specs.declared.cell.Cell.TheVariants.{Vacant, Full, Deferred}

abbrev pub state_of : {A : Type 0} → Cell A → CellState
state_of Vacant = machine.Vacant
state_of (Full v) = machine.Full v
state_of (Deferred readers) = machine.Deferred readers.items
