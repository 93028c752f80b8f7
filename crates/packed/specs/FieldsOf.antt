-- The fields of a word as contracts see them.
use Rattle.packed.specs.declared.packing.Fields.{Fields}
use Rattle.packed.specs.Packing.{Parts}

abbrev pub parts_of : Fields → Parts
parts_of f = record { kind = f.kind; port = f.port; high = f.high; body = f.body }
