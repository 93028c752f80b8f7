use Rattle.std.proofs.Common.{◌≡◌, true, drop}
use Rattle.graph_file.specs.Lines.{is_well_spaced}
use Rattle.graph_file.proofs.parts.is_line.Given as goal

abbrev pub invariant-loop-b : goal.invariant-loop-b
invariant-loop-b l = is_well_spaced l.fresh (drop l.b-index l.line) ≡ is_well_spaced true l.line
