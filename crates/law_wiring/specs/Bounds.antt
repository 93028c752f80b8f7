-- What the plan of every graph keeps.
use Rattle.semantics.specs.Graph.{Flow}
use Rattle.semantics.specs.Cause.{HasBounds}
use Rattle.schemas.specs.Expanded.{expanded}
use Rattle.law_wiring.specs.BoundsKeeping.{MarksFit, HoldersInOrder}

-- the code blocks are those of the graph's blocks and of the loop variants, and their loops open with the graph's bounds
abbrev pub LoopsKeepBounds : Type 0
LoopsKeepBounds = (fl : Flow) → HasBounds fl (expanded fl).program

-- the marks are those of the switches
abbrev pub SwitchesAreMarked : Type 0
SwitchesAreMarked = (fl : Flow) → MarksFit (expanded fl)

-- the holders of each code block are numbered in order of its instructions, and `slots` is their number
abbrev pub HoldersAreNumbered : Type 0
HoldersAreNumbered = (fl : Flow) → HoldersInOrder (expanded fl)
