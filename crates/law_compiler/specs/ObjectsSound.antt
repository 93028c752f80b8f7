-- Which plans have objects.
use Rattle.std.specs.Prelude.{ℕ, List}
use Rattle.semantics.specs.Plan.{Plan}
use Rattle.semantics.specs.Sharing.{Good}
use Rattle.code.specs.Sound.{IsSound}
use Rattle.fanout.specs.Narrowed.{narrowed}
use Rattle.select.specs.Emittable.{IsEmittable}

-- A sound plan, narrowed, with any good slots
abbrev pub SoundHaveObjects : Type 0
SoundHaveObjects = (p : Plan) (slots : List (List ℕ)) → IsSound p → Good (narrowed p) slots → IsEmittable (narrowed p) slots
