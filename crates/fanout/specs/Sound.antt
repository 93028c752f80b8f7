-- What narrowing does to a sound plan.
use Rattle.semantics.specs.Plan.{Plan}
use Rattle.code.specs.Sound.{IsSound}
use Rattle.fanout.specs.Narrowed.{narrowed}
use Rattle.fanout.specs.Laws.{KeepsClear, AllInstrs, HasItsDests}

-- Each destination leaves its row, by the flags that determine the rows, and is no entry.
abbrev pub SoundKeepsClear : Type 0
SoundKeepsClear = (p : Plan) → IsSound p → KeepsClear p

-- The narrowed plan is sound as well,
abbrev pub StaysSound : Type 0
StaysSound = (p : Plan) → IsSound p → IsSound (narrowed p)

-- and each of its instructions has as many destinations as its kind has in an object.
abbrev pub SoundHasDests : Type 0
SoundHasDests = (p : Plan) → IsSound p → AllInstrs HasItsDests (narrowed p).program
