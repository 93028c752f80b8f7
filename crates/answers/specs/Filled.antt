-- What a caller's buffer holds after it was filled.
use Rattle.std.specs.Prelude.{List, ◌++◌, drop, length, nat_lt, if◌then◌else◌}

-- the items, and behind them what the buffer held; where it is too short, all that it held
abbrev pub filled : {X : Type 0} → List X → List X → List X
filled items room = if nat_lt (length room) (length items) then room else items ++ drop (length items) room
