-- How many events turns and blocks have.
use Rattle.std.specs.Prelude.{◌≤◌, ℕ, ◌/◌, ◌==◌, ◌&&◌, nat_lt, nat_le, length, if◌then◌else◌}
use Rattle.schedule.specs.Setting.{Setting}
use Rattle.law_linearization.specs.History.{Block}

-- How many events element e makes in a turn at most, and so in a block: as many as the machine's turns have. Only element 0, which others ask for frames and
-- wait for, makes an eighth of these, but not where turns are short.
abbrev pub turn_of : Setting → ℕ → ℕ
turn_of g e = if (e == 0) && (nat_lt 1 g.elements && nat_le 128 g.turn) then g.turn / 8 else g.turn

-- the block has no more events than a turn of its element
abbrev pub IsShort : Setting → Block → Type 0
IsShort g b = length b.acts ≤ turn_of g b.element
