-- The pass and the row for 64 choices of arcs at once: a word has one lane, that is one bit, for each.
use Rattle.std.specs.Prelude.{ℕ, zero, suc, ◌+◌, ◌-◌, ◌*◌, ◌%◌, ◌^◌, Bool, true, false, not, ◌&&◌, ◌==◌, List, [], ◌∷◌, Option, Some, None, length}
use Rattle.std.specs.Prelude.{replicate, slice_set, slice_index_or, nat_lt, bit_and, bit_or, if◌then◌else◌}
use Rattle.tags.specs.declared.token.Port.{Port}
use Rattle.tags.specs.declared.token.Port.TheVariants.{Left, Right}
use Rattle.semantics.specs.declared.program.Dest.{Dest}
use Rattle.semantics.specs.declared.program.Mark.{Mark}
use Rattle.semantics.specs.declared.program.Op.{Op}
use Rattle.semantics.specs.declared.program.Op.TheVariants.{Link, Open, Take, Give, Drain}
use Rattle.semantics.specs.Program.{Instr, CodeBlock}
use Rattle.semantics.specs.Rule.{slot_of}
use Rattle.semantics.specs.Plan.{Plan, landing}
use Rattle.semantics.specs.Sharing.{ends_with}
use Rattle.slot_alloc.specs.declared.passes.Flow.{Flow}
use Rattle.slot_alloc.specs.declared.passes.Flows.{Flows}
use Rattle.slot_alloc.specs.declared.choices.Choice.{Choice}
use Rattle.slot_alloc.specs.declared.choices.Choice.TheVariants.{Ends, Sides}
use Rattle.slot_alloc.specs.Passes.{same_mark, is_marked, mark_of}

abbrev pub none : Flow
none = record { arcs = 0; lanes = 0 }

abbrev pub bare : Flows
bare = record { left = none; right = none }

abbrev pub flows_at : List Flows → ℕ → Flows
flows_at xs n = slice_index_or xs n bare

-- one more arc, which leads in such lanes
abbrev pub flow_with : Flow → ℕ → Flow
flow_with x w = record { arcs = 1; lanes = if x.arcs == 0 then w else bit_and x.lanes w }

abbrev pub flows_with : Flows → Port → ℕ → Flows
flows_with x Left w = record x { left = flow_with x.left w }
flows_with x Right w = record x { right = flow_with x.right w }

-- an arc into a port of the instruction at a place; an arc out of the block changes nothing
abbrev pub enter : List Flows → ℕ → Port → ℕ → List Flows
enter xs n q w = slice_set xs n (flows_with (flows_at xs n) q w)

abbrev pub enter_each : List Flows → ℕ → ℕ → List Dest → List Flows
enter_each xs n w [] = xs
enter_each xs n w (d ∷ ds) = enter_each (enter xs (n + d.ahead) d.port w) n w ds

-- arcs to the left ports of a number of instructions in a row
abbrev pub enter_row : List Flows → ℕ → ℕ → ℕ → List Flows
enter_row xs n w zero = xs
enter_row xs n w (suc k) = enter (enter_row xs n w k) (n + k) Left w

abbrev pub enter_landings : List Flows → ℕ → ℕ → ℕ → List Dest → List Flows
enter_landings xs n w size [] = xs
enter_landings xs n w size (d ∷ ds) = enter_landings (enter_row xs (n + d.ahead) w size) n w size ds

abbrev pub enter_firsts : Plan → List Flows → ℕ → ℕ → List Dest → Op → List Flows
enter_firsts p xs n w ds (Link t) = enter_landings xs n w (landing p t) ds
enter_firsts p xs n w ds op = enter_each xs n w ds

-- the lanes in which there is an arc and each one leads
abbrev pub led : Flow → ℕ
led x = if x.arcs == 0 then 0 else x.lanes

-- an instruction with such a port
abbrev pub some_led : Flows → ℕ
some_led x = bit_or (led x.left) (led x.right)

-- the ports of an instruction with those of its own arcs that lead back to itself
abbrev pub own_each : Flows → ℕ → List Dest → Flows
own_each x w [] = x
own_each x w (d ∷ ds) = own_each (if d.ahead == 0 then flows_with x d.port w else x) w ds

abbrev pub own_landings : Flows → ℕ → ℕ → List Dest → Flows
own_landings x w size [] = x
own_landings x w size (d ∷ ds) = own_landings (if (d.ahead == 0) && nat_lt 0 size then flows_with x Left w else x) w size ds

abbrev pub own_firsts : Plan → Flows → ℕ → List Dest → Op → Flows
own_firsts p x w ds (Link t) = own_landings x w (landing p t) ds
own_firsts p x w ds op = own_each x w ds

-- `firsts` and `seconds`: the lanes in which its first and its second destinations are chosen
abbrev pub own_instr : Plan → Flows → ℕ → ℕ → Instr → Flows
own_instr p x firsts seconds i = own_each (own_firsts p x firsts i.firsts i.op) seconds i.seconds

-- an instruction's arcs lead by a port of its own, or are chosen
abbrev pub enter_instr : Plan → List Flows → ℕ → ℕ → ℕ → Instr → List Flows
enter_instr p xs n firsts seconds i =
    enter_each (enter_firsts p xs n (bit_or (some_led (own_instr p (flows_at xs n) firsts seconds i)) firsts) i.firsts i.op) n
    (bit_or (some_led (own_instr p (flows_at xs n) firsts seconds i)) seconds) i.seconds

-- WHICH LANES choose the first or the second destinations of an instruction
abbrev pub one_lane : ℕ → ℕ
one_lane k = (1 * 2 ^ k) % 2 ^ 64

abbrev pub number_lane : ℕ → ℕ → ℕ
number_lane first n = if nat_lt n first then 0 else if nat_lt (n - first) 64 then one_lane (n - first) else 0

abbrev pub holder_lane : ℕ → Option ℕ → ℕ
holder_lane first None = 0
holder_lane first (Some h) = number_lane first h

-- the lanes below k whose mark is this one
abbrev pub mark_lanes : List Mark → Mark → ℕ → ℕ
mark_lanes known m zero = 0
mark_lanes known m (suc k) = if same_mark (mark_of known k) m then bit_or (mark_lanes known m k) (one_lane k) else mark_lanes known m k

abbrev pub lanes : Choice → List Mark → Instr → Mark → Bool → ℕ
lanes (Ends first) known i m second = if ends_with i.op then holder_lane first (slot_of i i.op) else 0
lanes (Sides true) known i m second = if not second && is_marked m then mark_lanes known m 64 else 0
lanes (Sides false) known i m second = if second && is_marked m then mark_lanes known m 64 else 0

-- the instructions from the n-th on
abbrev pub pass : Plan → Choice → List Mark → List Mark → List Flows → ℕ → List Instr → List Flows
pass p ch known ms xs n [] = xs
pass p ch known ms xs n (i ∷ is) = pass p ch known ms (enter_instr p xs n (lanes ch known i (mark_of ms n) false)
    (lanes ch known i (mark_of ms n) true) i) (n + 1) is

-- THE ROW: of each holder the lanes in which all its ports are after the chosen arcs
abbrev pub all_lanes : ℕ
all_lanes = 2 ^ 64 - 1

abbrev pub ports_led : Op → Flows → ℕ
ports_led (Open k) x = led x.left
ports_led (Take k) x = all_lanes
ports_led (Give k) x = all_lanes
ports_led (Drain k) x = all_lanes
ports_led op x = bit_and (led x.left) (led x.right)

abbrev pub kept : List ℕ → Option ℕ → ℕ → List ℕ
kept row None w = row
kept row (Some h) w = slice_set row h (bit_and (slice_index_or row h 0) w)

abbrev pub noted : List ℕ → Instr → Flows → List ℕ
noted row i x = kept row (slot_of i i.op) (ports_led i.op x)

-- the instructions from the n-th on
abbrev pub row_from : List ℕ → List Flows → ℕ → List Instr → List ℕ
row_from row xs n [] = row
row_from row xs n (i ∷ is) = row_from (noted row i (flows_at xs n)) xs (n + 1) is

abbrev pub row_of : Plan → Choice → List Mark → List Mark → CodeBlock → List ℕ
row_of p ch known ms c = row_from (replicate c.slots all_lanes) (pass p ch known ms (replicate (length c.instrs) bare) 0 c.instrs) 0 c.instrs
