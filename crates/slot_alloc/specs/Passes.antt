-- One pass over the instructions of a block in their order: of each port it says whether there is an arc into it, and
-- whether each arc into it is chosen or starts at an instruction with such a port.
use Rattle.std.specs.Prelude.{ℕ, zero, suc, ◌+◌, Bool, true, false, not, ◌&&◌, ◌||◌, ◌==◌, List, [], ◌∷◌, Option, Some, None, slice_get, slice_set}
use Rattle.std.specs.Prelude.{slice_index_or, unwrap_or, nat_lt, if◌then◌else◌}
use Rattle.tags.specs.declared.token.Port.{Port}
use Rattle.tags.specs.declared.token.Port.TheVariants.{Left, Right}
use Rattle.semantics.specs.declared.program.Dest.{Dest}
use Rattle.semantics.specs.declared.program.Mark.{Mark}
use Rattle.semantics.specs.declared.program.Mark.TheVariants.{Unmarked, OfCond, OfFlag}
use Rattle.semantics.specs.declared.program.Op.{Op}
use Rattle.semantics.specs.declared.program.Op.TheVariants.{Link}
use Rattle.semantics.specs.Program.{Instr}
use Rattle.semantics.specs.Rule.{slot_of}
use Rattle.semantics.specs.Plan.{Plan, landing}
use Rattle.semantics.specs.Sharing.{ends_with}

-- what is known of the arcs into a port: there is none, each one leads, or one does not
pub data Inflow : Type 0 where
  Bare AllLead NotAll : Inflow

-- the two ports of an instruction
pub record Inlets : Type 0 where
  pub left : Inflow
  pub right : Inflow

-- which arcs are chosen: the end arcs of a holder, or the arcs of the switches of a mark on one side
pub data Chosen : Type 0 where
  Ends : ℕ → Chosen
  Side : Bool → Mark → Chosen

abbrev pub bare : Inlets
bare = record { left = Bare; right = Bare }

abbrev pub inlets_at : List Inlets → ℕ → Inlets
inlets_at xs n = slice_index_or xs n bare

-- one more arc, which leads or not
abbrev pub inflow_with : Inflow → Bool → Inflow
inflow_with Bare true = AllLead
inflow_with AllLead true = AllLead
inflow_with NotAll true = NotAll
inflow_with x false = NotAll

abbrev pub inlets_with : Inlets → Port → Bool → Inlets
inlets_with x Left b = record x { left = inflow_with x.left b }
inlets_with x Right b = record x { right = inflow_with x.right b }

-- an arc into a port of the instruction at a place; an arc out of the block changes nothing
abbrev pub enter : List Inlets → ℕ → Port → Bool → List Inlets
enter xs n q b = slice_set xs n (inlets_with (inlets_at xs n) q b)

abbrev pub enter_each : List Inlets → ℕ → Bool → List Dest → List Inlets
enter_each xs n b [] = xs
enter_each xs n b (d ∷ ds) = enter_each (enter xs (n + d.ahead) d.port b) n b ds

-- arcs to the left ports of a number of instructions in a row
abbrev pub enter_row : List Inlets → ℕ → Bool → ℕ → List Inlets
enter_row xs n b zero = xs
enter_row xs n b (suc k) = enter (enter_row xs n b k) (n + k) Left b

abbrev pub enter_landings : List Inlets → ℕ → Bool → ℕ → List Dest → List Inlets
enter_landings xs n b size [] = xs
enter_landings xs n b size (d ∷ ds) = enter_landings (enter_row xs (n + d.ahead) b size) n b size ds

abbrev pub enter_firsts : Plan → List Inlets → ℕ → Bool → List Dest → Op → List Inlets
enter_firsts p xs n b ds (Link t) = enter_landings xs n b (landing p t) ds
enter_firsts p xs n b ds op = enter_each xs n b ds

abbrev pub all_lead : Inflow → Bool
all_lead AllLead = true
all_lead x = false

-- an instruction with such a port
abbrev pub some_lead : Inlets → Bool
some_lead x = all_lead x.left || all_lead x.right

-- whether the first or the second destinations of an instruction are chosen
abbrev pub is_holder : Option ℕ → ℕ → Bool
is_holder None h = false
is_holder (Some g) h = g == h

abbrev pub same_mark : Mark → Mark → Bool
same_mark (OfCond c) (OfCond d) = c == d
same_mark OfFlag OfFlag = true
same_mark m n = false

abbrev pub is_marked : Mark → Bool
is_marked Unmarked = false
is_marked m = true

abbrev pub is_chosen : Chosen → Instr → Mark → Bool → Bool
is_chosen (Ends h) i m second = is_holder (slot_of i i.op) h && ends_with i.op
is_chosen (Side true n) i m second = same_mark n m && not second
is_chosen (Side false n) i m second = same_mark n m && second

-- the ports of an instruction with those of its own arcs that lead back to itself
abbrev pub own_each : Inlets → Bool → List Dest → Inlets
own_each x b [] = x
own_each x b (d ∷ ds) = own_each (if d.ahead == 0 then inlets_with x d.port b else x) b ds

abbrev pub own_landings : Inlets → Bool → ℕ → List Dest → Inlets
own_landings x b size [] = x
own_landings x b size (d ∷ ds) = own_landings (if (d.ahead == 0) && nat_lt 0 size then inlets_with x Left b else x) b size ds

abbrev pub own_firsts : Plan → Inlets → Bool → List Dest → Op → Inlets
own_firsts p x b ds (Link t) = own_landings x b (landing p t) ds
own_firsts p x b ds op = own_each x b ds

abbrev pub own_instr : Plan → Chosen → Inlets → Mark → Instr → Inlets
own_instr p ch x m i = own_each (own_firsts p x (is_chosen ch i m false) i.firsts i.op) (is_chosen ch i m true) i.seconds

-- an instruction's arcs lead by a port of its own, or are chosen
abbrev pub enter_instr : Plan → Chosen → List Inlets → ℕ → Mark → Instr → List Inlets
enter_instr p ch xs n m i =
    enter_each (enter_firsts p xs n (some_lead (own_instr p ch (inlets_at xs n) m i) || is_chosen ch i m false) i.firsts i.op) n
    (some_lead (own_instr p ch (inlets_at xs n) m i) || is_chosen ch i m true) i.seconds

abbrev pub mark_of : List Mark → ℕ → Mark
mark_of ms n = unwrap_or (slice_get ms n) Unmarked

-- the instructions from the n-th on
abbrev pub pass : Plan → Chosen → List Mark → List Inlets → ℕ → List Instr → List Inlets
pass p ch ms xs n [] = xs
pass p ch ms xs n (i ∷ is) = pass p ch ms (enter_instr p ch xs n (mark_of ms n) i) (n + 1) is
