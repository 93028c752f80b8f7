-- The code of a block as it grows.
use Rattle.std.specs.Prelude.{ℕ, zero, suc, ◌+◌, ◌-◌, Bool, true, false, not, ◌||◌, List, [], ◌∷◌, ◌++◌, length, slice_set, slice_index_or, if◌then◌else◌}
use Rattle.tags.specs.declared.value.Origin.{Origin}
use Rattle.tags.specs.declared.value.Origin.TheVariants.{Untold}
use Rattle.tags.specs.declared.token.Port.{Port}
use Rattle.tags.specs.declared.token.Port.TheVariants.{Left, Right}
use Rattle.semantics.specs.declared.graph.Region.{Region}
use Rattle.semantics.specs.declared.graph.Region.TheVariants.{Root, Arm}
use Rattle.semantics.specs.declared.graph.Source.{Source}
use Rattle.semantics.specs.declared.program.Dest.{Dest}
use Rattle.semantics.specs.declared.program.Mark.{Mark}
use Rattle.semantics.specs.declared.program.Mark.TheVariants.{Unmarked}
use Rattle.semantics.specs.declared.program.Op.{Op}
use Rattle.semantics.specs.declared.program.Op.TheVariants.{Copy}
use Rattle.semantics.specs.Program.{Instr}
use Rattle.semantics.specs.Plan.{is_open, is_credit}
use Rattle.semantics.specs.Wired.{is_dyadic}
use Rattle.schemas.specs.declared.builder.Outlet.{Outlet}

-- `regions`: that of each instruction, except that the region of a switch is given by its mark. `exits`: where the first output port of each node leaves.
pub record Build : Type 0 where
  pub instrs : List Instr
  pub marks : List Mark
  pub regions : List Region
  pub holders : ℕ
  pub opened : ℕ
  pub exits : List Outlet

abbrev pub nothing : Build
nothing = record { instrs = []; marks = []; regions = []; holders = 0; opened = 0; exits = [] }

abbrev pub outlet : ℕ → ℕ → Bool → Outlet
outlet place port second = record { place = place; port = port; second = second }

abbrev pub first_of : ℕ → Outlet
first_of place = outlet place 0 false

abbrev pub second_of : ℕ → Outlet
second_of place = outlet place 0 true

-- INSTRUCTIONS. An instruction at which words meet, and an `open`, has a holder of its own.
abbrev pub takes_holder : Op → Bool
takes_holder op = is_dyadic op || is_open op

abbrev pub slot_in : Build → Op → ℕ
slot_in b op = if takes_holder op then b.holders else if is_credit op then b.opened else 0

abbrev pub bare : Op → Origin → ℕ → Instr
bare op origin slot = record { op = op; origin = origin; slot = slot; firsts = []; seconds = [] }

abbrev pub added : Build → Op → Origin → Mark → Region → Build
added b op origin mark region = record {
  instrs = b.instrs ++ bare op origin (slot_in b op) ∷ [];
  marks = b.marks ++ mark ∷ [];
  regions = b.regions ++ region ∷ [];
  holders = if takes_holder op then b.holders + 1 else b.holders;
  opened = if is_open op then b.holders else b.opened;
  exits = b.exits;
}

abbrev pub quieted : Build → Op → Region → Build
quieted b op region = added b op Untold Unmarked region

-- ARCS
abbrev pub with_dest : Instr → Bool → Dest → Instr
with_dest i true d = record { op = i.op; origin = i.origin; slot = i.slot; firsts = i.firsts; seconds = i.seconds ++ d ∷ [] }
with_dest i false d = record { op = i.op; origin = i.origin; slot = i.slot; firsts = i.firsts ++ d ∷ []; seconds = i.seconds }

abbrev pub no_instr : Instr
no_instr = bare Copy Untold 0

abbrev pub dest_of : Outlet → ℕ → Port → Dest
dest_of o to port = record { ahead = (to - o.place) - o.port; port = port }

abbrev pub connected_in : List Instr → Outlet → ℕ → Port → List Instr
connected_in is o to port = slice_set is (o.place + o.port) (with_dest (slice_index_or is (o.place + o.port) no_instr) o.second (dest_of o to port))

abbrev pub connected : Build → Outlet → ℕ → Port → Build
connected b o to port = record b { instrs = connected_in b.instrs o to port }

-- OUTLETS
abbrev pub nowhere : Outlet
nowhere = first_of 0

abbrev pub exit_at : Build → ℕ → Outlet
exit_at b n = slice_index_or b.exits n nowhere

abbrev pub outlet_of : Build → Source → Outlet
outlet_of b s = outlet (exit_at b s.node).place s.port (exit_at b s.node).second

abbrev pub trigger_of : Build → Region → Outlet
trigger_of b Root = first_of 0
trigger_of b (Arm k side) = outlet (exit_at b k).place 0 (not side)

abbrev pub exited : Build → Outlet → Build
exited b o = record b { exits = b.exits ++ o ∷ [] }

-- SMALL PARTS. An instruction whose left port takes what leaves there.
abbrev pub behind : Build → Outlet → Op → Region → Build
behind b from op region = connected (quieted b op region) from (length b.instrs) Left

-- an instruction at which two words meet
abbrev pub meeting : Build → Op → Mark → Region → Outlet → Outlet → Build
meeting b op mark region left right = connected (connected (added b op Untold mark region) left (length b.instrs) Left) right (length b.instrs) Right

abbrev pub side : ℕ → Port
side zero = Left
side (suc n) = Right

-- the sources of an instruction, from a first position on
abbrev pub operands : Build → ℕ → ℕ → List Source → Build
operands b place from [] = b
operands b place from (s ∷ ss) = operands (connected b (outlet_of b s) place (side from)) place (from + 1) ss

abbrev pub alternatives : Build → ℕ → List Source → Build
alternatives b place [] = b
alternatives b place (s ∷ ss) = alternatives (connected b (outlet_of b s) place Left) place ss

abbrev pub copies : Build → Region → ℕ → Build
copies b region zero = b
copies b region (suc n) = quieted (copies b region n) Copy region

abbrev pub first_source : List Source → Source
first_source [] = record { node = 0; port = 0 }
first_source (s ∷ ss) = s

abbrev pub mark_of : List Mark → ℕ → Mark
mark_of ms n = slice_index_or ms n Unmarked

abbrev pub region_of : List Region → ℕ → Region
region_of rs n = slice_index_or rs n Root
