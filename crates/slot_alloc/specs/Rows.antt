-- Of each holder of a block, whether all its ports are after the chosen arcs.
use Rattle.std.specs.Prelude.{ℕ, ◌+◌, Bool, true, false, ◌&&◌, List, [], ◌∷◌, Option, Some, None, length, replicate, slice_set, if◌then◌else◌}
use Rattle.semantics.specs.declared.program.Mark.{Mark}
use Rattle.semantics.specs.declared.program.Op.{Op}
use Rattle.semantics.specs.declared.program.Op.TheVariants.{Open, Take, Give, Drain}
use Rattle.semantics.specs.Program.{Instr, CodeBlock}
use Rattle.semantics.specs.Rule.{slot_of}
use Rattle.semantics.specs.Plan.{Plan}
use Rattle.slot_alloc.specs.Passes.{Inlets, Chosen, bare, inlets_at, all_lead, pass}

-- whether the ports at which a holder is met lead at an instruction
abbrev pub ports_lead : Op → Inlets → Bool
ports_lead (Open k) x = all_lead x.left
ports_lead (Take k) x = true
ports_lead (Give k) x = true
ports_lead (Drain k) x = true
ports_lead op x = all_lead x.left && all_lead x.right

abbrev pub crossed : List Bool → Option ℕ → List Bool
crossed row None = row
crossed row (Some h) = slice_set row h false

abbrev pub noted : List Bool → Instr → Inlets → List Bool
noted row i x = if ports_lead i.op x then row else crossed row (slot_of i i.op)

-- the instructions from the n-th on
abbrev pub row_from : List Bool → List Inlets → ℕ → List Instr → List Bool
row_from row xs n [] = row
row_from row xs n (i ∷ is) = row_from (noted row i (inlets_at xs n)) xs (n + 1) is

-- the row of all holders
abbrev pub row_of : Plan → Chosen → List Mark → CodeBlock → List Bool
row_of p ch ms c = row_from (replicate c.slots true) (pass p ch ms (replicate (length c.instrs) bare) 0 c.instrs) 0 c.instrs
