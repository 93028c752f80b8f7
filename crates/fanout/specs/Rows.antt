-- Which instructions are tied to the next one: those of a row but its last. A block's entries are in a row, and so is
-- each landing of a link.
use Rattle.std.specs.Prelude.{ℕ, zero, suc, ◌+◌, ◌-◌, Bool, true, false, List, ◌∷◌, length, replicate, slice_set, slice_index_or, if◌then◌else◌, []}
use Rattle.semantics.specs.declared.program.Dest.{Dest}
use Rattle.semantics.specs.declared.program.Op.{Op}
use Rattle.semantics.specs.declared.program.Op.TheVariants.{Link}
use Rattle.semantics.specs.Program.{Instr}
use Rattle.semantics.specs.Plan.{Plan, landing}

-- a number of instructions from one on are tied
abbrev pub tie : List Bool → ℕ → ℕ → List Bool
tie ts from zero = ts
tie ts from (suc k) = slice_set (tie ts from k) (from + k) true

abbrev pub tie_landings : List Bool → ℕ → ℕ → List Dest → List Bool
tie_landings ts n size [] = ts
tie_landings ts n size (d ∷ ds) = tie_landings (tie ts (n + d.ahead) (size - 1)) n size ds

abbrev pub tie_instr : Plan → List Bool → ℕ → Instr → Op → List Bool
tie_instr p ts n i (Link b) = tie_landings ts n (landing p b) i.firsts
tie_instr p ts n i op = ts

-- the instructions from the n-th on
abbrev pub tie_all : Plan → List Bool → ℕ → List Instr → List Bool
tie_all p ts n [] = ts
tie_all p ts n (i ∷ is) = tie_all p (tie_instr p ts n i i.op) (n + 1) is

abbrev pub tied_in : Plan → ℕ → List Instr → List Bool
tied_in p inputs is = tie_all p (tie (replicate (length is) false) 0 inputs) 0 is

abbrev pub is_tied : List Bool → ℕ → Bool
is_tied ts n = slice_index_or ts n false

-- how many instructions are together from the first on
abbrev pub run : List Bool → ℕ
run [] = 0
run (t ∷ ts) = if t then run ts + 1 else 1
