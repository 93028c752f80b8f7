-- Who names each port of a block: one destination of one instruction, or more.
use Rattle.std.specs.Prelude.{ℕ, zero, suc, ◌+◌, Bool, true, false, List, ◌∷◌, length, replicate, slice_set, slice_index_or, []}
use Rattle.tags.specs.declared.token.Port.{Port}
use Rattle.tags.specs.declared.token.Port.TheVariants.{Left, Right}
use Rattle.semantics.specs.declared.program.Dest.{Dest}
use Rattle.semantics.specs.declared.program.Op.{Op}
use Rattle.semantics.specs.declared.program.Op.TheVariants.{Link}
use Rattle.semantics.specs.Program.{Instr, CodeBlock}
use Rattle.semantics.specs.Plan.{Plan, landing}
use Rattle.folding.specs.declared.namers.Namer.{Namer}
use Rattle.folding.specs.declared.namers.Namer.TheVariants.{Nobody, One, Many}

-- the namers of the left and of the right port of each instruction
pub record Namers : Type 0 where
  pub lefts : List Namer
  pub rights : List Namer

abbrev pub namer_at : List Namer → ℕ → Namer
namer_at ns m = slice_index_or ns m Nobody

-- a port that is named once more
abbrev pub again : Namer → Namer → Namer
again Nobody x = x
again y x = Many

abbrev pub noted_at : List Namer → ℕ → Namer → List Namer
noted_at ns m x = slice_set ns m (again (namer_at ns m) x)

abbrev pub noted : Namers → ℕ → Port → Namer → Namers
noted ns m Left x = record ns { lefts = noted_at ns.lefts m x }
noted ns m Right x = record ns { rights = noted_at ns.rights m x }

-- the first or the second destinations of the n-th instruction
abbrev pub note_dests : Namers → ℕ → Bool → List Dest → Namers
note_dests ns n s [] = ns
note_dests ns n s (d ∷ ds) = note_dests (noted ns (n + d.ahead) d.port (One n s)) n s ds

-- The left ports of a number of instructions in a row, which get their tokens from other blocks.
abbrev pub note_row : List Namer → ℕ → ℕ → List Namer
note_row ns from zero = ns
note_row ns from (suc k) = slice_set (note_row ns from k) (from + k) Many

abbrev pub note_landings : List Namer → ℕ → ℕ → List Dest → List Namer
note_landings ns n size [] = ns
note_landings ns n size (d ∷ ds) = note_landings (note_row ns (n + d.ahead) size) n size ds

abbrev pub note_link : Plan → Namers → ℕ → Instr → Op → Namers
note_link p ns n i (Link b) = record ns { lefts = note_landings ns.lefts n (landing p b) i.firsts }
note_link p ns n i op = ns

abbrev pub note_instr : Plan → Namers → ℕ → Instr → Namers
note_instr p ns n i = note_link p (note_dests (note_dests ns n false i.firsts) n true i.seconds) n i i.op

-- the instructions from the n-th on
abbrev pub note_all : Plan → Namers → ℕ → List Instr → Namers
note_all p ns n [] = ns
note_all p ns n (i ∷ is) = note_all p (note_instr p ns n i) (n + 1) is

abbrev pub nobody : ℕ → List Namer
nobody n = replicate n Nobody

-- The entries are the first instructions: one for the continuation, and one for each input.
abbrev pub entries_noted : ℕ → ℕ → Namers
entries_noted inputs n = record { lefts = note_row (nobody n) 0 (inputs + 1); rights = nobody n }

abbrev pub namers_of : Plan → CodeBlock → Namers
namers_of p c = note_all p (entries_noted c.inputs (length c.instrs)) 0 c.instrs

abbrev pub namer_of : Namers → ℕ → Port → Namer
namer_of ns m Left = namer_at ns.lefts m
namer_of ns m Right = namer_at ns.rights m
