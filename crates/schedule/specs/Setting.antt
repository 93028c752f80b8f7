-- What stays the same while a machine runs: its code and its sizes.
use Rattle.std.specs.Prelude.{◌≡◌, ℕ, ◌*◌, ◌<◌, ◌≤◌, ◌^◌, Option, Some, None, slice_get}
use Rattle.semantics.specs.Program.{Instr, CodeBlock, Program, instr_at}
use Rattle.semantics.specs.Machine.{Size}

abbrev pub inputs_in : Option CodeBlock → ℕ
inputs_in None = 0
inputs_in (Some b) = b.inputs

-- how many inputs main has
abbrev pub inputs_of : Program → ℕ
inputs_of p = inputs_in (slice_get p.blocks p.main)

-- each slot that an instruction uses is below `width`
abbrev pub FitsSlots : Program → ℕ → Type 0
FitsSlots p width = (ip : ℕ) (i : Instr) → instr_at p ip ≡ Some i → i.slot < width

pub record Setting : Type 0 where
  pub program : Program
  pub elements : ℕ
  -- how many frames an element has
  pub frames : ℕ
  -- how many slots a frame has
  pub width : ℕ
  -- how many events an element may make
  pub steps : ℕ
  -- how many events a turn has
  pub turn : ℕ

abbrev pub size : Setting → Size
size g = record { elements = g.elements; frames = g.frames }

-- how many frames there are in all
abbrev pub total : Setting → ℕ
total g = g.elements * g.frames

pub record IsGoodSetting (g : Setting) : Type 0 where
  pub some : 0 < g.elements
  pub few : g.elements ≤ 16
  pub some_frames : 0 < g.frames
  pub few_frames : g.frames ≤ 1024
  pub some_slots : 0 < g.width
  pub few_slots : g.width ≤ 512
  pub steps : g.steps ≤ 2 ^ 32
  pub some_turn : 0 < g.turn
  pub few_turn : g.turn ≤ 65536
  pub fits : FitsSlots g.program g.width
