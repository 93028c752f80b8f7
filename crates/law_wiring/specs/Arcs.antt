-- Where the destinations of a plan lead.
use Rattle.std.specs.Prelude.{◌≡◌, ℕ, ◌+◌, ◌<◌, ◌≤◌, Bool, true, false, length, Some, slice_get, Contains}
use Rattle.semantics.specs.declared.program.Dest.{Dest}
use Rattle.semantics.specs.declared.program.Op.{Op}
use Rattle.semantics.specs.declared.program.Op.TheVariants.{Copy, Take, Give, Drain, Link}
use Rattle.semantics.specs.Graph.{Graph, flow_of}
use Rattle.semantics.specs.Program.{Instr, CodeBlock}
use Rattle.semantics.specs.Plan.{Plan, landing}
use Rattle.semantics.specs.Text.{HasText}
use Rattle.semantics.specs.WellFormed.{WellFormed}
use Rattle.semantics.specs.Sharing.{Arc, arcs_of}
use Rattle.semantics.specs.Wired.{IsInstrAt, is_dyadic}
use Rattle.tags.specs.declared.token.Port.TheVariants.{Right}
use Rattle.code.specs.Sound.{LandsLeft, DestsAreSound}
use Rattle.schemas.specs.Expanded.{expanded}

-- an instruction of a landing: a copy, or what returns a loop's credits
abbrev pub is_row : Op → Bool
is_row Copy = true
is_row (Take k) = true
is_row (Give k) = true
is_row (Drain k) = true
is_row op = false

-- each landing begins at a left port
abbrev pub LinksLandLeft : Plan → Type 0
LinksLandLeft p = (b n : ℕ) (c : CodeBlock) (i : Instr) → slice_get p.program.blocks b ≡ Some c → IsInstrAt c n i → LandsLeft i.op i.firsts

-- no arc leads to an entry
abbrev pub ArcsPassEntries : Plan → Type 0
ArcsPassEntries p = (b : ℕ) (c : CodeBlock) (x : Arc) → slice_get p.program.blocks b ≡ Some c → Contains (arcs_of p 0 c.instrs) x → c.inputs < x.to.place

-- an arc to a right port leads to an instruction with two operands
abbrev pub RightArcsMeet : Plan → Type 0
RightArcsMeet p = (b : ℕ) (c : CodeBlock) (x : Arc) → slice_get p.program.blocks b ≡ Some c → Contains (arcs_of p 0 c.instrs) x → x.to.port ≡ Right
    → (i : Instr) × IsInstrAt c x.to.place i × (is_dyadic i.op ≡ true)

-- each landing lies in the block, and its instructions are those of a landing
abbrev pub LandingsStand : Plan → Type 0
LandingsStand p = (b m k block : ℕ) (c : CodeBlock) (i : Instr) (d : Dest) → slice_get p.program.blocks b ≡ Some c → IsInstrAt c m i → i.op ≡ Link block
    → Contains i.firsts d
    → m + d.ahead ≤ k → k < m + d.ahead + landing p block → (j : Instr) × IsInstrAt c k j × (is_row j.op ≡ true)

-- a code block has 1 to 16 inputs and outputs, and more than its entries
pub record HasSizes (c : CodeBlock) : Type 0 where
  pub inputs : (1 ≤ c.inputs) × (c.inputs ≤ 16)
  pub outputs : (1 ≤ c.outputs) × (c.outputs ≤ 16)
  pub size : c.inputs + 1 ≤ length c.instrs

pub record BlocksHaveSizes (p : Plan) : Type 0 where
  pub each : (b : ℕ) (c : CodeBlock) → slice_get p.program.blocks b ≡ Some c → HasSizes c

-- where destinations and arcs lead, and what landings are
pub record ArcsAreSound (p : Plan) : Type 0 where
  pub dests : DestsAreSound p
  pub lefts : LinksLandLeft p
  pub entries : ArcsPassEntries p
  pub rights : RightArcsMeet p
  pub landings : LandingsStand p

-- The arcs of the plan of a well-formed graph go forward.
abbrev pub ArcsGoForward : Type 0
ArcsGoForward = (g : Graph) → HasText g → WellFormed g → ArcsAreSound (expanded (flow_of g))

-- The code blocks of the plan of a well-formed graph within the limits have their sizes.
abbrev pub PlansHaveSizes : Type 0
PlansHaveSizes = (g : Graph) → HasText g → WellFormed g → BlocksHaveSizes (expanded (flow_of g))
