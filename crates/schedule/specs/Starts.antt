-- How the machine starts, and why it does not.
use Rattle.std.specs.Prelude.{◌≡◌, ◌≢◌, ℕ, ◌+◌, ◌<◌, ◌≤◌, ◌^◌, ℤ, List, [], ◌∷◌, length}
use Rattle.semantics.specs.Program.{Program, first_of}
use Rattle.tags.specs.declared.token.Port.TheVariants.{Left}
use Rattle.tags.specs.declared.token.Cont.{Cont}
use Rattle.tags.specs.declared.token.Word.{Word}
use Rattle.tags.specs.declared.token.To.{To}
use Rattle.tags.specs.declared.token.Token.{Token}
use Rattle.semantics.specs.Rule.{token}
use Rattle.semantics.specs.Machine.{input_tokens}
use Rattle.element.specs.Holding.{Holding, IsSoundLane}
use Rattle.element.specs.Openings.{StartsAs}
use Rattle.schedule.specs.declared.config.Config.{Config}
use Rattle.schedule.specs.declared.config.StartFault.{StartFault}
use Rattle.schedule.specs.declared.config.StartFault.TheVariants.{WrongInputs, NoFrames, BadConfig, Memory}
use Rattle.schedule.specs.Setting.{Setting, inputs_of}
use Rattle.schedule.specs.State.{AllFrom, IsSoundState, delivered}
use Rattle.schedule.specs.Runs.{SoFar, Began}

pub record IsGood (c : Config) : Type 0 where
  pub elements : 1 ≤ c.elements
  pub elements_most : c.elements ≤ 16
  pub frames : c.frames ≤ 1024
  pub steps : c.steps ≤ 2 ^ 32
  pub turn : 1 ≤ c.turn
  pub turn_most : c.turn ≤ 65536

abbrev pub setting_of : Program → ℕ → Config → Setting
setting_of p width c = record { program = p; elements = c.elements; frames = c.frames; width = width; steps = c.steps; turn = c.turn }

-- The tokens at the start: the continuation of the host goes to main's first instruction, and each input to the next ones.
abbrev pub start_tokens : ℕ → List ℤ → List Token
start_tokens first inputs = token (To.Instr 0 first Left) (Word.Back (Cont.Host 0)) ∷ input_tokens (first + 1) inputs

-- A lane with no tokens that is its element's part of the machine at the start
pub record IsFresh (g : Setting) (i : ℕ) (h : Holding) : Type 0 where
  pub element : h.part.shape.element ≡ i
  pub elements : h.part.shape.elements ≡ g.elements
  pub frames : h.part.shape.frames ≡ g.frames
  pub width : h.part.shape.width ≡ g.width
  pub sound : IsSoundLane g.program h
  pub starts : StartsAs g.program h.part
  pub queue : h.queue ≡ []
  pub made : h.made ≡ 0

abbrev pub sized : Program → ℕ → ℕ → ℕ → ℕ → Setting
sized p elements frames width steps = record { program = p; elements = elements; frames = frames; width = width; steps = steps; turn = 1 }

-- lanes with no tokens, to which those at the start came in order
abbrev pub HasOpenLanes : Program → ℕ → Config → List ℤ → List Holding → Type 0
HasOpenLanes p width c inputs lanes =
    (fresh : List Holding) × AllFrom (IsFresh (sized p c.elements c.frames width 0)) 0 fresh
    × (lanes ≡ delivered (start_tokens (first_of p p.main) inputs) fresh)

-- The machine is as at the start on these inputs, and no element has made an event.
pub record Opens (p : Program) (width : ℕ) (c : Config) (inputs : List ℤ) (m : SoFar) : Type 0 where
  pub arity : length inputs ≡ inputs_of p
  pub some_frame : 0 < c.frames
  pub good : IsGood c
  pub setting : m.state.setting ≡ setting_of p width c
  pub sound : IsSoundState m.state
  pub lanes : HasOpenLanes p width c inputs m.state.lanes
  pub began : Began inputs m.state m.events
  pub events : m.events ≡ []

-- why it does not start: the first of the causes that holds
abbrev pub IsCause : Program → Config → List ℤ → StartFault → Type 0
IsCause p c inputs WrongInputs = length inputs ≢ inputs_of p
IsCause p c inputs NoFrames = (length inputs ≡ inputs_of p) × (c.frames ≡ 0)
IsCause p c inputs BadConfig = (length inputs ≡ inputs_of p) × (0 < c.frames) × (IsGood c → ⊥)
IsCause p c inputs Memory = (length inputs ≡ inputs_of p) × (0 < c.frames) × IsGood c
