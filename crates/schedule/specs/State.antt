-- What contracts see of the machine.
use Rattle.std.specs.Prelude.{◌≡◌, ℕ, suc, ◌<◌, ◌≤◌, List, [], ◌∷◌, map, drop, length, All, ⊤, sum, IsPermutation}
use Rattle.std.specs.List.{flat_map}
use Rattle.tags.specs.declared.token.Token.{Token}
use Rattle.tags.specs.declared.slot.SlotState.TheVariants.{Empty}
use Rattle.semantics.specs.Program.{Program}
use Rattle.semantics.specs.Machine.{Machine, Store, Vacant}
use Rattle.element.specs.Parts.{IsPart}
use Rattle.element.specs.Near.{IsNearToken}
use Rattle.element.specs.Holding.{Holding, LaneView, Fixed, held_of, fixed_of, bounds_at, queued, IsSoundLane}
use Rattle.schedule.specs.declared.elements.Elements.{Elements}
use Rattle.schedule.specs.declared.shape.Shape.{Shape}
use Rattle.schedule.specs.Setting.{Setting, total, IsGoodSetting}

pub record State : Type 0 where
  pub setting : Setting
  -- what each element holds
  pub lanes : List Holding

-- P holds of each with its place, counted from k
abbrev pub AllFrom : {X : Type 0} → (ℕ → X → Type 0) → ℕ → List X → Type 0
AllFrom P k [] = ⊤
AllFrom P k (x ∷ xs) = P k x × AllFrom P (suc k) xs

-- new tokens go last, each where it is addressed to
abbrev pub delivered : List Token → List Holding → List Holding
delivered ts lanes = map (λ (h : Holding). queued h ts) lanes

-- all tokens
abbrev pub tokens_in : List Holding → List Token
tokens_in lanes = flat_map (λ (h : Holding). h.queue) lanes

-- the lane is that of its place, of n
abbrev pub IsAt : ℕ → ℕ → Holding → Type 0
IsAt n i h = (h.part.shape.element ≡ i) × (h.part.shape.elements ≡ n)

-- what the lanes hold, with the tokens that are on their way
abbrev pub lanes_of : List LaneView → List Token → List Holding
lanes_of lanes ts = delivered ts (map held_of lanes)

pub record IsPlaced (g : Setting) (i : ℕ) (h : Holding) : Type 0 where
  pub element : h.part.shape.element ≡ i
  pub elements : h.part.shape.elements ≡ g.elements
  pub frames : h.part.shape.frames ≡ g.frames
  pub width : h.part.shape.width ≡ g.width
  pub made : h.made ≤ g.steps
  pub sound : IsSoundLane g.program h

-- what holds of the machine at all times
pub record IsSoundState (s : State) : Type 0 where
  pub setting : IsGoodSetting s.setting
  pub count : length s.lanes ≡ s.setting.elements
  pub lanes : AllFrom (IsPlaced s.setting) 0 s.lanes

-- The lane runs the machine's code, in a machine of this size.
pub record RunsAs (g : Setting) (f : Fixed) : Type 0 where
  pub program : f.program ≡ g.program
  pub steps : f.steps ≡ g.steps
  pub elements : f.shape.elements ≡ g.elements
  pub frames : f.shape.frames ≡ g.frames

-- the token names what there is, for each of the lanes
abbrev pub IsNearIn : List Fixed → Token → Type 0
IsNearIn fs t = All (λ (f : Fixed). IsNearToken (bounds_at f) t) fs

-- THE MACHINE OF THE DEFINITIONS. Nothing lies beyond the frames, the slots and the cells that there are.
pub record IsBounded (g : Setting) (s : Store) : Type 0 where
  pub slots : (f r : ℕ) → (f < total g → r < g.width → ⊥) → s.slots f r ≡ Empty
  pub cells : (x : ℕ) → sum g.program.arrays ≤ x → s.cells x ≡ Vacant

-- The lanes are the parts of one machine, and its tokens are theirs.
pub record AreParts (s : State) (m : Machine) : Type 0 where
  pub parts : AllFrom (λ (i : ℕ) (h : Holding). IsPart h.part m.store) 0 s.lanes
  pub tokens : IsPermutation m.pool (tokens_in s.lanes)
  pub bounded : IsBounded s.setting m.store

-- THE MACHINE IN MEMORY
abbrev pub setting_in : {C : Type 0} → (C → Program) → (C → ℕ) → Shape C → Setting
setting_in program width s = record {
  program = program s.code.now;
  elements = s.elements;
  frames = s.frames;
  width = width s.code.now;
  steps =
      s.steps;
  turn = s.turn;
}

-- Tokens that are on their way are seen where they are addressed to.
abbrev pub state_of : {C A : Type 0} → (C → Program) → (C → ℕ) → Elements C A → State
state_of program width m = record {
  setting = setting_in program width m.shape;
  lanes = lanes_of m.lanes.items (drop m.arrived m.sent.items);
}

pub record IsWell {C A : Type 0} (program : C → Program) (width : C → ℕ) (m : Elements C A) : Type 0 where
  pub arrived : m.arrived ≤ length m.sent.items
  -- each lane runs the code of the machine
  pub runs : All (RunsAs (state_of program width m).setting) (map fixed_of m.lanes.items)
  pub sound : IsSoundState (state_of program width m)
