-- A machine that is taken apart.
use Rattle.std.specs.Prelude.{ℕ, List, map}
use Rattle.tags.specs.declared.token.Token.{Token}
use Rattle.semantics.specs.Program.{Program}
use Rattle.element.specs.Holding.{LaneView, held_of}
use Rattle.schedule.specs.declared.setup.Setup.{Setup}
use Rattle.schedule.specs.State.{State, setting_in, delivered}
use Rattle.schedule.specs.Runs.{SoFar}

-- the lanes as they are, with no token on its way
abbrev pub state_in : {C A L : Type 0} → (C → Program) → (C → ℕ) → Setup C A L → List LaneView → State
state_in program width s lanes = record { setting = setting_in program width s.shape; lanes = map held_of lanes }

abbrev pub so_far_of : {C A L : Type 0} → (C → Program) → (C → ℕ) → Setup C A L → List LaneView → SoFar
so_far_of program width s lanes = record { state = state_in program width s lanes; events = s.log.events.items }

-- tokens that are on their way are seen where they are addressed to
abbrev pub with_arriving : State → List Token → State
with_arriving s ts = record { setting = s.setting; lanes = delivered ts s.lanes }
