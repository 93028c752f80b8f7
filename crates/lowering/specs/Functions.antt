-- FUNCTIONS in the machine: the scope of the parameters, and the blocks of a function that ends.
use Rattle.std.specs.Prelude.{false, List, [], ◌∷◌, ◌++◌, length, map, Option, None, Some}
use Rattle.source.specs.Tree.{Name, NameAt}
use Rattle.source.specs.Outside.{bare}
use Rattle.source.specs.Lowered.{MadeBlock, inputs_from, scoped, turn_site}
use Rattle.lowering.specs.Plans.{Plan}
use Rattle.lowering.specs.State.{popped, State, Frame, Header}
use Rattle.lowering.specs.Innermost.{header_in}

-- nothing is open
abbrev pub between : List Plan → List (Name × MadeBlock) → State
between ps done = record {
  site = turn_site [];
  spot = record { next = 0; loops = 0 };
  scope = [];
  sources = [];
  number = false;
  nodes = [];
  blocks = [];
  plans = ps;
  frames = [];
  done = done;
}

-- What a word does where the innermost frame was of a function, and where it was not
abbrev pub with_parameter_of : State → NameAt → Option (NameAt × List NameAt) → State
with_parameter_of s x None = s
with_parameter_of s x (Some h) = record s { frames = Header h.0 (h.1 ++ x ∷ []) ∷ s.frames }

abbrev pub with_parameter : State → NameAt → List Frame → State
with_parameter s x fs = with_parameter_of (popped s fs) x (header_in fs)

abbrev pub body_begun_of : State → Option (NameAt × List NameAt) → State
body_begun_of s None = s
body_begun_of s (Some h) = record s {
  site = turn_site h.0.name;
  spot = record { next = length h.1; loops = 0 };
  scope = scoped (bare h.1) (inputs_from 0 (length h.1)) [];
  frames = Header h.0 h.1 ∷ s.frames;
}

abbrev pub body_begun : State → List Frame → State
body_begun s fs = body_begun_of (popped s fs) (header_in fs)

abbrev pub of_function : Name → List MadeBlock → List (Name × MadeBlock)
of_function f blocks = map (λ (b : MadeBlock). (f, b)) blocks

abbrev pub function_ended_of : State → Option (NameAt × List NameAt) → State
function_ended_of s None = s
function_ended_of s (Some h) = between s.plans
    (s.done ++ of_function h.0.name (record { at = h.0.at; loop = 0; inputs = length h.1; nodes = s.nodes; results = s.sources } ∷ s.blocks))

abbrev pub function_ended : State → List Frame → State
function_ended s fs = function_ended_of (popped s fs) (header_in fs)
