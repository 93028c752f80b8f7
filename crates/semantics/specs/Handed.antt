-- The frames that a run hands out, in order, and the tenure of a frame.
use Rattle.std.specs.Prelude.{◌≡◌, ℕ, ◌⊎◌, ℤ, List, [], ◌∷◌, ◌++◌, Option, Some, None, slice_get, filter_map, Contains, All}
use Rattle.tags.specs.declared.token.Word.{Word}
use Rattle.tags.specs.declared.token.To.{To}
use Rattle.tags.specs.declared.token.Token.{Token}
use Rattle.semantics.specs.Program.{Program}
use Rattle.semantics.specs.Machine.{Machine, Size, Event, Events, Run, at_start}

-- the frame that a token carries
abbrev pub frame_of : Token → Option ℕ
frame_of t = elim t.word as (λ x. Option ℕ) [ Word.Frame f ↦ Some f | _ ↦ None ]

-- The frame manager hands frames out: it answers a request at once, or a release serves a request that waits.
abbrev pub handed_by : To → List Token → List ℕ
handed_by To.Manager made = filter_map frame_of made
handed_by (To.Release f) made = filter_map frame_of made
handed_by to made = []

abbrev pub handed : (p : Program) (z : Size) (old : Machine) (events : Events) (new : Machine) → Run p z old events new → List ℕ
handed p z old [] new run = []
handed p z old (ev ∷ later) new run = handed_by ev.1.to run.1.made ++ handed p z run.0 later new run.2

abbrev pub EachOnce : List ℕ → Type 0
EachOnce fs = (i j f : ℕ) → slice_get fs i ≡ Some f → slice_get fs j ≡ Some f → i ≡ j

-- The run hands out no frame twice. Main's frame is out from the start.
abbrev pub UsesEachOnce : (p : Program) (z : Size) (inputs : List ℤ) (events : Events) (m : Machine) → Run p z (at_start p inputs) events m → Type 0
UsesEachOnce p z inputs events m run = EachOnce (0 ∷ handed p z (at_start p inputs) events m run)

-- TENURE. In this state the frame has just been handed out: to main at the start, or by an event of a run.
abbrev pub IsJustOut : Program → Size → List ℤ → ℕ → Machine → Type 0
IsJustOut p z inputs f first =
    ((f ≡ 0) × (first ≡ at_start p inputs))
    ⊎ ((before : Events) × (old : Machine) × (e : ℕ) × (t : Token) × (out : Event p z e t old first) × Run p z (at_start p inputs) before old
    × Contains (handed_by t.to out.made) f)

-- no release of the frame is taken
abbrev pub NoRelease : ℕ → Events → Type 0
NoRelease f events = All (λ (ev : ℕ × Token). ev.1.to ≡ To.Release f → ⊥) events

-- A tenure so far: the part of a run from where the frame was handed out, with no release of it.
pub record Tenure (p : Program) (z : Size) (inputs : List ℤ) (f : ℕ) (m : Machine) : Type 0 where
  pub first : Machine
  pub just_out : IsJustOut p z inputs f first
  pub part : Events
  pub run : Run p z first part m
  pub stays : NoRelease f part
