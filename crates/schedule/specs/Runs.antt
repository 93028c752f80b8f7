-- What a run does.
use Rattle.std.specs.Prelude.{◌≡◌, ℕ, zero, suc, ◌+◌, ◌-◌, ◌<◌, Bool, true, false, ◌⊎◌, ℤ, List, [], ◌∷◌, ◌++◌, length, Option, Some, None, ◌==◌, count_by, sum}
use Rattle.tags.specs.declared.token.Token.{Token}
use Rattle.semantics.specs.declared.report.End.{End}
use Rattle.semantics.specs.Program.{Program}
use Rattle.semantics.specs.Rule.{array_base, array_len}
use Rattle.semantics.specs.Report.{Report}
use Rattle.semantics.specs.Machine.{Machine, Events, at_start}
use Rattle.element.specs.declared.lane.Stepped.{Stepped}
use Rattle.element.specs.declared.lane.Stepped.TheVariants as stepped
use Rattle.element.specs.Holding.{Holding}
use Rattle.frame_order.specs.InOrder.{OrderedRun}
use Rattle.schedule.specs.declared.elements.Order.{Order}
use Rattle.schedule.specs.declared.elements.Order.TheVariants.{ByList, InTurn}
use Rattle.schedule.specs.declared.halt.Halt.{Halt}
use Rattle.schedule.specs.Setting.{size}
use Rattle.schedule.specs.State.{State, AllFrom, tokens_in, AreParts}
use Rattle.schedule.specs.Steps.{Steps, IsClash, IsUsedUp, IsStuckAt}

-- the machine and what happened so far
pub record SoFar : Type 0 where
  pub state : State
  pub events : Events

-- The events lead from the start on these inputs to a machine that the lanes are the parts of, in a run that hands out frames in order, and
-- each element has made its own.
pub record Began (inputs : List ℤ) (s : State) (evs : Events) : Type 0 where
  pub machine : Machine
  pub run : OrderedRun s.setting.program (size s.setting) (at_start s.setting.program inputs) evs machine
  pub stands : AreParts s machine
  pub counts : AllFrom (λ (i : ℕ) (h : Holding). h.made ≡ count_by (λ (ev : ℕ × Token). ev.0 == i) evs) 0 s.lanes

-- The same of a machine whose events are listed; of one whose events are not, nothing is known.
abbrev pub BeganIfNoted : Bool → List ℤ → SoFar → Type 0
BeganIfNoted true inputs k = Began inputs k.state k.events
BeganIfNoted false inputs k = Unit {0}

abbrev pub HasToken : State → Type 0
HasToken s = 0 < length (tokens_in s.lanes)

abbrev pub is_by_list : Order → Bool
is_by_list ByList = true
is_by_list InTurn = false

-- Whether a run halts after an answer. Where no token is left it halts at the next element that has none. Where an
-- element has made all its events, a run over a list goes on, and another halts.
abbrev pub IsHalt : Bool → Option Stepped → State → Option Halt → Type 0
IsHalt true None s halt = halt ≡ None
IsHalt false None s halt = halt ≡ Some Halt.Steps
IsHalt by_list (Some stepped.Did) s halt = halt ≡ None
IsHalt by_list (Some stepped.Idle) s halt = (HasToken s × (halt ≡ None)) ⊎ ((tokens_in s.lanes ≡ []) × (halt ≡ Some Halt.NoToken))
IsHalt by_list (Some (stepped.Clash cell)) s halt = halt ≡ Some (Halt.Clash cell)
IsHalt by_list (Some (stepped.Stuck rule)) s halt = halt ≡ Some (Halt.Stuck rule)
IsHalt by_list (Some stepped.Memory) s halt = halt ≡ Some Halt.Memory

-- one step, and whether the run halts there
pub record Advances (by_list : Bool) (old : State) (e pick : ℕ) (new : State) (evs : Events) (halt : Option Halt) : Type 0 where
  pub answer : Option Stepped
  pub step : Steps old e pick answer new evs
  pub halts : IsHalt by_list answer new halt

-- where no pick is left
abbrev pub EndsAtLast : State → Halt → Type 0
EndsAtLast s halt = ((tokens_in s.lanes ≡ []) × (halt ≡ Halt.NoToken)) ⊎ (HasToken s × (halt ≡ Halt.Steps))

-- what the rest of a run has to be
abbrev pub Then : Option Halt → State → State → Halt → Events → Type 0 → Type 0
Then None s last halt later rest = rest
Then (Some why) s last halt later rest = (last ≡ s) × (halt ≡ why) × (later ≡ [])

-- One step for each entry of a list of elements and picks, in order, up to the halt, with the events that it makes.
abbrev pub Plays : Bool → List (ℕ × ℕ) → State → State → Halt → Events → Type 0
Plays by_list [] s last halt evs = (by_list ≡ true) × (last ≡ s) × (evs ≡ []) × EndsAtLast s halt
Plays by_list (p ∷ picks) s last halt evs =
    (next : State) × (now : Events) × (later : Events) × (why : Option Halt) × Advances by_list s p.0 p.1 next now why × (evs ≡ now ++ later)
    × Then why next last halt later (Plays by_list picks next last halt later)

-- the oldest token of each of a number of elements from the k-th on
abbrev pub in_turn : ℕ → ℕ → List (ℕ × ℕ)
in_turn k zero = []
in_turn k (suc n) = (k, 0) ∷ in_turn (suc k) n

-- that again and again
abbrev pub rounds_of : ℕ → ℕ → List (ℕ × ℕ)
rounds_of zero n = []
rounds_of (suc r) n = in_turn 0 n ++ rounds_of r n

-- how many events lanes may still make
abbrev pub steps_in : ℕ → List Holding → ℕ
steps_in steps [] = 0
steps_in steps (h ∷ hs) = (steps - h.made) + steps_in steps hs

abbrev pub steps_over : State → ℕ
steps_over s = steps_in s.setting.steps s.lanes

-- why a run halts here; a run over a list and one in turn are not stopped
abbrev pub HaltsAs : State → Bool → Halt → Type 0
HaltsAs s by_list Halt.NoToken = tokens_in s.lanes ≡ []
HaltsAs s by_list (Halt.Clash cell) = (e : ℕ) × (pick : ℕ) × IsClash s e pick cell
HaltsAs s by_list Halt.Steps = ((e : ℕ) × IsUsedUp s e) ⊎ ((by_list ≡ true) × HasToken s)
HaltsAs s by_list (Halt.Stuck rule) = (e : ℕ) × (pick : ℕ) × IsStuckAt s e pick rule
HaltsAs s by_list Halt.Memory = Unit {0}
HaltsAs s by_list Halt.Stop = ⊥

-- how a run ends that halts so, by the numbers of requests for frames and credits that wait; and which array a cell is in
abbrev pub EndsWith : Program → End → ℕ → ℕ → Halt → Type 0
EndsWith p end frames credits Halt.NoToken = ((end ≡ End.Rest) × (frames ≡ 0) × (credits ≡ 0)) ⊎ ((end ≡ End.Starved) × ((0 < frames) ⊎ (0 < credits)))
EndsWith p end frames credits (Halt.Clash cell) = (a : ℕ) × (i : ℕ) × (end ≡ End.Clash a i) × (a < length p.arrays) × (i < array_len p a)
    × (array_base p a + i ≡ cell)
EndsWith p end frames credits Halt.Steps = end ≡ End.Steps
EndsWith p end frames credits (Halt.Stuck rule) = end ≡ End.Stuck rule
EndsWith p end frames credits Halt.Memory = end ≡ End.Memory
EndsWith p end frames credits Halt.Stop = end ≡ End.Stop

abbrev pub EndsAs : Program → Report → Halt → Type 0
EndsAs p r halt = EndsWith p r.end r.waiting_frames r.waiting_credits halt

-- a cell that is named is one of the program's
abbrev pub NamesCell : Program → Halt → Type 0
NamesCell p (Halt.Clash cell) = cell < sum p.arrays
NamesCell p halt = Unit {0}
