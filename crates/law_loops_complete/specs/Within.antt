-- Runs of the meaning that keep each loop within its bound; and, of two runs, the first activity of the one that the other has not made.
use Rattle.std.specs.Prelude.{◌≡◌, ℕ, ◌+◌, ◌<◌, Bool, ℤ, List, [], ◌∷◌, ◌++◌, length, ◌⊎◌, Option, Some, None, slice_get, All, IsPermutation}
use Rattle.tags.specs.declared.token.Cont.{Cont}
use Rattle.tags.specs.declared.slot.SlotState.TheVariants.{Waiter}
use Rattle.semantics.specs.declared.graph.Kind.TheVariants.{Loop}
use Rattle.semantics.specs.Graph.{Graph, Node, Flow, flow_of}
use Rattle.semantics.specs.WellFormed.{WellFormed}
use Rattle.semantics.specs.Meaning.{Context, Main, Called, Turned, State, Activity, Fires, Gates, Passes, Returns, Turns, Outputs, Step, Run, AtRest, start}
use Rattle.semantics.specs.Meaning.{node_of}
use Rattle.semantics.specs.Program.{Program}
use Rattle.semantics.specs.Machine.{Machine, Size, Events, Resting}
use Rattle.semantics.specs.Faithful.{Faithful, IsRun}
use Rattle.semantics.specs.Report.{Report, Shows}
use Rattle.source.specs.Theorem.{RestsWell}
use Rattle.law_confluence.specs.Outcome.{AreInputsOf}
use Rattle.law_completion.specs.Total.{IsNotCut, Completes}
use Rattle.law_completion.specs.TotalGraph.{NeedsAtMost}
use Rattle.law_loops_complete.specs.LoopsComplete.{HasSpace}

-- WHERE an activity takes place
abbrev pub place_of : Activity → Context
place_of (Fires c n vs) = c
place_of (Gates c n v b) = c
place_of (Passes c n i v) = c
place_of (Returns c n j v) = Called c n
place_of (Turns c n i j b v) = Turned c n i
place_of (Outputs j v) = Main

-- in an invocation, or in one that it made
abbrev pub IsIn : Context → Context → Type 0
IsIn top Main = top ≡ Main
IsIn top (Called c n) = (top ≡ Called c n) ⊎ IsIn top c
IsIn top (Turned c n i) = (top ≡ Turned c n i) ⊎ IsIn top c

abbrev pub HasBound : Option (Node ℕ) → ℕ → Type 0
HasBound None k = ⊥
HasBound (Some line) k = (f : ℕ) × (line.kind ≡ Loop f k)

-- Iteration t of the loop has an activity after place j of the run.
abbrev pub IsUnderWay : List Activity → Context → ℕ → ℕ → ℕ → Type 0
IsUnderWay run c n j t = (i : ℕ) × (a : Activity) × (j < i) × (slice_get run i ≡ Some a) × IsIn (Turned c n t) (place_of a)

-- KEPT WITHIN. When iteration u of a loop with bound k has an activity, fewer than k - 1 of the iterations before u - 1 are under way. Iteration u - 1
-- always holds a credit then: its frame is released only after it has sent u its values.
abbrev pub KeepsWithin : Flow → List Activity → Type 0
KeepsWithin fl run = (c : Context) (n k u j : ℕ) (b : Activity) → HasBound (node_of fl c n) k → slice_get run j ≡ Some b → IsIn (Turned c n u) (place_of b)
    → (ts : List ℕ) → All (λ t. (t + 1 < u) × IsUnderWay run c n j t) ts
    → ((x y t : ℕ) → slice_get ts x ≡ Some t → slice_get ts y ≡ Some t → x ≡ y) → 1 + length ts < k

-- Some run of the meaning to its end does.
pub record SomeKeepsWithin (fl : Flow) (inputs : List ℤ) : Type 0 where
  pub state : State
  pub rests : RestsWell fl inputs state
  pub run : List Activity
  pub is_run : Run fl (start inputs) run state
  pub within : KeepsWithin fl run

-- Code that starves for credits alone only where none does
abbrev pub StarvesOutside : Flow → Program → Type 0
StarvesOutside fl q = (inputs : List ℤ) (z : Size) (events : Events) (m : Machine) (f s : ℕ) (c : Cont) → IsRun fl q inputs z events m
    → m.store.slots f s ≡ Waiter c → Resting m → m.store.requests ≡ [] → SomeKeepsWithin fl inputs → ⊥

-- completes in every order where one does.
abbrev pub WithinCompletes : Type 0
WithinCompletes = (g : Graph) (q : Program) → WellFormed g → Faithful (flow_of g) q → StarvesOutside (flow_of g) q
    → (inputs : List ℤ) → AreInputsOf g inputs → (d t : ℕ) → NeedsAtMost g inputs d t → SomeKeepsWithin (flow_of g) inputs
    → (z : Size) (most : ℕ) → HasSpace q z most d
    → (by_list may_stop : Bool) (r : Report) → Shows q z inputs most by_list may_stop r → IsNotCut by_list r → Completes r

-- THE FIRST THAT IS MISSING. The run `whole` begins with activities that the run `part` has made, too; and then comes one that is enabled in the state
-- that `part` leads to.
pub record IsMissing (fl : Flow) (whole part : List Activity) (s : State) : Type 0 where
  pub before : List Activity
  pub next : Activity
  pub later : List Activity
  pub splits : whole ≡ before ++ next ∷ later
  pub others : List Activity
  pub made : IsPermutation part (before ++ others)
  pub after : State
  pub enabled : Step fl next s after

-- Of a run to the end of a meaning that rests well and of any other run: the other one is at its end, or such an activity is missing in it.
abbrev pub FirstMissing : Type 0
FirstMissing = (g : Graph) (inputs : List ℤ) → WellFormed g → AreInputsOf g inputs → (t : State) → RestsWell (flow_of g) inputs t
    → (whole : List Activity) → Run (flow_of g) (start inputs) whole t → (part : List Activity) (s : State) → Run (flow_of g) (start inputs) part s
    → AtRest (flow_of g) s ⊎ IsMissing (flow_of g) whole part s
