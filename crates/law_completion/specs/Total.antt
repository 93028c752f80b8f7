-- Which runs come to their end: those that have frames, credits and steps enough for what the meaning calls for.
use Rattle.std.specs.Prelude.{◌≡◌, ◌≢◌, ℕ, ◌+◌, ◌-◌, ◌*◌, ◌<◌, ◌≤◌, Bool, true, ℤ, List, [], length, count_by, sum, Some, All}
use Rattle.tags.specs.declared.token.Cont.{Cont}
use Rattle.tags.specs.declared.slot.SlotState.TheVariants.{Waiter}
use Rattle.semantics.specs.declared.report.End.TheVariants.{Rest, Steps, Memory, Stop}
use Rattle.semantics.specs.declared.program.Op.TheVariants.{Open}
use Rattle.semantics.specs.Graph.{Graph, Block, Flow, flow_of}
use Rattle.semantics.specs.WellFormed.{WellFormed}
use Rattle.semantics.specs.Meaning.{Context, State, Activity, Stood, Run, Reached, AtRest, Clashes, fetch_count, start}
use Rattle.semantics.specs.Program.{Instr, Program, instr_at}
use Rattle.semantics.specs.Cause.{AllDue, request_count, is_turn, loop_bounds}
use Rattle.semantics.specs.Machine as Machine
use Rattle.semantics.specs.Machine.{Machine, Size, Events, at_start, slot_used, Resting}
use Rattle.semantics.specs.Faithful.{Faithful, IsRun, inputs_of, largest}
use Rattle.semantics.specs.Report.{Report, Shows, sum_below}
use Rattle.semantics.specs.Reuse.{ReleasesLast}
use Rattle.semantics.specs.Handed.{Tenure}
use Rattle.semantics.specs.Credits.{KeepsBound}
use Rattle.semantics.specs.Plan.{Plan}
use Rattle.semantics.specs.Placed.{placed}
use Rattle.semantics.specs.Holders.{Holder, holder_at}
use Rattle.source.specs.Theorem.{RestsWell}
use Rattle.law_confluence.specs.Outcome.{AreInputsOf}

-- DUE. Whatever the order, a run of the meaning calls for at most d invocations beside main, of which at most t are iterations of loops.
pub record CallsForAtMost (fl : Flow) (inputs : List ℤ) (d t : ℕ) : Type 0 where
  pub invocations : (run : List Activity) (s : State) (r : Run fl (start inputs) run s) (cs : List Context)
      → AllDue fl run (Stood fl (start inputs) run s r) cs → length cs ≤ d
  pub turns : (run : List Activity) (s : State) (r : Run fl (start inputs) run s) (cs : List Context)
      → AllDue fl run (Stood fl (start inputs) run s r) cs → count_by is_turn cs ≤ t

-- A meaning that rests well calls for fewer invocations than any run to that state has activities.
abbrev pub LengthBounds : Type 0
LengthBounds = (g : Graph) (inputs : List ℤ) → WellFormed g → AreInputsOf g inputs → (s : State) → RestsWell (flow_of g) inputs s
    → (run : List Activity) → Run (flow_of g) (start inputs) run s → CallsForAtMost (flow_of g) inputs (length run - 1) (length run - 1)

-- WHAT SUFFICES. Frames: one for main, and one for each of them.
abbrev pub HasFrames : Size → ℕ → Type 0
HasFrames z d = 1 + d ≤ z.elements * z.frames

-- Steps for each element: more than all events.
abbrev pub HasSteps : Program → ℕ → ℕ → Type 0
HasSteps p steps d = 6 * (largest p.blocks + 1) * (1 + d) < steps

-- Credits: each loop lets as many iterations be under way as there are.
abbrev pub HasCredits : Program → ℕ → Type 0
HasCredits p t = (ip k : ℕ) (i : Instr) → instr_at p ip ≡ Some i → i.op ≡ Open k → t ≤ k

-- in the graph
abbrev pub LoopsHave : Flow → ℕ → Type 0
LoopsHave fl t = All (λ (b : Block ℕ). All (λ k. t ≤ k) (loop_bounds b)) fl.blocks

-- Code with the bounds of the graph's loops has as many credits as they.
abbrev pub BoundsAreCredits : Type 0
BoundsAreCredits = (fl : Flow) (p : Program) (t : ℕ) → Faithful fl p → LoopsHave fl t → HasCredits p t

-- FRAMES. In each run: where there are frames for main and for all requests, no request waits.
abbrev pub FramesSuffice : Type 0
FramesSuffice = (p : Program) (z : Size) (inputs : List ℤ) (events : Events) (m : Machine) → Machine.Run p z (at_start p inputs) events m
    → HasFrames z (request_count events) → m.store.requests ≡ []

-- THE CODE of a plan. All instructions of a holder use one slot.
abbrev pub HasOneSlot : Plan → Program → Type 0
HasOneSlot p q = (slot : Holder → ℕ) × ((ip : ℕ) (h : Holder) (s : ℕ) → holder_at p ip ≡ Some h → slot_used (instr_at q ip) ≡ Some s → s ≡ slot h)

-- of the code of a plan with slots for all its blocks
abbrev pub CodeHasOneSlot : Type 0
CodeHasOneSlot = (p : Plan) (slots : List (List ℕ)) → length slots ≡ length p.program.blocks → HasOneSlot p (placed p slots)

-- TRUE CODE is faithful, and uses frames, slots and credits rightly.
pub record IsTrueCode (fl : Flow) (p : Plan) (q : Program) : Type 0 where
  pub faithful : Faithful fl q
  pub releases : ReleasesLast fl q
  pub credits : (inputs : List ℤ) (z : Size) (events : Events) (m : Machine) (f : ℕ) → IsRun fl q inputs z events m
      → (t : Tenure q z inputs f m) → KeepsBound p q z inputs f m t
  pub one_slot : HasOneSlot p q

-- THE END. The run is over, nothing waits, and so its outputs and cells are the meaning's.
pub record Completes (r : Report) : Type 0 where
  pub rest : r.end ≡ Rest
  pub none_waits : r.deferred ≡ 0

-- It was not cut off: memory was not refused, no gate stopped it, and it was no list of steps that was used up.
pub record IsNotCut (by_list : Bool) (r : Report) : Type 0 where
  pub memory : r.end ≢ Memory
  pub gate : r.end ≢ Stop
  pub list : by_list ≡ true → r.end ≢ Steps

-- ROOM. The meaning comes to rest without a second store, fetches waiting or not, and this machine has frames and steps for all that it calls for.
pub record HasRoom (fl : Flow) (inputs : List ℤ) (p : Program) (z : Size) (steps : ℕ) : Type 0 where
  pub state : State
  pub reached : Reached fl inputs state
  pub at_rest : AtRest fl state
  pub no_clash : (x : ℕ) → Clashes fl state x → ⊥
  pub due : ℕ
  pub turns : ℕ
  pub calls : CallsForAtMost fl inputs due turns
  pub frames : HasFrames z due
  pub time : HasSteps p steps due

-- Where this machine is at rest and no frame is wanted, no iteration waits for a credit.
abbrev pub NeverStarves : Flow → Program → List ℤ → Size → Type 0
NeverStarves fl q inputs z = (events : Events) (m : Machine) → IsRun fl q inputs z events m → Resting m → m.store.requests ≡ []
    → (f s : ℕ) (c : Cont) → m.store.slots f s ≡ Waiter c → ⊥

-- Faithful code that never starves for a credit comes to rest where it has room, whatever the order, if the run was not cut off,
abbrev pub RoomyRunsRest : Type 0
RoomyRunsRest = (fl : Flow) (q : Program) → Faithful fl q
    → (inputs : List ℤ) (z : Size) (steps : ℕ) → 0 < z.elements → 0 < z.frames → length inputs ≡ inputs_of fl → HasRoom fl inputs q z steps
    → NeverStarves fl q inputs z
    → (by_list may_stop : Bool) (r : Report) → Shows q z inputs steps by_list may_stop r → IsNotCut by_list r → r.end ≡ Rest

-- and completes where no fetch waits in the meaning.
abbrev pub RoomyRunsComplete : Type 0
RoomyRunsComplete = (fl : Flow) (q : Program) → Faithful fl q
    → (inputs : List ℤ) (z : Size) (steps : ℕ) → 0 < z.elements → 0 < z.frames → length inputs ≡ inputs_of fl → (room : HasRoom fl inputs q z steps)
    → NeverStarves fl q inputs z → sum_below (sum fl.arrays) (λ x. fetch_count fl x room.state.tokens) ≡ 0
    → (by_list may_stop : Bool) (r : Report) → Shows q z inputs steps by_list may_stop r → IsNotCut by_list r → Completes r

-- ENOUGH. The same, and the loops have credits for all iterations.
pub record HasEnough (fl : Flow) (inputs : List ℤ) (p : Program) (z : Size) (steps : ℕ) : Type 0 where
  pub state : State
  pub reached : Reached fl inputs state
  pub at_rest : AtRest fl state
  pub no_clash : (x : ℕ) → Clashes fl state x → ⊥
  pub due : ℕ
  pub turns : ℕ
  pub calls : CallsForAtMost fl inputs due turns
  pub frames : HasFrames z due
  pub time : HasSteps p steps due
  pub credits : HasCredits p turns

-- Then, whatever the order, each run over it that was not cut off comes to rest.
abbrev pub RunsRest : Type 0
RunsRest = (fl : Flow) (p : Plan) (q : Program) → IsTrueCode fl p q
    → (inputs : List ℤ) (z : Size) (steps : ℕ) → 0 < z.elements → 0 < z.frames → length inputs ≡ inputs_of fl → HasEnough fl inputs q z steps
    → (by_list may_stop : Bool) (r : Report) → Shows q z inputs steps by_list may_stop r → IsNotCut by_list r → r.end ≡ Rest

-- TOTAL. And where no fetch waits in the meaning, it completes.
abbrev pub RunsComplete : Type 0
RunsComplete = (fl : Flow) (p : Plan) (q : Program) → IsTrueCode fl p q
    → (inputs : List ℤ) (z : Size) (steps : ℕ) → 0 < z.elements → 0 < z.frames → length inputs ≡ inputs_of fl → (enough : HasEnough fl inputs q z steps)
    → sum_below (sum fl.arrays) (λ x. fetch_count fl x enough.state.tokens) ≡ 0
    → (by_list may_stop : Bool) (r : Report) → Shows q z inputs steps by_list may_stop r → IsNotCut by_list r → Completes r
