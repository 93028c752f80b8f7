-- The credits of a loop along a run: how many were granted, how many iterations were released, and that the loop keeps
-- to its bound.
use Rattle.std.specs.Prelude.{◌≡◌, ℕ, suc, ◌+◌, ◌<◌, ◌≤◌, ◌&&◌, ℤ, List, [], ◌∷◌, Option, Some, None, ◌==◌, count_by, if◌then◌else◌}
use Rattle.tags.specs.declared.token.Port.TheVariants.{Left}
use Rattle.tags.specs.declared.token.Cont.{Cont}
use Rattle.tags.specs.declared.token.To.{To}
use Rattle.tags.specs.declared.token.Token.{Token}
use Rattle.tags.specs.declared.slot.SlotState.{SlotState}
use Rattle.tags.specs.declared.slot.SlotState.TheVariants.{Empty, Credits, Waiter}
use Rattle.semantics.specs.declared.program.Dest.{Dest}
use Rattle.semantics.specs.declared.program.Op.{Op}
use Rattle.semantics.specs.declared.program.Op.TheVariants.{Link, Open, Take, Give, Release}
use Rattle.semantics.specs.Graph.{Flow}
use Rattle.semantics.specs.Program.{Instr, Program, instr_at}
use Rattle.semantics.specs.Machine.{Machine, Store, Size, Events, Run, Resting, slot_in, slot_used}
use Rattle.semantics.specs.Faithful.{IsRun}
use Rattle.semantics.specs.Plan.{Plan, landing}
use Rattle.semantics.specs.Placed.{placed}
use Rattle.semantics.specs.Handed.{Tenure}
use Rattle.semantics.specs.Orderly.{is_at}
use Rattle.semantics.specs.Holders.{Holder, holder_at, same_holder}

-- GRANTED. A loop's `open` grants the credit of its first iteration, a `take` grants one where any is left, and a `give`
-- grants one where an iteration waits for it.
abbrev pub granted_by : Op → SlotState → ℕ
granted_by (Open k) Empty = 1
granted_by (Take k) (Credits (suc n)) = 1
granted_by (Give k) (Waiter c) = 1
granted_by op s = 0

abbrev pub granted_in : Option Instr → SlotState → ℕ
granted_in None s = 0
granted_in (Some i) s = granted_by i.op s

-- the credits that an event grants for the loop in frame f
abbrev pub granted_at : Plan → Program → ℕ → Holder → Store → To → ℕ
granted_at p q f loop s (To.Instr g ip port) =
    if (g == f) && same_holder loop (holder_at p ip) then granted_in (instr_at q ip) (slot_in s g (slot_used (instr_at q ip))) else 0
granted_at p q f loop s to = 0

-- RELEASED. An iteration of a loop has the beginning of the loop's landing as its continuation. It is released when its `release`
-- fires with that continuation, and so makes a token at the beginning of the landing plus its offset. Which instruction
-- is there does not matter: a loop that never gets its credits back has its iterations counted, too.
abbrev pub released_by : Op → ℕ → ℕ → List Token → ℕ
released_by (Release o) f base made = count_by (λ (t : Token). is_at f (base + o) Left t.to) made
released_by op f base made = 0

abbrev pub released_in : Option Instr → ℕ → ℕ → List Token → ℕ
released_in None f base made = 0
released_in (Some i) f base made = released_by i.op f base made

abbrev pub released_at : Program → ℕ → ℕ → To → List Token → ℕ
released_at q f base (To.Instr g ip port) made = released_in (instr_at q ip) f base made
released_at q f base to made = 0

-- both counts, along a part of a run of the code q of the plan
abbrev pub granted : (p : Plan) (q : Program) (f : ℕ) (loop : Holder) (z : Size) (old : Machine) (events : Events) (new : Machine) → Run q z old events new → ℕ
granted p q f loop z old [] new run = 0
granted p q f loop z old (ev ∷ later) new run = granted_at p q f loop old.store ev.1.to + granted p q f loop z run.0 later new run.2

abbrev pub released : (q : Program) (f base : ℕ) (z : Size) (old : Machine) (events : Events) (new : Machine) → Run q z old events new → ℕ
released q f base z old [] new run = 0
released q f base z old (ev ∷ later) new run = released_at q f base ev.1.to run.1.made + released q f base z run.0 later new run.2

-- an instruction of a holder
pub record IsPart (p : Plan) (q : Program) (holder : Holder) (op : Op) (ip slot : ℕ) : Type 0 where
  pub instr : Instr
  pub is_at : instr_at q ip ≡ Some instr
  pub does : instr.op ≡ op
  pub uses : instr.slot ≡ slot
  pub holds : holder_at p ip ≡ Some holder

-- a link whose landing begins there
pub record IsLink (q : Program) (ip callee base : ℕ) : Type 0 where
  pub instr : Instr
  pub dest : Dest
  pub is_at : instr_at q ip ≡ Some instr
  pub does : instr.op ≡ Link callee
  pub lands : instr.firsts ≡ dest ∷ []
  pub begins : base ≡ ip + dest.ahead

-- A loop of the plan: its bound, its slot in the code, and where its landing begins, in which its `take` lies.
pub record IsLoop (p : Plan) (q : Program) (loop : Holder) (k s base : ℕ) : Type 0 where
  pub open_ip : ℕ
  pub take_ip : ℕ
  pub link_ip : ℕ
  pub callee : ℕ
  pub opens : IsPart p q loop (Open k) open_ip s
  pub takes : IsPart p q loop (Take k) take_ip s
  pub links : IsLink q link_ip callee base
  pub lands : (base ≤ take_ip) × (take_ip < base + landing p callee)

-- In each tenure of a frame: each loop has its landing, and its credits that were granted, less its iterations that were
-- released, are never more than its bound; and where the machine rests and a slot has a waiter, a loop of that slot has
-- granted them all.
pub record KeepsBound (p : Plan) (q : Program) (z : Size) (inputs : List ℤ) (f : ℕ) (m : Machine) (t : Tenure q z inputs f m) : Type 0 where
  pub never_above : (loop : Holder) (k ip s : ℕ) → IsPart p q loop (Open k) ip s
      → (base : ℕ) × IsLoop p q loop k s base × (granted p q f loop z t.first t.part m t.run ≤ released q f base z t.first t.part m t.run + k)
  pub all_granted : (s : ℕ) (c : Cont) → Resting m → m.store.slots f s ≡ Waiter c
      → (loop : Holder) × (k : ℕ) × (base : ℕ) × IsLoop p q loop k s base
      × (granted p q f loop z t.first t.part m t.run ≡ released q f base z t.first t.part m t.run + k)

abbrev pub KeepsBounds : Flow → Plan → List (List ℕ) → Type 0
KeepsBounds fl p slots = (inputs : List ℤ) (z : Size) (events : Events) (m : Machine) (f : ℕ) → IsRun fl (placed p slots) inputs z events m
    → (t : Tenure (placed p slots) z inputs f m) → KeepsBound p (placed p slots) z inputs f m t
