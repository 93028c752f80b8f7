-- What names a frame, what a release finds, and what holds of a run over a plan that hands out each frame once.
use Rattle.std.specs.Prelude.{◌≡◌, ◌≢◌, ℕ, ◌+◌, ◌-◌, ◌<◌, ◌≤◌, Bool, true, false, ◌&&◌, ℤ, List, [], ◌∷◌, ◌++◌, map, length, Option, Some, None}
use Rattle.std.specs.Prelude.{slice_get, nat_lt, if◌then◌else◌, ◌==◌, count_by, Contains, IsPermutation}
use Rattle.tags.specs.declared.token.Port.{Port}
use Rattle.tags.specs.declared.token.Port.TheVariants.{Left, Right}
use Rattle.tags.specs.declared.token.Cont.{Cont}
use Rattle.tags.specs.declared.token.Word.{Word}
use Rattle.tags.specs.declared.token.To.{To}
use Rattle.tags.specs.declared.token.Token.{Token}
use Rattle.tags.specs.declared.slot.SlotState.{SlotState}
use Rattle.tags.specs.declared.slot.SlotState.TheVariants as Slot
use Rattle.tags.specs.declared.slot.SlotState.TheVariants.{Empty, Waiter}
use Rattle.semantics.specs.declared.program.Op.TheVariants.{Give, Take}
use Rattle.semantics.specs.Program.{Instr, CodeBlock, first_of, instr_at}
use Rattle.semantics.specs.Rule.{token}
use Rattle.semantics.specs.Machine.{Machine, CellState, Deferred, Size, Events, Run, at_start, stuck_rule}
use Rattle.semantics.specs.declared.program.Mark.{Mark}
use Rattle.semantics.specs.declared.program.Mark.TheVariants.{Unmarked}
use Rattle.semantics.specs.Plan.{Plan, mark_at}
use Rattle.semantics.specs.Arcs.{UsesArc, SomeEvent}
use Rattle.semantics.specs.Handed.{UsesEachOnce}

-- WHAT NAMES A FRAME
abbrev pub NamesCont : ℕ → Cont → Type 0
NamesCont f (Cont.Frame g ip p) = g ≡ f
NamesCont f (Cont.Host j) = ⊥

abbrev pub NamesWord : ℕ → Word → Type 0
NamesWord f (Word.Val v) = ⊥
NamesWord f (Word.Frame g) = g ≡ f
NamesWord f (Word.Back c) = NamesCont f c

abbrev pub NamesTo : ℕ → To → Type 0
NamesTo f (To.Instr g ip p) = g ≡ f
NamesTo f (To.Release g) = g ≡ f
NamesTo f to = ⊥

abbrev pub NamesSlot : ℕ → SlotState → Type 0
NamesSlot f (Slot.Left w) = NamesWord f w
NamesSlot f (Slot.Right w) = NamesWord f w
NamesSlot f (Waiter c) = NamesCont f c
NamesSlot f s = ⊥

abbrev pub readers_of : CellState → List Cont
readers_of (Deferred cs) = cs
readers_of c = []

-- nothing of the machine but these tokens names the frame, and its slots are empty
pub record IsFreeOf (f : ℕ) (rest : List Token) (m : Machine) : Type 0 where
  pub tokens : (t : Token) → Contains rest t → (NamesTo f t.to → ⊥) × (NamesWord f t.word → ⊥)
  pub readers : (x : ℕ) (c : Cont) → Contains (readers_of (m.store.cells x)) c → NamesCont f c → ⊥
  pub requests : (c : Cont) → Contains m.store.requests c → NamesCont f c → ⊥
  pub words : (g r : ℕ) → NamesSlot f (m.store.slots g r) → ⊥
  pub slots : (r : ℕ) → m.store.slots f r ≡ Empty

-- Whenever a release of a frame can be taken, nothing else names that frame.
abbrev pub IsFreeAtRelease : Machine → Type 0
IsFreeAtRelease m = (f : ℕ) (w : Word) (rest : List Token) → IsPermutation m.pool (record { to = To.Release f; word = w } ∷ rest)
    → m.store.out f ≡ true → (NamesWord f w → ⊥) × IsFreeOf f rest m

-- PORTS. The tokens that a run took, and those that it left
abbrev pub met : Events → Machine → List Token
met events m = map (λ (ev : ℕ × Token). ev.1) events ++ m.pool

abbrev pub eq_port : Port → Port → Bool
eq_port Left Left = true
eq_port Right Right = true
eq_port p q = false

abbrev pub is_at : ℕ → ℕ → Port → To → Bool
is_at f ip p (To.Instr g n q) = (g == f) && (n == ip) && eq_port p q
is_at f ip p to = false

-- a `give` and a `take` get any number of tokens: one for each iteration
abbrev pub often : Option Instr → Bool
often None = false
often (Some i) = elim i.op as (λ x. Bool) [ Give k ↦ true | Take k ↦ true | _ ↦ false ]

-- the instructions that take a block's continuation and inputs
abbrev pub is_entry : List CodeBlock → ℕ → Bool
is_entry [] ip = false
is_entry (b ∷ bs) ip = if nat_lt ip (length b.instrs) then nat_lt ip (b.inputs + 1) else is_entry bs (ip - length b.instrs)

abbrev pub same_block : List CodeBlock → ℕ → ℕ → Bool
same_block [] ip jp = false
same_block (b ∷ bs) ip jp = if nat_lt ip (length b.instrs) then nat_lt jp (length b.instrs)
    else if nat_lt jp (length b.instrs) then false else same_block bs (ip - length b.instrs) (jp - length b.instrs)

-- the instruction of that number carries the mark
abbrev pub IsMarked : Plan → ℕ → Mark → Type 0
IsMarked p ip m = (b : ℕ) × (n : ℕ) × (c : CodeBlock) × (slice_get p.program.blocks b ≡ Some c) × (n < length c.instrs)
    × (ip ≡ first_of p.program b + n) × (mark_at p b n ≡ m) × (m ≢ Unmarked)

-- ORDERLY. In such a run a frame has one invocation, and so all that arrives at the frame is that invocation's.
pub record IsOrderlyRun (p : Plan) (z : Size) (old : Machine) (events : Events) (new : Machine) (run : Run p.program z old events new) : Type 0 where
  -- a port gets at most one token
  pub once : (f ip : ℕ) (q : Port) → often (instr_at p.program ip) ≡ false → count_by (λ (t : Token). is_at f ip q t.to) (met events new) ≤ 1
  -- and, except at an entry, only after one of its arcs was used
  pub caused : (f ip : ℕ) (q : Port) (w : Word) → is_entry p.program.blocks ip ≡ false → Contains new.pool (token (To.Instr f ip q) w)
      → SomeEvent (UsesArc p f ip q) p.program z old events new run
  -- switches of one mark take equal predicates
  pub agree : (f ip jp : ℕ) (m : Mark) (v w : Word) → IsMarked p ip m → IsMarked p jp m → same_block p.program.blocks ip jp ≡ true
      → Contains (met events new) (token (To.Instr f ip Right) v) → Contains (met events new) (token (To.Instr f jp Right) w) → v ≡ w
  -- one block runs in a frame
  pub block : (f ip jp : ℕ) (q r : Port) (v w : Word) → Contains (met events new) (token (To.Instr f ip q) v)
      → Contains (met events new) (token (To.Instr f jp r) w)
      → same_block p.program.blocks ip jp ≡ true
  -- no token is excluded by a rule
  pub matching : (t : Token) → Contains new.pool t → stuck_rule p.program new.store t.to t.word ≡ None
  pub release : IsFreeAtRelease new

abbrev pub inputs_in : Option CodeBlock → ℕ
inputs_in None = 0
inputs_in (Some c) = c.inputs

abbrev pub inputs_of : Plan → ℕ
inputs_of p = inputs_in (slice_get p.program.blocks p.program.main)

pub record IsStart (p : Plan) (z : Size) (inputs : List ℤ) : Type 0 where
  pub some_element : 0 < z.elements
  pub some_frame : 0 < z.frames
  pub inputs_fit : length inputs ≡ inputs_of p

-- Each run over the plan that hands out no frame twice is orderly.
abbrev pub Orderly : Plan → Type 0
Orderly p = (inputs : List ℤ) (z : Size) (events : Events) (m : Machine) → IsStart p z inputs → (run : Run p.program z (at_start p.program inputs) events m)
    → UsesEachOnce p.program z inputs events m run → IsOrderlyRun p z (at_start p.program inputs) events m run
