-- When an event uses an arc of a plan: its token is made, its answer is asked for, or its landing is linked.
use Rattle.std.specs.Prelude.{◌≡◌, ℕ, ◌+◌, ◌<◌, ◌≤◌, ◌⊎◌, List, [], ◌∷◌, Some, slice_get, Contains}
use Rattle.tags.specs.declared.token.Port.{Port}
use Rattle.tags.specs.declared.token.Port.TheVariants.{Left}
use Rattle.tags.specs.declared.token.Cont.{Cont}
use Rattle.tags.specs.declared.token.Word.{Word}
use Rattle.tags.specs.declared.token.To.{To}
use Rattle.tags.specs.declared.token.Token.{Token}
use Rattle.tags.specs.declared.slot.SlotState.TheVariants.{Empty}
use Rattle.semantics.specs.declared.program.Op.{Op}
use Rattle.semantics.specs.declared.program.Op.TheVariants.{Fetch, Store, Frame, Link, Ask, Give}
use Rattle.semantics.specs.Program.{Instr, Program, first_of, instr_at}
use Rattle.semantics.specs.Machine.{Machine, Size, Events, Run}
use Rattle.semantics.specs.Plan.{Plan, landing}
use Rattle.semantics.specs.Sharing.{Arc, arcs_in}

-- the token goes to the port, or asks for an answer there
abbrev pub GoesTo : ℕ → ℕ → Port → Token → Type 0
GoesTo f ip q t = t.to ≡ To.Instr f ip q

abbrev pub AsksFor : ℕ → ℕ → Port → Token → Type 0
AsksFor f ip q t = t.word ≡ Word.Back (Cont.Frame f ip q)

-- the token links a landing of `size` instructions, and the port is one of them
abbrev pub Lands : ℕ → ℕ → ℕ → Port → Token → Type 0
Lands size f ip q t = (base : ℕ) × (t.word ≡ Word.Back (Cont.Frame f base Left)) × (base ≤ ip) × (ip < base + size) × (q ≡ Left)

-- An instruction of frame f makes the token: so it uses an arc into the port. A `give` uses its arc where it leaves the
-- slot empty: where it answers a waiter, its token goes to another place.
abbrev pub UsesBy : Plan → ℕ → ℕ → Port → Instr → Op → Token → Machine → Type 0
UsesBy p f ip q i (Link b) t new = GoesTo f ip q t ⊎ Lands (landing p b) f ip q t
UsesBy p f ip q i (Fetch a) t new = GoesTo f ip q t ⊎ AsksFor f ip q t
UsesBy p f ip q i (Store a) t new = GoesTo f ip q t ⊎ AsksFor f ip q t
UsesBy p f ip q i Frame t new = GoesTo f ip q t ⊎ AsksFor f ip q t
UsesBy p f ip q i (Ask o) t new = GoesTo f ip q t ⊎ AsksFor f ip q t
UsesBy p f ip q i (Give k) t new = GoesTo f ip q t × (new.store.slots f i.slot ≡ Empty)
UsesBy p f ip q i op t new = GoesTo f ip q t

-- A firing in frame f uses an arc x of block b into the port: a word that only happens to name the port is no use of it.
pub record UsesArc (p : Plan) (f ip : ℕ) (q : Port) (taken : Token) (made : List Token) (new : Machine) : Type 0 where
  pub b : ℕ
  pub x : Arc
  pub side : Port
  pub i : Instr
  pub t : Token
  pub is_arc : Contains (arcs_in p (slice_get p.program.blocks b)) x
  pub place : ip ≡ first_of p.program b + x.to.place
  pub port : q ≡ x.to.port
  pub taken_at : taken.to ≡ To.Instr f (first_of p.program b + x.from) side
  pub fired : instr_at p.program (first_of p.program b + x.from) ≡ Some i
  pub is_made : Contains made t
  pub uses : UsesBy p f ip q i i.op t new

-- some event of the run is of that kind, which is given what it took, what it made, and the state after it
abbrev pub SomeEvent : (K : Token → List Token → Machine → Type 0) (p : Program) (z : Size) (old : Machine) (events : Events) (new : Machine)
    → Run p z old events new → Type 0
SomeEvent K p z old [] new run = ⊥
SomeEvent K p z old (ev ∷ later) new run = K ev.1 run.1.made run.0 ⊎ SomeEvent K p z run.0 later new run.2
