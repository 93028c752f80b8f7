-- When the code of a plan is that of another one with copies inserted: its instructions are in other places, and trees of copies
-- replace some destinations.
use Rattle.std.specs.Prelude.{◌≡◌, ℕ, ◌+◌, ◌≤◌, ◌<◌, Contains, true, false, List, [], ◌∷◌, ◌++◌, map, Some, IsPermutation, ⊤}
use Rattle.tags.specs.declared.token.Port.{Port}
use Rattle.tags.specs.declared.token.Port.TheVariants.{Left}
use Rattle.semantics.specs.declared.program.Dest.{Dest}
use Rattle.semantics.specs.declared.program.Op.{Op}
use Rattle.semantics.specs.declared.program.Op.TheVariants.{Copy, Switch, Link, Send}
use Rattle.semantics.specs.Program.{Instr, Program, first_of, instr_at}
use Rattle.semantics.specs.Machine.{outputs_of}
use Rattle.semantics.specs.Plan.{Plan, landing}
use Rattle.semantics.specs.declared.program.Mark.{Mark}
use Rattle.semantics.specs.Orderly.{inputs_of, often, is_entry, same_block, IsMarked, Orderly}
use Rattle.semantics.specs.Wired.{IsWired}
use Rattle.law_fresh_frames.specs.Alike.{LandsRightly, IsTidy, Keeps}
use Rattle.code.specs.Sound.{IsSound}
use Rattle.semantics.specs.Holders.{holder_at}
use Rattle.law_simulation.specs.Places.{Spot, is_answered}

-- A copy that is none of the moved instructions: it leads on to what is after it, and never to a `give` or a `take`.
pub record IsCopyAt (q : Program) (h : ℕ → ℕ) (ip : ℕ) (zs : List Spot) : Type 0 where
  pub i : Instr
  pub d : Dest
  pub e : Dest
  pub there : instr_at q ip ≡ Some i
  pub copies : i.op ≡ Copy
  pub first : i.firsts ≡ d ∷ []
  pub second : i.seconds ≡ e ∷ []
  pub fresh : (a : ℕ) → ip ≡ h a → ⊥
  pub later : (0 < d.ahead) × (0 < e.ahead)
  pub lone : (x : Spot) → Contains zs x → often (instr_at q (h x.0)) ≡ false

-- A port of the new code stands for these ports of the old code: the port of the moved instruction, or, if it is the port of a copy, those
-- for which the destinations of the copy stand.
pub data Replaces (q : Program) (h : ℕ → ℕ) : ℕ → Port → List Spot → Type 0 where
  here : (ip : ℕ) (r : Port) (zs : List Spot) (a : ℕ) → ip ≡ h a → zs ≡ (a, r) ∷ [] → Replaces q h ip r zs
  fork : (ip : ℕ) (r : Port) (zs xs ys : List Spot) (K : IsCopyAt q h ip zs) → r ≡ Left → Replaces q h (ip + K.d.ahead) K.d.port xs
      → Replaces q h (ip + K.e.ahead) K.e.port ys → zs ≡ xs ++ ys → Replaces q h ip r zs

-- the destinations of the instruction of that number
abbrev pub Lead : Program → (ℕ → ℕ) → ℕ → List Dest → List Spot → Type 0
Lead q h ip [] zs = zs ≡ []
Lead q h ip (d ∷ ds) zs = (xs : List Spot) × (ys : List Spot) × Replaces q h (ip + d.ahead) d.port xs × Lead q h ip ds ys × (zs ≡ xs ++ ys)

abbrev pub targets : ℕ → List Dest → List Spot
targets ip ds = map (λ (d : Dest). (ip + d.ahead, d.port)) ds

-- the new destinations of the one stand for the old destinations of the other, in whatever order
abbrev pub Leads : Program → (ℕ → ℕ) → ℕ → List Dest → ℕ → List Dest → Type 0
Leads q h ip ds a es = (zs : List Spot) × Lead q h ip ds zs × IsPermutation (targets a es) zs

-- what it enters is where it was
abbrev pub Enters : Program → Program → (ℕ → ℕ) → Op → Type 0
Enters p q h (Link b) = h (first_of p b) ≡ first_of q b
Enters p q h (Send b e) = h (first_of p b + e) ≡ first_of q b + e
Enters p q h op = ⊤

-- the instruction i of number a, in its new place
pub record IsMoved (p q : Program) (h : ℕ → ℕ) (a : ℕ) (i : Instr) : Type 0 where
  pub j : Instr
  pub there : instr_at q (h a) ≡ Some j
  pub op : j.op ≡ i.op
  pub origin : j.origin ≡ i.origin
  pub slot : j.slot ≡ i.slot
  pub all : Leads q h (h a) (j.firsts ++ j.seconds) a (i.firsts ++ i.seconds)
  pub firsts : i.op ≡ Switch → Leads q h (h a) j.firsts a i.firsts
  pub seconds : (i.op ≡ Switch → Leads q h (h a) j.seconds a i.seconds) × ((b : ℕ) → i.op ≡ Link b → Leads q h (h a) j.seconds a i.seconds)
  pub answered : is_answered i.op ≡ true
      → (d : Dest) × (e : Dest) × (i.firsts ≡ d ∷ []) × (j.firsts ≡ e ∷ []) × (h (a + d.ahead) ≡ h a + e.ahead) × (e.port ≡ d.port)
  pub enters : Enters p q h i.op

-- ALL OF IT. The instruction of number a has number h a in the new code.
pub record Spreads (p q : Plan) : Type 0 where
  pub h : ℕ → ℕ
  pub arrays : q.program.arrays ≡ p.program.arrays
  pub outputs : outputs_of q.program ≡ outputs_of p.program
  pub inputs : inputs_of q ≡ inputs_of p
  pub instrs : (a : ℕ) (i : Instr) → instr_at p.program a ≡ Some i → IsMoved p.program q.program h a i
  -- the landing of a link stays a row, and as long
  pub rows : (a callee o : ℕ) (i : Instr) (d : Dest) → instr_at p.program a ≡ Some i → i.op ≡ Link callee → i.firsts ≡ d ∷ [] → o < landing p callee
      → h (a + d.ahead + o) ≡ h (a + d.ahead) + o
  pub lengths : (b : ℕ) → landing q b ≡ landing p b
  -- each has its holder and its mark
  pub holders : (a : ℕ) → holder_at q (h a) ≡ holder_at p a
  pub marks : (a : ℕ) (m : Mark) → IsMarked q (h a) m → IsMarked p a m
  -- no two of them are at one place, and nothing else is
  pub apart : (a b : ℕ) → h a ≡ h b → a ≡ b
  pub alone : (a : ℕ) (j : Instr) → instr_at q.program (h a) ≡ Some j → (i : Instr) × (instr_at p.program a ≡ Some i)
  -- and every instruction of the new code stands for some
  pub all : (ip : ℕ) (j : Instr) → instr_at q.program ip ≡ Some j → (zs : List Spot) × Replaces q.program h ip Left zs
  -- ports stand for ports of the block in which they are
  pub blocks : (ip jp : ℕ) (r t : Port) (xs ys : List Spot) (x y : Spot) → Replaces q.program h ip r xs → Replaces q.program h jp t ys → Contains xs x
      → Contains ys y
      → same_block p.program.blocks x.0 y.0 ≡ true → same_block q.program.blocks ip jp ≡ true
  -- entries stay entries, and those of the main block are its first instructions
  pub starts : (a : ℕ) → is_entry p.program.blocks a ≡ true → is_entry q.program.blocks (h a) ≡ true
  pub entries : (n : ℕ) → n ≤ inputs_of p → h (first_of p.program p.program.main + n) ≡ first_of q.program q.program.main + n

-- A plan that is another one with copies inserted keeps what passes must keep.
abbrev pub SpreadPlansKeep : Type 0
SpreadPlansKeep = (p q : Plan) → Spreads p q → IsWired p → Orderly p → LandsRightly p → Keeps p q

-- And it stays tidy.
abbrev pub SpreadPlansStayTidy : Type 0
SpreadPlansStayTidy = (p q : Plan) → Spreads p q → IsSound p → IsTidy p → IsTidy q
