-- That runs over a plan look like runs over another one, up to faithfulness, and what a pass must keep.
use Rattle.std.specs.Prelude.{◌≡◌, ℕ, ◌+◌, ◌<◌, ◌≤◌, false, ℤ, List, [], ◌∷◌, ◌++◌, Option, Some, None, length, slice_get, Contains}
use Rattle.tags.specs.declared.token.Port.TheVariants.{Left}
use Rattle.tags.specs.declared.token.Port.{Port}
use Rattle.tags.specs.declared.token.Cont.{Cont}
use Rattle.tags.specs.declared.token.Word.{Word}
use Rattle.tags.specs.declared.token.To.{To}
use Rattle.semantics.specs.declared.program.Dest.{Dest}
use Rattle.semantics.specs.declared.program.Op.{Op}
use Rattle.semantics.specs.declared.program.Op.TheVariants.{Link, Return, Ask, Release}
use Rattle.semantics.specs.Graph.{Flow}
use Rattle.semantics.specs.Program.{Instr, CodeBlock, first_of, instr_at}
use Rattle.semantics.specs.Rule.{token}
use Rattle.semantics.specs.Machine.{Machine, Size, Events, Run, at_start, Resting, Wants, reader_count, value_in}
use Rattle.semantics.specs.Cause.{HasBounds, request_count, credit_count}
use Rattle.semantics.specs.Faithful.{HasStoreOfFull, IsClean}
use Rattle.semantics.specs.Handed.{UsesEachOnce}
use Rattle.semantics.specs.Plan.{Plan, landing}
use Rattle.semantics.specs.Orderly.{Orderly, IsStart, inputs_of, met, often}
use Rattle.code.specs.Sound.{IsSound}
use Rattle.law_reuse.specs.Bounds.{PlanKeepsBounds}
use Rattle.law_reuse.specs.Frames.{TakesInputs}
use Rattle.law_fresh_frames.specs.Fresh.{FaithfulOnce}

-- the state m of a run looks like the state u of another one
pub record LooksAlike (m u : Machine) : Type 0 where
  pub outputs : (j : ℕ) → m.store.outputs j ≡ u.store.outputs j
  pub cells : (x : ℕ) → value_in (m.store.cells x) ≡ value_in (u.store.cells x)
  pub readers : (x : ℕ) → reader_count (m.store.cells x) ≡ reader_count (u.store.cells x)
  pub rests : Resting m → Resting u
  pub wants : Wants u → Wants m
  pub second_store : (x : ℕ) → HasStoreOfFull m x → HasStoreOfFull u x
  pub clean : IsClean u → IsClean m

-- the run over p that looks like one over q
pub record HasAlike (p q : Plan) (z : Size) (inputs : List ℤ) (events : Events) (m : Machine) : Type 0 where
  pub done : Events
  pub last : Machine
  pub run : Run p.program z (at_start p.program inputs) done last
  pub once : UsesEachOnce p.program z inputs done last run
  pub alike : LooksAlike m last
  pub requests : request_count events ≡ request_count done
  pub credits : credit_count q.program events ≡ credit_count p.program done

-- each run over q that uses each frame once looks like one over p
abbrev pub RunsAlike : Plan → Plan → Type 0
RunsAlike p q = (inputs : List ℤ) (z : Size) (events : Events) (m : Machine) → IsStart q z inputs → (run : Run q.program z (at_start q.program inputs) events m)
    → UsesEachOnce q.program z inputs events m run → HasAlike p q z inputs events m

-- So q is as faithful as p.
abbrev pub AlikeIsFaithful : Type 0
AlikeIsFaithful = (fl : Flow) (p q : Plan) → q.program.arrays ≡ p.program.arrays → HasBounds fl q.program → inputs_of q ≡ inputs_of p → RunsAlike p q
    → TakesInputs fl q → FaithfulOnce fl p.program → FaithfulOnce fl q.program

-- OFFSETS. What no plan says by itself: a word that arrives at a `return`, an `ask` or a `release` is the continuation of a
-- link with so long a landing, or the host's.
abbrev pub offset_of : Op → Option ℕ
offset_of (Return o) = Some o
offset_of (Ask o) = Some o
offset_of (Release o) = Some o
offset_of op = None

-- the number begins the landing of a link, and the landing is longer than that
pub record HasLanding (p : Plan) (base o : ℕ) : Type 0 where
  pub b : ℕ
  pub n : ℕ
  pub c : CodeBlock
  pub i : Instr
  pub d : Dest
  pub callee : ℕ
  pub block : slice_get p.program.blocks b ≡ Some c
  pub instr : slice_get c.instrs n ≡ Some i
  pub links : i.op ≡ Link callee
  pub lands : i.firsts ≡ d ∷ []
  pub begins : base ≡ first_of p.program b + (n + d.ahead)
  pub within : o < landing p callee
  pub inside : n + d.ahead + o < length c.instrs

abbrev pub LandsRightly : Plan → Type 0
LandsRightly p = (inputs : List ℤ) (z : Size) (events : Events) (m : Machine) → IsStart p z inputs
    → (run : Run p.program z (at_start p.program inputs) events m)
    → UsesEachOnce p.program z inputs events m run → (f ip g base o : ℕ) (r : Port) (i : Instr) → instr_at p.program ip ≡ Some i → offset_of i.op ≡ Some o
    → Contains (met events m) (token (To.Instr f ip Left) (Word.Back (Cont.Frame g base r))) → HasLanding p base o

-- TIDY PLANS. What they keep besides, which soundness of a plan does not state
-- the destinations of an instruction, except for a link's landing
abbrev pub plain_dests : Instr → Op → List Dest
plain_dests i (Link b) = i.seconds
plain_dests i op = i.firsts ++ i.seconds

pub record IsTidy (p : Plan) : Type 0 where
  -- a landing is in the block of its link
  pub landings : (b n : ℕ) (c : CodeBlock) (i : Instr) (d : Dest) (callee : ℕ) → slice_get p.program.blocks b ≡ Some c → slice_get c.instrs n ≡ Some i
      → i.op ≡ Link callee
      → i.firsts ≡ d ∷ [] → n + d.ahead + landing p callee ≤ length c.instrs
  -- only what is sent by a continuation goes to a `give` or a `take`
  pub once : (b n : ℕ) (c : CodeBlock) (i : Instr) (d : Dest) → slice_get p.program.blocks b ≡ Some c → slice_get c.instrs n ≡ Some i
      → Contains (plain_dests i i.op) d
      → often (instr_at p.program (first_of p.program b + n + d.ahead)) ≡ false

-- WHAT A PASS MUST KEEP, besides that a sound plan stays sound
pub record Keeps (p q : Plan) : Type 0 where
  pub alike : RunsAlike p q
  pub orderly : Orderly q
  pub lands : LandsRightly q
  pub bounds : PlanKeepsBounds p → PlanKeepsBounds q

abbrev pub PassKeeps : (Plan → Plan) → Type 0
PassKeeps pass = (p : Plan) → IsSound p → Orderly p → LandsRightly p → IsTidy p → Keeps p (pass p)
