-- The lemmas from which the proof that wired plans keep faith is composed. Each can be proved by itself.
use Rattle.std.specs.Prelude.{◌≡◌, ℕ, ◌+◌, ◌<◌, ◌≤◌, ◌⊎◌, ℤ, Bool, true, false, not, List, ◌∷◌, length, Some, None, count_by, Contains, IsPermutation, All}
use Rattle.std.specs.Prelude.{if◌then◌else◌}
use Rattle.tags.specs.declared.token.Port.{Port}
use Rattle.tags.specs.declared.token.Port.TheVariants.{Left, Right}
use Rattle.tags.specs.declared.token.Cont.{Cont}
use Rattle.tags.specs.declared.token.Word.{Word}
use Rattle.tags.specs.declared.token.To.{To}
use Rattle.tags.specs.declared.token.Token.{Token}
use Rattle.tags.specs.declared.slot.SlotState.TheVariants.{Waiter}
use Rattle.semantics.specs.declared.program.Op.TheVariants.{Open}
use Rattle.semantics.specs.declared.program.Mark.{Mark}
use Rattle.semantics.specs.Graph.{Flow}
use Rattle.semantics.specs.Meaning.{Context, State}
use Rattle.semantics.specs.Program.{Instr, instr_at}
use Rattle.semantics.specs.Rule.{token}
use Rattle.semantics.specs.Machine.{Machine, Size, Event, at_start, Resting, Wants, stuck_rule}
use Rattle.semantics.specs.Cause.{HasCause}
use Rattle.semantics.specs.Faithful as Faithful
use Rattle.semantics.specs.Faithful.{IsExact, IsSecondStore, HasStoreOfFull, NoReader, IsClean}
use Rattle.semantics.specs.Handed.{handed_by}
use Rattle.semantics.specs.Holders.{Holder}
use Rattle.semantics.specs.Credits.{IsPart, IsLoop}
use Rattle.semantics.specs.Plan.{Plan}
use Rattle.semantics.specs.Orderly.{met, is_at, often, is_entry, same_block, IsMarked, IsFreeAtRelease}
use Rattle.law_reuse.specs.Bounds.{OnlyAsks}
use Rattle.law_fresh_frames.specs.Alike.{HasLanding, offset_of}
use Rattle.law_confluence.specs.OrdersTotals.{total}
use Rattle.law_confluence.proofs.Net.{hit}
use Rattle.law_confluence.proofs.NetArms.{Proves}
use Rattle.law_net.specs.ContextsParts.{Part, Line, Merge, Gate, Landing, Shown, InCell, Sender, Framer, NextFramer, TurnValue, Linker, Result, NextSender}
use Rattle.law_net.specs.ContextsParts.{LastReturn, DrainReturn, Asker, End, Asked, NextAsked, Freed, Done, Opener, Giver, Taker, Drainer, Item, Firing, Spot}
use Rattle.law_net.specs.ContextsParts.{spot_of, same_spot, role_of}
use Rattle.law_net.specs.ContextsAround.{Choice}
use Rattle.law_net.specs.ContextsBlocks.{is_cell}
use Rattle.law_net.specs.Contexts.{Wires, block_in}
use Rattle.law_net.specs.ContextsFirings.{takes, makes, begins, IsProper}
use Rattle.law_net.specs.ContextsLaws.{Fits, WordFits, IsPredicate, InArm, is_true, source, says, Allowed, IsSoundNet, WordsFit, MeansOf, FiringIsMeant}
use Rattle.law_net.specs.ContextsMirror.{token_of, Past, no_past, after, WasUsed, Tracks}
use Rattle.law_net.specs.ContextsTheorem.{IsGood, WiredKeepsFaith, WiredCodeIsFaithful}

-- What holds along a run: the net follows the machine, it is sound, and the meaning follows it.
pub record Keeps (fl : Flow) (p : Plan) (w : Wires) (inputs : List ℤ) (q : Past) (m : Machine) : Type 0 where
  pub tracks : Tracks fl p w inputs q m
  pub sound : IsSoundNet fl w inputs tracks.net
  pub fits : WordsFit fl w inputs tracks.net
  pub state : State
  pub meant : MeansOf fl w inputs tracks.net state

abbrev pub InputsFit : Flow → List ℤ → Type 0
InputsFit fl inputs = length inputs ≡ Faithful.inputs_of fl

-- ---- M. MACHINE AND NET
-- The net begins as the machine starts.
abbrev pub Starts : Type 0
Starts = (fl : Flow) (p : Plan) (w : Wires) (inputs : List ℤ) → IsGood fl p w → InputsFit fl inputs
    → Tracks fl p w inputs no_past (at_start p.program inputs)

-- A token of the pool is that of an item on its way.
abbrev pub TokensAreItems : Type 0
TokensAreItems = (fl : Flow) (p : Plan) (w : Wires) (inputs : List ℤ) (q : Past) (m : Machine) (t : Token) (rest : List Token) → IsGood fl p w
    → (k : Keeps fl p w inputs q m) → IsPermutation m.pool (t ∷ rest)
    → (i : Item) × (others : List Item) × IsPermutation k.tracks.net.pending (i ∷ others) × (t ≡ token_of fl p w k.tracks.net.fired i)

-- Each event is some moves, by the part that takes the token.
pub data Doing : Type 0 where
  Inwards : Doing  -- along wires, or it waits for its other word
  Outwards : Doing  -- into another context
  Asking : Doing  -- for frames; to the host; frames on their way back
  OfCells : Doing
  OfCredits : Doing

abbrev pub doing_of : Flow → Context → Part → Doing
doing_of fl c (Line n) = if is_cell (block_in fl c) n then OfCells else Inwards
doing_of fl c (InCell n) = OfCells
doing_of fl c (Linker n) = Outwards
doing_of fl c (Sender n i) = Outwards
doing_of fl c (Result j) = Outwards
doing_of fl c (NextSender j) = Outwards
doing_of fl c (LastReturn j) = Outwards
doing_of fl c DrainReturn = Outwards
doing_of fl c Asker = Outwards
doing_of fl c End = Outwards
doing_of fl c (Framer n) = Asking
doing_of fl c NextFramer = Asking
doing_of fl c (Asked n) = Asking
doing_of fl c NextAsked = Asking
doing_of fl c Freed = Asking
doing_of fl c (Shown j) = Asking
doing_of fl c Done = Asking
doing_of fl c (Opener n) = OfCredits
doing_of fl c (Giver n) = OfCredits
doing_of fl c (Taker n) = OfCredits
doing_of fl c (Drainer n) = OfCredits
doing_of fl c r = Inwards

-- the event hands out no frame that was handed out before
abbrev pub Fresh : Past → Token → List Token → Type 0
Fresh q t made = (g : ℕ) → Contains (handed_by t.to made) g → Contains q.handed g → ⊥

abbrev pub EventsFollowBy : Doing → Type 0
EventsFollowBy doing = (fl : Flow) (p : Plan) (w : Wires) (inputs : List ℤ) (z : Size) (q : Past) (m new : Machine) (e : ℕ) (t : Token)
    → IsGood fl p w → (k : Keeps fl p w inputs q m)
    → (ev : Event p.program z e t m new) → Fresh q t ev.made → (i : Item) (others : List Item) → IsPermutation k.tracks.net.pending (i ∷ others)
    → t ≡ token_of fl p w k.tracks.net.fired i
    → doing_of fl i.context i.inlet.part ≡ doing → Tracks fl p w inputs (after p q e t m.store ev.made new) new

-- ---- D. DATA
pub data FiringGroup : Type 0 where
  OfNodes : FiringGroup
  OfMemory : FiringGroup
  OfCalls : FiringGroup
  OfTurns : FiringGroup
  OfStrict : FiringGroup
  OfControl : FiringGroup

abbrev pub group_of : Flow → Context → Part → FiringGroup
group_of fl c (Line n) = if is_cell (block_in fl c) n then OfMemory else OfNodes
group_of fl c (Merge n) = OfNodes
group_of fl c (Gate n) = OfNodes
group_of fl c (InCell n) = OfMemory
group_of fl c (Sender n i) = OfCalls
group_of fl c (Landing n j) = OfCalls
group_of fl c (Shown j) = OfCalls
group_of fl c (TurnValue j) = OfTurns
group_of fl c (Framer n) = OfStrict
group_of fl c r = OfControl

-- a proper firing of a lawful net is some activities
abbrev pub FiringsAreMeant : FiringGroup → Type 0
FiringsAreMeant group = (fl : Flow) (p : Plan) (w : Wires) (inputs : List ℤ) (f : Firing) (fired : List Firing) → IsGood fl p w
    → InputsFit fl inputs
    → All (Allowed fl w inputs fired) (takes fl f) → All (WordFits fl w) (takes fl f) → IsProper fl fired f → group_of fl f.context f.part ≡ group
    → FiringIsMeant fl w inputs f fired

-- ---- L. LAWS
abbrev pub AllFit : Flow → Wires → List Item → Type 0
AllFit fl w items = All (λ (i : Item). Fits fl w (spot_of i)) items

pub record WordsAreFit (fl : Flow) (w : Wires) (inputs : List ℤ) : Type 0 where
  pub makes_fit : (f : Firing) → AllFit fl w (takes fl f) → AllFit fl w (makes fl w f)
  pub begins_fit : AllFit fl w (begins inputs)
  pub words : (f : Firing) → AllFit fl w (takes fl f) → All (WordFits fl w) (takes fl f) → All (WordFits fl w) (makes fl w f)
  pub begin_words : All (WordFits fl w) (begins inputs)

abbrev pub hits_of : Flow → Wires → List ℤ → Spot → List Item → ℕ
hits_of fl w inputs x items = total (hit spot_of same_spot (takes fl) (makes fl w) (begins inputs) role_of x) items

abbrev pub Shows : Flow → Wires → List ℤ → Firing → Choice → Bool → Type 0
Shows fl w inputs f k t =
    Proves spot_of same_spot (takes fl) (makes fl w) (begins inputs) role_of (Fits fl w) (IsPredicate fl) is_true (InArm fl) (source fl w) (says fl) f k t

pub record InletsAreFed (fl : Flow) (w : Wires) (inputs : List ℤ) : Type 0 where
  pub begins_once : (x : Spot) → hits_of fl w inputs x (begins inputs) ≤ 1
  pub makes_once : (f : Firing) (x : Spot) → AllFit fl w (takes fl f) → hits_of fl w inputs x (makes fl w f) ≤ 1
  pub begins_apart : (f : Firing) (x : Spot) → AllFit fl w (takes fl f) → 0 < hits_of fl w inputs x (makes fl w f) → hits_of fl w inputs x (begins inputs) ≡ 0
  pub feeders : (f h : Firing) (x : Spot) → AllFit fl w (takes fl f) → AllFit fl w (takes fl h) → 0 < hits_of fl w inputs x (makes fl w f)
      → 0 < hits_of fl w inputs x (makes fl w h) → role_of f ≡ role_of h

pub record ArmsAreEntered (fl : Flow) (w : Wires) (inputs : List ℤ) : Type 0 where
  pub enters : (f : Firing) (i : Item) (k : Choice) (t : Bool) → AllFit fl w (takes fl f) → Contains (makes fl w f) i → InArm fl (spot_of i) k t
      → Shows fl w inputs f k t
  pub words : (f : Firing) (i : Item) (k : Choice) → AllFit fl w (takes fl f) → Contains (makes fl w f) i → IsPredicate fl (spot_of i) k
      → (role_of f ≡ source fl w k) × (says fl f ≡ is_true i)
  pub none_first : (i : Item) → Contains (begins inputs) i
      → ((k : Choice) (t : Bool) → InArm fl (spot_of i) k t → ⊥) × ((k : Choice) → IsPredicate fl (spot_of i) k → ⊥)

abbrev pub RivalsAreApart : Flow → Wires → List ℤ → Type 0
RivalsAreApart fl w inputs = (f h : Firing) → AllFit fl w (takes fl f) → AllFit fl w (takes fl h) → role_of f ≡ role_of h
    → ((x : Spot) × (0 < hits_of fl w inputs x (takes fl f)) × (0 < hits_of fl w inputs x (takes fl h)))
    ⊎ ((k : Choice) × (t : Bool) × Shows fl w inputs f k t × Shows fl w inputs h k (not t))

-- all four, of each good plan
abbrev pub HoldsOf : (Flow → Wires → List ℤ → Type 0) → Type 0
HoldsOf P = (fl : Flow) (p : Plan) (w : Wires) (inputs : List ℤ) → IsGood fl p w → InputsFit fl inputs → P fl w inputs

-- ---- ALONG A RUN. What holds wherever the run keeps to the net
abbrev pub OfRuns : (Flow → Plan → List ℤ → Past → Machine → Type 0) → Type 0
OfRuns P = (fl : Flow) (p : Plan) (w : Wires) (inputs : List ℤ) (q : Past) (m : Machine) → IsGood fl p w → InputsFit fl inputs
    → Keeps fl p w inputs q m → P fl p inputs q m

abbrev pub IsOnce : Flow → Plan → List ℤ → Past → Machine → Type 0
IsOnce fl p inputs q m = (f ip : ℕ) (r : Port) → often (instr_at p.program ip) ≡ false → count_by (λ (t : Token). is_at f ip r t.to) (met q.events m) ≤ 1

abbrev pub IsCaused : Flow → Plan → List ℤ → Past → Machine → Type 0
IsCaused fl p inputs q m = (f ip : ℕ) (r : Port) (k : Word) → is_entry p.program.blocks ip ≡ false → Contains m.pool (token (To.Instr f ip r) k)
    → WasUsed p q.steps f ip r

abbrev pub Agrees : Flow → Plan → List ℤ → Past → Machine → Type 0
Agrees fl p inputs q m = (f ip jp : ℕ) (k : Mark) (v u : Word) → IsMarked p ip k → IsMarked p jp k → same_block p.program.blocks ip jp ≡ true
    → Contains (met q.events m) (token (To.Instr f ip Right) v) → Contains (met q.events m) (token (To.Instr f jp Right) u) → v ≡ u

abbrev pub IsOfOneBlock : Flow → Plan → List ℤ → Past → Machine → Type 0
IsOfOneBlock fl p inputs q m = (f ip jp : ℕ) (r s : Port) (v u : Word) → Contains (met q.events m) (token (To.Instr f ip r) v)
    → Contains (met q.events m) (token (To.Instr f jp s) u) → same_block p.program.blocks ip jp ≡ true

abbrev pub IsMatching : Flow → Plan → List ℤ → Past → Machine → Type 0
IsMatching fl p inputs q m = (t : Token) → Contains m.pool t → stuck_rule p.program m.store t.to t.word ≡ None

pub record BoundIsKept (fl : Flow) (p : Plan) (inputs : List ℤ) (q : Past) (m : Machine) : Type 0 where
  pub never_above : (f : ℕ) (loop : Holder) (k ip s : ℕ) → IsPart p p.program loop (Open k) ip s
      → (base : ℕ) × IsLoop p p.program loop k s base × (q.granted f loop ≤ q.released f base + k)
  pub all_granted : (f : ℕ) (loop : Holder) (k ip s : ℕ) (v : Word) (c : Cont) → IsPart p p.program loop (Open k) ip s
      → Contains (met q.events m) (token (To.Instr f ip Left) v) → OnlyAsks m → m.store.slots f s ≡ Waiter c
      → (base : ℕ) × IsLoop p p.program loop k s base × (q.granted f loop ≡ q.released f base + k)

abbrev pub Lands : Flow → Plan → List ℤ → Past → Machine → Type 0
Lands fl p inputs q m = (f ip g base o : ℕ) (r : Port) (i : Instr) → instr_at p.program ip ≡ Some i → offset_of i.op ≡ Some o
    → Contains (met q.events m) (token (To.Instr f ip Left) (Word.Back (Cont.Frame g base r))) → HasLanding p base o

-- ---- E. ENDS
abbrev pub ReleasesLast : Flow → Plan → List ℤ → Past → Machine → Type 0
ReleasesLast fl p inputs q m = IsFreeAtRelease m

abbrev pub ExactAtRest : Flow → Plan → List ℤ → Past → Machine → Type 0
ExactAtRest fl p inputs q m = Resting m → (Wants m → ⊥) → IsExact fl inputs m

abbrev pub SecondStores : Flow → Plan → List ℤ → Past → Machine → Type 0
SecondStores fl p inputs q m = (x : ℕ) → HasStoreOfFull m x → IsSecondStore fl inputs x

abbrev pub CleanAtRest : Flow → Plan → List ℤ → Past → Machine → Type 0
CleanAtRest fl p inputs q m = Resting m → (Wants m → ⊥) → NoReader m → IsClean m

abbrev pub IsCausedByMeaning : Flow → Plan → List ℤ → Past → Machine → Type 0
IsCausedByMeaning fl p inputs q m = HasCause fl p.program inputs q.events m

-- ALL OF THEM
pub record AllPackages : Type 0 where
  pub starts : Starts
  pub tokens : TokensAreItems
  pub events : (doing : Doing) → EventsFollowBy doing
  pub meant : (group : FiringGroup) → FiringsAreMeant group
  pub words : HoldsOf WordsAreFit
  pub fed : HoldsOf InletsAreFed
  pub entered : HoldsOf ArmsAreEntered
  pub rivals : HoldsOf RivalsAreApart
  pub once : OfRuns IsOnce
  pub caused : OfRuns IsCaused
  pub agree : OfRuns Agrees
  pub block : OfRuns IsOfOneBlock
  pub matching : OfRuns IsMatching
  pub bound : OfRuns BoundIsKept
  pub lands : OfRuns Lands
  pub release : OfRuns ReleasesLast
  pub exact : OfRuns ExactAtRest
  pub second_store : OfRuns SecondStores
  pub clean : OfRuns CleanAtRest
  pub cause : OfRuns IsCausedByMeaning

-- THE COMPOSITION
abbrev pub PackagesSuffice : Type 0
PackagesSuffice = AllPackages → WiredKeepsFaith

abbrev pub PackagesSufficeForCode : Type 0
PackagesSufficeForCode = AllPackages → WiredCodeIsFaithful
