-- The laws of elements that run freely.
use Rattle.std.specs.Prelude.{◌≡◌, ◌≢◌, ℕ, zero, suc, ◌<◌, ◌≤◌, ℤ, List, [], ◌∷◌, ◌++◌, map, length, All, IsPermutation, slice_get, Some, true, false}
use Rattle.tags.specs.declared.token.Token.{Token}
use Rattle.semantics.specs.Program.{Program}
use Rattle.semantics.specs.Machine.{Store, Machine, Events, at_start}
use Rattle.semantics.specs.Report.{Report}
use Rattle.schedule.specs.Shown.{ShowsInOrder}
use Rattle.mesh.specs.declared.view.Deed.{Deed}
use Rattle.mesh.specs.declared.view.Deed.TheVariants.{Committed}
use Rattle.mesh.specs.Deeds.{Bundle, posted, taken, commits_by, commits_of, entry}
use Rattle.mesh.specs.declared.view.Commit.{Commit}
use Rattle.semantics.specs.Pool.{LeavesPool}
use Rattle.mesh.specs.Seats.{Account}
use Rattle.element.specs.Near.{IsNearToken}
use Rattle.element.specs.Parts.{Part, IsPart, SameElsewhere}
use Rattle.frame_order.specs.InOrder.{OrderedRun}
use Rattle.element.specs.Holding.{Holding}
use Rattle.element.specs.Steps.{Does}
use Rattle.schedule.specs.Setting.{Setting, size, IsGoodSetting}
use Rattle.schedule.specs.State.{AllFrom, IsBounded, IsSoundState, IsPlaced, tokens_in}
use Rattle.schedule.specs.Runs.{Began, HaltsAs}
use Rattle.schedule.specs.Reported.{ReportsLanes}
use Rattle.schedule.specs.Unlisted.{with_events}
use Rattle.schedule.specs.declared.halt.Halt.{Halt}
use Rattle.rounds.specs.Turns.{arriving}
use Rattle.law_linearization.specs.History.{Block, events_in, blocks_by, LeavesTokens, AreBelow, bounds_of, IsOwn, Acts, Begins, count_acts}

-- A step of a lane obeys the law of one event.
abbrev pub StepsAct : Type 0
StepsAct = (p : Program) (old new : Holding) (pick : ℕ) (before after : List Token) (step : Does p old pick before new after)
    → Acts p old.part step.token step.made new.part

-- An event of element e leaves the part of another element as it is.
abbrev pub ActsCommute : Type 0
ActsCommute = (g : Setting) (e i : ℕ) (mine other : Part) (old new : Store) → IsOwn g e mine → IsOwn g i other → i ≢ e → SameElsewhere mine.shape old new
    → IsPart other old → IsPart other new

-- What is known of the machine after a history. The run hands out frames in order.
pub record Came (g : Setting) (start : Machine) (log : List Block) (last : List Token) (parts : ℕ → Part) : Type 0 where
  pub machine : Machine
  pub run : OrderedRun g.program (size g) start (events_in log) machine
  pub pool : IsPermutation machine.pool last
  pub near : All (IsNearToken (bounds_of g)) machine.pool
  pub bounded : IsBounded g machine.store
  pub is : (e : ℕ) → e < g.elements → IsOwn g e (parts e) × IsPart (parts e) machine.store

-- A legal history of blocks is one run of the machine, whose events are those of the blocks, block by block.
abbrev pub RunOfHistory : Type 0
RunOfHistory =
    (g : Setting) (good : IsGoodSetting g) (log : List Block) (start : Machine) (last : List Token) (parts : ℕ → Part)
    → All (IsNearToken (bounds_of g)) start.pool → IsBounded g start.store → AreBelow g.elements log → LeavesTokens g.elements start.pool log last
    → ((e : ℕ) → e < g.elements → Begins g start log (parts e) e) → Came g start log last parts

-- Where the next block of element e in a legal history has its tokens in the pool, it may be taken first: what is left is legal, has the other blocks
-- in their order, and leaves the same tokens.
abbrev pub TakesFirst : Type 0
TakesFirst =
    (n : ℕ) (e : ℕ) (b : Block) (later log : List Block) (tokens rest last : List Token) → LeavesTokens n tokens log last → blocks_by e log ≡ b ∷ later
    → IsPermutation tokens (b.spent ++ rest)
    → (left : List Block) × LeavesTokens n (b.made ++ rest) left last × (blocks_by e left ≡ later) × ((i : ℕ) → i ≢ e → blocks_by i left ≡ blocks_by i log)
    × (length log ≡ suc (length left))

-- what a lane held at first, and what it made and took, is what it holds, spent and posted
abbrev pub made_of : List Deed → List Token
made_of [] = []
made_of (Committed spent made ∷ ds) = made ++ made_of ds
made_of (d ∷ ds) = made_of ds

abbrev pub spent_of : List Deed → List Token
spent_of [] = []
spent_of (Committed spent made ∷ ds) = spent ++ spent_of ds
spent_of (d ∷ ds) = spent_of ds

abbrev pub joined : List Bundle → List Token
joined [] = []
joined (x ∷ xs) = x ++ joined xs

-- the same, for the accounts of all elements: all bundles posted to the elements below a number, and all taken from them
abbrev pub all_posted : ℕ → List Deed → List Token
all_posted zero ds = []
all_posted (suc n) ds = all_posted n ds ++ joined (posted n ds)

abbrev pub all_taken : ℕ → List Deed → List Token
all_taken zero ds = []
all_taken (suc n) ds = all_taken n ds ++ joined (taken n ds)

-- the account of an element that began with these tokens is balanced
abbrev pub IsBalanced : ℕ → List Token → Account → Type 0
IsBalanced n began a = IsPermutation (began ++ (made_of a.deeds ++ all_taken n a.deeds)) (a.held ++ (spent_of a.deeds ++ all_posted n a.deeds))

-- f 0, f 1, .., one after the other, for all numbers below the given one
abbrev pub all_of : ℕ → (ℕ → List Token) → List Token
all_of zero f = []
all_of (suc n) f = all_of n f ++ f n

-- WHAT IS LEFT. Each of n elements did these deeds, and its account is balanced: what it began with, made and took is what it holds, spent and
-- posted. The history has just the commits of all, and what was posted is what was taken and what lies in the boxes. Then the history
-- leaves just what all elements hold and all boxes.
abbrev pub WhatIsLeft : Type 0
WhatIsLeft =
    (n : ℕ) (start last : List Token) (log : List Commit) (deeds : ℕ → List Deed) (held began : ℕ → List Token) (boxes : ℕ → ℕ → List Token)
    → LeavesPool n start (map entry log) last
    → ((e : ℕ) → n ≤ e → commits_by e log ≡ [])
    → ((e : ℕ) → e < n → commits_by e log ≡ commits_of e (deeds e))
    → ((e : ℕ) → e < n → IsBalanced n (began e) (record { element = e; deeds = deeds e; held = held e; last = log }))
    → IsPermutation start (all_of n began)
    → ((a b : ℕ) → a < n → b < n → joined (posted b (deeds a)) ≡ joined (taken a (deeds b)) ++ boxes a b)
    → IsPermutation last (all_of n held ++ all_of n (λ a. all_of n (λ b. boxes a b)))

-- What a lane holds at the end is known of the run: the form that a report wants.
abbrev pub BeganFreely : Type 0
BeganFreely =
    (g : Setting) (good : IsGoodSetting g) (inputs : List ℤ) (lanes : List Holding) (log : List Block) (last tokens : List Token)
    → length lanes ≡ g.elements → AllFrom (IsPlaced g) 0 lanes
    → All (IsNearToken (bounds_of g)) (at_start g.program inputs).pool → IsBounded g (at_start g.program inputs).store
    → AreBelow g.elements log → LeavesTokens g.elements (at_start g.program inputs).pool log last
    → ((e : ℕ) (h : Holding) → slice_get lanes e ≡ Some h → Begins g (at_start g.program inputs) log h.part e × (h.made ≡ count_acts (blocks_by e log)))
    → IsPermutation last (tokens_in (arriving g lanes tokens).lanes)
    → Began inputs (arriving g lanes tokens) (events_in log)

-- The report of lanes that ran freely shows a run: with the events of a legal history of their blocks it lists them, and with
-- none it shows that run except for its events.
abbrev pub ShowsFreely : Type 0
ShowsFreely =
    (g : Setting) (good : IsGoodSetting g) (inputs : List ℤ) (lanes : List Holding) (log : List Block) (last tokens : List Token) (list : Events) (halt : Halt)
    (r : Report)
    → IsSoundState (arriving g lanes tokens) → length lanes ≡ g.elements → AllFrom (IsPlaced g) 0 lanes
    → All (IsNearToken (bounds_of g)) (at_start g.program inputs).pool → IsBounded g (at_start g.program inputs).store
    → AreBelow g.elements log → LeavesTokens g.elements (at_start g.program inputs).pool log last
    → ((e : ℕ) (h : Holding) → slice_get lanes e ≡ Some h → Begins g (at_start g.program inputs) log h.part e × (h.made ≡ count_acts (blocks_by e log)))
    → IsPermutation last (tokens_in (arriving g lanes tokens).lanes)
    → ReportsLanes g lanes list halt r → HaltsAs (arriving g lanes tokens) false halt
    → (shown : Events) × ShowsInOrder g.program (size g) inputs g.steps false false (with_events r shown) × (list ≡ events_in log → r.events ≡ shown)

-- The same of lanes that were stopped.
abbrev pub StopsFreely : Type 0
StopsFreely =
    (g : Setting) (good : IsGoodSetting g) (inputs : List ℤ) (lanes : List Holding) (log : List Block) (last tokens : List Token) (list : Events) (r : Report)
    → IsSoundState (arriving g lanes tokens) → length lanes ≡ g.elements → AllFrom (IsPlaced g) 0 lanes
    → All (IsNearToken (bounds_of g)) (at_start g.program inputs).pool → IsBounded g (at_start g.program inputs).store
    → AreBelow g.elements log → LeavesTokens g.elements (at_start g.program inputs).pool log last
    → ((e : ℕ) (h : Holding) → slice_get lanes e ≡ Some h → Begins g (at_start g.program inputs) log h.part e × (h.made ≡ count_acts (blocks_by e log)))
    → IsPermutation last (tokens_in (arriving g lanes tokens).lanes)
    → ReportsLanes g lanes list Halt.Stop r
    → (shown : Events) × ShowsInOrder g.program (size g) inputs g.steps false true (with_events r shown) × (list ≡ events_in log → r.events ≡ shown)
