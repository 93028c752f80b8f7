-- From the seats of elements that ran freely to one run of the machine.
use Rattle.std.specs.Prelude.{◌≡◌, ℕ, ◌+◌, ◌<◌, ℤ, List, [], ◌++◌, map, length, IsPermutation, slice_get, Some}
use mathlib.Core.Option.{some}
use lib.ListN.{get_elem?}
use Rattle.tags.specs.declared.token.Token.{Token}
use Rattle.semantics.specs.Machine.{Events}
use Rattle.mesh.specs.Deeds.{commits_of}
use Rattle.mesh.specs.Seats.{Account, SeatView, accounts, Leaves, HasCommits, Agree, IsFinal}
use Rattle.element.specs.Holding.{Holding}
use Rattle.schedule.specs.Setting.{Setting, IsGoodSetting}
use Rattle.schedule.specs.State.{IsSoundState, IsPlaced, tokens_in}
use Rattle.schedule.specs.Runs.{Began}
use Rattle.rounds.specs.Turns.{arriving}
use Rattle.law_linearization.specs.History.{Block, events_in, blocks_by, LeavesTokens, AreBelow, commit_of, Blocks, count_acts}
use Rattle.law_linearization.specs.HistoryLaws.{IsBalanced}

-- What element e did in its thread, from its first lane to its last one: blocks of events, each with one commit of its seat. What its
-- seat holds is what lies in its queue, and what it kept: tokens for others, and tokens that have no place in its queue. Whether these
-- name frames and cells that exist is not known here.
pub record Ran (g : Setting) (e : ℕ) (old : Holding) (a : Account) (new : Holding) (kept : List Token) (blocks : List Block) : Type 0 where
  pub element : a.element ≡ e
  pub placed : IsPlaced g e new
  pub led : Blocks g e old.part blocks new.part
  pub commits : commits_of e a.deeds ≡ map commit_of blocks
  pub made : new.made ≡ old.made + count_acts blocks
  pub balanced : IsBalanced g.elements old.queue a
  pub held : IsPermutation a.held (new.queue ++ kept)

-- the same of all elements
abbrev pub AllRan : Setting → List Holding → List Account → List Holding → (ℕ → List Token) → (ℕ → List Block) → Type 0
AllRan g olds all news kept blocks =
    (e : ℕ) (old new : Holding) (a : Account) → slice_get olds e ≡ Some old → get_elem? all e ≡ some a → slice_get news e ≡ Some new
    → Ran g e old a new (kept e) (blocks e)

-- What is known after the join: with tokens on their way (those that elements kept, and those in boxes) the lanes are those of a run, which
-- goes on from the events before with those of a legal history that has just the blocks of each element.
pub record Ended (g : Setting) (s : SeatView) (inputs : List ℤ) (before : Events) (news : List Holding) (blocks : ℕ → List Block) : Type 0 where
  pub tokens : List Token
  pub log : List Block
  pub last : List Token
  pub legal : LeavesTokens g.elements s.mesh.start log last
  pub below : AreBelow g.elements log
  pub own : (e : ℕ) → e < g.elements → blocks_by e log ≡ blocks e
  pub sound : IsSoundState (arriving g news tokens)
  pub began : Began inputs (arriving g news tokens) (before ++ events_in log)
  -- and for every other legal history with the same blocks
  pub any : (other : List Block) → LeavesTokens g.elements s.mesh.start other last → AreBelow g.elements other
      → ((e : ℕ) → blocks_by e other ≡ blocks_by e log) → Began inputs (arriving g news tokens) (before ++ events_in other)
  -- where an element saw a history that leaves no token, none is left
  pub rest : (e : ℕ) (a : Account) → get_elem? (accounts s) e ≡ some a → Leaves s.mesh a.last 0 → tokens_in (arriving g news tokens).lanes ≡ []

-- THE END OF A FREE RUN. The seats were joined; the mesh began with the tokens of the lanes.
abbrev pub EndsFreely : Type 0
EndsFreely =
    (g : Setting) (good : IsGoodSetting g) (s : SeatView) (count : ℕ) (olds news : List Holding) (kept : ℕ → List Token) (blocks : ℕ → List Block)
    → s.mesh.elements ≡ g.elements → IsPermutation s.mesh.start (tokens_in olds)
    → Leaves s.mesh s.seen count → HasCommits s → Agree s → IsFinal s → length (accounts s) ≡ g.elements
    → IsSoundState (arriving g olds []) → length news ≡ g.elements
    → AllRan g olds (accounts s) news kept blocks
    → (inputs : List ℤ) (before : Events) → Began inputs (arriving g olds []) before → Ended g s inputs before news blocks
