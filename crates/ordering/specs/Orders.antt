-- The order of all blocks.
use Rattle.std.specs.Prelude.{◌≡◌, ℕ, ◌≤◌, List, [], ◌++◌, length, sum_by, slice_get, Some}
use Rattle.tags.specs.declared.token.Token.{Token}
use Rattle.semantics.specs.Machine.{Events}
use Rattle.law_linearization.specs.History.{Block, events_in, blocks_by, LeavesTokens, AreBelow}
use Rattle.ordering.specs.declared.log.BlockLog.{BlockLog}
use Rattle.ordering.specs.declared.rest.Rest.{Rest}
use Rattle.ordering.specs.Noted.{noted_in}
use Rattle.ordering.specs.Logs.{Logs}
use Rattle.ordering.specs.Rests.{IsWhole, IsRestOf, Holds}

-- The log is a legal history of elements that have these logs.
pub record IsHistory {A : Type 0} (logs : List (BlockLog A)) (log : List Block) (start last : List Token) : Type 0 where
  pub leaves : LeavesTokens (length logs) start log last
  pub below : AreBelow (length logs) log
  pub noted : (e : ℕ) (l : BlockLog A) → slice_get logs e ≡ Some l → Logs (noted_in l) (blocks_by e log)

-- The events are those of a legal history that has the same blocks of each element, in their order, and leaves the same tokens.
pub record IsOrdered (n : ℕ) (log : List Block) (start last : List Token) (listed : Events) : Type 0 where
  pub history : List Block
  pub leaves : LeavesTokens n start history last
  pub below : AreBelow n history
  pub blocks : (e : ℕ) → blocks_by e history ≡ blocks_by e log
  pub events : listed ≡ events_in history

-- So far: what is left of the logs is a legal history from what is in the pool, and each such history goes after the events that have their place.
pub record OrderedSoFar (n : ℕ) (log : List Block) (start last : List Token) (amounts : Token → ℕ) (rests : List Rest) (events : Events) : Type 0 where
  pub tokens : List Token
  pub left : List Block
  pub holds : Holds amounts tokens
  pub leaves : LeavesTokens n tokens left last
  pub below : (e : ℕ) → n ≤ e → blocks_by e left ≡ []
  pub stands : (e : ℕ) (r : Rest) → slice_get rests e ≡ Some r → IsRestOf r (blocks_by e left)
  pub back : (next : List Block) → LeavesTokens n tokens next last → ((e : ℕ) → blocks_by e next ≡ blocks_by e left)
      → (whole : List Block) × LeavesTokens n start whole last × ((e : ℕ) → blocks_by e whole ≡ blocks_by e log) × (events_in whole ≡ events ++ events_in next)

-- of each of the first logs all is left
abbrev pub AreWholeSoFar : {A : Type 0} → List (BlockLog A) → List Rest → Type 0
AreWholeSoFar {A} logs rests = (e : ℕ) (r : Rest) → slice_get rests e ≡ Some r → (l : BlockLog A) × (slice_get logs e ≡ Some l)
    × IsWhole l.taken.items l.made.items l.blocks.items r

-- the same of all logs
abbrev pub AreWhole : {A : Type 0} → List (BlockLog A) → List Rest → Type 0
AreWhole logs rests = (length rests ≡ length logs) × AreWholeSoFar logs rests

-- how many blocks have no place yet
abbrev pub blocks_left : List Rest → ℕ
blocks_left rests = sum_by (λ r. length r.blocks.now) rests
