-- The books of a run's events, as contracts see them.
use Rattle.std.specs.Prelude.{ℕ, List}
use Rattle.tags.specs.declared.token.Token.{Token}
use Rattle.replay.specs.declared.moment.Deed.{Deed}
use Rattle.replay.specs.declared.entry.Change.{Change}

-- of an event: the number of the token that it took, what it did, what it changed, and the tokens that it made
pub record EntryView : Type 0 where
  pub number : ℕ
  pub deed : Deed
  pub change : Change
  pub made : List Token

-- of events from one on: what the earlier ones changed; the tokens that are on their way then, their numbers, and the number that the
-- next one gets; and the entries of the events
pub record BooksView : Type 0 where
  pub changes : List Change
  pub tokens : List Token
  pub numbers : List ℕ
  pub next : ℕ
  pub entries : List EntryView
