-- What is proved of the machine's events and the net.
use Rattle.std.specs.Prelude.{ℕ}
use Rattle.law_net.specs.ContextsPackages.{Starts, TokensAreItems, EventsFollowBy, Doing, Inwards, Outwards, Asking, OfCells, OfCredits}

-- the net begins as the machine starts
abbrev pub AllStart : Type 0
AllStart = Starts

-- a token of the pool is that of an item
abbrev pub AllTokensAreItems : Type 0
AllTokensAreItems = TokensAreItems

-- events along wires, of all graphs
abbrev pub AllInwardsFollow : Type 0
AllInwardsFollow = EventsFollowBy Inwards

-- events that send into another context, of all graphs
abbrev pub AllOutwardsFollow : Type 0
AllOutwardsFollow = EventsFollowBy Outwards

-- fetches and stores, of all graphs
abbrev pub AllOfCellsFollow : Type 0
AllOfCellsFollow = EventsFollowBy OfCells

-- requests for frames, what arrives at the host, and frames that are handed back, of all graphs
abbrev pub AllAskingFollow : Type 0
AllAskingFollow = EventsFollowBy Asking

-- credits of loops, of all graphs
abbrev pub AllOfCreditsFollow : Type 0
AllOfCreditsFollow = EventsFollowBy OfCredits

-- all events, of all graphs
abbrev pub EventsFollow : Type 0
EventsFollow = (doing : Doing) → EventsFollowBy doing
