-- What is proved of what the machine shows, for all graphs.
use Rattle.std.specs.Prelude.{ℕ}
use Rattle.law_net.specs.ContextsPackages.{OfRuns, SecondStores, ExactAtRest, IsCausedByMeaning}

-- a store that meets a full cell does so in the meaning
abbrev pub AllSecondStores : Type 0
AllSecondStores = OfRuns SecondStores

-- at rest the machine shows what the graph means
abbrev pub AllExactAtRest : Type 0
AllExactAtRest = OfRuns ExactAtRest

-- each frame and each credit is for an invocation that the meaning calls for
abbrev pub AllCausedByMeaning : Type 0
AllCausedByMeaning = OfRuns IsCausedByMeaning
