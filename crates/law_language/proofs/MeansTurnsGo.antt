-- Turns, one after another, make the loop.
use Rattle.std.proofs.Common.{◌≡◌, true, false, List, ◌++◌}
use Rattle.tags.specs.declared.value.Value.{Value}
use Rattle.operators.specs.Values.{truth}
use Rattle.source.specs.Tree.{Turn}
use Rattle.source.specs.Evaluates.{World, Env, Stores, Turns, leaves, goes, ends, again}
use Rattle.law_language.specs.Means.{OneTurn, stays, moves, tests}

-- a turn with a false flag is the last
pub last_turn : (w : World) (env : Env) (turn : Turn) (vs us : List Value) (b : Value) (ss : Stores) → OneTurn w env turn vs b us ss → truth b ≡ false
    → Turns w env turn vs us ss
last_turn w env turn vs us b ss (stays p f) e = leaves p f
last_turn w env turn vs us b ss (moves p t r) e = absurd (cc)
last_turn w env turn vs us b ss (tests r p) e = ends r p e

-- and one with a true flag is followed by the others
pub more_turns : (w : World) (env : Env) (turn : Turn) (vs us rs : List Value) (b : Value) (ss qs : Stores) → OneTurn w env turn vs b us ss → truth b ≡ true
    → Turns w env turn us rs qs
    → Turns w env turn vs rs (ss ++ qs)
more_turns w env turn vs us rs b ss qs (stays p f) e later = absurd (cc)
more_turns w env turn vs us rs b ss qs (moves p t r) e later = goes p t r later
more_turns w env turn vs us rs b ss qs (tests r p) e later = again r p e later
