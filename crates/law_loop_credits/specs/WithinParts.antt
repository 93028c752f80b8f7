-- The parts of the law that wired plans starve for credits alone only where no run of the meaning keeps within.
use Rattle.std.specs.Prelude.{◌≡◌, ℕ, suc, ◌+◌, ◌<◌, ◌⊎◌, ℤ, List, [], Contains}
use Rattle.semantics.specs.Graph.{Flow}
use Rattle.semantics.specs.Meaning.{Context, Turned, Tagged, State, Activity, Step, Run, start}
use Rattle.semantics.specs.Machine.{Machine, Resting}
use Rattle.semantics.specs.Plan.{Plan}
use Rattle.source.specs.Theorem.{RestsWell}
use Rattle.law_net.specs.ContextsParts.{Giver, Item}
use Rattle.law_net.specs.Contexts.{Wires}
use Rattle.law_net.specs.ContextsFirings.{Config}
use Rattle.law_net.specs.ContextsMirror.{Past}
use Rattle.law_net.specs.ContextsTheorem.{IsGood}
use Rattle.law_net.specs.ContextsPackages.{InputsFit, Keeps}
use Rattle.law_end.proofs.RestStory.{story}
use Rattle.law_loops_complete.specs.Within.{place_of, IsIn}
use Rattle.law_loop_credits.specs.NetsWait.{TakeWaits, EndsWell}

-- what iteration t gave back waits
pub record IsGivenBack (net : Config) (c : Context) (n t : ℕ) : Type 0 where
  pub give : Item
  pub waits : Contains net.waiting give
  pub of_loop : give.context ≡ c
  pub at_giver : give.inlet.part ≡ Giver n
  pub number : give.inlet.way ≡ t

-- WHAT HOLDS at rest, with no frame wanted
abbrev pub AtRestOf : ((fl : Flow) (p : Plan) (w : Wires) (inputs : List ℤ) (past : Past) (m : Machine) (good : IsGood fl p w) (fit : InputsFit fl inputs)
    → Keeps fl p w inputs past m → Type 0) → Type 0
AtRestOf P = (fl : Flow) (p : Plan) (w : Wires) (inputs : List ℤ) (past : Past) (m : Machine) (good : IsGood fl p w) (fit : InputsFit fl inputs)
    (kept : Keeps fl p w inputs past m) → Resting m → m.store.requests ≡ [] → P fl p w inputs past m good fit kept

pub record NextOfTurn (fl : Flow) (w : Wires) (m : Machine) (net : Config) (x : Activity) : Type 0 where
  pub context : Context
  pub node : ℕ
  pub turn : ℕ
  pub waits : TakeWaits fl w m net context node turn
  pub inside : IsIn (Turned context node turn) (place_of x)

-- an activity that is enabled in the meaning is of an iteration whose take waits,
abbrev pub NextIsHeld : Type 0
NextIsHeld = AtRestOf (λ fl p w inputs past m good fit kept. (x : Activity) (v : State) → Step fl x (story fl p w inputs past m good fit kept).state v
    → NextOfTurn fl w m kept.tracks.net x)

-- and where a take waits the meaning is not over: a token stands in the iteration that asks, or in the next one;
pub record TokenOfTurn (s : State) (c : Context) (n u : ℕ) : Type 0 where
  pub before : ℕ
  pub next : u ≡ suc before
  pub token : Tagged
  pub stands : Contains s.tokens token
  pub place : (token.context ≡ Turned c n before) ⊎ (token.context ≡ Turned c n u)

abbrev pub HeldHasToken : Type 0
HeldHasToken = AtRestOf (λ fl p w inputs past m good fit kept. (c : Context) (n u : ℕ) → TakeWaits fl w m kept.tracks.net c n u
    → TokenOfTurn (story fl p w inputs past m good fit kept).state c n u)

-- and an iteration before the one that asks has given back its credit if all has happened that any run to the end has in it.
abbrev pub DoneIsGivenBack : Type 0
DoneIsGivenBack = AtRestOf (λ fl p w inputs past m good fit kept. (c : Context) (n u t : ℕ) → TakeWaits fl w m kept.tracks.net c n u → t + 1 < u
    → EndsWell fl inputs → (whole : List Activity) (e : State) → RestsWell fl inputs e → Run fl (start inputs) whole e
    → ((a : Activity) → Contains whole a → IsIn (Turned c n t) (place_of a) → Contains (story fl p w inputs past m good fit kept).run a)
    → IsGivenBack kept.tracks.net c n t)
