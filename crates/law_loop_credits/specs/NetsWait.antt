-- Of wired plans: where an iteration waits for a credit, its loop has outgrown its bound.
use Rattle.std.specs.Prelude.{◌≡◌, ℕ, ◌<◌, ℤ, true, List, [], ◌∷◌, Some, Contains}
use Rattle.tags.specs.declared.value.Value.{Value}
use Rattle.tags.specs.declared.token.Cont.{Cont}
use Rattle.tags.specs.declared.slot.SlotState.TheVariants.{Waiter}
use Rattle.semantics.specs.Graph.{Flow}
use Rattle.semantics.specs.Meaning.{Context, State, Activity, Fires, Run, Stood, Due, start}
use Rattle.semantics.specs.Machine.{Machine, Resting}
use Rattle.semantics.specs.Plan.{Plan}
use Rattle.source.specs.Theorem.{RestsWell}
use Rattle.law_net.specs.ContextsParts.{Opener}
use Rattle.law_net.specs.ContextsBlocks.{is_loop}
use Rattle.law_net.specs.Contexts.{Wires, block_in, wiring_in, IsContext}
use Rattle.law_net.specs.ContextsFirings.{Config, frame_at}
use Rattle.law_net.specs.ContextsMirror.{Past, granted_of}
use Rattle.law_net.specs.ContextsTheorem.{IsGood}
use Rattle.law_net.specs.ContextsPackages.{InputsFit, Keeps}
use Rattle.law_loops_complete.specs.Loops.{SomeOutgrows}
use Rattle.law_loops_complete.specs.Within.{SomeKeepsWithin}
use Rattle.law_loop_credits.specs.Waits.{WaitShows}

-- What waiting shows wherever a run of the plan keeps to the net
abbrev pub NetWaitsShow : (List ℤ → Type 0) → (List ℤ → Type 0) → Flow → Plan → Wires → Type 0
NetWaitsShow A B fl p w = (inputs : List ℤ) (past : Past) (m : Machine) → InputsFit fl inputs → Keeps fl p w inputs past m
    → WaitShows (A inputs) (B inputs) m

-- THE LAW of the net: the loop has outgrown its bound.
abbrev pub NetsWaitForMore : Type 0
NetsWaitForMore = (fl : Flow) (p : Plan) (w : Wires) → IsGood fl p w → NetWaitsShow (SomeOutgrows fl) (SomeOutgrows fl) fl p w

-- Iteration u of the loop at node n of c waits for its credit: it asks by the take of the loop, whose slot has its continuation.
pub record TakeWaits (fl : Flow) (w : Wires) (m : Machine) (net : Config) (c : Context) (n u : ℕ) : Type 0 where
  pub is_context : IsContext fl c
  pub is_loop' : is_loop (block_in fl c) n ≡ true
  pub frame : ℕ
  pub has_frame : frame_at fl net.fired c ≡ Some frame
  pub asker : Cont
  pub asks : m.store.slots frame ((wiring_in fl w c).slot (Opener n)) ≡ Waiter asker
  pub number : granted_of net c n ≡ u

-- WHERE THE MEANING RESTS WELL no token is left, and each input of each invocation that is due has passed. So it is for each graph.
pub record EndsWell (fl : Flow) (inputs : List ℤ) : Type 0 where
  pub none_left : (s : State) → RestsWell fl inputs s → s.tokens ≡ []
  pub passes : (s : State) (run : List Activity) (r : Run fl (start inputs) run s) → RestsWell fl inputs s → (c : Context)
      → Due fl run (Stood fl (start inputs) run s r) c → (l : ℕ) → l < (block_in fl c).inputs → (v : Value) × Contains run (Fires c l (v ∷ []))

-- WITHIN. A wired plan at rest, with no frame wanted, waits for a credit only where no run of the meaning keeps within.
abbrev pub NetsStarveOutside : Type 0
NetsStarveOutside = (fl : Flow) (p : Plan) (w : Wires) → IsGood fl p w → (inputs : List ℤ) (past : Past) (m : Machine) → InputsFit fl inputs
    → Keeps fl p w inputs past m → (f s : ℕ) (c : Cont) → m.store.slots f s ≡ Waiter c → Resting m → m.store.requests ≡ []
    → SomeKeepsWithin fl inputs → EndsWell fl inputs → ⊥
