-- When the last part of a context has fired: all parts in open arms have fired, nothing of the context is left, and what it invoked is
-- over.
use Rattle.std.specs.Prelude.{◌≡◌, ℕ, ◌≤◌, ℤ, Bool, true, false, List, ◌++◌, Contains}
use Rattle.semantics.specs.declared.graph.Region.{Region}
use Rattle.semantics.specs.declared.graph.Region.TheVariants.{Arm}
use Rattle.semantics.specs.Graph.{Flow}
use Rattle.semantics.specs.Meaning.{Context, Called, Turned}
use Rattle.semantics.specs.Cause.{is_turn}
use Rattle.semantics.specs.Machine.{Machine}
use Rattle.semantics.specs.Plan.{Plan}
use Rattle.law_net.specs.ContextsParts.{Part, Giver, Taker, Drainer, Drained, Asked, NextAsked, InCell, CallDone, LoopDone, End, Shown, Done, Freed}
use Rattle.law_net.specs.ContextsParts.{Item, Firing}
use Rattle.law_net.specs.ContextsParts.{role_of}
use Rattle.law_net.specs.ContextsBlocks.{there_in, invokes, is_cell, is_loop, lies_in, region_of, flag}
use Rattle.law_net.specs.Contexts.{Wires, block_in, site_in, wiring_in}
use Rattle.law_net.specs.ContextsAround.{Choice, Way}
use Rattle.law_net.specs.ContextsFirings.{Config, HasFired}
use Rattle.law_net.specs.ContextsLaws.{in_region, source, says}
use Rattle.law_net.specs.ContextsMirror.{Past}
use Rattle.law_net.specs.ContextsTheorem.{IsGood}
use Rattle.law_net.specs.ContextsPackages.{InputsFit, Keeps}

-- OPEN ARMS. A conditional, or a flag, was decided for a side by what has fired.
abbrev pub IsDecided : Flow → Wires → List Firing → Choice → Bool → Type 0
IsDecided fl w fired k t = (h : Firing) × Contains fired h × (role_of h ≡ source fl w k) × (says fl h ≡ t)

-- all that lies round the region of a context was decided for it
abbrev pub IsOpen : Flow → Wires → List Firing → Context → Region → Type 0
IsOpen fl w fired c r = (x : Way) → Contains (in_region fl c r) x → IsDecided fl w fired x.choice x.side

-- three of a loop's credits: a `take` fires for each turn after the first, what is given back and drained waits until all credits are back
abbrev pub is_turning : Part → Bool
is_turning (Giver n) = true
is_turning (Taker n) = true
is_turning (Drainer n) = true
is_turning r = false

-- what leaves a context: to the host, and the frame on its way back
abbrev pub is_leaving : Part → Bool
is_leaving (Shown j) = true
is_leaving Done = true
is_leaving Freed = true
is_leaving r = false

-- THE LAST PART of a context: what has fired when it has, and that nothing is left
pub record EndIsLast (fl : Flow) (w : Wires) (net : Config) (c : Context) : Type 0 where
  -- what lies round the context was decided for it
  pub opened : IsOpen fl w net.fired c Region.Root
  pub fired : (r : Part) → there_in fl (site_in fl w c) (wiring_in fl w c) r ≡ true → is_turning r ≡ false
      → IsOpen fl w net.fired c (region_of (block_in fl c) r) → HasFired c r net.fired
  -- the manager, and cells, have answered; all credits of a loop are back
  pub asked : (n : ℕ) → invokes (block_in fl c) n ≡ true → IsOpen fl w net.fired c (lies_in (block_in fl c) n) → HasFired c (Asked n) net.fired
  pub next_asked : is_turn c ≡ true → IsOpen fl w net.fired c (Arm (flag (block_in fl c)) true) → HasFired c NextAsked net.fired
  pub held : (n : ℕ) → is_cell (block_in fl c) n ≡ true → IsOpen fl w net.fired c (lies_in (block_in fl c) n) → HasFired c (InCell n) net.fired
  pub drained : (n : ℕ) → is_loop (block_in fl c) n ≡ true → IsOpen fl w net.fired c (lies_in (block_in fl c) n) → HasFired c (Drained n) net.fired
  pub none_left : (i : Item) → Contains (net.pending ++ net.waiting) i → i.context ≡ c → is_leaving i.inlet.part ≡ false → ⊥

-- WHAT WAS INVOKED is over: a call's block, and all turns of a loop; nothing of the loop is past its last turn
abbrev pub CallIsOver : Config → Context → ℕ → Type 0
CallIsOver net c n = HasFired c (CallDone n) net.fired → HasFired (Called c n) End net.fired

pub record TurnsAreOver (fl : Flow) (net : Config) (c : Context) (n : ℕ) : Type 0 where
  pub turns : ℕ
  pub ended : (t : ℕ) → t ≤ turns → HasFired (Turned c n t) End net.fired
  pub none_later : (i : Item) (t : ℕ) → Contains (net.pending ++ net.waiting) i → i.context ≡ Turned c n t → t ≤ turns

abbrev pub LoopIsOver : Flow → Config → Context → ℕ → Type 0
LoopIsOver fl net c n = HasFired c (LoopDone n) net.fired → TurnsAreOver fl net c n

-- ALONG A RUN
abbrev pub OfNets : (Flow → Wires → Config → Type 0) → Type 0
OfNets P = (fl : Flow) (p : Plan) (w : Wires) (inputs : List ℤ) (q : Past) (m : Machine) → IsGood fl p w → InputsFit fl inputs
    → (k : Keeps fl p w inputs q m) → P fl w k.tracks.net

abbrev pub EndsAreLast : Flow → Wires → Config → Type 0
EndsAreLast fl w net = (c : Context) → HasFired c End net.fired → EndIsLast fl w net c

abbrev pub CallsAreOver : Flow → Wires → Config → Type 0
CallsAreOver fl w net = (c : Context) (n : ℕ) → CallIsOver net c n

abbrev pub LoopsAreOver : Flow → Wires → Config → Type 0
LoopsAreOver fl w net = (c : Context) (n : ℕ) → LoopIsOver fl net c n
