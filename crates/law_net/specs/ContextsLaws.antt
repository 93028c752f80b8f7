-- The laws of the net of contexts: what may arrive where, by what has fired.
use Rattle.std.specs.Prelude.{◌≡◌, ℕ, ℤ, Bool, true, false, ◌&&◌, ◌||◌, List, ◌++◌, length, Some, nat_lt, ◌==◌, if◌then◌else◌, flat_map, Contains, All, ⊤}
use Rattle.tags.specs.declared.value.Value.{Value}
use Rattle.tags.specs.declared.token.Port.{Port}
use Rattle.tags.specs.declared.token.Port.TheVariants.{Left, Right}
use Rattle.semantics.specs.declared.graph.Region.{Region}
use Rattle.semantics.specs.declared.graph.Region.TheVariants.{Arm}
use Rattle.semantics.specs.Graph.{Block, Flow, node_count}
use Rattle.semantics.specs.Meaning.{Context, Main, Turned, State, arms_round}
use Rattle.semantics.specs.Cause.{is_turn}
use Rattle.law_confluence.proofs.Net.{IsLawful, IsNetSound}
use Rattle.law_confluence.proofs.NetMeans.{NetMeans, Simulates}
use Rattle.law_confluence.proofs.NetArms.{HasArms, IsAllowed}
use Rattle.law_net.specs.ContextsParts.{Part, Line, Merge, CondEnd, Sender, Landing, Giver, Taker, Drainer, Asked, NextAsked, NextFramer, InCell, Shown, Done}
use Rattle.law_net.specs.ContextsParts.{Freed, inlet, Note, Datum, FrameOf, BackTo, Item, Firing, Spot, Role, role, spot_of, same_spot, role_of}
use Rattle.law_net.specs.ContextsBlocks.{there_in, waits_in, entered, is_loop, is_cell, is_store, invokes, flag}
use Rattle.law_net.specs.Contexts.{Wires, block_in, site_in, wiring_in, IsContext, child, next, return_of, is_strict_in}
use Rattle.law_net.specs.ContextsWires.{Carried, Anything, AValue, ItsReturn, ChildFrame, NextFrame, Credit, Request, Reader, arrives_at, predicate_at, decider}
use Rattle.law_net.specs.ContextsMeant.{meant}
use Rattle.law_net.specs.ContextsAround.{Choice, Way, own_ways, ways_round}
use Rattle.law_net.specs.ContextsFirings.{truth_of, sent_word, takes, makes, begins, turn_before, back_from, memory_of, Config}

-- WHERE AN ITEM MAY BE
abbrev pub is_main : Context → Bool
is_main Main = true
is_main c = false

abbrev pub spot_there : Flow → Wires → Context → Part → Bool
spot_there fl w c (Asked n) = invokes (block_in fl c) n
spot_there fl w c NextAsked = is_turn c
spot_there fl w c (InCell n) = is_cell (block_in fl c) n
spot_there fl w c (Shown j) = is_main c && nat_lt j (block_in fl c).outputs
spot_there fl w c Done = is_main c
spot_there fl w c Freed = true
spot_there fl w c r = there_in fl (site_in fl w c) (wiring_in fl w c) r

abbrev pub sender_way : Bool → Port → ℕ → Bool
sender_way strict Left t = t == 0
sender_way strict Right t = if strict then nat_lt t 2 else t == 0

abbrev pub way_fits : Flow → Context → Part → Port → ℕ → Bool
way_fits fl c (Merge n) q t = nat_lt t 2
way_fits fl c (CondEnd k) q t = nat_lt t 2
way_fits fl c (Sender n i) q t = sender_way (is_strict_in fl c n) q t
way_fits fl c (Landing n j) q t = is_loop (block_in fl c) n || (t == 0)
way_fits fl c (Giver n) q t = true
way_fits fl c (Drainer n) q t = true
way_fits fl c (Taker n) q t = nat_lt 0 t
way_fits fl c r q t = t == 0

abbrev pub port_fits : Flow → Context → Part → Port → Bool
port_fits fl c r Left = true
port_fits fl c r Right = waits_in (block_in fl c) r

pub record Fits (fl : Flow) (w : Wires) (x : Spot) : Type 0 where
  pub is_context : IsContext fl x.context
  pub there : spot_there fl w x.context x.inlet.part ≡ true
  pub port : port_fits fl x.context x.inlet.part x.inlet.port ≡ true
  pub way : way_fits fl x.context x.inlet.part x.inlet.port x.inlet.way ≡ true

-- WHICH WORD
abbrev pub Carries : Flow → Wires → Context → ℕ → Carried → Note → Type 0
Carries fl w c t Anything k = ⊤
Carries fl w c t AValue k = (v : Value) × (k ≡ Datum v)
Carries fl w c t ItsReturn k = k ≡ return_of c
Carries fl w c t (ChildFrame n) k = k ≡ FrameOf (child fl c n)
Carries fl w c t NextFrame k = k ≡ FrameOf (next c)
Carries fl w c t (Credit n) k = k ≡ BackTo (turn_before c n t) (inlet NextFramer Left 0)
Carries fl w c t (Request r) k = k ≡ BackTo c (inlet r Left 0)
Carries fl w c t (Reader n) k = k ≡ back_from c ((wiring_in fl w c).wire (record { part = Line n; second = false }))

-- A request to a cell carries as many operands besides as its node has: a fetch's index; a store's index and value.
abbrev pub HoldsFor : Flow → Item → ℕ → Type 0
HoldsFor fl i n = length i.held ≡ (if is_store (block_in fl i.context) n then 2 else 1)

abbrev pub WordAt : Flow → Wires → Item → Part → Type 0
WordAt fl w i (InCell n) = Carries fl w i.context i.inlet.way (arrives_at (InCell n) i.inlet.port) i.word × HoldsFor fl i n
WordAt fl w i r = Carries fl w i.context i.inlet.way (arrives_at r i.inlet.port) i.word

abbrev pub WordFits : Flow → Wires → Item → Type 0
WordFits fl w i = WordAt fl w i i.inlet.part

-- ARMS ROUND AN INLET
abbrev pub in_region : Flow → Context → Region → List Way
in_region fl c r = own_ways c (arms_round (node_count (block_in fl c)) (block_in fl c) r) ++ ways_round fl c

abbrev pub flag_arm : Flow → Context → Bool → Region
flag_arm fl c t = Arm (flag (block_in fl c)) t

abbrev pub landing_arms : Flow → Context → ℕ → ℕ → Bool → List Way
landing_arms fl c n t false = in_region fl c (entered (block_in fl c) (Landing n 0) 0)
landing_arms fl c n t true = in_region fl (Turned c n t) (flag_arm fl (Turned c n t) false)

abbrev pub arms_of : Flow → Context → Part → ℕ → List Way
arms_of fl c (Landing n j) t = landing_arms fl c n t (is_loop (block_in fl c) n)
arms_of fl c (Drainer n) t = landing_arms fl c n t true
arms_of fl c (Giver n) t = ways_round fl (Turned c n t)
arms_of fl c (Taker n) t = in_region fl (turn_before c n t) (flag_arm fl (turn_before c n t) true)
arms_of fl c r t = in_region fl c (entered (block_in fl c) r t)

abbrev pub InArm : Flow → Spot → Choice → Bool → Type 0
InArm fl x k t = Contains (arms_of fl x.context x.inlet.part x.inlet.way) (record { choice = k; side = t })

-- WHICH CONDITIONAL'S WORD
abbrev pub IsPredicate : Flow → Spot → Choice → Type 0
IsPredicate fl x k = (x.context ≡ k.context) × (predicate_at (block_in fl x.context) x.inlet.part x.inlet.port ≡ Some k.cond)

abbrev pub is_true : Item → Bool
is_true i = truth_of i.word

abbrev pub maker_of : Block ℕ → Part → Part
maker_of b (Line n) = if is_cell b n then InCell n else Line n
maker_of b r = r

abbrev pub source : Flow → Wires → Choice → Role
source fl w k = role k.context (maker_of (block_in fl k.context) (decider (block_in fl k.context) (wiring_in fl w k.context) k.cond).part) 0

abbrev pub says : Flow → Firing → Bool
says fl f = truth_of (sent_word fl f f.part)

-- THE NET
module _ (fl : Flow) (w : Wires) (inputs : List ℤ) where
  abbrev pub Allowed : List Firing → Item → Type 0
  Allowed = IsAllowed spot_of same_spot (takes fl) (makes fl w) (begins inputs) role_of (Fits fl w) (IsPredicate fl) is_true (InArm fl) (source fl w) (says fl)

  abbrev pub NetHasArms : Type 0
  NetHasArms = HasArms spot_of same_spot (takes fl) (makes fl w) (begins inputs) role_of (Fits fl w) (IsPredicate fl) is_true (InArm fl) (source fl w) (says fl)

  abbrev pub NetIsLawful : Type 0
  NetIsLawful = IsLawful spot_of same_spot (takes fl) (makes fl w) (begins inputs) role_of Allowed

  abbrev pub IsSoundNet : Config → Type 0
  IsSoundNet c = IsNetSound spot_of same_spot (takes fl) (makes fl w) (begins inputs) role_of Allowed c

  -- each word that came is of its inlet's kind
  abbrev pub WordsFit : Config → Type 0
  WordsFit c = All (WordFits fl w) (c.pending ++ (c.waiting ++ flat_map (takes fl) c.fired))

  abbrev pub MeansOf : Config → State → Type 0
  MeansOf c s = NetMeans fl inputs (takes fl) (makes fl w) (meant fl) (memory_of fl) c s

  abbrev pub FiringIsMeant : Firing → List Firing → Type 0
  FiringIsMeant f fired = Simulates fl inputs (takes fl) (makes fl w) (meant fl) (memory_of fl) f fired
