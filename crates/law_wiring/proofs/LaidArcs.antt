-- The arcs of a block: its wires, and where the machine answers.
use Rattle.std.specs.Prelude.{ℕ, ◌+◌, Bool, true, false, List, [], ◌∷◌, ◌++◌, length}
use Rattle.tags.specs.declared.token.Port.TheVariants.{Left, Right}
use Rattle.semantics.specs.declared.graph.Region.{Region}
use Rattle.semantics.specs.declared.graph.Region.TheVariants.{Root}
use Rattle.semantics.specs.declared.graph.Source.{Source}
use Rattle.semantics.specs.declared.graph.Kind.{Kind}
use Rattle.semantics.specs.Graph.{Node, Flow}
use Rattle.law_net.specs.ContextsParts.{Entry, Opener, Framer, Fanned, Linker, Landing, Giver, Drainer, LoopDone, TurnCont, TurnFlag, Asker, NextFramer}
use Rattle.law_net.specs.ContextsParts.{NextFanned, NextSender, DrainReturn, End}
use Rattle.law_net.specs.ContextsBlocks.{Side, side, Site}
use Rattle.law_wiring.specs.Written.{Wire, wire, leaves, meet_wires, sender_wires, strict_wires, strict_end, trigger_side, kind_wires, result_wires}
use Rattle.law_wiring.specs.Written.{value_wires, next_wires, last_wires, joined_wires, signal_wires, in_region, Ended, close_flag, close_nodes, inner_parts}
use Rattle.law_wiring.specs.Written.{first_ends}

-- an invocation: the manager answers at the copy of the frame, and the invocation at the landing
abbrev pub invoke_arcs : Site → ℕ → Side → List Source → List Wire
invoke_arcs s n t xs = wire t (Framer n) Left ∷ wire (side (Framer n) false) (Fanned n) Left ∷ wire (side (Fanned n) false) (Linker n) Left
    ∷ (sender_wires s n 0 xs ++ wire (side (Linker n) false) (Landing n 0) Left ∷ [])

abbrev pub strict_call_arcs : Site → ℕ → List Source → List Wire
strict_call_arcs s n [] = []
strict_call_arcs s n (x ∷ xs) = strict_wires s n 1 (leaves s x) xs ++ invoke_arcs s n (strict_end n 1 (leaves s x) xs) (x ∷ xs)

abbrev pub credit_arcs : ℕ → List Wire
credit_arcs n = wire (side (Giver n) false) (LoopDone n) Left ∷ wire (side (Drainer n) false) (LoopDone n) Left ∷ []

abbrev pub kind_arcs : Site → ℕ → Region → Kind ℕ → List Source → List Wire
kind_arcs s n r (Kind.Call f) xs = invoke_arcs s n (trigger_side r) xs
kind_arcs s n r (Kind.StrictCall f) xs = strict_call_arcs s n xs
kind_arcs s n r (Kind.Loop f k) xs = wire (trigger_side r) (Opener n) Left ∷ (invoke_arcs s n (side (Opener n) false) xs ++ credit_arcs n)
kind_arcs s n r kind xs = kind_wires s n r kind xs

abbrev pub node_arcs : Site → ℕ → List (Node ℕ) → List Wire
node_arcs s n [] = []
node_arcs s n (node ∷ nodes) = kind_arcs s n node.region node.kind node.sources ++ node_arcs s (n + 1) nodes

-- a turn: a take answers at the framer
abbrev pub turn_arcs : Site → List Source → List Wire
turn_arcs s [] = []
turn_arcs s (x ∷ xs) = meet_wires (side Entry false) (leaves s x) TurnCont ++ (meet_wires (leaves s x) (leaves s x) TurnFlag ++ (value_wires s (leaves s x) 1 xs
    ++ (meet_wires (side TurnCont false) (side TurnFlag false) Asker ++ (wire (side Asker false) NextFramer Left ∷ wire (side NextFramer false) NextFanned Left
    ∷ (meet_wires (side NextFanned false) (side TurnCont false) (NextSender 0)
    ++ (next_wires 1 (length xs) ++ (last_wires 0 (length xs) ++ meet_wires (side TurnCont true) (side TurnFlag true) DrainReturn)))))))

abbrev pub tail_arcs : Site → Bool → List Wire
tail_arcs s false = result_wires s 0 s.block.results
tail_arcs s true = turn_arcs s s.block.results

abbrev pub inner_arcs : Site → List Wire
inner_arcs s = node_arcs s s.block.inputs s.block.nodes ++ tail_arcs s s.turns

-- the whole block, with other wires in its inside
abbrev pub inner_with : Flow → Site → List Wire → Ended
inner_with fl s ws = record { parts = inner_parts fl s; wires = ws; ends = first_ends fl s }

abbrev pub closed_with : Flow → Site → List Wire → Ended
closed_with fl s ws = close_nodes s.block s.block.inputs s.block.nodes (close_flag s.block s.turns (inner_with fl s ws))

abbrev pub root_with : Flow → Site → List Wire → List Side
root_with fl s ws = in_region s.block Root (closed_with fl s ws).ends

abbrev pub wires_with : Flow → Site → List Wire → List Wire
wires_with fl s ws =
    (closed_with fl s ws).wires ++ (joined_wires Root (root_with fl s ws)
    ++ (wire (side Entry false) End Left ∷ signal_wires Root (root_with fl s ws) End Right))

abbrev pub arcs_in : Flow → Site → List Wire
arcs_in fl s = wires_with fl s (inner_arcs s)
