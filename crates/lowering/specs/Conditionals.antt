-- CONDITIONALS in the machine: the node of the predicate, the enters of each arm, and the merges.
use Rattle.std.specs.Prelude.{ℕ, ◌+◌, Bool, true, false, List, [], ◌∷◌, ◌++◌, length, map, Option, None, Some}
use Rattle.semantics.specs.declared.graph.Source.{Source}
use Rattle.semantics.specs.declared.graph.Kind.TheVariants as node
use Rattle.source.specs.Tree.{Name}
use Rattle.source.specs.Lowered.{Made, Lowered, Site, spot_after, inputs_from, made, entered_names, arm_site, arm_scope, merges, first_of, next_spot}
use Rattle.lowering.specs.Plans.{Plan}
use Rattle.lowering.specs.State.{popped, Arms, State, Frame, Right}
use Rattle.lowering.specs.Innermost.{first_arm_in, second_arm_in}
use Rattle.lowering.specs.Operators.{before_last, last_of}

-- with the nodes of a part, and with nodes
abbrev pub with_all : State → Lowered → State
with_all s l = record s { spot = spot_after s.spot l; nodes = s.nodes ++ l.nodes }

abbrev pub with_merges : State → List Made → State
with_merges s ms = record s { spot = record { next = s.spot.next + length ms; loops = s.spot.loops }; nodes = s.nodes ++ ms }

-- an `enter` of each source
abbrev pub entered_nodes : Site → ℕ → List Source → List Made
entered_nodes site at ss = map (λ (s : Source). made site at node.Enter (s ∷ [])) ss

-- the enters of an arm
abbrev pub enters_of : State → Arms → Bool → ℕ → List Name → Lowered
enters_of s arms side at names = entered_names (arm_site arms.site arms.cond side s.spot) s.spot at arms.scope (first_of arms.predicate) names

-- the enters of an arm are made, within the arm
abbrev pub with_enters : State → Arms → Bool → ℕ → List Name → State
with_enters s arms side at names = with_all (record s { site = arm_site arms.site arms.cond side s.spot }) (enters_of s arms side at names)

-- an arm begins, with its enters
abbrev pub entered : State → Arms → Bool → ℕ → List Name → State
entered s arms side at names =
    let here : Site = arm_site arms.site arms.cond side s.spot in
    let l : Lowered = entered_names here s.spot at arms.scope (first_of arms.predicate) names in
    record s { site = here; spot = spot_after s.spot l; scope = arm_scope l names; sources = []; nodes = s.nodes ++ l.nodes }

-- the node of the conditional
abbrev pub chosen_by : State → Arms → ℕ → State
chosen_by s arms at = record s { spot = next_spot s.spot; nodes = s.nodes ++ made arms.site at node.Cond arms.predicate ∷ [] }

abbrev pub arms_of : State → ℕ → Arms
arms_of s n = record { site = s.site; scope = s.scope; outer = before_last n s.sources; predicate = last_of n s.sources; cond = s.spot.next }

abbrev pub first_arm : State → (Arms → Frame) → List Plan → State
first_arm s frame [] = s
first_arm s frame (q ∷ ps) =
    let arms : Arms = arms_of s 1 in
    record (entered (chosen_by s arms q.at) arms true q.at q.names) { plans = ps; frames = frame arms ∷ s.frames }

abbrev pub second_arm_of : State → Option Arms → List Plan → State
second_arm_of s None ps = s
second_arm_of s (Some arms) [] = s
second_arm_of s (Some arms) (q ∷ ps) = record (entered s arms false q.at q.names) { plans = ps; frames = Right arms s.sources ∷ s.frames }

abbrev pub second_arm : State → List Plan → List Frame → State
second_arm s ps fs = second_arm_of (popped s fs) (first_arm_in fs) ps

-- the merges of the values of both arms
abbrev pub merged : State → Arms → ℕ → List Source → List Source → State
merged s arms at left right =
    let ms : List Made = merges arms.site at arms.cond left right in
    record s {
      site = arms.site;
      spot = record { next = s.spot.next + length ms; loops = s.spot.loops };
      scope = arms.scope;
      sources = inputs_from s.spot.next (length ms);
      nodes = s.nodes ++ ms;
    }

abbrev pub with_outer : List Source → State → State
with_outer outer s = record s { sources = outer ++ s.sources }

abbrev pub if_ended_of : State → ℕ → Option (Arms × List Source) → State
if_ended_of s at None = s
if_ended_of s at (Some second) = with_outer second.0.outer (merged s second.0 at second.1 s.sources)

abbrev pub if_ended : State → ℕ → List Frame → State
if_ended s at fs = if_ended_of (popped s fs) at (second_arm_in fs)
