-- LOOPS in the machine: the first values, the block of a turn with its test, and the node of the loop.
use Rattle.std.specs.Prelude.{ℕ, ◌+◌, false, List, [], ◌∷◌, ◌++◌, length, map, Option, None, Some}
use Rattle.semantics.specs.declared.graph.Kind.TheVariants as node
use Rattle.source.specs.Tree.{NameAt}
use Rattle.source.specs.Outside.{bare}
use Rattle.source.specs.Lowered.{MadeBlock, Lowered, Site, spot_after, ports_from, source_in, scoped, made, entered_names, arm_site, first_of}
use Rattle.source.specs.Lowered.{loop_name, turn_site, turn_block, turn_scope}
use Rattle.lowering.specs.Plans.{Plan}
use Rattle.lowering.specs.State.{popped, Arms, Begun, Turning, State, Frame, Firsts, Turned, Ending, LoopEnd, InArm, InTest}
use Rattle.lowering.specs.Innermost.{firsts_in, turn_in, loop_end_in}
use Rattle.lowering.specs.Conditionals.{merged, with_outer}

abbrev pub loop_begun : State → ℕ → List Plan → State
loop_begun s at [] = s
loop_begun s at (q ∷ ps) =
    record s { plans = ps; frames = Firsts (record { at = at; outer = s.sources; names = []; outs = q.names }) ∷ s.frames; sources = [] }

abbrev pub with_name : Begun → NameAt → Begun
with_name b x = record { at = b.at; outer = b.outer; names = b.names ++ x ∷ []; outs = b.outs }

-- What a word does where the innermost frame was of the part of a loop that it closes, and where it was not
abbrev pub named_first_of : State → NameAt → Option Begun → State
named_first_of s x None = s
named_first_of s x (Some b) = record s { frames = Firsts (with_name b x) ∷ s.frames }

abbrev pub named_first : State → NameAt → List Frame → State
named_first s x fs = named_first_of (popped s fs) x (firsts_in fs)

abbrev pub turning : State → Begun → Turning
turning s b = record {
  at = b.at;
  outer = b.outer;
  names = b.names;
  outs = b.outs;
  firsts = s.sources;
  site = s.site;
  spot = s.spot;
  scope = s.scope;
  nodes = s.nodes;
  blocks = s.blocks;
}

abbrev pub turn_begun_of : State → Option Begun → State
turn_begun_of s None = s
turn_begun_of s (Some b) = record s {
  site = turn_site s.site.function;
  spot = record { next = length (bare b.names) + length b.outs; loops = s.spot.loops + 1 };
  scope = turn_scope (bare b.names) b.outs;
  sources = [];
  nodes = [];
  blocks = [];
  frames = Turned (turning s b) ∷ s.frames;
}

abbrev pub turn_begun : State → List Frame → State
turn_begun s fs = turn_begun_of (popped s fs) (firsts_in fs)

-- the body ends, and the loop's names stand for its values in the test
abbrev pub tested_of : State → Option Turning → State
tested_of s None = s
tested_of s (Some t) = record s {
  scope = scoped (bare t.names) s.sources (turn_scope (bare t.names) t.outs);
  sources = [];
  frames = Ending s.sources ∷ Turned t ∷ s.frames;
}

abbrev pub tested : State → List Frame → State
tested s fs = tested_of (popped s fs) (turn_in fs)

-- the turn ends: its block, and what was before it
abbrev pub resumed : State → Turning → MadeBlock → State
resumed s t b = record s {
  site = t.site;
  spot = record { next = t.spot.next; loops = s.spot.loops };
  scope = t.scope;
  sources = t.outer;
  nodes = t.nodes;
  blocks = t.blocks ++ b ∷ s.blocks;
}

-- the turn ends: its block, and the node of the loop
abbrev pub turn_ended : State → ℕ → ℕ → Turning → List Frame → State
turn_ended s at bound t fs = record s {
  site = t.site;
  spot = record { next = t.spot.next + 1; loops = s.spot.loops };
  scope = t.scope;
  sources = t.outer ++ ports_from t.spot.next 0 (length (bare t.names));
  nodes = t.nodes ++ made t.site at (node.Loop (loop_name t.site.function (t.spot.loops + 1)) bound) (t.firsts ++ map (source_in t.scope) t.outs) ∷ [];
  blocks = t.blocks ++ turn_block t.at (t.spot.loops + 1) (bare t.names) t.outs (record { nodes = s.nodes; sources = s.sources; blocks = [] }) ∷ s.blocks;
  frames = fs;
}

-- the arm of a turn that goes on ends; the other one gives the values unchanged
abbrev pub passing : State → Arms → Site
passing s arms = arm_site arms.site arms.cond false s.spot

abbrev pub passed : State → Arms → ℕ → List NameAt → Lowered
passed s arms at names = entered_names (passing s arms) s.spot at arms.scope (first_of arms.predicate) (bare names)

abbrev pub came_back : State → Arms → ℕ → List NameAt → State
came_back s arms at names =
    let l : Lowered = passed s arms at names in
    with_outer arms.predicate (merged (record s { spot = spot_after s.spot l; nodes = s.nodes ++ l.nodes }) arms at s.sources l.sources)

abbrev pub arm_closed_of : State → ℕ → ℕ → Arms → Option Turning → State
arm_closed_of s at bound arms None = s
arm_closed_of s at bound arms (Some t) = turn_ended (came_back s arms t.at t.names) at bound t s.frames

abbrev pub arm_closed : State → ℕ → ℕ → Arms → List Frame → State
arm_closed s at bound arms fs = arm_closed_of (popped s fs) at bound arms (turn_in fs)

abbrev pub turn_closed_of : State → ℕ → ℕ → Option Turning → State
turn_closed_of s at bound None = s
turn_closed_of s at bound (Some t) = turn_ended s at bound t s.frames

abbrev pub turn_closed : State → ℕ → ℕ → List Frame → State
turn_closed s at bound fs = turn_closed_of (popped s fs) at bound (turn_in fs)

abbrev pub loop_ended_of : State → ℕ → ℕ → Option LoopEnd → State
loop_ended_of s at bound None = s
loop_ended_of s at bound (Some (InArm arms)) = arm_closed s at bound arms s.frames
loop_ended_of s at bound (Some (InTest values)) = turn_closed (record s { sources = s.sources ++ values }) at bound s.frames

abbrev pub loop_ended : State → ℕ → ℕ → List Frame → State
loop_ended s at bound fs = loop_ended_of (popped s fs) at bound (loop_end_in fs)
