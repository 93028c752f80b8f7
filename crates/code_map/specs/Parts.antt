-- Which part of a block each instruction of its code belongs to, in the plan of a graph: what a step of the schemas adds to the code
-- belongs to that for which the step is made.
use Rattle.std.specs.Prelude.{ℕ, zero, suc, ◌+◌, ◌-◌, List, [], ◌∷◌, ◌++◌, length, replicate}
use Rattle.semantics.specs.declared.graph.Region.TheVariants.{Root}
use Rattle.semantics.specs.declared.graph.Source.{Source}
use Rattle.semantics.specs.declared.program.Op.TheVariants.{Copy}
use Rattle.semantics.specs.Graph.{Node, Block, node_count}
use Rattle.schemas.specs.Scopes.{Scope}
use Rattle.schemas.specs.Builds.{Build, nothing, quieted}
use Rattle.schemas.specs.Tails.{returns, iterate}
use Rattle.schemas.specs.Ends.{Closing, closing, ends_of, closed, closed_nodes}
use Rattle.schemas.specs.Blocks.{with_inputs, entries, with_node, body, finished}
use Rattle.code_map.specs.declared.part.Part.{Part}

-- the parts so far, and that part for each instruction that the code has more
abbrev pub filled : List Part → Build → Part → List Part
filled ps b part = ps ++ replicate (length b.instrs - length ps) part

-- ENTRIES: that of the continuation, and those of the inputs, which are the first nodes
abbrev pub continuation : Build
continuation = quieted nothing Copy Root

abbrev pub input_parts : List Part → Build → Scope → ℕ → List Part
input_parts ps b s zero = ps
input_parts ps b s (suc n) = filled (input_parts ps b s n) (with_inputs b s (suc n)) (Part.Node n)

abbrev pub entry_parts : Scope → List Part
entry_parts s = input_parts (filled [] continuation Part.Continuation) continuation s s.block.inputs

-- NODES, the first of which has that number
abbrev pub node_parts : List Part → Build → Scope → ℕ → List (Node ℕ) → List Part
node_parts ps b s n [] = ps
node_parts ps b s n (node ∷ nodes) = node_parts (filled ps (with_node b s n node) (Part.Node n)) (with_node b s n node) s (n + 1) nodes

abbrev pub body_parts : Scope → List Part
body_parts s = node_parts (entry_parts s) (entries s) s s.block.inputs s.block.nodes

-- OUTPUTS of a plain block, from a first one on
abbrev pub output_parts : List Part → Build → ℕ → List Source → List Part
output_parts ps b from [] = ps
output_parts ps b from (s ∷ ss) = output_parts (filled ps (returns b from (s ∷ [])) (Part.Output from)) (returns b from (s ∷ [])) (from + 1) ss

-- JOINS, from the last conditional to the first one
abbrev pub join_parts : List Part → Closing → ℕ → List (Node ℕ) → List Part
join_parts ps c n [] = ps
join_parts ps c n (node ∷ nodes) = filled (join_parts ps c (n + 1) nodes) (closed_nodes c n (node ∷ nodes)).build (Part.Joins n)

-- and what the release of the frame waits for
abbrev pub finished_parts : List Part → Closing → Block ℕ → ℕ → List Part
finished_parts ps c block offset = filled (join_parts ps c block.inputs block.nodes) (finished c block offset) Part.Release

-- PLAIN CODE
abbrev pub closing_of : Build → Closing
closing_of b = closing b (ends_of b)

unfoldable pub plain_parts : Scope → List Part
plain_parts s = finished_parts (output_parts (body_parts s) (body s) 0 s.block.results) (closing_of (returns (body s) 0 s.block.results)) s.block s.block.outputs

-- A LOOP VARIANT: the turn, with the joins of its two sides
abbrev pub flag_closed : Build → Block ℕ → Closing
flag_closed b block = closed b (ends_of b) (node_count block) Root

abbrev pub turn_closing : Scope → ℕ → Closing
turn_closing s code = flag_closed (iterate (body s) code (node_count s.block) s.block.results) s.block

unfoldable pub variant_parts : Scope → ℕ → List Part
variant_parts s code = finished_parts (filled (body_parts s) (turn_closing s code).build Part.Turn) (turn_closing s code) s.block s.block.inputs
