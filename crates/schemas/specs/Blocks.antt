-- The code of a block.
use Rattle.std.specs.Prelude.{ℕ, zero, suc, ◌+◌, ◌<◌, ◌≤◌, List, [], ◌∷◌, length, Option, Some, None, slice_get, slice_index_or, if◌then◌else◌, All, ⊤}
use Rattle.semantics.specs.declared.graph.Region.{Region}
use Rattle.semantics.specs.declared.graph.Region.TheVariants.{Root, Arm}
use Rattle.semantics.specs.declared.graph.Source.{Source}
use Rattle.semantics.specs.declared.graph.Kind.{Kind}
use Rattle.semantics.specs.declared.graph.Kind.TheVariants.{Lit, Apply1, Apply2, Cond, Enter, Merge, Fetch, Store, Call, StrictCall, Loop}
use Rattle.semantics.specs.declared.program.Mark.{Mark}
use Rattle.semantics.specs.declared.program.Mark.TheVariants.{Unmarked}
use Rattle.semantics.specs.declared.program.Op.{Op}
use Rattle.semantics.specs.Graph.{Node, Block, node_count}
use Rattle.semantics.specs.Meaning.{origin_in}
use Rattle.semantics.specs.Program.{CodeBlock}
use Rattle.schemas.specs.Scopes.{Scope, predicate_of}
use Rattle.schemas.specs.Triggers.{has_trigger}
use Rattle.schemas.specs.UseCounts.{is_often, uses_at}
use Rattle.schemas.specs.Builds.{Build, nothing, added, quieted, exited, first_of}
use Rattle.schemas.specs.Rows.{operator, shared_answer, conditional, enter, merge, call, strict_call, repeat}
use Rattle.schemas.specs.Tails.{returns, iterate}
use Rattle.schemas.specs.Ends.{Closing, closing, ends_of, closed, closed_nodes, released}

-- LIMITS
abbrev pub IsSmallKind : Kind ℕ → Type 0
IsSmallKind (Fetch a) = a < 256
IsSmallKind (Store a) = a < 256
IsSmallKind (Call f) = f < 65536
IsSmallKind (StrictCall f) = f < 65536
IsSmallKind (Loop f k) = k < 256
IsSmallKind kind = ⊤

pub record IsSmallNode (n : Node ℕ) : Type 0 where
  pub sources : length n.sources ≤ 16
  pub kind : IsSmallKind n.kind

pub record IsSmallBlock (b : Block ℕ) : Type 0 where
  pub inputs : b.inputs ≤ 16
  pub outputs : b.outputs ≤ 16
  pub size : b.inputs + length b.nodes ≤ 1024
  pub nodes : All IsSmallNode b.nodes
  pub results : length b.results ≤ 16

-- LOOKING UP
abbrev pub variant_of : List ℕ → ℕ → ℕ
variant_of variants f = slice_index_or variants f 0

abbrev pub outputs_in : Option (Block ℕ) → ℕ
outputs_in None = 0
outputs_in (Some b) = b.outputs

abbrev pub outputs_of : List (Block ℕ) → ℕ → ℕ
outputs_of bs f = outputs_in (slice_get bs f)

-- the outputs of each block are few
pub record FewOutputs (bs : List (Block ℕ)) : Type 0 where
  pub each : (f : ℕ) → outputs_of bs f ≤ 16

-- NODES
abbrev pub answered : Build → Scope → Op → ℕ → Region → List Source → Build
answered b s op n region ss = if is_often (uses_at s.uses n) then shared_answer b op (origin_in s.version (Some s.number) n) region ss else operator b
    op (origin_in s.version (Some s.number) n) region ss

abbrev pub entered : Build → Scope → Region → List Source → Build
entered b s Root ss = b
entered b s (Arm k side) ss = enter b k side ss (predicate_of s.block k)

unfoldable pub repeated : Build → Scope → ℕ → ℕ → Region → List Source → Build
repeated b s f k region ss = repeat b (variant_of s.variants f) k region ss

unfoldable pub with_kind : Build → Scope → ℕ → Kind ℕ → Region → List Source → Build
with_kind b s n (Lit z) region ss = operator b (Op.Lit z) (origin_in s.version (Some s.number) n) region ss
with_kind b s n (Apply1 op) region ss = operator b (Op.Apply1 op) (origin_in s.version (Some s.number) n) region ss
with_kind b s n (Apply2 op) region ss = operator b (Op.Apply2 op) (origin_in s.version (Some s.number) n) region ss
with_kind b s n Cond region ss = conditional b (has_trigger s.triggers n) n region ss
with_kind b s n Enter region ss = entered b s region ss
with_kind b s n (Merge k) region ss = merge b region ss
with_kind b s n (Fetch a) region ss = answered b s (Op.Fetch a) n region ss
with_kind b s n (Store a) region ss = answered b s (Op.Store a) n region ss
with_kind b s n (Call f) region ss = call b f (outputs_of s.blocks f) region ss
with_kind b s n (StrictCall f) region ss = strict_call b f (outputs_of s.blocks f) region ss
with_kind b s n (Loop f k) region ss = repeated b s f k region ss

abbrev pub with_node : Build → Scope → ℕ → Node ℕ → Build
with_node b s n node = with_kind b s n node.kind node.region node.sources

unfoldable pub with_nodes : Build → Scope → ℕ → List (Node ℕ) → Build
with_nodes b s n [] = b
with_nodes b s n (node ∷ nodes) = with_nodes (with_node b s n node) s (n + 1) nodes

-- ENTRIES
abbrev pub with_input : Build → Scope → ℕ → Build
with_input b s n = exited (added b Op.Copy (origin_in s.version (Some s.number) n) Unmarked Root) (first_of (length b.instrs))

abbrev pub with_inputs : Build → Scope → ℕ → Build
with_inputs b s zero = b
with_inputs b s (suc n) = with_input (with_inputs b s n) s n

unfoldable pub entries : Scope → Build
entries s = with_inputs (quieted nothing Op.Copy Root) s s.block.inputs

abbrev pub body : Scope → Build
body s = with_nodes (entries s) s s.block.inputs s.block.nodes

-- WHOLE BLOCKS
abbrev pub released_from : Closing → ℕ → Build
released_from c offset = released c.build c.ends offset

-- the joins of what there is, and `release`
unfoldable pub finished : Closing → Block ℕ → ℕ → Build
finished c block offset = released_from (closed_nodes c block.inputs block.nodes) offset

abbrev pub plain_tail : Build → Block ℕ → Build
plain_tail b block = finished (closing b (ends_of b)) block block.outputs

unfoldable pub plain_build : Scope → Build
plain_build s = plain_tail (returns (body s) 0 s.block.results) s.block

abbrev pub variant_tail : Build → Block ℕ → Build
variant_tail b block = finished (closed b (ends_of b) (node_count block) Root) block block.inputs

unfoldable pub variant_build : Scope → ℕ → Build
variant_build s code = variant_tail (iterate (body s) code (node_count s.block) s.block.results) s.block

-- a code block with its marks
pub record Coded : Type 0 where
  pub code : CodeBlock
  pub marks : List Mark

abbrev pub code_of : Block ℕ → Build → Coded
code_of block b = record { code = record { inputs = block.inputs; outputs = block.outputs; slots = b.holders; instrs = b.instrs }; marks = b.marks }
