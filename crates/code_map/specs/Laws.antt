-- What is claimed of the owners of instructions.
use Rattle.std.specs.Prelude.{replicate, ◌≡◌, ℕ, ◌+◌, ◌<◌, ◌≤◌, true, false, List, [], length, map, take, sum, Some, slice_get, Bool}
use Rattle.semantics.specs.Graph.{Block, Flow, node_count}
use Rattle.semantics.specs.Program.{Instr, CodeBlock, Program}
use Rattle.semantics.specs.Sharing.{Good}
use Rattle.semantics.specs.declared.version.Version.{Version}
use Rattle.schemas.specs.Scopes.{Scope}
use Rattle.schemas.specs.Builds.{Build}
use Rattle.schemas.specs.Blocks.{body, entries, with_nodes, plain_build, variant_build}
use Rattle.schemas.specs.Expanded.{expanded}
use Rattle.folding.specs.Folded.{folded}
use Rattle.fanout.specs.Places.{size}
use Rattle.fanout.specs.Narrowed.{narrowed, spread_of, unmarked}
use Rattle.semantics.specs.declared.program.Mark.TheVariants.{OfCond}
use Rattle.schemas.specs.Tails.{returns}
use Rattle.select.specs.Emitted.{code_of}
use Rattle.code_map.specs.declared.part.Part.{Part}
use Rattle.code_map.specs.declared.owner.Owner.{Owner}
use Rattle.code_map.specs.Counts.{Rows, laid_body, laid_outputs}
use Rattle.code_map.specs.Picked.{pick, mores}
use Rattle.semantics.specs.declared.graph.Region.{Region}
use Rattle.schemas.specs.Ends.{Closing}
use Rattle.schemas.specs.Triggers.{triggers_of}
use Rattle.schemas.specs.UseCounts.{uses_of}
use Rattle.code_map.specs.Owners.{expanded_owners}
use Rattle.code_map.specs.Found.{parts_of}
use Rattle.code_map.specs.Found as Found
use Rattle.code_map.specs.Joins.{closed_nodes, released}
use Rattle.code_map.specs.Parts.{finished_parts, body_parts, output_parts, plain_parts, variant_parts}
use Rattle.code_map.specs.Carried.{owner_at, carried, joined, owners_of}
use Rattle.code_map.specs.Numbered.{numbered}
use Rattle.code_map.specs.Numbered as Numbered
use Rattle.semantics.specs.Plan.{Plan}

-- THE PLAN. Each instruction of a code block has an owner.
abbrev pub PlainHasOwners : Type 0
PlainHasOwners = (s : Scope) → length (plain_parts s) ≡ length (plain_build s).instrs

abbrev pub VariantHasOwners : Type 0
VariantHasOwners = (s : Scope) (code : ℕ) → length (variant_parts s code) ≡ length (variant_build s code).instrs

-- so has each instruction up to the outputs: the rows that are counted are those of the code
abbrev pub BodiesHaveOwners : Type 0
BodiesHaveOwners = (s : Scope)
    → (length (body_parts s) ≡ length (body s).instrs)
    × ((laid_body s.blocks s.triggers s.uses s.block).parts ≡ body_parts s)
    × ((laid_body s.blocks s.triggers s.uses s.block).regions ≡ (body s).regions)

abbrev pub returned : Scope → Build
returned s = returns (body s) 0 s.block.results

abbrev pub returned_rows : Scope → Rows
returned_rows s = laid_outputs (laid_body s.blocks s.triggers s.uses s.block) 0 s.block.results

abbrev pub returned_parts : Scope → List Part
returned_parts s = output_parts (body_parts s) (body s) 0 s.block.results

abbrev pub TailsHaveOwners : Type 0
TailsHaveOwners = (s : Scope)
    → (length (returned_parts s) ≡ length (returned s).instrs)
    × ((returned_rows s).parts ≡ returned_parts s)
    × ((returned_rows s).regions ≡ (returned s).regions)

-- JOINS. With the regions of a block's ends, the parts of the joins and of the release are those that are counted by them.
abbrev pub regions_of : Closing → List Region
regions_of c = map (λ e. e.region) c.ends

abbrev pub JoinsHaveOwners : Type 0
JoinsHaveOwners = (c : Closing) (ps : List Part) (block : Block ℕ) (offset : ℕ) → length c.build.instrs ≡ length ps
    → (released (closed_nodes (record { parts = ps; ends = regions_of c }) block.inputs block.nodes)).parts ≡ finished_parts ps c block offset

-- A PLAIN BLOCK. What is found from the block and from its finished code are the parts of its instructions.
abbrev pub PlainIsFound : Type 0
PlainIsFound = (s : Scope) → s.triggers ≡ triggers_of s.block (node_count s.block) → s.uses ≡ uses_of s.block s.triggers false (node_count s.block)
    → parts_of s.blocks s.block false (plain_build s).instrs (plain_build s).marks ≡ plain_parts s

-- and so are those of a loop variant
abbrev pub VariantIsFound : Type 0
VariantIsFound = (s : Scope) (code : ℕ) → s.triggers ≡ triggers_of s.block (node_count s.block) → s.uses ≡ uses_of s.block s.triggers true (node_count s.block)
    → parts_of s.blocks s.block true (variant_build s code).instrs (variant_build s code).marks ≡ variant_parts s code

-- THE PLAN. With the plan of a graph, what is found of each code block are the owners of its instructions.
abbrev pub BlocksAreFound : Type 0
BlocksAreFound = (fl : Flow)
    → Found.all_variants fl.blocks (expanded fl) (Found.all_plain fl.blocks (expanded fl) [] 0 fl.blocks) 0 fl.blocks ≡ expanded_owners fl

-- PASSES. Marks that are places, and unmarked copies, are read as the owners of what is narrowed.
abbrev pub PlacesGiveOwners : Type 0
PlacesGiveOwners = (ts : List Bool) (os : List Owner) (place : ℕ → ℕ) (is : List Instr)
    → pick os (spread_of ts (λ n i. OfCond (place n)) unmarked 0 [] is) (mores (λ n i. replicate (size i) (owner_at os (place n))) 0 is)
    ≡ spread_of ts (λ n i. owner_at os (place n)) (λ n i. replicate (size i) (owner_at os (place n))) 0 [] is

-- What is read off the places that went through the passes in the place of marks are the owners that are carried through them.
abbrev pub PlacesAreJoined : Type 0
PlacesAreJoined = (p : Plan) (oss : List (List Owner))
    → Numbered.joined oss (folded (numbered p)) (narrowed (folded (numbered p))) ≡ joined (carried p oss)

-- the code of a block as far as the first nodes
abbrev pub built : Scope → ℕ → Build
built s k = with_nodes (entries s) s s.block.inputs (take k s.block.nodes)

-- The instructions of the k-th node line of a block are those that its schema adds, in both kinds of code.
pub record IsRow (s : Scope) (k place : ℕ) : Type 0 where
  pub from : length (built s k).instrs ≤ place
  pub to : place < length (built s (k + 1)).instrs

abbrev pub RowsAreOwned : Type 0
RowsAreOwned = (s : Scope) (k place : ℕ) → k < length s.block.nodes → IsRow s k place
    → (slice_get (plain_parts s) place ≡ Some (Part.Node (s.block.inputs + k)))
    × ((code : ℕ) → slice_get (variant_parts s code) place ≡ Some (Part.Node (s.block.inputs + k)))

-- THE OBJECT. The instructions of an object have owners, as many as there are.
abbrev pub lengths_of : Program → List ℕ
lengths_of p = map (λ (c : CodeBlock). length c.instrs) p.blocks

abbrev pub ObjectHasOwners : Type 0
ObjectHasOwners = (fl : Flow) (slots : List (List ℕ)) (version : Version) → Good (narrowed (folded (expanded fl))) slots
    → length (owners_of fl) ≡ sum (lengths_of (code_of version (narrowed (folded (expanded fl))) slots))
