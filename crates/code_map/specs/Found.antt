-- The parts of a block's instructions, found from the block and from its finished code.
use Rattle.std.specs.Prelude.{ℕ, ◌+◌, ◌≤◌, Bool, true, false, List, [], ◌∷◌, ◌++◌, length, if◌then◌else◌}
use Rattle.semantics.specs.declared.program.Mark.{Mark}
use Rattle.semantics.specs.Graph.{Block, node_count}
use Rattle.semantics.specs.Program.{Instr}
use Rattle.semantics.specs.Plan.{Plan}
use Rattle.code.specs.Holders.{instrs_in}
use Rattle.code.specs.Marks.{marks_in}
use Rattle.schemas.specs.Flows.{NamedBlock}
use Rattle.schemas.specs.Triggers.{triggers_of}
use Rattle.schemas.specs.UseCounts.{uses_of}
use Rattle.schemas.specs.Variants.{some_block_loops}
use Rattle.code_map.specs.declared.part.Part.{Part}
use Rattle.code_map.specs.declared.owner.Owner.{Owner}
use Rattle.code_map.specs.Owners.{owned}
use Rattle.code_map.specs.Counts.{Rows, laid_body, laid_tail}
use Rattle.code_map.specs.Ends.{ends_of}
use Rattle.code_map.specs.Joins.{Joined, closed_nodes, closed_flag, released}

abbrev pub rows_of : List (Block ℕ) → Block ℕ → Bool → Rows
rows_of bs b turns =
    laid_tail (laid_body bs (triggers_of b (node_count b)) (uses_of b (triggers_of b (node_count b)) turns (node_count b)) b) turns (node_count b) b.results

abbrev pub joined_by : Rows → Block ℕ → Bool → List Instr → List Mark → Joined
joined_by r b turns is ms = closed_nodes (closed_flag (record { parts = r.parts; ends = ends_of is ms r.regions }) turns (node_count b)) b.inputs b.nodes

unfoldable pub parts_of : List (Block ℕ) → Block ℕ → Bool → List Instr → List Mark → List Part
parts_of bs b turns is ms = (released (joined_by (rows_of bs b turns) b turns is ms)).parts

-- within the limits of texts
pub record IsSmall (b : NamedBlock) : Type 0 where
  pub nodes : b.1.inputs + length b.1.nodes ≤ 1024
  pub results : length b.1.results ≤ 16

-- the owners of the next code block
abbrev pub with_block : List (Block ℕ) → Plan → List (List Owner) → ℕ → Bool → Block ℕ → List (List Owner)
with_block bs p oss n turns b = oss ++ owned n turns (parts_of bs b turns (instrs_in p (length oss)) (marks_in p (length oss))) ∷ []

abbrev pub all_plain : List (Block ℕ) → Plan → List (List Owner) → ℕ → List (Block ℕ) → List (List Owner)
all_plain all p oss n [] = oss
all_plain all p oss n (b ∷ bs) = all_plain all p (with_block all p oss n false b) (n + 1) bs

abbrev pub all_variants : List (Block ℕ) → Plan → List (List Owner) → ℕ → List (Block ℕ) → List (List Owner)
all_variants all p oss n [] = oss
all_variants all p oss n (b ∷ bs) = all_variants all p (if some_block_loops n all then with_block all p oss n true b else oss) (n + 1) bs
