-- What each instruction of the plan of a graph belongs to.
use Rattle.std.specs.Prelude.{ℕ, ◌+◌, Bool, true, false, List, [], ◌∷◌, ◌++◌, map, if◌then◌else◌}
use Rattle.semantics.specs.Graph.{Block, Flow}
use Rattle.schemas.specs.Variants.{some_block_loops, variants_of}
use Rattle.schemas.specs.Blocks.{variant_of}
use Rattle.schemas.specs.Expanded.{scope_of}
use Rattle.code_map.specs.declared.part.Part.{Part}
use Rattle.code_map.specs.declared.owner.Owner.{Owner}
use Rattle.code_map.specs.Parts.{plain_parts, variant_parts}

abbrev pub owner : ℕ → Bool → Part → Owner
owner block turns part = record { block = block; turns = turns; part = part }

abbrev pub owned : ℕ → Bool → List Part → List Owner
owned block turns ps = map (owner block turns) ps

unfoldable pub plain_owners : ℕ → List (Block ℕ) → List ℕ → ℕ → Block ℕ → List Owner
plain_owners version blocks variants n b = owned n false (plain_parts (scope_of version blocks variants n b false))

unfoldable pub variant_owners : ℕ → List (Block ℕ) → List ℕ → ℕ → Block ℕ → List Owner
variant_owners version blocks variants n b = owned n true (variant_parts (scope_of version blocks variants n b true) (variant_of variants n))

-- the plain code of the blocks from a number on
abbrev pub all_plain : List (List Owner) → ℕ → List (Block ℕ) → List ℕ → ℕ → List (Block ℕ) → List (List Owner)
all_plain oss version blocks variants n [] = oss
all_plain oss version blocks variants n (b ∷ bs) =
    all_plain (oss ++ plain_owners version blocks variants n b ∷ []) version blocks variants (n + 1) bs

-- the loop variants of those of them that some loop names
abbrev pub all_variants : List (List Owner) → ℕ → List (Block ℕ) → List ℕ → ℕ → List (Block ℕ) → List (List Owner)
all_variants oss version blocks variants n [] = oss
all_variants oss version blocks variants n (b ∷ bs) =
    all_variants (if some_block_loops n blocks then oss ++ variant_owners version blocks variants n b ∷ [] else oss) version blocks variants (n + 1) bs

abbrev pub owners_in : ℕ → List (Block ℕ) → List (List Owner)
owners_in version blocks = all_variants (all_plain [] version blocks (variants_of blocks) 0 blocks) version blocks (variants_of blocks) 0 blocks

-- for each code block of the plan those of its instructions
abbrev pub expanded_owners : Flow → List (List Owner)
expanded_owners fl = owners_in fl.version fl.blocks
