-- The plan of a graph.
use Rattle.std.specs.Prelude.{ℕ, ◌+◌, ◌≤◌, Bool, true, false, List, [], ◌∷◌, ◌++◌, length, if◌then◌else◌, All}
use Rattle.semantics.specs.declared.program.Mark.{Mark}
use Rattle.semantics.specs.Graph.{Block, Flow}
use Rattle.semantics.specs.Program.{CodeBlock}
use Rattle.semantics.specs.Plan.{Plan}
use Rattle.schemas.specs.Scopes.{Scope}
use Rattle.schemas.specs.Triggers.{triggers_of}
use Rattle.schemas.specs.UseCounts.{uses_of}
use Rattle.schemas.specs.Variants.{some_block_loops, variants_of}
use Rattle.schemas.specs.Blocks.{IsSmallBlock, FewOutputs, Coded, code_of, plain_build, variant_build, variant_of}

-- within the limits
pub record IsSmallFlow (fl : Flow) : Type 0 where
  pub few : length fl.blocks ≤ 256
  pub small : All IsSmallBlock fl.blocks
  pub outputs : FewOutputs fl.blocks

-- a block, for a plain call or for an iteration
abbrev pub scope_of : ℕ → List (Block ℕ) → List ℕ → ℕ → Block ℕ → Bool → Scope
scope_of version blocks variants number b turns = record {
  version = version;
  number = number;
  blocks = blocks;
  variants = variants;
  block = b;
  triggers = triggers_of b (b.inputs + length b.nodes);
  uses = uses_of b (triggers_of b (b.inputs + length b.nodes)) turns (b.inputs + length b.nodes);
}

unfoldable pub plain_code : ℕ → List (Block ℕ) → List ℕ → ℕ → Block ℕ → Coded
plain_code version blocks variants number b = code_of b (plain_build (scope_of version blocks variants number b false))

unfoldable pub variant_code : ℕ → List (Block ℕ) → List ℕ → ℕ → Block ℕ → Coded
variant_code version blocks variants number b = code_of b (variant_build (scope_of version blocks variants number b true) (variant_of variants number))

-- code blocks, with the marks of each
pub record Codes : Type 0 where
  pub blocks : List CodeBlock
  pub marks : List (List Mark)

abbrev pub with_code : Codes → Coded → Codes
with_code cs c = record { blocks = cs.blocks ++ c.code ∷ []; marks = cs.marks ++ c.marks ∷ [] }

-- the plain code of the blocks from a number on
abbrev pub plain_codes : Codes → ℕ → List (Block ℕ) → List ℕ → ℕ → List (Block ℕ) → Codes
plain_codes cs version blocks variants n [] = cs
plain_codes cs version blocks variants n (b ∷ bs) = plain_codes (with_code cs (plain_code version blocks variants n b)) version blocks variants (n + 1) bs

-- the loop variants of those of them that some loop names
abbrev pub variant_codes : Codes → ℕ → List (Block ℕ) → List ℕ → ℕ → List (Block ℕ) → Codes
variant_codes cs version blocks variants n [] = cs
variant_codes cs version blocks variants n (b ∷ bs) =
    variant_codes (if some_block_loops n blocks then with_code cs (variant_code version blocks variants n b) else cs) version blocks variants (n + 1) bs

abbrev pub no_codes : Codes
no_codes = record { blocks = []; marks = [] }

abbrev pub codes_of : ℕ → List (Block ℕ) → Codes
codes_of version blocks =
    variant_codes (plain_codes no_codes version blocks (variants_of blocks) 0 blocks) version blocks (variants_of blocks) 0 blocks

-- the plan of a graph whose names are resolved
abbrev pub expanded : Flow → Plan
expanded fl = record {
  program = record { blocks = (codes_of fl.version fl.blocks).blocks; arrays = fl.arrays; main = fl.main };
  plain = length fl.blocks;
  marks = (codes_of fl.version fl.blocks).marks;
}
