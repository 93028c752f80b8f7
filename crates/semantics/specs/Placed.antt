-- The code of a plan with slots: each instruction uses its holder's slot.
use Rattle.std.specs.Prelude.{ℕ, ◌+◌, max, List, [], ◌∷◌}
use Rattle.semantics.specs.Program.{CodeBlock, Program}
use Rattle.semantics.specs.Plan.{Plan}
use Rattle.semantics.specs.Sharing.{placed_instrs}

-- one more than the greatest: how many slots a block needs
abbrev pub needed : List ℕ → ℕ
needed [] = 0
needed (s ∷ ss) = max (s + 1) (needed ss)

-- the slots of the first block are those of its holders in order, and so on
abbrev pub placed_blocks : List (List ℕ) → List CodeBlock → List CodeBlock
placed_blocks [] cs = []
placed_blocks (ss ∷ more) [] = []
placed_blocks (ss ∷ more) (c ∷ cs) = record c { slots = needed ss; instrs = placed_instrs ss c.instrs } ∷ placed_blocks more cs

abbrev pub placed : Plan → List (List ℕ) → Program
placed p slots = record { blocks = placed_blocks slots p.program.blocks; arrays = p.program.arrays; main = p.program.main }
