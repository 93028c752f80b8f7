-- THE MACHINE LOWERS a program: over its words, with the plans that the words determine, it makes the blocks of the definition.
use Rattle.std.specs.Prelude.{◌≡◌, ℕ, [], map, Ok}
use Rattle.source.specs.Tree.{Name, Program}
use Rattle.source.specs.Words.{program_words}
use Rattle.source.specs.Fits.{FitsProgram}
use Rattle.source.specs.Rules.{checked, function_in}
use Rattle.source.specs.Lowered.{MadeBlock, results_of, made_blocks, blocks_of, graph_block, arrays_of}
use Rattle.lowering.specs.Functions.{between}
use Rattle.lowering.specs.Machine.{run}
use Rattle.lowering.specs.Results.{gathered_results, gathered_arrays}
use Rattle.lowering.specs.Blocks.{named_blocks}
use Rattle.lowering.specs.Scan.{gathered_plans}

abbrev pub MachineLowers : Type 0
MachineLowers = (p : Program) (end : ℕ) → FitsProgram p → checked end p ≡ Ok tt
    → run p (between (gathered_plans (program_words p)) []) (program_words p) ≡ between [] (named_blocks p p)

-- these blocks are those of the definition, and of the graph
abbrev pub BlocksAreMade : Type 0
BlocksAreMade = (p : Program) → map (λ (b : Name × MadeBlock). b.1) (named_blocks p p) ≡ made_blocks p p

abbrev pub BlocksOfGraph : Type 0
BlocksOfGraph = (p : Program) → map (λ (b : Name × MadeBlock). graph_block b.0 b.1) (named_blocks p p) ≡ blocks_of p p

-- what the words say of a function is how many results it has
abbrev pub ResultsAreGathered : Type 0
ResultsAreGathered = (p : Program) (f : Name) → gathered_results (program_words p) f ≡ results_of (function_in p f)

abbrev pub ArraysAreGathered : Type 0
ArraysAreGathered = (p : Program) → gathered_arrays (program_words p) ≡ arrays_of p
