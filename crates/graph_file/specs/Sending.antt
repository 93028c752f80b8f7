-- The texts of the parts of a graph that are written one after the other.
use Rattle.std.specs.Prelude.{ℕ, List, ◌++◌, codes, decimal}
use Rattle.semantics.specs.declared.graph.Source.{Source}
use Rattle.semantics.specs.Text.{field, line, sources_text}
use Rattle.semantics.specs.Graph.{Block}

-- a source, with the space before it
abbrev pub source_text : Source → List ℕ
source_text s = field (decimal s.node ++ codes "." ++ decimal s.port)

-- the first line of a block
abbrev pub head_text : List ℕ × Block (List ℕ) → List ℕ
head_text b = line (codes "block" ++ field b.0 ++ field (decimal b.1.inputs) ++ field (decimal b.1.outputs))

-- the line of a block's results
abbrev pub out_text : List Source → List ℕ
out_text ss = line (codes "out" ++ sources_text ss)

-- the first line of a text
abbrev pub version_text : ℕ → List ℕ
version_text v = line (codes "etsgraph" ++ field (decimal v))

-- the last line of a text
abbrev pub main_text : List ℕ → List ℕ
main_text m = line (codes "main" ++ field m)
