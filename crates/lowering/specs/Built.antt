-- WHAT LOWERING RETURNS: the arrays and the blocks of the graph, and the places in the text from which each block came.
use Rattle.std.specs.Prelude.{◌≡◌, ℕ, List, map, Ok}
use Rattle.semantics.specs.Graph.{Block}
use Rattle.source.specs.Tree.{Name, Program}
use Rattle.source.specs.Lowered.{Made, MadeBlock, lowered, graph_of, arrays_of, blocks_of, made_blocks}

-- the place of the function's name or of the word `loop`, how many inputs the block has, and the place of each node line
pub record Places : Type 0 where
  pub block : ℕ
  pub inputs : ℕ
  pub nodes : List ℕ

abbrev pub places_of : MadeBlock → Places
places_of b = record { block = b.at; inputs = b.inputs; nodes = map (λ (m : Made). m.at) b.nodes }

pub record IsLowered (p : Program) (cells : List (Name × ℕ)) (blocks : List (Name × Block Name)) (origins : List Places) : Type 0 where
  pub lowered : lowered p ≡ Ok (graph_of p)
  pub arrays : cells ≡ arrays_of p
  pub code : blocks ≡ blocks_of p p
  pub places : origins ≡ map places_of (made_blocks p p)
