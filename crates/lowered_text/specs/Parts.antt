-- A TEXT'S PROGRAM AND ITS GRAPH, as code has them.
use Rattle.std.specs.Prelude.{◌≡◌, ℕ, List, map, Ok}
use Rattle.semantics.specs.Graph.{Graph, Block}
use Rattle.source.specs.Tokens.{program_of, inputs_of}
use Rattle.source.specs.Tree.{Name, Program}
use Rattle.source.specs.Words.{NamedWords, IsProgram}
use Rattle.source.specs.Counts.{IsGood as IsGoodProgram}
use Rattle.source.specs.Lowered.{lowered, graph_of, arrays_of, blocks_of, made_blocks}
use Rattle.law_language.specs.LoweredHasText.{HasSpelledNames}
use Rattle.lowering.specs.Built.{Places, places_of}
use Rattle.lowered_text.specs.Lowers.{IsGoodProgramOf, Lowers}

-- the two parts of a text, and the names and words of its program, which keeps the rules
pub record IsGood (text program : List ℕ) (ws : NamedWords) (inputs : List ℕ) : Type 0 where
  pub text_is : program ≡ program_of text
  pub inputs_are : inputs ≡ inputs_of text
  pub tree : Program
  pub good : IsGoodProgramOf text tree
  pub words : IsProgram ws.names ws.words tree

-- the graph that the program is lowered to, and for each of its blocks the places in the text
pub record IsMade (text : List ℕ) (g : Graph) (ps : List Places) : Type 0 where
  pub tree : Program
  pub lowers : Lowers text tree g
  pub places : ps ≡ map places_of (made_blocks tree tree)

-- the arrays and the blocks of the graph that a good program is lowered to
pub record AreParts (arrays : List (Name × ℕ)) (blocks : List (Name × Block Name)) : Type 0 where
  pub tree : Program
  pub good : IsGoodProgram tree
  pub spelled : HasSpelledNames tree
  pub lowered : lowered tree ≡ Ok (graph_of tree)
  pub arrays_are : arrays ≡ arrays_of tree
  pub blocks_are : blocks ≡ blocks_of tree tree
