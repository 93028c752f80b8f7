-- THE OBJECT OF A TEXT'S PROGRAM: that of the code for its graph.
use Rattle.std.specs.Prelude.{ℕ, List}
use Rattle.semantics.specs.Graph.{Graph}
use Rattle.semantics.specs.Text.{text_of}
use Rattle.source.specs.Tree.{Program}
use Rattle.lowered_text.specs.Lowers.{Lowers}
use Rattle.driver.specs.Refused.{IsCompiled}

pub record IsProgramObject (text bytes : List ℕ) : Type 0 where
  pub program : Program
  pub graph : Graph
  pub lowers : Lowers text program graph
  pub compiled : IsCompiled (text_of graph) graph bytes
