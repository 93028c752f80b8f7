-- What an input gives: the text of a graph, and the integers of the lines that follow it.
use Rattle.std.specs.Prelude.{◌≡◌, ℕ, ℤ, ◌⊎◌, List, ◌++◌, length, Ok, Err}
use Rattle.outcomes.specs.declared.refusal.Refusal.{Refusal}
use Rattle.commands.specs.Input.{graph_length, integers_of}
use Rattle.commands.specs.Served.{Parts, IsRefusedLine}

pub record IsFeed (input text : List ℕ) (inputs : List ℤ) : Type 0 where
  pub lines : List ℕ
  pub whole : text ++ lines ≡ input
  pub end : length text ≡ graph_length input
  pub integers : integers_of lines ≡ Ok inputs

-- Why it does not: a line is not an integer, which is reported only of a graph that has an object; or memory was refused.
pub record IsNoFeed (input : List ℕ) (f : Refusal) : Type 0 where
  pub parts : Parts input
  pub why : (f ≡ Refusal.Memory) ⊎ ((n : ℕ) × (integers_of parts.lines ≡ Err n) × IsRefusedLine parts.text n f)
