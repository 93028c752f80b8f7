-- PLACES THAT WERE REACHED, with their lines and columns.
use Rattle.std.specs.Prelude.{◌≡◌, ◌≤◌, ◌+◌, ℕ, List, length}
use Rattle.source.specs.Tokens.{Position, position}
use Rattle.source_tokens.specs.declared.placing.Reached.{Reached}

abbrev pub seen_at : Reached → Position
seen_at r = record { line = r.line; column = r.column }

pub record IsReached (program : List ℕ) (r : Reached) : Type 0 where
  pub within : r.at ≤ length program
  pub position : seen_at r ≡ position program r.at
  pub few_lines : r.line ≤ r.at + 1
  pub few_columns : r.column ≤ r.at + 1
