-- What was found in a text so far.
use Rattle.std.specs.Prelude.{ℕ, List}
use Rattle.semantics.specs.Graph.{Block}
use Rattle.semantics.specs.declared.version.Version.{Version}

pub record Found : Type 0 where
  pub version : Version
  pub arrays : List (List ℕ × ℕ)
  -- of all arrays
  pub cells : ℕ
  pub blocks : List (List ℕ × Block (List ℕ))
