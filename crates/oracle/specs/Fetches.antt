-- The fetches that wait where a run of the meaning is at rest.
use Rattle.std.specs.Prelude.{ℕ, ℤ, List, [], ◌∷◌, ◌++◌, Option, Some, None, slice_get}
use Rattle.tags.specs.declared.value.Value.{Value}
use Rattle.tags.specs.declared.value.Value.TheVariants.{Int}
use Rattle.semantics.specs.Graph.{Graph}
use Rattle.semantics.specs.declared.graph.Kind.TheVariants.{Fetch}
use Rattle.oracle.specs.declared.invocations.Invocation.{Invocation}
use Rattle.oracle.specs.declared.lines.Line.{Line}
use Rattle.oracle.specs.declared.lines.Line.TheVariants.{Node}
use Rattle.oracle.specs.declared.report.WaitingFetch.{WaitingFetch}
use Rattle.oracle.specs.declared.tokens.Spot.{Spot}
use Rattle.oracle.specs.declared.tokens.Spot.TheVariants.{Operand}
use Rattle.oracle.specs.declared.tokens.Token.{Token}
use Rattle.oracle.specs.Lines.{line_of}

-- the fetch of this index by what is at a node
abbrev pub fetch_by : ℕ → ℕ → ℤ → Line → List WaitingFetch
fetch_by block n z (Node region (Fetch a) arity) = record { block = block; node = n; array = a; index = z } ∷ []
fetch_by block n z line = []

-- by a token at a node of a block: its value is the index
abbrev pub fetch_at : Graph → ℕ → Spot → Value → List WaitingFetch
fetch_at g block (Operand n i) (Int z) = fetch_by block n z (line_of g block n)
fetch_at g block s v = []

abbrev pub fetch_under : Graph → Token → Option Invocation → List WaitingFetch
fetch_under g t None = []
fetch_under g t (Some x) = fetch_at g x.block t.spot t.value

-- the fetches that these tokens are for, in order
abbrev pub fetches_of : Graph → List Invocation → List Token → List WaitingFetch
fetches_of g xs [] = []
fetches_of g xs (t ∷ ts) = fetch_under g t (slice_get xs t.context) ++ fetches_of g xs ts
