-- What the fields of a node line say.
use Rattle.std.specs.Prelude.{ℕ, ◌&&◌, not, Bool, List, length, Result, Ok, Err, ok_or, if◌then◌else◌}
use Rattle.semantics.specs.declared.graph.Region.{Region}
use Rattle.semantics.specs.declared.graph.Kind.{Kind}
use Rattle.semantics.specs.declared.graph.Kind.TheVariants as kinds
use Rattle.semantics.specs.Graph.{Node}
use Rattle.semantics.specs.declared.version.Version.{Version}
use Rattle.graph_file.specs.declared.fault.ReadFaultKind.{ReadFaultKind}
use Rattle.graph_file.specs.declared.fault.ReadFaultKind.TheVariants.{BadLine, TooMany}
use Rattle.graph_file.specs.declared.words.Word.{Word}
use Rattle.graph_file.specs.declared.words.Word.TheVariants.{Lit, Apply1, Apply2, Cond, Enter, Merge, Fetch, Store, Call, StrictCall, Loop}
use Rattle.graph_file.specs.Giving.{◌>>=◌}
use Rattle.graph_file.specs.Fields.{region_of, field_from, number_from, literal_from, name_from, sources_from}
use Rattle.graph_file.specs.Words.{word_of, has_form, has_room}

-- a kind, and the fields after its operands
unfoldable pub kind_from : Word → List (List ℕ) → Result (Kind (List ℕ) × List (List ℕ)) ReadFaultKind
kind_from Lit fs = do
  z ← literal_from fs
  Ok (kinds.Lit z.0, z.1)
kind_from (Apply1 op) fs = Ok (kinds.Apply1 op, fs)
kind_from (Apply2 op) fs = Ok (kinds.Apply2 op, fs)
kind_from Cond fs = Ok (kinds.Cond, fs)
kind_from Enter fs = Ok (kinds.Enter, fs)
kind_from Merge fs = do
  k ← number_from fs
  Ok (kinds.Merge k.0, k.1)
kind_from Fetch fs = do
  a ← name_from fs
  Ok (kinds.Fetch a.0, a.1)
kind_from Store fs = do
  a ← name_from fs
  Ok (kinds.Store a.0, a.1)
kind_from Call fs = do
  f ← name_from fs
  Ok (kinds.Call f.0, f.1)
kind_from StrictCall fs = do
  f ← name_from fs
  Ok (kinds.StrictCall f.0, f.1)
kind_from Loop fs = do
  f ← name_from fs
  k ← number_from f.1
  Ok (kinds.Loop f.0 k.0, k.1)

-- a line's region and word, and the fields after them
unfoldable pub head_from : Version → List (List ℕ) → Result (Region × Word × List (List ℕ)) ReadFaultKind
head_from version fs = do
  r ← field_from fs
  region ← ok_or (region_of r.0) BadLine
  w ← field_from r.1
  word ← ok_or (word_of version w.0) BadLine
  if has_form word (length w.1) then Ok (region, word, w.1) else Err BadLine

-- A node line: its form, then the limits on nodes and sources, then its fields. `full` says that the block has as many nodes as it may have.
unfoldable pub node_from : Version → Bool → List (List ℕ) → Result (Node (List ℕ)) ReadFaultKind
node_from version full fs = do
  head ← head_from version fs
  fields ← if not full && has_room head.1 (length head.2) then Ok head.2 else Err TooMany
  kind ← kind_from head.1 fields
  sources ← sources_from kind.1
  Ok record { region = head.0; kind = kind.0; sources = sources }
