-- A graph whose names are resolved, part by part.
use Rattle.std.specs.Prelude.{ℕ, List}
use Rattle.semantics.specs.Graph.{Graph, Node, Block, array_names, block_names, resolved_kind, resolved_block}

abbrev pub NamedArray : Type 0
NamedArray = List ℕ × ℕ

abbrev pub NamedBlock : Type 0
NamedBlock = List ℕ × Block (List ℕ)

abbrev pub array_length : NamedArray → ℕ
array_length a = a.1

abbrev pub resolved_node : Graph → Node (List ℕ) → Node ℕ
resolved_node g n = record { region = n.region; kind = resolved_kind (array_names g) (block_names g) n.kind; sources = n.sources }

abbrev pub resolved_named : Graph → NamedBlock → Block ℕ
resolved_named g b = resolved_block (array_names g) (block_names g) b.1
