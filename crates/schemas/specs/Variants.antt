-- Which blocks have a loop variant, and the numbers of their code blocks.
use Rattle.std.specs.Prelude.{◌≡◌, ◌<◌, ℕ, zero, suc, ◌+◌, Bool, true, false, ◌==◌, List, [], ◌∷◌, ◌++◌, length, if◌then◌else◌, slice_index_or}
use Rattle.semantics.specs.declared.graph.Kind.{Kind}
use Rattle.semantics.specs.declared.graph.Kind.TheVariants.{Loop}
use Rattle.semantics.specs.Graph.{Node, Block}

abbrev pub loops_to : ℕ → Kind ℕ → Bool
loops_to f (Loop g k) = g == f
loops_to f kind = false

abbrev pub some_node_loops : ℕ → List (Node ℕ) → Bool
some_node_loops f [] = false
some_node_loops f (n ∷ ns) = if loops_to f n.kind then true else some_node_loops f ns

abbrev pub some_block_loops : ℕ → List (Block ℕ) → Bool
some_block_loops f [] = false
some_block_loops f (b ∷ bs) = if some_node_loops f b.nodes then true else some_block_loops f bs

-- a list of flags becomes one in which those that have the property are set, too
abbrev pub Marks : (ℕ → Bool) → List Bool → List Bool → Type 0
Marks p old new = (length new ≡ length old) × ((k : ℕ) → k < length old → slice_index_or new k false ≡ (if slice_index_or old k false then true else p k))

-- for each block whether some loop names it
abbrev pub AreLooped : List (Block ℕ) → List Bool → Type 0
AreLooped bs looped = (length looped ≡ length bs) × ((k : ℕ) → k < length bs → slice_index_or looped k false ≡ some_block_loops k bs)

-- the number of the next loop variant, after the first blocks, whose number is given
abbrev pub next_variant : List (Block ℕ) → ℕ → ℕ
next_variant bs zero = length bs
next_variant bs (suc f) = if some_block_loops f bs then next_variant bs f + 1 else next_variant bs f

abbrev pub variants_from : List (Block ℕ) → ℕ → List ℕ
variants_from bs zero = []
variants_from bs (suc f) = variants_from bs f ++ next_variant bs f ∷ []

abbrev pub variants_of : List (Block ℕ) → List ℕ
variants_of bs = variants_from bs (length bs)
