-- THE BLOCKS OF A PROGRAM, each with the name of its function, in the order of the graph.
use Rattle.std.specs.Prelude.{List, [], ◌∷◌, ◌++◌}
use Rattle.source.specs.Tree.{Name, Item, Cells, Defines, Program}
use Rattle.source.specs.Lowered.{MadeBlock, function_blocks}
use Rattle.lowering.specs.Functions.{of_function}

abbrev pub named_blocks : Program → List Item → List (Name × MadeBlock)
named_blocks p [] = []
named_blocks p (Cells x len ∷ items) = named_blocks p items
named_blocks p (Defines f ∷ items) = of_function f.name.name (function_blocks p f) ++ named_blocks p items
