-- What code does with a value of a `let`, as the tree has it.
use Rattle.std.specs.Prelude.{Option, None, Some}
use Rattle.source.specs.Tree.{NameAt, Target, Bind, Drop}

abbrev pub target_of : Option NameAt → Target
target_of None = Drop
target_of (Some x) = Bind x
