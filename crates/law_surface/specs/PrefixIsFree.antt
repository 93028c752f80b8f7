-- NO NAME OF A TEXT begins as the hidden ones do.
use Rattle.std.specs.Prelude.{◌≡◌, ◌<◌, ◌^◌, false, List, length}
use Rattle.std.specs.List.{list_any}
use Rattle.source.specs.Tree.{Name}
use Rattle.source.specs.Tokens.{begins}
use Rattle.surface.specs.Instances.{hidden_prefix}

abbrev pub PrefixIsFree : Type 0
PrefixIsFree = (names : List Name) → length names < 2 ^ 64 → list_any (begins (hidden_prefix names)) names ≡ false
