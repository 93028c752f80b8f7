-- What each name of a scope stands for, in a map.
use Rattle.std.specs.Prelude.{◌≡◌, unwrap_or}
use Rattle.std.specs.BTreeMap.{BTreeMap, get_by}
use Rattle.std.specs.Cmp.Lexicographic.{slice_cmp}
use Rattle.std.specs.Ordering.{nat_cmp}
use Rattle.semantics.specs.declared.graph.Source.{Source}
use Rattle.source.specs.Tree.{Name}
use Rattle.source.specs.Lowered.{Scope, source_in, port}
use denote.Ref.{Bor}

abbrev pub IsLatest : BTreeMap (Bor Name) Source → Scope → Type 0
IsLatest m scope = (x : Name) → unwrap_or (get_by (λ k. slice_cmp nat_cmp x k.now) m) (port 0 0) ≡ source_in scope x
