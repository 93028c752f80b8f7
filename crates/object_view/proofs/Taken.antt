-- A list that is built from its elements by their numbers.
use Rattle.std.proofs.Common.{◌≡◌, ℕ, ◌≤◌, List, length, take, None, ◌∙◌}
use Rattle.std.specs.Prelude.{slice_get}
use Rattle.std.proofs.lemmas.List.{take_all}
use Rattle.lemmas.proofs.SliceGet.{get_none}

-- all of them
pub all : {X : Type 0} (n : ℕ) (xs done : List X) → length xs ≤ n → done ≡ take n xs → done ≡ xs
all n xs done le so = so ∙ take_all n xs le

-- where there is no further one, it has all
pub outside : {X : Type 0} (n : ℕ) (xs done : List X) → slice_get xs n ≡ None → done ≡ take n xs → done ≡ xs
outside n xs done none so = all n xs done (get_none xs n none) so
