-- Names that are looked up.
use Rattle.std.specs.Prelude.{◌≡◌, ℕ, Bool, List, map, length, Option, Some, None, nat_lt, if◌then◌else◌}
use Rattle.std.specs.BTreeMap.{BTreeMap, get_by}
use Rattle.std.specs.Cmp.Lexicographic.{slice_cmp}
use Rattle.std.specs.Ordering.{nat_cmp}
use Rattle.semantics.specs.Graph.{Block, place_of}
use denote.Ref.{Bor}

abbrev pub names_of_arrays : List (List ℕ × ℕ) → List (List ℕ)
names_of_arrays arrays = map (λ (a : List ℕ × ℕ). a.0) arrays

abbrev pub names_of_blocks : List (List ℕ × Block (List ℕ)) → List (List ℕ)
names_of_blocks blocks = map (λ (b : List ℕ × Block (List ℕ)). b.0) blocks

-- the name is one of the names
abbrev pub is_name : List ℕ → List (List ℕ) → Bool
is_name name names = nat_lt (place_of name names) (length names)

-- where a name is, if it is one of the names
abbrev pub place_if : List ℕ → List (List ℕ) → Option ℕ
place_if name names = if is_name name names then Some (place_of name names) else None

-- a map from each name to its place
abbrev pub IsIndexOf : BTreeMap (Bor (List ℕ)) ℕ → List (List ℕ) → Type 0
IsIndexOf m names = (name : List ℕ) → get_by (λ k. slice_cmp nat_cmp name k.now) m ≡ place_if name names
