-- What a keeping reader has stored.
use Rattle.std.specs.Prelude.{◌≡◌, ℕ, List, ◌++◌, Option, IfSome, IsSomeAnd}

-- all that was there before, without what is left
abbrev pub HasRead : Option (List ℕ) → Option (List ℕ) → List ℕ → Type 0
HasRead before left kept = IfSome before (λ xs. IsSomeAnd left (λ ys. xs ≡ kept ++ ys))
