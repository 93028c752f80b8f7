-- The pool of tokens, by the history of its commits: each takes tokens that are in the pool and puts others in.
use Rattle.std.specs.Prelude.{◌≡◌, ℕ, List, [], ◌∷◌, ◌++◌, All, IsPermutation}
use Rattle.tags.specs.declared.token.Token.{Token}
use Rattle.tags.specs.Addresses.{element_of}

pub record Commit : Type 0 where
  pub element : ℕ
  pub spent : List Token
  pub made : List Token

-- At each commit the spent tokens are in the pool and addressed to its element; the last pool is that after all commits.
abbrev pub LeavesPool : ℕ → List Token → List Commit → List Token → Type 0
LeavesPool elements pool [] last = IsPermutation pool last
LeavesPool elements pool (c ∷ later) last =
    (rest : List Token) × IsPermutation pool (c.spent ++ rest) × All (λ (t : Token). element_of elements t.to ≡ c.element) c.spent
    × LeavesPool elements (c.made ++ rest) later last

abbrev pub IsLegal : ℕ → List Token → List Commit → Type 0
IsLegal elements pool history = (last : List Token) × LeavesPool elements pool history last
