-- The lists of picks that a seed chooses.
use Rattle.std.specs.Prelude.{ℕ, zero, suc, ◌+◌, ◌*◌, ◌/◌, ◌%◌, ◌^◌, List, [], ◌∷◌}

-- PSEUDORANDOM NUMBERS: each from the one before, below 2 ^ 64
abbrev pub next_number : ℕ → ℕ
next_number x = (x * 6364136223846793005 + 1442695040888963407) % 2 ^ 64

-- the number before the first one of an order; orders are counted from 0
abbrev pub first_number : ℕ → ℕ → ℕ
first_number seed order = (seed + order * 11400714819323198485) % 2 ^ 64

-- a pick: an element, and one of its tokens
abbrev pub pick_of : ℕ → ℕ → ℕ × ℕ
pick_of elements x = (next_number x / 2 ^ 32 % elements, next_number (next_number x) / 2 ^ 16)

unfoldable pub picks_from : ℕ → ℕ → ℕ → List (ℕ × ℕ)
picks_from elements zero x = []
picks_from elements (suc n) x = pick_of elements x ∷ picks_from elements n (next_number (next_number x))

-- the number before the next pick, after that many
unfoldable pub number_after : ℕ → ℕ → ℕ
number_after zero x = x
number_after (suc n) x = number_after n (next_number (next_number x))
