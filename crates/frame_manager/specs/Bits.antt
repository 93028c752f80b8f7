-- Sets of numbers as words of 64 bits.
use Rattle.std.specs.Prelude.{◌≡◌, ℕ, ◌/◌, ◌%◌, ◌<◌, List, slice_index}
use Rattle.std.specs.Int.{bit_at}

-- 1 where the number i is in the set, else 0
abbrev pub bit_of : List ℕ → ℕ → ℕ
bit_of words i = bit_at (slice_index words (i / 64)) (i % 64)

-- i is the least number in the set
pub record IsFirst (words : List ℕ) (i : ℕ) : Type 0 where
  pub there : bit_of words i ≡ 1
  pub least : (k : ℕ) → k < i → bit_of words k ≡ 0
