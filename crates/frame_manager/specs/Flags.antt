-- Which frames are out, stored as the set of those that are free.
use Rattle.std.specs.Prelude.{◌≡◌, ℕ, ◌*◌, ◌^◌, ◌<◌, ◌≤◌, Bool, true, false, ◌==◌, List, map, length, slice_index, slice_index_or}
use Rattle.std.specs.List.{range_with_len}
use Rattle.semantics.specs.Report.{sum_below, one_if}
use Rattle.frame_manager.specs.Bits.{bit_of}

-- for each of `count` frames, whether it is out
abbrev pub out_flags : ℕ → List ℕ → List Bool
out_flags count words = map (λ f. bit_of words f == 0) (range_with_len 0 count)

abbrev pub flag_at : List Bool → ℕ → Bool
flag_at flags f = slice_index_or flags f false

-- how many are out
abbrev pub out_count : List Bool → ℕ
out_count flags = sum_below (length flags) (λ f. one_if (flag_at flags f))

-- f is free, and no frame before it is
pub record IsLeastFree (flags : List Bool) (f : ℕ) : Type 0 where
  pub there : f < length flags
  pub free : flag_at flags f ≡ false
  pub least : (g : ℕ) → g < f → flag_at flags g ≡ true

-- `groups` is the set of the words that are not 0
pub record IsSummed (count : ℕ) (words groups : List ℕ) : Type 0 where
  pub covered : count ≤ 64 * length words
  pub grouped : length words ≤ 64 * length groups
  pub small : 64 * length words < 2 ^ 63
  pub small_groups : 64 * length groups < 2 ^ 63
  pub beyond : (f : ℕ) → count ≤ f → bit_of words f ≡ 0
  pub empty : (w : ℕ) → slice_index words w ≡ 0 → bit_of groups w ≡ 0
  pub used : (w : ℕ) → bit_of groups w ≡ 0 → slice_index words w ≡ 0
