-- How the tokens lie in the places.
use Rattle.std.specs.Prelude.{◌≡◌, ℕ, ◌+◌, ◌-◌, ◌%◌, ◌^◌, ◌<◌, ◌≤◌, ◌⊎◌, List, ◌++◌, length, take, drop}

-- `count` of the list's items from `head` on, and on from the list's start
abbrev pub ring : {X : Type 0} → ℕ → ℕ → List X → List X
ring head count xs = take count (drop head xs ++ take head xs)

-- how many are between two counts that begin again at 2 ^ 64
abbrev pub between : ℕ → ℕ → ℕ
between head tail = (tail + (2 ^ 64 - head)) % 2 ^ 64

-- what was put in and not taken out, the oldest in the place of the count of those that were taken out
abbrev pub held : {X : Type 0} → ℕ → ℕ → List X → List X
held head tail xs = ring (head % length xs) (between head tail) xs

abbrev pub IsPower : ℕ → Type 0
IsPower n = (k : ℕ) × (n ≡ 2 ^ k)

-- `places` places, of which those of the counts from `head` on and before `tail` have a token
pub record IsRing (places mask head tail : ℕ) : Type 0 where
  pub power : (places ≡ 0) ⊎ IsPower places
  pub few : places ≤ 2 ^ 63
  pub masked : mask ≡ places - 1
  pub begun : head < 2 ^ 64
  pub ended : tail < 2 ^ 64
  pub fits : between head tail ≤ places
