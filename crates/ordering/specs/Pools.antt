-- How often a pool has each token.
use Rattle.std.specs.Prelude.{ℕ, suc, Bool, List, Option, Some, None, count_by, if◌then◌else◌}
use Rattle.std.specs.HashMap as hash
use Rattle.tags.specs.declared.token.Token.{Token}
use Rattle.ordering.specs.Keys.{same}
use Rattle.ordering.specs.declared.pool.Key.{Key}
use Rattle.ordering.specs.declared.pool.Pool.{Pool}
use Rattle.ordering.specs.contracts.pool.KeyPartialEq.TheImpl as key_eq

abbrev pub same_key : Key → Key → Bool
same_key = (key_eq.ghosts).eq

abbrev pub more_than_one : Option ℕ → ℕ
more_than_one None = 0
more_than_one (Some more) = suc more

-- how often the pool has the token
abbrev pub amount : {A : Type 0} → Pool A → Token → ℕ
amount pool q = more_than_one (hash.get same_key pool.more (record { 0 = q }))

-- how often the token q is t: once or not at all
abbrev pub copies : Token → Token → ℕ
copies q t = if same t q then 1 else 0

-- how often the token q is in the list
abbrev pub all_copies : Token → List Token → ℕ
all_copies q ts = count_by (λ t. same t q) ts
