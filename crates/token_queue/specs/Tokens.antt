-- What a contract sees of a queue.
use Rattle.std.specs.Prelude.{ℕ, List}
use Rattle.tags.specs.declared.token.Token.{Token}

-- the tokens, oldest first, how many there may be before the queue grows, and how many were taken out, modulo 2 ^ 64
pub record Tokens : Type 0 where
  pub items : List Token
  pub room : ℕ
  pub gone : ℕ
