-- WHAT IS MADE OF A PART: something of the core, the `let`s that go before the statement which it is in, and how many hidden
-- names the function has now. Nothing in a program has an order, so a value may be named before the statement.
use Rattle.std.specs.Prelude.{ℕ, ◌+◌, List, [], ◌∷◌, ◌++◌, decimal, ⊤}
use Rattle.source.specs.Tree.{Name, Target, Bind, Expr, Named, Exprs, One, Body, Let, Give, Chain}

-- a `let` before a statement
pub record Held : Type 0 where
  pub at : ℕ
  pub targets : List Target
  pub values : Exprs

pub record Made (A : Type 0) : Type 0 where
  pub lets : List Held
  pub it : A
  pub given : ℕ

-- from the number of hidden names that the function has so far
abbrev pub Making : Type 0 → Type 0
Making A = ℕ → Made A

abbrev pub made : {A : Type 0} → A → (ℕ → Made A)
made x = λ n. record { lets = []; it = x; given = n }

abbrev pub behind : {A : Type 0} → List Held → Made A → Made A
behind lets m = record { lets = lets ++ m.lets; it = m.it; given = m.given }

-- first this, and then that of it
infixl 10 ◌>>=◌
abbrev pub ◌>>=◌ : {A B : Type 0} → (ℕ → Made A) → (A → ℕ → Made B) → (ℕ → Made B)
m >>= f = λ n. behind (m n).lets (f (m n).it (m n).given)

-- The hidden names of a function are the prefix with 1, 2 and so on.
abbrev pub hidden : Name → ℕ → Name
hidden prefix n = prefix ++ decimal (n + 1)

abbrev pub fresh : Name → (ℕ → Made Name)
fresh prefix = λ n. record { lets = []; it = hidden prefix n; given = n + 1 }

abbrev pub hold : ℕ → List Target → Exprs → (ℕ → Made ⊤)
hold at targets values = λ n. record { lets = record { at = at; targets = targets; values = values } ∷ []; it = tt; given = n }

abbrev pub target : ℕ → Name → Target
target at x = Bind (record { at = at; name = x })

-- a hidden name for an expression
abbrev pub bound_to : Name → ℕ → Expr → (ℕ → Made Expr)
bound_to prefix at e = do
  h ← fresh prefix
  held ← hold at (target at h ∷ []) (One e)
  made (Named at h)

-- the `let`s before a body
abbrev pub under : List Held → Body → Body
under [] body = body
under (l ∷ ls) body = Let l.at l.targets l.values (under ls body)

-- a body with the `let`s of its first statement
abbrev pub enclosed : (ℕ → Made Body) → (ℕ → Made Body)
enclosed m = λ n. record { lets = []; it = under (m n).lets (m n).it; given = (m n).given }

-- a body that gives an expression
abbrev pub inside : (ℕ → Made Expr) → (ℕ → Made Body)
inside m = enclosed (do
  e ← m
  made (Give (One e)))

-- what is after an `else`: an `if` without braces, where it needs no `let`
abbrev pub chained : List Held → Expr → Body
chained [] e = Chain e
chained (l ∷ ls) e = under (l ∷ ls) (Give (One e))

abbrev pub otherwise : (ℕ → Made Expr) → (ℕ → Made Body)
otherwise m = λ n. record { lets = []; it = chained (m n).lets (m n).it; given = (m n).given }
