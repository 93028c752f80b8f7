-- Contexts: whether two are the same, and how deep one lies.
use Rattle.std.specs.Prelude.{ℕ, ◌+◌, ◌==◌, ◌&&◌, Bool, true, false}
use Rattle.semantics.specs.Meaning.{Context, Main, Called, Turned}

abbrev pub same_context : Context → Context → Bool
same_context Main Main = true
same_context (Called c m) (Called d n) = (m == n) && same_context c d
same_context (Turned c m i) (Turned d n j) = (m == n) && ((i == j) && same_context c d)
same_context c d = false

-- a turn lies deeper than those before it
abbrev pub depth : Context → ℕ
depth Main = 0
depth (Called c n) = depth c + 1
depth (Turned c n t) = depth c + 1 + t
