-- Requests for frames that are held back.
use Rattle.std.specs.Prelude.{ℕ, suc, Bool, true, false, List, [], ◌∷◌, if◌then◌else◌}
use Rattle.tags.specs.declared.token.To.{To}
use Rattle.tags.specs.declared.token.Token.{Token}

abbrev pub is_for_manager : To → Bool
is_for_manager (To.Instr f ip p) = false
is_for_manager (To.Fetch x) = false
is_for_manager (To.Store x v) = false
is_for_manager To.Manager = true
is_for_manager (To.Release f) = false
is_for_manager (To.Host p) = false

-- how many requests for frames a queue begins with
abbrev pub held_back : List Token → ℕ
held_back [] = 0
held_back (t ∷ ts) = if is_for_manager t.to then suc (held_back ts) else 0

-- whether it begins with one
abbrev pub asks_first : List Token → Bool
asks_first [] = false
asks_first (t ∷ ts) = is_for_manager t.to
