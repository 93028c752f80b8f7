-- Which of the elements takes a token.
use Rattle.std.specs.Prelude.{ℕ, ◌%◌}
use Rattle.tags.specs.declared.token.To.{To}

-- Frames and cells lie on the elements in turn; the frame manager and the host are served by element 0.
abbrev pub element_of : ℕ → To → ℕ
element_of n (To.Instr f ip p) = f % n
element_of n (To.Fetch x) = x % n
element_of n (To.Store x v) = x % n
element_of n To.Manager = 0
element_of n (To.Release f) = 0
element_of n (To.Host p) = 0
