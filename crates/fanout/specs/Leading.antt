-- Which instruction a destination leads to.
use Rattle.std.specs.Prelude.{ℕ, ◌+◌}
use Rattle.tags.specs.declared.token.Port.{Port}
use Rattle.semantics.specs.declared.program.Dest.{Dest}

abbrev pub leads_to : ℕ → Dest → ℕ × Port
leads_to ip d = (ip + d.ahead, d.port)
