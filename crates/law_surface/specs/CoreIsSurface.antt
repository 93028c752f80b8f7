-- EACH PROGRAM OF THE CORE is one with derived forms, which has the same tokens, keeps the rules, and is short for itself. So no
-- program of the core has changed.
use Rattle.std.specs.Prelude.{◌≡◌, ℕ, ◌≤◌, map, Ok}
use Rattle.source.specs.Spelled as core_spelled
use Rattle.source.specs.Fits as core_fits
use Rattle.source.specs.Tree as core
use Rattle.source.specs.Counts.{IsGood}
use Rattle.surface.specs.declared.token.Keyword.TheVariants as word
use Rattle.surface.specs.declared.token.Sign.TheVariants as sign
use Rattle.surface.specs.Spelled.{Lexeme, TheWord, TheSign, TheNumber, TheName, Spelling, program_tokens}
use Rattle.surface.specs.Fits.{FitsProgram, program_depth}
use Rattle.surface.specs.Rules.{checked}
use Rattle.surface.specs.Desugared.{desugared}
use Rattle.surface.specs.Embedded.{embedded}

-- a token of the core, with derived forms
abbrev pub surface_lexeme : core_spelled.Lexeme → Lexeme
surface_lexeme (core_spelled.TheWord k) = TheWord (word.Core k)
surface_lexeme (core_spelled.TheSign s) = TheSign (sign.Core s)
surface_lexeme (core_spelled.TheNumber n) = TheNumber n
surface_lexeme (core_spelled.TheName x) = TheName x

abbrev pub surface_spelling : core_spelled.Spelling → Spelling
surface_spelling s = record { place = s.place; lexeme = surface_lexeme s.lexeme }

pub record IsSurface (p : core.Program) (end : ℕ) : Type 0 where
  pub fits : FitsProgram (embedded p)
  pub depth : core_fits.program_depth p ≤ 200 → program_depth (embedded p) ≤ 200
  pub tokens : program_tokens (embedded p) ≡ map surface_spelling (core_spelled.program_tokens p)
  pub checked : checked end (embedded p) ≡ Ok tt
  pub is_itself : desugared (embedded p) ≡ Ok p

abbrev pub CoreIsSurface : Type 0
CoreIsSurface = (p : core.Program) → (good : IsGood p) → IsSurface p good.end
