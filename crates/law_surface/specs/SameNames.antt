-- NAMES are the same with derived forms: each new word is reserved in the core.
use Rattle.std.specs.Prelude.{◌≡◌, ◌↔◌, ℕ, true, List, None}
use Rattle.source.specs.Tokens as core
use Rattle.surface.specs.Tokens.{keyword_of, is_name}

abbrev pub NamesAreSame : Type 0
NamesAreSame = (run : List ℕ) → (core.keyword_of run ≡ None) × (core.is_name run ≡ true) ↔ (keyword_of run ≡ None) × (is_name run ≡ true)
