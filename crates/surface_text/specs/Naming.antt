-- A TABLE OF NAMES, which grows.
use Rattle.std.specs.Prelude.{◌≡◌, ℕ, ◌<◌, ◌++◌, List, length, All, ⊤}
use Rattle.std.specs.BTreeMap.{BTreeMap}
use Rattle.source.specs.Tree.{Name}
use Rattle.source.specs.Tokens.{IsSpelledName}
use Rattle.surface.specs.Spelled as spelled
use Rattle.source.specs.Words.{name_of}
use Rattle.graph_check.specs.Names.{IsIndexOf}
use Rattle.surface_text.specs.declared.lexeme.Lexeme.{Lexeme}
use Rattle.surface_text.specs.Outcomes.{lexeme_named}
use denote.Ref.{Bor}

-- no name is there twice
abbrev pub IsDistinct : List Name → Type 0
IsDistinct names = (i j : ℕ) → i < length names → j < length names → name_of names i ≡ name_of names j → i ≡ j

-- a map from each name of a table to its number, and no name is there twice
pub record IsTable (numbers : BTreeMap (Bor (List ℕ)) ℕ) (names : List Name) : Type 0 where
  pub index : IsIndexOf numbers names
  pub distinct : IsDistinct names

-- the table begins with those names
pub record Extends (names table : List Name) : Type 0 where
  pub more : List Name
  pub is : table ≡ names ++ more

-- a name that a token says is as texts have it
abbrev pub IsWellSpelled : spelled.Lexeme → Type 0
IsWellSpelled (spelled.TheName name) = IsSpelledName name
IsWellSpelled (spelled.TheWord keyword) = ⊤
IsWellSpelled (spelled.TheSign sign) = ⊤
IsWellSpelled (spelled.TheNumber number) = ⊤

-- the number of a name in a table
pub record IsNumberOf (names : List Name) (name : Name) (n : ℕ) : Type 0 where
  pub within : n < length names
  pub is : name_of names n ≡ name

-- the table after a name was looked up, whose number this is
pub record IsNumbered (old : List Name) (numbers : BTreeMap (Bor (List ℕ)) ℕ) (new : List Name) (name : Name) (n : ℕ) : Type 0 where
  pub table : IsTable numbers new
  pub extends : Extends old new
  pub within : n < length new
  pub is : name_of new n ≡ name
  pub spelled : All IsSpelledName old → IsSpelledName name → All IsSpelledName new

-- the table after a token was read that says this
pub record IsSaid (old : List Name) (numbers : BTreeMap (Bor (List ℕ)) ℕ) (new : List Name) (meant : spelled.Lexeme) (l : Lexeme) : Type 0 where
  pub table : IsTable numbers new
  pub extends : Extends old new
  pub spelled : All IsSpelledName old → IsWellSpelled meant → All IsSpelledName new
  pub says : (names : List Name) → Extends new names → lexeme_named names l ≡ meant
