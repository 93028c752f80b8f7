-- WHAT CODE MAKES OF A GOOD PROGRAM with derived forms: a program of the core in code that keeps the rules, with places of its own.
use Rattle.std.specs.Prelude.{◌≡◌, true, ℕ, ◌+◌, ◌<◌, ◌≤◌, ◌^◌, List, [], length, map, All, Ok}
use Rattle.source.specs.declared.word.Word.{Word}
use Rattle.source.specs.Tree as core
use Rattle.source.specs.Tree.{Name}
use Rattle.source.specs.Tokens.{IsSpelledName}
use Rattle.source.specs.Outside.{is_in}
use Rattle.source.specs.Words as core_words
use Rattle.source_check.specs.Checked.{IsChecked}
use Rattle.surface.specs.declared.word.Word.{Word as SurfaceWord}
use Rattle.surface.specs.Tree.{Program}
use Rattle.surface.specs.Words.{AreWords}
use Rattle.surface.specs.Known.{Known, nothing}
use Rattle.surface.specs.Rules.{heads}
use Rattle.surface.specs.Instances.{text_names, hidden_prefix}
use Rattle.surface.specs.Placed.{placed, place_table}
use Rattle.law_surface.specs.GoodGivesGood.{IsShort}
use Rattle.desugar.specs.Plain.{IsPlainProgram}
use Rattle.desugar.specs.Placing.{placed_words, place_at}
use Rattle.desugar.specs.Tables.{hidden_names, with_hidden, AreBelow}
use Rattle.desugar.specs.CoreMade.{made_words}

-- Words with numbers are those of a good program, whose table has the names of the text and no others.
pub record IsGoodCode (names : List Name) (ws : List (SurfaceWord ℕ)) (p : Program) (q : core.Program) (end : ℕ) : Type 0 where
  pub words : AreWords names ws p
  pub spelled : All IsSpelledName names
  pub said : All (λ x. is_in x (text_names p) ≡ true) names
  pub few : length ws < 2 ^ 64
  pub short : IsShort p q end

-- The words of a core program with places of its own, under a table of names: it fits the grammar, its names are as texts have them, and
-- it keeps the rules. A table leads to its places in the text.
pub record IsGoodCore (names : List Name) (made : List (Word ℕ)) (q : core.Program) : Type 0 where
  pub is : core_words.IsProgram names (placed_words 0 [] made) (placed q)
  pub tree : core_words.HasTree names (placed_words 0 [] made)
  pub checked : IsChecked names (placed_words 0 [] made)
  pub places : map place_at made ≡ place_table q

-- Words under a table with hidden names are those of what a good program is short for: then they are such a core program.
abbrev pub CodeIsGood : Type 0
CodeIsGood = (names table : List Name) (ws : List (SurfaceWord ℕ)) (made : List (Word ℕ)) (p : Program) (q : core.Program) (end : ℕ)
    → IsGoodCode names ws p q end → core_words.AreWords table made q → All IsSpelledName table → IsGoodCore table made q

-- THE HIDDEN PREFIX is that of the table, and no name of the table begins with it.
abbrev pub PrefixIsTables : Type 0
PrefixIsTables = (names : List Name) (ws : List (SurfaceWord ℕ)) (p : Program) (q : core.Program) (end : ℕ) → IsGoodCode names ws p q end
    → length names < 2 ^ 64 → hidden_prefix names ≡ hidden_prefix (text_names p)

-- A PLAIN PROGRAM: the table has so many hidden names that each number of the words is one of it, and none is too long.
pub record IsTabled (names : List Name) (prefix : Name) (count : ℕ) (made : List (Word ℕ)) : Type 0 where
  pub few : length names + count < 2 ^ 64
  pub below : AreBelow (length names + count) made
  pub short : All (λ x. length x ≤ 24) (hidden_names prefix count)

abbrev pub PlainCodeIsGood : Type 0
PlainCodeIsGood = (names : List Name) (ws : List (SurfaceWord ℕ)) (p : Program) (known : Known) (q : core.Program) (end count : ℕ)
    → IsGoodCode names ws p q end → heads nothing p ≡ Ok known → IsPlainProgram known p
    → IsTabled names (hidden_prefix names) count (made_words names known (hidden_prefix names) ws)
    → IsGoodCore (with_hidden names (hidden_prefix names) count) (made_words names known (hidden_prefix names) ws) q
