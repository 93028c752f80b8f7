-- WHAT CODE MAKES OF A PLAIN PROGRAM: words with numbers, and a table of names. Under these they are the words of the core program that
-- it is short for, with places of its own; and the places before that are its table.
use Rattle.std.specs.Prelude.{◌≡◌, ℕ, ◌+◌, ◌==◌, ◌<◌, ◌≤◌, ◌^◌, false, List, [], length, map, All, None, Ok}
use Rattle.std.specs.List.{list_any}
use Rattle.source.specs.declared.word.Word.{Word}
use Rattle.source.specs.Tree as core
use Rattle.source.specs.Tree.{Name}
use Rattle.source.specs.Tokens.{begins, IsSpelledName}
use Rattle.source.specs.Words as core_words
use Rattle.surface.specs.declared.word.Word.{Word as SurfaceWord}
use Rattle.surface.specs.Tree.{Program}
use Rattle.surface.specs.Words.{AreWords}
use Rattle.surface.specs.Fits.{FitsProgram}
use Rattle.surface.specs.Known.{Known, nothing}
use Rattle.surface.specs.Rules.{heads}
use Rattle.surface.specs.Instances.{text_names, hidden_prefix}
use Rattle.surface.specs.Desugared.{core_items, desugared}
use Rattle.surface.specs.Placed.{placed, place_table}
use Rattle.desugar.specs.Flags.{flagged}
use Rattle.desugar.specs.Steps.{steps}
use Rattle.desugar.specs.StepsDesugar.{plain_setting}
use Rattle.desugar.specs.NumbersDesugar.{numbered, begun}
use Rattle.desugar.specs.Plain.{IsPlainProgram}
use Rattle.desugar.specs.Placing.{placed_words, place_at}
use Rattle.desugar.specs.Tables.{hidden_names, with_hidden, AreBelow}

-- what the two passes make of words
abbrev pub made_words : List Name → Known → Name → List (SurfaceWord ℕ) → List (Word ℕ)
made_words names known prefix ws = (steps (numbered known names prefix) begun (flagged (λ i j. i == j) None ws).words).words

-- a plain program that code has as words, and what it is short for
pub record IsPlainShort (names : List Name) (ws : List (SurfaceWord ℕ)) (p : Program) (known : Known) (q : core.Program) : Type 0 where
  pub words : AreWords names ws p
  pub fits : FitsProgram p
  pub heads : heads nothing p ≡ Ok known
  pub plain : IsPlainProgram known p
  pub is : desugared p ≡ Ok q

-- It is short for a program of the core.
abbrev pub PlainIsShort : Type 0
PlainIsShort = (p : Program) (known : Known) → heads nothing p ≡ Ok known → IsPlainProgram known p
    → desugared p ≡ Ok (core_items (plain_setting known (hidden_prefix (text_names p))) p)

-- Words are those of a core program, under a table that has so many hidden names after the others. Placed, they are those of the
-- placed program.
pub record IsCoreMade (names : List Name) (prefix : Name) (count : ℕ) (made : List (Word ℕ)) (q : core.Program) : Type 0 where
  pub words : core_words.AreWords (with_hidden names prefix count) made q
  pub own_places : core_words.AreWords (with_hidden names prefix count) (placed_words 0 [] made) (placed q)
  pub places : map place_at made ≡ place_table q

abbrev pub PlainIsMade : Type 0
PlainIsMade = (names : List Name) (ws : List (SurfaceWord ℕ)) (p : Program) (known : Known) (q : core.Program) (count : ℕ) → IsPlainShort names ws p known q
    → list_any (begins (hidden_prefix (text_names p))) names ≡ false → count < 2 ^ 64
    → AreBelow (length names + count) (made_words names known (hidden_prefix (text_names p)) ws)
    → IsCoreMade names (hidden_prefix (text_names p)) count (made_words names known (hidden_prefix (text_names p)) ws) q

-- The whole table has names as texts have them, where those of the text's are so, and no hidden one is too long.
abbrev pub TableIsSpelled : Type 0
TableIsSpelled = (names : List Name) (p : Program) (count : ℕ) → All IsSpelledName names → length (text_names p) < 2 ^ 64 → count < 2 ^ 64
    → All (λ x. length x ≤ 24) (hidden_names (hidden_prefix (text_names p)) count) → All IsSpelledName (with_hidden names (hidden_prefix (text_names p)) count)
