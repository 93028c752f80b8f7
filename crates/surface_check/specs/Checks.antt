-- WHAT A CHECK OF WORDS ANSWERS: nothing, or the first fault. First the heads, then `main`, then the functions.
use Rattle.std.specs.Prelude.{◌≡◌, ℕ, Bool, true, false, List, Option, Some, Result, Ok, Err, ⊤}
use Rattle.semantics.specs.Graph.{same_name}
use Rattle.source.specs.declared.fault.FaultKind.TheVariants.{NoMain}
use Rattle.source.specs.Tree.{Name}
use Rattle.source.specs.Rules.{main_name}
use Rattle.surface.specs.declared.fault.Fault.{Fault}
use Rattle.surface.specs.declared.word.Word.{Word}
use Rattle.surface.specs.Tree.{Program}
use Rattle.surface.specs.Fits.{FitsProgram}
use Rattle.surface.specs.Words.{program_words, IsProgram}
use Rattle.surface.specs.First.{◌>>=◌, must_be}
use Rattle.surface.specs.Known.{Known, nothing, built_in}
use Rattle.surface.specs.Rules.{heads, checked}
use Rattle.surface_check.specs.declared.entry.Entry.{Entry}
use Rattle.surface_check.specs.declared.entry.Entry.TheVariants as entry
use Rattle.surface_check.specs.Heads.{Names, Heads, no_heads, heads_read}
use Rattle.surface_check.specs.Pins.{Pins}
use Rattle.surface_check.specs.Steps.{Plain, begun, steps}

abbrev pub is_function : Option Entry → Bool
is_function (Some (entry.Function first params results)) = true
is_function o = false

-- `main` is the name that a function must have.
abbrev pub words_checked : {N : Type 0} → Names N → N → ℕ → List (Word N) → Result ⊤ Fault
words_checked t main end ws = do
  heads ← heads_read t no_heads ws
  there ← must_be (is_function (heads.item main)) NoMain end
  last ← steps t (record { item = heads.item; ranks = heads.ranks }) (Plain begun) ws
  Ok tt

-- the program whose words these are keeps the static rules, wherever its text ends
pub record IsChecked (names : List Name) (ws : List (Word ℕ)) : Type 0 where
  pub checked : (p : Program) (end : ℕ) → IsProgram names ws p → checked end p ≡ Ok tt

-- names by their bytes
abbrev pub by_bytes : Names Name
by_bytes = record { same = same_name; is_main = λ f. same_name f main_name; built_in = built_in }

-- WHAT IS READ OF HEADS is what the rules know of the items.
abbrev pub AsKnown : Result (Heads Name) Fault → Result Known Fault → Type 0
AsKnown (Ok h) (Ok known) = Pins h.item h.ranks known
AsKnown (Err f) (Err g) = f ≡ g
AsKnown r q = ⊥

abbrev pub HeadsAreRead : Type 0
HeadsAreRead = (p : Program) → FitsProgram p → AsKnown (heads_read by_bytes no_heads (program_words p)) (heads nothing p)

-- WHAT THE STEPS ANSWER is what the rules say.
abbrev pub WordsAreChecked : Type 0
WordsAreChecked = (end : ℕ) (p : Program) → FitsProgram p → words_checked by_bytes main_name end (program_words p) ≡ checked end p
