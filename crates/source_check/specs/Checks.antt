-- WHAT A CHECK OF WORDS ANSWERS: nothing, or the first fault. First the heads, then `main`, then the functions.
use Rattle.std.specs.Prelude.{ℕ, Bool, true, false, List, Option, None, Some, Result, Ok, ⊤}
use Rattle.source.specs.declared.fault.Fault.{Fault}
use Rattle.source.specs.declared.fault.FaultKind.TheVariants.{NoMain}
use Rattle.source.specs.declared.word.Word.{Word}
use Rattle.source.specs.First.{◌>>=◌, must}
use Rattle.source_check.specs.declared.frame.Entry.{Entry}
use Rattle.source_check.specs.declared.frame.Entry.TheVariants as entry
use Rattle.source_check.specs.Heads.{no_heads, through, head_step}
use Rattle.source_check.specs.Steps.{begun, steps}

abbrev pub is_function : Option Entry → Bool
is_function (Some (entry.Function params results)) = true
is_function (Some entry.Array) = false
is_function None = false

-- `main` is the name that a function must have.
abbrev pub words_checked : {N : Type 0} → (N → N → Bool) → N → ℕ → List (Word N) → Result ⊤ Fault
words_checked same main end ws = do
  heads ← through (head_step same) no_heads ws
  there ← must (is_function (heads.item main)) NoMain end
  last ← steps (record { same = same; item = heads.item }) begun ws
  Ok tt
