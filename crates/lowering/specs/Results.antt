-- WHAT THE WORDS SAY OF ITEMS: how many results each function has, and the arrays. The words are gone over from the last to the
-- first, so that the first function of a name counts.
use Rattle.std.specs.Prelude.{ℕ, List, [], ◌∷◌, if◌then◌else◌}
use Rattle.semantics.specs.Graph.{same_name}
use Rattle.source.specs.declared.word.Word.{Word}
use Rattle.source.specs.declared.word.Word.TheVariants as word
use Rattle.source.specs.Tree.{Name}
use Rattle.source.specs.Words.{Words}

-- the number of results of the function whose head is read, and the length of the array whose name is next; and the functions and
-- arrays after
pub record Heads : Type 0 where
  pub results : ℕ
  pub table : List (Name × ℕ)
  pub len : ℕ
  pub arrays : List (Name × ℕ)

abbrev pub heads_of : List (Name × ℕ) → List (Name × ℕ) → Heads
heads_of table arrays = record { results = 1; table = table; len = 0; arrays = arrays }

abbrev pub head_read : Word Name → Heads → Heads
head_read (word.Array at x) h = record h { len = 0; arrays = (x, h.len) ∷ h.arrays }
head_read (word.Length at n) h = record h { len = n }
head_read (word.Function at x) h = record h { results = 1; table = (x, h.results) ∷ h.table }
head_read (word.Results at n) h = record h { results = n }
head_read w h = h

abbrev pub heads_read : Heads → Words → Heads
heads_read h [] = h
heads_read h (w ∷ ws) = head_read w (heads_read h ws)

abbrev pub heads_gathered : Words → Heads
heads_gathered ws = heads_read (heads_of [] []) ws

abbrev pub results_in : List (Name × ℕ) → Name → ℕ
results_in [] f = 0
results_in (entry ∷ table) f = if same_name f entry.0 then entry.1 else results_in table f

abbrev pub gathered_results : Words → Name → ℕ
gathered_results ws f = results_in (heads_gathered ws).table f

abbrev pub gathered_arrays : Words → List (Name × ℕ)
gathered_arrays ws = (heads_gathered ws).arrays
