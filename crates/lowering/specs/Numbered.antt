-- THE WORDS OF CODE give names by their numbers. What is known of functions is in a table by the number of the function's name.
use Rattle.std.specs.Prelude.{ℕ, List, [], ◌∷◌, slice_index_or, length, map, replicate}
use Rattle.std.specs.List.{slice_set}
use Rattle.source.specs.declared.word.Word.{Word}
use Rattle.source.specs.declared.word.Word.TheVariants as word
use Rattle.source.specs.Tree.{Name}
use Rattle.source.specs.Words.{Words, name_of, named}
use Rattle.source.specs.Lowered.{MadeBlock}
use Rattle.lowering.specs.State.{State, noted}
use Rattle.lowering.specs.Functions.{between}
use Rattle.lowering.specs.Machine.{act_with, is_number}
use Rattle.lowering.specs.Scan.{gathered_plans}

abbrev pub names_gathered : List Name → List (Word ℕ) → Words
names_gathered names ws = map (named names) ws

-- HEADS, as those of words with names
pub record Numbering : Type 0 where
  pub results : ℕ
  pub table : List ℕ
  pub len : ℕ
  pub arrays : List (Name × ℕ)

-- with no head read, and so many names
abbrev pub kept_begun : ℕ → Numbering
kept_begun n = record { results = 1; table = replicate n 0; len = 0; arrays = [] }

abbrev pub kept_read : List Name → Word ℕ → Numbering → Numbering
kept_read names (word.Array at x) k = record k { len = 0; arrays = (name_of names x, k.len) ∷ k.arrays }
kept_read names (word.Length at n) k = record k { len = n }
kept_read names (word.Function at x) k = record k { results = 1; table = slice_set k.table x k.results }
kept_read names (word.Results at n) k = record k { results = n }
kept_read names w k = k

abbrev pub all_kept : List Name → Numbering → List (Word ℕ) → Numbering
all_kept names k [] = k
all_kept names k (w ∷ ws) = kept_read names w (all_kept names k ws)

-- THE MACHINE
abbrev pub results_at : List ℕ → Word ℕ → ℕ
results_at table (word.Call at strict x) = slice_index_or table x 0
results_at table w = 0

abbrev pub act_numbered : List Name → List ℕ → Word ℕ → State → State
act_numbered names table w s = act_with (results_at table w) (named names w) s

abbrev pub run_numbered : List Name → List ℕ → State → List (Word ℕ) → State
run_numbered names table s [] = s
run_numbered names table s (w ∷ ws) = run_numbered names table (noted (is_number (named names w)) (act_numbered names table w s)) ws

-- WHAT WORDS SAY: how many results each function has, the arrays, and the blocks that the machine makes, each with its function's name
abbrev pub gathered_table : List Name → List (Word ℕ) → List ℕ
gathered_table names ws = (all_kept names (kept_begun (length names)) ws).table

abbrev pub gathered_cells : List Name → List (Word ℕ) → List (Name × ℕ)
gathered_cells names ws = (all_kept names (kept_begun (length names)) ws).arrays

abbrev pub gathered_blocks : List Name → List (Word ℕ) → List (Name × MadeBlock)
gathered_blocks names ws = (run_numbered names (gathered_table names ws) (between (gathered_plans (names_gathered names ws)) []) ws).done
