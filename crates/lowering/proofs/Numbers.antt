-- What is looked up by numbers of names is what is looked up by the names.
use Rattle.std.proofs.Common.{◌≡◌, ℕ, zero, suc, ◌<◌, ◌==◌, Bool, true, false, List, [], ◌∷◌, length, refl, sym, ◌∙◌, ap, subst}
use Rattle.std.specs.Prelude.{All, replicate, slice_index_or, slice_set, if◌then◌else◌}
use Rattle.std.proofs.lemmas.Bool.{eqb-true, eqb-false}
use Rattle.std.proofs.lemmas.List.{get_or-set_same, get_or-set_other}
use Rattle.std.proofs.Math.ListN.{length-set}
use Rattle.std.proofs.lemmas.List.Elements.{All-head, All-tail}
use Rattle.semantics.specs.Graph.{same_name}
use Rattle.semantics.proofs.Lines.{same_name_is, same_name_itself}
use Rattle.source.specs.declared.word.Word.{Word}
use Rattle.source.specs.declared.word.Word.TheVariants as word
use Rattle.source.specs.Tree.{Name, Program}
use Rattle.source.specs.Words.{name_of, named, numbers_of}
use Rattle.source.specs.Rules.{function_in}
use Rattle.source.specs.Lowered.{results_of}
use Rattle.lowering.specs.State.{State, noted}
use Rattle.lowering.specs.Machine.{run, act, act_with, is_number, called_results}
use Rattle.lowering.specs.Results.{Heads, head_read, heads_gathered, results_in, gathered_arrays, gathered_results}
use Rattle.lowering.specs.Numbered.{Numbering, names_gathered, kept_begun, kept_read, all_kept, results_at, run_numbered}

abbrev Distinct : List Name → Type 0
Distinct names = (i j : ℕ) → i < length names → j < length names → name_of names i ≡ name_of names j → i ≡ j

abbrev Known : List Name → List (Word ℕ) → Type 0
Known names ws = All (λ w. All (λ n. n < length names) (numbers_of w)) ws

-- all but the table
record Alike (k : Numbering) (h : Heads) : Type 0 where
  results : k.results ≡ h.results
  len : k.len ≡ h.len
  arrays : k.arrays ≡ h.arrays

read_alike : (names : List Name) (w : Word ℕ) (k : Numbering) (h : Heads) → Alike k h → Alike (kept_read names w k) (head_read (named names w) h)
read_alike names (word.Array at x) k h a = record {
  results = a.results;
  len = refl;
  arrays = ap (λ (n : ℕ). (name_of names x, n) ∷ k.arrays) a.len
      ∙ ap (λ (cs : List (Name × ℕ)). (name_of names x, h.len) ∷ cs) a.arrays;
}
read_alike names (word.Length at n) k h a = record { results = a.results; len = refl; arrays = a.arrays }
read_alike names (word.Function at x) k h a = record { results = refl; len = a.len; arrays = a.arrays }
read_alike names (word.Results at n) k h a = record { results = refl; len = a.len; arrays = a.arrays }
read_alike names (word.Parameter at x) k h a = a
read_alike names (word.Body at) k h a = a
read_alike names word.EndFunction k h a = a
read_alike names (word.Number at n) k h a = a
read_alike names (word.Name at x) k h a = a
read_alike names word.Bracket k h a = a
read_alike names (word.Prefix at op) k h a = a
read_alike names word.Left k h a = a
read_alike names (word.Infix at sign) k h a = a
read_alike names (word.Cell at x) k h a = a
read_alike names (word.Fetch at x) k h a = a
read_alike names word.Index k h a = a
read_alike names (word.Store at x) k h a = a
read_alike names (word.Callee at x) k h a = a
read_alike names (word.Call at strict x) k h a = a
read_alike names word.Then k h a = a
read_alike names word.Else k h a = a
read_alike names (word.EndIf at) k h a = a
read_alike names (word.Loop at) k h a = a
read_alike names (word.Bound at n) k h a = a
read_alike names (word.Start at x) k h a = a
read_alike names word.First k h a = a
read_alike names word.TestFirst k h a = a
read_alike names word.While k h a = a
read_alike names word.BodyFirst k h a = a
read_alike names word.Until k h a = a
read_alike names (word.EndLoop at n) k h a = a
read_alike names word.List k h a = a
read_alike names word.Part k h a = a
read_alike names (word.Let at) k h a = a
read_alike names (word.Bind at x) k h a = a
read_alike names word.Drop k h a = a
read_alike names (word.EndLet at) k h a = a
read_alike names word.Do k h a = a
read_alike names word.Give k h a = a
read_alike names word.Chain k h a = a

all_alike : (names : List Name) (n : ℕ) (ws : List (Word ℕ)) → Alike (all_kept names (kept_begun n) ws) (heads_gathered (names_gathered names ws))
all_alike names n [] = record { results = refl; len = refl; arrays = refl }
all_alike names n (w ∷ ws) = read_alike names w (all_kept names (kept_begun n) ws) (heads_gathered (names_gathered names ws)) (all_alike names n ws)

-- the table
record Gathers (names : List Name) (t : List ℕ) (u : List (Name × ℕ)) : Type 0 where
  room : length t ≡ length names
  gathers : (n : ℕ) → n < length names → slice_index_or t n 0 ≡ results_in u (name_of names n)

same_numbers : (names : List Name) → Distinct names → (i j : ℕ) → i < length names → j < length names → same_name (name_of names i) (name_of names j) ≡ (i == j)
same_numbers names d i j x y = go (i == j) refl (same_name (name_of names i) (name_of names j)) refl
  where
    go : (b : Bool) → (i == j) ≡ b → (c : Bool) → same_name (name_of names i) (name_of names j) ≡ c → c ≡ b
    go true e true h = refl
    go false e false h = refl
    go true e false h = let p : i ≡ j = eqb-true i j e in sym h ∙ subst (λ k. same_name (name_of names i) (name_of names k) ≡ true) p (same_name_itself
        (name_of names i))
    go false e true h = absurd (eqb-false i j e (d i j x y (same_name_is (name_of names i) (name_of names j) h)))

set_room : (t : List ℕ) (x r : ℕ) → length (slice_set t x r) ≡ length t
set_room t x r = length-set t x r

set_gathers : (t : List ℕ) (x r n : ℕ) → x < length t → slice_index_or (slice_set t x r) n 0 ≡ (if n == x then r else slice_index_or t n 0)
set_gathers t x r n h = by (n == x) refl
  where
    by : (b : Bool) → (n == x) ≡ b → slice_index_or (slice_set t x r) n 0 ≡ (if b then r else slice_index_or t n 0)
    by true e = ap (λ (m : ℕ). slice_index_or (slice_set t x r) m 0) (eqb-true n x e) ∙ get_or-set_same t x r 0 h
    by false e = get_or-set_other t x n r 0 (eqb-false n x e)

function_gathers : (names : List Name) (t : List ℕ) (u : List (Name × ℕ)) (x r s : ℕ) → Distinct names → x < length names → r ≡ s → Gathers names t u
    → Gathers names (slice_set t x r) ((name_of names x, s) ∷ u)
function_gathers names t u x r s d h e o = record {
  room = set_room t x r ∙ o.room;
  gathers = λ n l. set_gathers t x r n (subst (λ m. x < m) (sym o.room) h) ∙ by n l (n == x) (sym (same_numbers names d n x l h));
}
  where
    by : (n : ℕ) → n < length names → (b : Bool) → b ≡ same_name (name_of names n) (name_of names x)
        → (if b then r else slice_index_or t n 0) ≡ (if same_name (name_of names n) (name_of names x) then s else results_in u (name_of names n))
    by n l true f = e ∙ ap (λ (b : Bool). if b then s else results_in u (name_of names n)) f
    by n l false f = o.gathers n l ∙ ap (λ (b : Bool). if b then s else results_in u (name_of names n)) f

read_gathers : (names : List Name) (w : Word ℕ) (k : Numbering) (h : Heads) → Distinct names → All (λ n. n < length names) (numbers_of w) → Alike k h
    → Gathers names k.table h.table → Gathers names (kept_read names w k).table (head_read (named names w) h).table
read_gathers names (word.Function at x) k h d q a o = function_gathers names k.table h.table x k.results h.results d
    (All-head (λ n. n < length names) x [] q) a.results o
read_gathers names (word.Array at x) k h d q a o = o
read_gathers names (word.Length at n) k h d q a o = o
read_gathers names (word.Results at n) k h d q a o = o
read_gathers names (word.Parameter at x) k h d q a o = o
read_gathers names (word.Body at) k h d q a o = o
read_gathers names word.EndFunction k h d q a o = o
read_gathers names (word.Number at n) k h d q a o = o
read_gathers names (word.Name at x) k h d q a o = o
read_gathers names word.Bracket k h d q a o = o
read_gathers names (word.Prefix at op) k h d q a o = o
read_gathers names word.Left k h d q a o = o
read_gathers names (word.Infix at sign) k h d q a o = o
read_gathers names (word.Cell at x) k h d q a o = o
read_gathers names (word.Fetch at x) k h d q a o = o
read_gathers names word.Index k h d q a o = o
read_gathers names (word.Store at x) k h d q a o = o
read_gathers names (word.Callee at x) k h d q a o = o
read_gathers names (word.Call at strict x) k h d q a o = o
read_gathers names word.Then k h d q a o = o
read_gathers names word.Else k h d q a o = o
read_gathers names (word.EndIf at) k h d q a o = o
read_gathers names (word.Loop at) k h d q a o = o
read_gathers names (word.Bound at n) k h d q a o = o
read_gathers names (word.Start at x) k h d q a o = o
read_gathers names word.First k h d q a o = o
read_gathers names word.TestFirst k h d q a o = o
read_gathers names word.While k h d q a o = o
read_gathers names word.BodyFirst k h d q a o = o
read_gathers names word.Until k h d q a o = o
read_gathers names (word.EndLoop at n) k h d q a o = o
read_gathers names word.List k h d q a o = o
read_gathers names word.Part k h d q a o = o
read_gathers names (word.Let at) k h d q a o = o
read_gathers names (word.Bind at x) k h d q a o = o
read_gathers names word.Drop k h d q a o = o
read_gathers names (word.EndLet at) k h d q a o = o
read_gathers names word.Do k h d q a o = o
read_gathers names word.Give k h d q a o = o
read_gathers names word.Chain k h d q a o = o

zeros : (n m : ℕ) → slice_index_or {A = ℕ} (replicate n 0) m 0 ≡ 0
zeros zero m = refl
zeros (suc n) zero = refl
zeros (suc n) (suc m) = zeros n m

length-zeros : (n : ℕ) → length {A = ℕ} (replicate n 0) ≡ n
length-zeros zero = refl
length-zeros (suc n) = ap suc (length-zeros n)

all_tell : (names : List Name) (ws : List (Word ℕ)) → Distinct names → Known names ws
    → Gathers names (all_kept names (kept_begun (length names)) ws).table (heads_gathered (names_gathered names ws)).table
all_tell names [] d q = record { room = length-zeros (length names); gathers = λ n l. zeros (length names) n }
all_tell names (w ∷ ws) d q = read_gathers names w (all_kept names (kept_begun (length names)) ws) (heads_gathered (names_gathered names ws)) d
    (All-head (λ v. All (λ n. n < length names) (numbers_of v)) w ws q) (all_alike names (length names) ws)
    (all_tell names ws d (All-tail (λ v. All (λ n. n < length names) (numbers_of v)) w ws q))

-- the machine
abbrev Counts : Program → List Name → List ℕ → Type 0
Counts p names t = (n : ℕ) → n < length names → slice_index_or t n 0 ≡ results_of (function_in p (name_of names n))

same_calls : (p : Program) (names : List Name) (t : List ℕ) → Counts p names t → (w : Word ℕ) → All (λ n. n < length names) (numbers_of w)
    → results_at t w ≡ called_results p (named names w)
same_calls p names t c (word.Call at strict x) q = c x (All-head (λ n. n < length names) x [] q)
same_calls p names t c (word.Array at x) q = refl
same_calls p names t c (word.Length at n) q = refl
same_calls p names t c (word.Function at x) q = refl
same_calls p names t c (word.Parameter at x) q = refl
same_calls p names t c (word.Results at n) q = refl
same_calls p names t c (word.Body at) q = refl
same_calls p names t c word.EndFunction q = refl
same_calls p names t c (word.Number at n) q = refl
same_calls p names t c (word.Name at x) q = refl
same_calls p names t c word.Bracket q = refl
same_calls p names t c (word.Prefix at op) q = refl
same_calls p names t c word.Left q = refl
same_calls p names t c (word.Infix at sign) q = refl
same_calls p names t c (word.Cell at x) q = refl
same_calls p names t c (word.Fetch at x) q = refl
same_calls p names t c word.Index q = refl
same_calls p names t c (word.Store at x) q = refl
same_calls p names t c (word.Callee at x) q = refl
same_calls p names t c word.Then q = refl
same_calls p names t c word.Else q = refl
same_calls p names t c (word.EndIf at) q = refl
same_calls p names t c (word.Loop at) q = refl
same_calls p names t c (word.Bound at n) q = refl
same_calls p names t c (word.Start at x) q = refl
same_calls p names t c word.First q = refl
same_calls p names t c word.TestFirst q = refl
same_calls p names t c word.While q = refl
same_calls p names t c word.BodyFirst q = refl
same_calls p names t c word.Until q = refl
same_calls p names t c (word.EndLoop at n) q = refl
same_calls p names t c word.List q = refl
same_calls p names t c word.Part q = refl
same_calls p names t c (word.Let at) q = refl
same_calls p names t c (word.Bind at x) q = refl
same_calls p names t c word.Drop q = refl
same_calls p names t c (word.EndLet at) q = refl
same_calls p names t c word.Do q = refl
same_calls p names t c word.Give q = refl
same_calls p names t c word.Chain q = refl

pub same_run : (p : Program) (names : List Name) (t : List ℕ) → Counts p names t → (ws : List (Word ℕ)) (s : State) → Known names ws
    → run_numbered names t s ws ≡ run p s (names_gathered names ws)
same_run p names t c [] s q = refl
same_run p names t c (w ∷ ws) s q =
    ap (λ (r : ℕ). run_numbered names t (noted (is_number (named names w)) (act_with r (named names w) s)) ws)
    (same_calls p names t c w (All-head (λ v. All (λ n. n < length names) (numbers_of v)) w ws q))
    ∙ same_run p names t c ws (noted (is_number (named names w)) (act p (named names w) s))
    (All-tail (λ v. All (λ n. n < length names) (numbers_of v)) w ws q)

pub same_arrays : (names : List Name) (ws : List (Word ℕ)) → (all_kept names (kept_begun (length names)) ws).arrays ≡ gathered_arrays (names_gathered names ws)
same_arrays names ws = (all_alike names (length names) ws).arrays

pub same_results : (names : List Name) (ws : List (Word ℕ)) → Distinct names → Known names ws → (n : ℕ) → n < length names
    → slice_index_or (all_kept names (kept_begun (length names)) ws).table n 0 ≡ gathered_results (names_gathered names ws) (name_of names n)
same_results names ws d q n h = (all_tell names ws d q).gathers n h
