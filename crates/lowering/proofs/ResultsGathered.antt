-- The words of a program say how many results each function has.
use Rattle.std.proofs.Common.{◌≡◌, ℕ, Bool, true, false, List, [], ◌∷◌, ◌++◌, Option, None, Some, map, refl, ◌∙◌, ap}
use Rattle.std.specs.Prelude.{if◌then◌else◌}
use Rattle.semantics.specs.Graph.{same_name}
use Rattle.source.specs.declared.word.Word.TheVariants as word
use Rattle.source.specs.Tree.{Name, NameAt, NumberAt, Target, Bind, Drop, Expr, Number, Named, Bracket, Prefix, Infix, Fetch, Store, Call, If, Loop}
use Rattle.source.specs.Tree.{Exprs, One, More, Body, Let, Do, Give, Chain, Turn, Before, After, Function, Item, Cells, Defines, Program, names_of}
use Rattle.source.specs.Words.{Words, words, part_words, first_words, body_words, turn_words, target_word, start_words, item_words, program_words, result_words}
use Rattle.source.specs.Spelled.{others}
use Rattle.source.specs.Rules.{function_in, written_or_one}
use Rattle.source.specs.Lowered.{results_of, arrays_of}
use Rattle.lowering.specs.Results.{Heads, heads_of, head_read, heads_read, results_in, gathered_results, gathered_arrays}

read_append : (h : Heads) (a b : Words) → heads_read h (a ++ b) ≡ heads_read (heads_read h b) a
read_append h [] b = refl
read_append h (w ∷ a) b = ap (head_read w) (read_append h a b)

-- words that say nothing of heads
abbrev Quiet : Words → Type 0
Quiet ws = (h : Heads) → heads_read h ws ≡ h

both : (a b : Words) → Quiet a → Quiet b → Quiet (a ++ b)
both a b f g h = read_append h a b ∙ ap (λ (k : Heads). heads_read k a) (g h) ∙ f h

targets_quiet : (ts : List Target) → Quiet (map target_word ts)
targets_quiet [] h = refl
targets_quiet (Drop ∷ ts) h = ap (head_read word.Drop) (targets_quiet ts h)
targets_quiet (Bind x ∷ ts) h = ap (head_read (word.Bind x.at x.name)) (targets_quiet ts h)

start_quiet : (xs : List NameAt) → Quiet (start_words xs)
start_quiet [] h = refl
start_quiet (x ∷ xs) h = refl

mutual
  quiet : (e : Expr) → Quiet (words e)
  quiet (Number at n) = λ h. refl
  quiet (Named at x) = λ h. refl
  quiet (Bracket e) = both (words e) (word.Bracket ∷ []) (quiet e) (λ h. refl)
  quiet (Prefix at op e) = both (words e) (word.Prefix at op ∷ []) (quiet e) (λ h. refl)
  quiet (Infix at s l r) = both (words l ++ word.Left ∷ words r) (word.Infix at s ∷ []) (both (words l) (word.Left ∷ words r) (quiet l) (quiet r)) (λ h. refl)
  quiet (Fetch at a e) = both (word.Cell at a ∷ words e) (word.Fetch at a ∷ []) (quiet e) (λ h. refl)
  quiet (Store at a e d) = both (word.Cell at a ∷ words e ++ word.Index ∷ words d) (word.Store at a ∷ [])
      (both (word.Cell at a ∷ words e) (word.Index ∷ words d) (quiet e) (quiet d)) (λ h. refl)
  quiet (Call at strict f es) = both (word.Callee at f ∷ word.List ∷ part_words es) (word.Call at strict f ∷ []) (quiet_all es) (λ h. refl)
  quiet (If at p l r) = both (words p ++ word.Then ∷ body_words l ++ word.Else ∷ body_words r) (word.EndIf at ∷ [])
      (both (words p ++ word.Then ∷ body_words l) (word.Else ∷ body_words r) (both (words p) (word.Then ∷ body_words l) (quiet p) (quiet_body l))
      (quiet_body r)) (λ h. refl)
  quiet (Loop at bound firsts turn) = both (word.Loop at ∷ word.Bound bound.at bound.number ∷ first_words (names_of turn) firsts ++ turn_words turn)
      (word.EndLoop at bound.number ∷ [])
      (both (word.Loop at ∷ word.Bound bound.at bound.number ∷ first_words (names_of turn) firsts) (turn_words turn)
      (quiet_firsts (names_of turn) firsts) (quiet_turn turn)) (λ h. refl)

  quiet_all : (es : Exprs) → Quiet (part_words es)
  quiet_all (One e) = both (words e) (word.Part ∷ []) (quiet e) (λ h. refl)
  quiet_all (More e es) = both (words e) (word.Part ∷ part_words es) (quiet e) (quiet_all es)

  quiet_firsts : (xs : List NameAt) (es : Exprs) → Quiet (first_words xs es)
  quiet_firsts xs (One e) = both (start_words xs ++ words e) (word.First ∷ []) (both (start_words xs) (words e) (start_quiet xs) (quiet e)) (λ h. refl)
  quiet_firsts xs (More e es) = both (start_words xs ++ words e) (word.First ∷ first_words (others xs) es)
      (both (start_words xs) (words e) (start_quiet xs) (quiet e))
      (quiet_firsts (others xs) es)

  quiet_body : (b : Body) → Quiet (body_words b)
  quiet_body (Let at targets es rest) = both (word.Let at ∷ map target_word targets ++ word.List ∷ part_words es) (word.EndLet at ∷ body_words rest)
      (both (word.Let at ∷ map target_word targets) (word.List ∷ part_words es) (targets_quiet targets) (quiet_all es)) (quiet_body rest)
  quiet_body (Do es rest) = both (part_words es) (word.Do ∷ body_words rest) (quiet_all es) (quiet_body rest)
  quiet_body (Give es) = both (part_words es) (word.Give ∷ []) (quiet_all es) (λ h. refl)
  quiet_body (Chain e) = both (words e) (word.Chain ∷ []) (quiet e) (λ h. refl)

  quiet_turn : (turn : Turn) → Quiet (turn_words turn)
  quiet_turn (Before xs p body) = both (words p) (word.While ∷ body_words body) (quiet p) (quiet_body body)
  quiet_turn (After xs body p) = both (body_words body) (word.Until ∷ words p) (quiet_body body) (quiet p)

params_quiet : (xs : List NameAt) → Quiet (map (λ (x : NameAt). word.Parameter x.at x.name) xs)
params_quiet [] h = refl
params_quiet (x ∷ xs) h = ap (head_read (word.Parameter x.at x.name)) (params_quiet xs h)

results_gathered : (r : Option NumberAt) (table arrays : List (Name × ℕ))
    → heads_read (heads_of table arrays) (result_words r) ≡ record (heads_of table arrays) { results = written_or_one r }
results_gathered None table arrays = refl
results_gathered (Some n) table arrays = refl

table_of : List Item → List (Name × ℕ)
table_of [] = []
table_of (Cells x len ∷ items) = table_of items
table_of (Defines f ∷ items) = (f.name.name, written_or_one f.results) ∷ table_of items

function_gathered : (f : Function) (table arrays : List (Name × ℕ))
    → heads_read (heads_of table arrays) (item_words (Defines f)) ≡ heads_of ((f.name.name, written_or_one f.results) ∷ table) arrays
function_gathered f table arrays =
    let head : Words = word.Function f.name.at f.name.name ∷ map (λ (x : NameAt). word.Parameter x.at x.name) f.params in
    let h : Heads = heads_of table arrays in
    let k : Heads = record h { results = written_or_one f.results } in
    read_append h (head ++ result_words f.results ++ word.Body f.body_at ∷ body_words f.body) (word.EndFunction ∷ [])
    ∙ read_append h (head ++ result_words f.results) (word.Body f.body_at ∷ body_words f.body)
    ∙ ap (λ (q : Heads). heads_read q (head ++ result_words f.results)) (quiet_body f.body h)
    ∙ read_append h head (result_words f.results)
    ∙ ap (λ (q : Heads). heads_read q head) (results_gathered f.results table arrays)
    ∙ ap (head_read (word.Function f.name.at f.name.name)) (params_quiet f.params k)

items_gathered : (items : List Item) → heads_read (heads_of [] []) (program_words items) ≡ heads_of (table_of items) (arrays_of items)
unfolding table_of
items_gathered [] = refl
items_gathered (Cells x len ∷ items) = ap (head_read (word.Array x.at x.name)) (ap (head_read (word.Length len.at len.number)) (items_gathered items))
items_gathered (Defines f ∷ items) = read_append (heads_of [] []) (item_words (Defines f)) (program_words items)
    ∙ ap (λ (q : Heads). heads_read q (item_words (Defines f))) (items_gathered items) ∙ function_gathered f (table_of items) (arrays_of items)

found : (items : List Item) (f : Name) → results_in (table_of items) f ≡ results_of (function_in items f)
unfolding table_of
found [] f = refl
found (Cells x len ∷ items) f = found items f
found (Defines g ∷ items) f = by (same_name f g.name.name) (found items f)
  where
    by : (b : Bool) → results_in (table_of items) f ≡ results_of (function_in items f)
        → (if b then written_or_one g.results else results_in (table_of items) f) ≡ results_of (if b then Some g else function_in items f)
    by true e = refl
    by false e = e

pub results_are_gathered : (p : Program) (f : Name) → gathered_results (program_words p) f ≡ results_of (function_in p f)
results_are_gathered p f = ap (λ (h : Heads). results_in h.table f) (items_gathered p) ∙ found p f

pub arrays_are_gathered : (p : Program) → gathered_arrays (program_words p) ≡ arrays_of p
arrays_are_gathered p = ap (λ (h : Heads). h.arrays) (items_gathered p)
