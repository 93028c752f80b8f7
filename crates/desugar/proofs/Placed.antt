-- THE WORDS OF A PART, PLACED, are those of the placed part; and after it is open what was before.
use Rattle.std.specs.Prelude.{◌≡◌, refl, ℕ, ◌+◌, List, [], ◌∷◌, ◌++◌, map, length, Option, None, Some}
use Rattle.std.proofs.Common.{◌∙◌, ap, ap₂, sym, subst, arith, length-append}
use Rattle.source.specs.declared.word.Word.{Word}
use Rattle.source.specs.declared.word.Word.TheVariants as word
use Rattle.source.specs.Tree.{Name, NameAt, NumberAt, Target, Bind, Drop, Expr, Number, Named, Bracket, Prefix, Infix, Fetch, Store, Call, If, Loop}
use Rattle.source.specs.Tree.{Exprs, One, More, Body, Let, Do, Give, Chain, Turn, Before, After, Item, Cells, Defines, Program, names_of}
use Rattle.source.specs.Spelled.{others}
use Rattle.source.specs.Words.{target_word, start_words, words, part_words, first_words, body_words, turn_words, result_words, item_words, program_words}
use Rattle.surface.specs.Placed.{size, names_from, targets_from, starts_from, placed_expr, placed_parts, placed_firsts, placed_body}
use Rattle.surface.specs.Placed.{placed_turn, placed_results, placed_item, placed_from}
use Rattle.desugar.specs.Placing.{role, opened_after, placed_word, placed_words}
use Rattle.desugar.specs.PlacedWords.{WordsArePlaced}

-- what is open after words
abbrev opened_all : ℕ → List ℕ → List (Word Name) → List ℕ
opened_all n o [] = o
opened_all n o (w ∷ ws) = opened_all (n + 1) (opened_after (role w) n o) ws

-- Words from a number on, up to another one, with what is open before and after them, are these where they are placed.
record Placing (n : ℕ) (o : List ℕ) (ws : List (Word Name)) (m : ℕ) (q : List ℕ) (vs : List (Word Name)) : Type 0 where
  are : placed_words n o ws ≡ vs
  reach : n + length ws ≡ m
  after : opened_all n o ws ≡ q

none : (n : ℕ) (o : List ℕ) → Placing n o [] n o []
none n o = record { are = refl; reach = omega arith; after = refl }

also : {n m : ℕ} {o q : List ℕ} {ws vs : List (Word Name)} (w : Word Name) → Placing (n + 1) (opened_after (role w) n o) ws m q vs
    → Placing n o (w ∷ ws) m q (placed_word n o w ∷ vs)
also {n} {m} {o} {q} {ws} {vs} w p = record { are = ap (λ z. placed_word n o w ∷ z) p.are; reach = omega (arith, p.reach); after = p.after }

one : {n : ℕ} {o : List ℕ} (w : Word Name) → Placing n o (w ∷ []) (n + 1) (opened_after (role w) n o) (placed_word n o w ∷ [])
one w = also w (none (_ + 1) _)

opened_join : (n : ℕ) (o : List ℕ) (ws us : List (Word Name)) → opened_all n o (ws ++ us) ≡ opened_all (n + length ws) (opened_all n o ws) us
opened_join n o [] us = ap (λ k. opened_all k o us) (omega arith)
opened_join n o (w ∷ ws) us =
    let next : n + 1 + length ws ≡ n + length (w ∷ ws) = omega arith in
    opened_join (n + 1) (opened_after (role w) n o) ws us ∙ ap (λ k. opened_all k (opened_all (n + 1) (opened_after (role w) n o) ws) us) next

placed_join : (n : ℕ) (o : List ℕ) (ws us : List (Word Name)) → placed_words n o (ws ++ us) ≡ placed_words n o ws ++ placed_words (n + length ws) (opened_all n
    o ws) us
placed_join n o [] us = ap (λ k. placed_words k o us) (omega arith)
placed_join n o (w ∷ ws) us =
    let next : n + 1 + length ws ≡ n + length (w ∷ ws) = omega arith in
    ap (λ z. placed_word n o w ∷ z) (placed_join (n + 1) (opened_after (role w) n o) ws us
    ∙ ap (λ k. placed_words (n + 1) (opened_after (role w) n o) ws ++ placed_words k (opened_all (n + 1) (opened_after (role w) n o) ws) us) next)

both : {n m k : ℕ} {o q r : List ℕ} {ws us vs ts : List (Word Name)} → Placing n o ws m q vs → Placing m q us k r ts → Placing n o (ws ++ us) k r (vs ++ ts)
both {n} {m} {k} {o} {q} {r} {ws} {us} {vs} {ts} p s = record {
  are = placed_join n o ws us
      ∙ ap₂ (λ (a b : List (Word Name)). a ++ b) p.are (ap₂ (λ (j : ℕ) (x : List ℕ). placed_words j x us) p.reach p.after ∙ s.are);
  reach = omega (arith, length-append ws us, p.reach, s.reach);
  after = opened_join n o ws us ∙ ap₂ (λ (j : ℕ) (x : List ℕ). opened_all j x us) p.reach p.after ∙ s.after;
}

-- with the number after it in another way
at : {n m : ℕ} {o q : List ℕ} {ws vs : List (Word Name)} → Placing n o ws m q vs → (k : ℕ) → m ≡ k → Placing n o ws k q vs
at p k e = record { are = p.are; reach = p.reach ∙ e; after = p.after }

whole : {n m : ℕ} {o q : List ℕ} {ws vs : List (Word Name)} → Placing n o ws m q vs → Placing n o ws (n + length ws) q vs
whole p = record { are = p.are; reach = refl; after = p.after }

-- with the number before it in another way
from : {n k m : ℕ} {o q : List ℕ} {ws vs : List (Word Name)} → n ≡ k → Placing k o ws m q vs → Placing n o ws m q vs
from {n} {k} {m} {o} {q} {ws} {vs} e p = subst (λ (j : ℕ). Placing j o ws m q vs) (sym e) p

-- after a word, from this number on
next : {n m : ℕ} {o q : List ℕ} {ws vs : List (Word Name)} (w : Word Name) (k : ℕ) → n + 1 ≡ k → Placing k (opened_after (role w) n o) ws m q vs
    → Placing n o (w ∷ ws) m q (placed_word n o w ∷ vs)
next w k e p = also w (from e p)

then : {n m j : ℕ} {o q r : List ℕ} {ws us vs ts : List (Word Name)} → Placing n o ws m q vs → (w : Word Name) (k : ℕ) → m + 1 ≡ k
    → Placing k (opened_after (role w) m q) us j r ts → Placing n o (ws ++ w ∷ us) j r (vs ++ placed_word m q w ∷ ts)
then p w k e s = both p (next w k e s)

last : {n m : ℕ} {o q : List ℕ} {ws vs : List (Word Name)} → Placing n o ws m q vs → (w : Word Name)
    → Placing n o (ws ++ w ∷ []) (n + length (ws ++ w ∷ [])) (opened_after (role w) m q) (vs ++ placed_word m q w ∷ [])
last p w = whole (both p (one w))

-- PARTS
targets : (n : ℕ) (o : List ℕ) (ts : List Target) → Placing n o (map target_word ts) (n + length ts) o (map target_word (targets_from n ts))
targets n o [] = at (none n o) (n + 0) (omega arith)
targets n o (Bind x ∷ ts) = at (also (word.Bind x.at x.name) (targets (n + 1) o ts)) (n + length (Bind x ∷ ts)) (omega arith)
targets n o (Drop ∷ ts) = at (also word.Drop (targets (n + 1) o ts)) (n + length (Drop ∷ ts)) (omega arith)

start : (n : ℕ) (o : List ℕ) (xs : List NameAt) (es : Exprs) → Placing n o (start_words xs) (n + length (start_words xs)) o (start_words (starts_from n xs es))
start n o [] es = whole (none n o)
start n o (x ∷ xs) (One e) = whole (one (word.Start x.at x.name))
start n o (x ∷ xs) (More e es) = whole (one (word.Start x.at x.name))

others_from : (n : ℕ) (xs : List NameAt) (e : Expr) (es : Exprs) → others (starts_from n xs (More e es)) ≡ starts_from (n + length (start_words xs) + size e
    + 1) (others xs) es
others_from n [] e es = refl
others_from n (x ∷ xs) e es = ap (λ (m : ℕ). starts_from m xs es) (omega arith)

starts_are : (n : ℕ) (firsts : Exprs) (turn : Turn) → names_of (placed_turn n firsts turn) ≡ starts_from n (names_of turn) firsts
starts_are n firsts (Before xs p body) = refl
starts_are n firsts (After xs body p) = refl

mutual
  expr : (n : ℕ) (o : List ℕ) (e : Expr) → Placing n o (words e) (n + size e) o (words (placed_expr n e))
  expr n o (Number place k) = one (word.Number place k)
  expr n o (Named place x) = one (word.Name place x)
  expr n o (Bracket e) = last (expr n o e) word.Bracket
  expr n o (Prefix place op e) = last (expr n o e) (word.Prefix place op)
  expr n o (Infix place s l r) = last (then (expr n o l) word.Left (n + size l + 1) refl (expr (n + size l + 1) o r)) (word.Infix place s)
  expr n o (Fetch place a e) = last (also (word.Cell place a) (expr (n + 1) (n ∷ o) e)) (word.Fetch place a)
  expr n o (Store place a e d) =
      let m : ℕ = n + size e + 2 in
      last (then (also (word.Cell place a) (expr (n + 1) (n ∷ o) e)) word.Index m (omega arith) (expr m (n ∷ o) d)) (word.Store place a)
  expr n o (Call place strict f es) =
      last (also (word.Callee place f) (next word.List (n + 2) (omega arith) (parts (n + 2) (n ∷ o) es))) (word.Call place strict f)
  expr n o (If place p l r) =
      let a : ℕ = n + size p + 1 in
      let b : ℕ = n + size p + length (body_words l) + 2 in
      let c : ℕ = n + size p + length (body_words l) + length (body_words r) + 2 in
      let arms = then (then (expr n o p) word.Then a refl (body a o l)) word.Else b (omega arith) (body b o r) in
      last (at arms c (omega arith)) (word.EndIf place)
  expr n o (Loop place bound es turn) =
      let m : ℕ = n + 2 in
      let first = subst (λ (xs : List NameAt). Placing m (n ∷ o) (first_words (names_of turn) es) (m + length (first_words (names_of turn) es)) (n ∷ o)
      (first_words xs (placed_firsts m (names_of turn) es))) (sym (starts_are m es turn)) (firsts m (n ∷ o) (names_of turn) es) in
      let head = also (word.Loop place) (next (word.Bound bound.at bound.number) m (omega arith) first) in
      last (both head (turns m (n ∷ o) es turn)) (word.EndLoop place bound.number)

  parts : (n : ℕ) (o : List ℕ) (es : Exprs) → Placing n o (part_words es) (n + length (part_words es)) o (part_words (placed_parts n es))
  parts n o (One e) = last (expr n o e) word.Part
  parts n o (More e es) = whole (then (expr n o e) word.Part (n + size e + 1) refl (parts (n + size e + 1) o es))

  firsts : (n : ℕ) (o : List ℕ) (xs : List NameAt) (es : Exprs) → Placing n o (first_words xs es) (n + length (first_words xs es)) o (first_words
      (starts_from n xs es) (placed_firsts n xs es))
  firsts n o xs (One e) = last (both (start n o xs (One e)) (expr (n + length (start_words xs)) o e)) word.First
  firsts n o xs (More e es) =
      let m : ℕ = n + length (start_words xs) + size e + 1 in
      let rest = subst (λ (ys : List NameAt). Placing m o (first_words (others xs) es) (m + length (first_words (others xs) es)) o
      (first_words ys (placed_firsts m (others xs) es))) (sym (others_from n xs e es)) (firsts m o (others xs) es) in
      whole (then (both (start n o xs (More e es)) (expr (n + length (start_words xs)) o e)) word.First m refl rest)

  body : (n : ℕ) (o : List ℕ) (b : Body) → Placing n o (body_words b) (n + length (body_words b)) o (body_words (placed_body n b))
  body n o (Let place ts es rest) =
      let a : ℕ = n + length ts + 2 in
      let b : ℕ = n + length ts + length (part_words es) + 3 in
      let values = then (also (word.Let place) (targets (n + 1) (n ∷ o) ts)) word.List a (omega arith) (parts a (n ∷ o) es) in
      whole (then values (word.EndLet place) b (omega arith) (body b o rest))
  body n o (Do es rest) =
      let b : ℕ = n + length (part_words es) + 2 in
      whole (then (also word.List (parts (n + 1) o es)) word.Do b (omega arith) (body b o rest))
  body n o (Give es) = last (also word.List (parts (n + 1) o es)) word.Give
  body n o (Chain e) = last (expr n o e) word.Chain

  turns : (n : ℕ) (o : List ℕ) (es : Exprs) (turn : Turn) → Placing (n + length (first_words (names_of turn) es)) o (turn_words turn)
      (n + length (first_words (names_of turn) es) + length (turn_words turn)) o (turn_words (placed_turn n es turn))
  turns n o es (Before xs p b) =
      let m : ℕ = n + length (first_words xs es) in
      whole (then (also word.TestFirst (expr (m + 1) o p)) word.While (m + size p + 2) (omega arith) (body (m + size p + 2) o b))
  turns n o es (After xs b p) =
      let m : ℕ = n + length (first_words xs es) in
      whole (then (also word.BodyFirst (body (m + 1) o b)) word.Until (m + length (body_words b) + 2) (omega arith) (expr (m + length (body_words b) + 2) o p))

-- ITEMS
params : (n : ℕ) (o : List ℕ) (xs : List NameAt) → Placing n o (map (λ (x : NameAt). word.Parameter x.at x.name) xs) (n + length xs) o
    (map (λ (x : NameAt). word.Parameter x.at x.name) (names_from n xs))
params n o [] = at (none n o) (n + 0) (omega arith)
params n o (x ∷ xs) = at (also (word.Parameter x.at x.name) (params (n + 1) o xs)) (n + length (x ∷ xs)) (omega arith)

results : (n : ℕ) (o : List ℕ) (k : Option NumberAt) → Placing n o (result_words k) (n + length (result_words k)) o (result_words (placed_results n k))
results n o None = whole (none n o)
results n o (Some k) = whole (one (word.Results k.at k.number))

item : (n : ℕ) (o : List ℕ) (i : Item) → Placing n o (item_words i) (n + length (item_words i)) o (item_words (placed_item n i))
item n o (Cells x len) = whole (also (word.Array x.at x.name) (one (word.Length len.at len.number)))
item n o (Defines f) =
    let a : ℕ = n + length f.params + 1 in
    let b : ℕ = n + length f.params + length (result_words f.results) + 1 in
    let c : ℕ = n + length f.params + length (result_words f.results) + 2 in
    let head = at (also (word.Function f.name.at f.name.name) (params (n + 1) o f.params)) a (omega arith) in
    let front = at (both head (results a o f.results)) b (omega arith) in
    last (then front (word.Body f.body_at) c (omega arith) (body c o f.body)) word.EndFunction

items : (n : ℕ) (o : List ℕ) (p : Program) → Placing n o (program_words p) (n + length (program_words p)) o (program_words (placed_from n p))
items n o [] = whole (none n o)
items n o (i ∷ p) = whole (both (item n o i) (items (n + length (item_words i)) o p))

pub words_are_placed : WordsArePlaced
words_are_placed q = (items 0 [] q).are
