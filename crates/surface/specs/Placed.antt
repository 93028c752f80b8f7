-- PLACES OF THEIR OWN. Derived forms and instances repeat places of the text, but the laws of the core speak of programs no two
-- tokens of which have one place. So each token of a core program gets the number of words before its own first word, and a
-- table leads from there to the place that it had.
use Rattle.std.specs.Prelude.{ℕ, ◌+◌, List, [], ◌∷◌, map, length, slice_index_or, Option, None, Some}
use Rattle.source.specs.declared.word.Word.{Word}
use Rattle.source.specs.declared.word.Word.TheVariants as word
use Rattle.source.specs.Tree.{Name, NameAt, NumberAt, Target, Bind, Drop, Expr, Number, Named, Bracket, Prefix, Infix, Fetch, Store, Call, If, Loop}
use Rattle.source.specs.Tree.{Exprs, One, More, Body, Let, Do, Give, Chain, Turn, Before, After, Item, Cells, Defines, Program, names_of}
use Rattle.source.specs.Spelled.{others}
use Rattle.source.specs.Words.{words, start_words, part_words, first_words, body_words, result_words, item_words, program_words}

abbrev pub size : Expr → ℕ
size e = length (words e)

abbrev pub name_from : ℕ → NameAt → NameAt
name_from n x = record { at = n; name = x.name }

abbrev pub names_from : ℕ → List NameAt → List NameAt
names_from n [] = []
names_from n (x ∷ xs) = name_from n x ∷ names_from (n + 1) xs

abbrev pub targets_from : ℕ → List Target → List Target
targets_from n [] = []
targets_from n (Bind x ∷ targets) = Bind (name_from n x) ∷ targets_from (n + 1) targets
targets_from n (Drop ∷ targets) = Drop ∷ targets_from (n + 1) targets

abbrev pub number_from : ℕ → NumberAt → NumberAt
number_from n k = record { at = n; number = k.number }

-- a loop's names, each of which is before its first value
abbrev pub starts_from : ℕ → List NameAt → Exprs → List NameAt
starts_from n [] es = []
starts_from n (x ∷ xs) (One e) = name_from n x ∷ names_from (n + size e + 2) xs
starts_from n (x ∷ xs) (More e es) = name_from n x ∷ starts_from (n + size e + 2) xs es

-- a part whose first word has so many words before it
abbrev mutual
  pub placed_expr : ℕ → Expr → Expr
  placed_expr n (Number at v) = Number n v
  placed_expr n (Named at x) = Named n x
  placed_expr n (Bracket e) = Bracket (placed_expr n e)
  placed_expr n (Prefix at op e) = Prefix (n + size e) op (placed_expr n e)
  placed_expr n (Infix at s l r) = Infix (n + size l + 1 + size r) s (placed_expr n l) (placed_expr (n + size l + 1) r)
  placed_expr n (Fetch at a e) = Fetch n a (placed_expr (n + 1) e)
  placed_expr n (Store at a e d) = Store n a (placed_expr (n + 1) e) (placed_expr (n + size e + 2) d)
  placed_expr n (Call at strict f es) = Call n strict f (placed_parts (n + 2) es)
  placed_expr n (If at p l r) = If (n + size p + length (body_words l) + length (body_words r) + 2) (placed_expr n p) (placed_body (n + size p + 1) l)
      (placed_body (n + size p + length (body_words l) + 2) r)
  placed_expr n (Loop at bound firsts turn) = Loop n (number_from (n + 1) bound) (placed_firsts (n + 2) (names_of turn) firsts)
      (placed_turn (n + 2) firsts turn)

  pub placed_parts : ℕ → Exprs → Exprs
  placed_parts n (One e) = One (placed_expr n e)
  placed_parts n (More e es) = More (placed_expr n e) (placed_parts (n + size e + 1) es)

  -- each after its name
  pub placed_firsts : ℕ → List NameAt → Exprs → Exprs
  placed_firsts n xs (One e) = One (placed_expr (n + length (start_words xs)) e)
  placed_firsts n xs (More e es) = More (placed_expr (n + length (start_words xs)) e) (placed_firsts (n + length (start_words xs) + size e + 1) (others xs) es)

  pub placed_body : ℕ → Body → Body
  placed_body n (Let at targets es rest) = Let n (targets_from (n + 1) targets) (placed_parts (n + length targets + 2) es)
      (placed_body (n + length targets + length (part_words es) + 3) rest)
  placed_body n (Do es rest) = Do (placed_parts (n + 1) es) (placed_body (n + length (part_words es) + 2) rest)
  placed_body n (Give es) = Give (placed_parts (n + 1) es)
  placed_body n (Chain e) = Chain (placed_expr n e)

  -- where the first values begin at n
  pub placed_turn : ℕ → Exprs → Turn → Turn
  placed_turn n firsts (Before xs p body) =
      Before (starts_from n xs firsts) (placed_expr (n + length (first_words xs firsts) + 1) p)
      (placed_body (n + length (first_words xs firsts) + size p + 2) body)
  placed_turn n firsts (After xs body p) =
      After (starts_from n xs firsts) (placed_body (n + length (first_words xs firsts) + 1) body)
      (placed_expr (n + length (first_words xs firsts) + length (body_words body) + 2) p)

abbrev pub placed_results : ℕ → Option NumberAt → Option NumberAt
placed_results n None = None
placed_results n (Some k) = Some (number_from n k)

abbrev pub placed_item : ℕ → Item → Item
placed_item n (Cells x len) = Cells (name_from n x) (number_from (n + 1) len)
placed_item n (Defines f) = Defines (record {
  name = name_from n f.name;
  params = names_from (n + 1) f.params;
  results = placed_results (n + length f.params + 1) f.results;
  body_at = n + length f.params + length (result_words f.results) + 1;
  body = placed_body (n + length f.params + length (result_words f.results) + 2) f.body;
})

abbrev pub placed_from : ℕ → Program → Program
placed_from n [] = []
placed_from n (i ∷ items) = placed_item n i ∷ placed_from (n + length (item_words i)) items

abbrev pub placed : Program → Program
placed p = placed_from 0 p

-- THE TABLE: the place of each word, where it has one
abbrev pub word_place : Word Name → ℕ
word_place (word.Array at x) = at
word_place (word.Length at n) = at
word_place (word.Function at x) = at
word_place (word.Parameter at x) = at
word_place (word.Results at n) = at
word_place (word.Body at) = at
word_place word.EndFunction = 0
word_place (word.Number at n) = at
word_place (word.Name at x) = at
word_place word.Bracket = 0
word_place (word.Prefix at op) = at
word_place word.Left = 0
word_place (word.Infix at s) = at
word_place (word.Cell at x) = at
word_place (word.Fetch at x) = at
word_place word.Index = 0
word_place (word.Store at x) = at
word_place (word.Callee at x) = at
word_place (word.Call at strict x) = at
word_place word.Then = 0
word_place word.Else = 0
word_place (word.EndIf at) = at
word_place (word.Loop at) = at
word_place (word.Bound at n) = at
word_place (word.Start at x) = at
word_place word.First = 0
word_place word.TestFirst = 0
word_place word.While = 0
word_place word.BodyFirst = 0
word_place word.Until = 0
word_place (word.EndLoop at n) = at
word_place word.List = 0
word_place word.Part = 0
word_place (word.Let at) = at
word_place (word.Bind at x) = at
word_place word.Drop = 0
word_place (word.EndLet at) = at
word_place word.Do = 0
word_place word.Give = 0
word_place word.Chain = 0

abbrev pub place_table : Program → List ℕ
place_table p = map word_place (program_words p)

-- the place in the text of a place of the placed program
abbrev pub text_place : Program → ℕ → ℕ
text_place p n = slice_index_or (place_table p) n 0
