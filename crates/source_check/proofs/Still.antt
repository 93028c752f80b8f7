-- The words of bodies do nothing to heads.
use Rattle.std.specs.Prelude.{◌≡◌, refl, List, [], ◌∷◌, ◌++◌, map, Ok}
use Rattle.std.proofs.Common.{◌∙◌, ap}
use Rattle.source.specs.declared.word.Word.TheVariants as word
use Rattle.semantics.specs.Graph.{same_name}
use Rattle.source.specs.First.{◌>>=◌}
use Rattle.source.specs.Tree.{Name, NameAt, Target, Bind, Drop, Expr, Number, Named, Bracket, Prefix, Infix, Fetch, Store, Call, If, Loop, Exprs}
use Rattle.source.specs.Tree.{One, More, Body, Let, Do, Give, Chain, Turn, Before, After, names_of}
use Rattle.source.specs.Spelled.{others}
use Rattle.source.specs.Words.{Words, target_word, start_words, words, part_words, first_words, body_words, turn_words}
use Rattle.source_check.specs.Heads.{Heads, through, head_step}
use Rattle.source_check.proofs.Runs.{steps_append}

abbrev pub IsStill : Heads Name → Words → Type 0
IsStill h ws = through (head_step same_name) h ws ≡ Ok h

both : (h : Heads Name) (ws vs : Words) → IsStill h ws → IsStill h vs → IsStill h (ws ++ vs)
both h ws vs p q = steps_append (head_step same_name) ws vs h ∙ ap (λ r. r >>= λ u. through (head_step same_name) u vs) p ∙ q

targets_still : (h : Heads Name) (targets : List Target) → IsStill h (map target_word targets)
targets_still h [] = refl
targets_still h (Drop ∷ targets) = targets_still h targets
targets_still h (Bind x ∷ targets) = targets_still h targets

start_still : (h : Heads Name) (xs : List NameAt) → IsStill h (start_words xs)
start_still h [] = refl
start_still h (x ∷ xs) = refl

mutual
  still : (h : Heads Name) (e : Expr) → IsStill h (words e)
  still h (Number at n) = refl
  still h (Named at x) = refl
  still h (Bracket e) = both h (words e) (word.Bracket ∷ []) (still h e) refl
  still h (Prefix at op e) = both h (words e) (word.Prefix at op ∷ []) (still h e) refl
  still h (Infix at sign l r) = both h (words l ++ (word.Left ∷ words r)) (word.Infix at sign ∷ []) (both h (words l) (word.Left ∷ words r) (still h l)
      (still h r)) refl
  still h (Fetch at a e) = both h (words e) (word.Fetch at a ∷ []) (still h e) refl
  still h (Store at a e v) = both h (words e ++ (word.Index ∷ words v)) (word.Store at a ∷ []) (both h (words e) (word.Index ∷ words v) (still h e)
      (still h v)) refl
  still h (Call at strict f es) = both h (part_words es) (word.Call at strict f ∷ []) (list_still h es) refl
  still h (If at q l r) = both h ((words q ++ (word.Then ∷ body_words l)) ++ (word.Else ∷ body_words r)) (word.EndIf at ∷ [])
      (both h (words q ++ (word.Then ∷ body_words l)) (word.Else ∷ body_words r) (both h (words q) (word.Then ∷ body_words l) (still h q)
      (body_still h l)) (body_still h r)) refl
  still h (Loop at bound firsts turn) = both h (first_words (names_of turn) firsts ++ turn_words turn) (word.EndLoop at bound.number ∷ [])
      (both h (first_words (names_of turn) firsts) (turn_words turn) (firsts_still h (names_of turn) firsts) (turn_still h turn)) refl

  list_still : (h : Heads Name) (es : Exprs) → IsStill h (part_words es)
  list_still h (One e) = both h (words e) (word.Part ∷ []) (still h e) refl
  list_still h (More e es) = both h (words e) (word.Part ∷ part_words es) (still h e) (list_still h es)

  firsts_still : (h : Heads Name) (xs : List NameAt) (es : Exprs) → IsStill h (first_words xs es)
  firsts_still h xs (One e) = both h (start_words xs ++ words e) (word.First ∷ []) (both h (start_words xs) (words e) (start_still h xs) (still h e)) refl
  firsts_still h xs (More e es) = both h (start_words xs ++ words e) (word.First ∷ first_words (others xs) es) (both h (start_words xs) (words e)
      (start_still h xs) (still h e)) (firsts_still h (others xs) es)

  pub body_still : (h : Heads Name) (b : Body) → IsStill h (body_words b)
  body_still h (Let at targets es rest) = both h ((map target_word targets) ++ (word.List ∷ part_words es)) (word.EndLet at ∷ body_words rest)
      (both h (map target_word targets) (word.List ∷ part_words es) (targets_still h targets) (list_still h es)) (body_still h rest)
  body_still h (Do es rest) = both h (part_words es) (word.Do ∷ body_words rest) (list_still h es) (body_still h rest)
  body_still h (Give es) = both h (part_words es) (word.Give ∷ []) (list_still h es) refl
  body_still h (Chain e) = both h (words e) (word.Chain ∷ []) (still h e) refl

  turn_still : (h : Heads Name) (turn : Turn) → IsStill h (turn_words turn)
  turn_still h (Before xs q b) = both h (words q) (word.While ∷ body_words b) (still h q) (body_still h b)
  turn_still h (After xs b q) = both h (body_words b) (word.Until ∷ words q) (body_still h b) (still h q)
