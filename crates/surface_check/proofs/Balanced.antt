-- The words of an expression are balanced: they leave open what was open, and end no item.
use Rattle.std.specs.Prelude.{◌≡◌, refl, ℕ, suc, ◌+◌, ◌-◌, ◌≤◌, ◌==◌, ◌||◌, ◌&&◌, not, Bool, true, false, ℤ, pos, List, [], ◌∷◌, ◌++◌, map, None, Some, Option}
use Rattle.std.specs.Prelude.{Result, Ok}
use Rattle.std.specs.List.{list_any}
use Rattle.std.proofs.Common.{◌∙◌, ap, sym, subst, arith, append_assoc}
use Rattle.std.proofs.lemmas.Bool.{eqb-true}
use Rattle.source.specs.declared.word.InfixSign.{InfixSign}
use Rattle.source.specs.declared.word.Word.TheVariants as core_word
use Rattle.source.specs.Tree.{Name, NameAt, Target, Bind, Drop}
use Rattle.source.specs.Spelled.{others}
use Rattle.surface.specs.declared.fault.Fault.{Fault}
use Rattle.surface.specs.declared.word.Word.{Word}
use Rattle.surface.specs.declared.word.Word.TheVariants as word
use Rattle.surface.specs.Tree.{Count, Written, Constant, Expr, Number, Named, Bracket, Prefix, Infix, And, Or, Not, Fetch, Store, Call, If, Loop, For}
use Rattle.surface.specs.Tree.{Exprs, One, More, Body, Let, Do, When, Give, Chain, Tests, Last, Else, Turn, Before, After, Carried, Nothing, With}
use Rattle.surface.specs.Tree.{names_of}
use Rattle.surface.specs.Words.{Words, of_core, target_word, start_words, bound_word, bound_words, end_loop, words, part_words, index_words, first_words}
use Rattle.surface.specs.Words.{body_words, tests_words, turn_words, carried_words}
use Rattle.surface_check.specs.Evaluates.{Evaluation, part_at, evaluates, evaluate, infixed, list_begins, list_ends, part_ends, word_ahead, strict_ahead}
use Rattle.surface_check.specs.Heads.{ends_item}
use Rattle.surface_check.specs.Steps.{ends_measure}

-- what is open
abbrev pub outline : Evaluation → Evaluation
outline c = record c { last = part_at 0 (Ok (pos 0)); number = None }

-- whether some call ends the outermost list
abbrev pub ends_outer : (ℕ → Name → Result ℤ Fault) → Evaluation → Words → Bool
ends_outer k c [] = false
ends_outer k c (w ∷ ws) = (ends_measure w && c.depth == 1) || ends_outer k (evaluates k c w) ws

-- At least n lists are open before.
pub record Balanced (n : ℕ) (ws : Words) : Type 0 where
  pub still : (k : ℕ → Name → Result ℤ Fault) (c : Evaluation) → n ≤ c.depth → outline (evaluate k c ws) ≡ outline c
  pub ahead : (rest : Words) (d : ℕ) → strict_ahead (ws ++ rest) d ≡ strict_ahead rest d
  pub inner : list_any ends_item ws ≡ false
  pub inside : (k : ℕ → Name → Result ℤ Fault) (c : Evaluation) → n ≤ c.depth → ends_outer k c ws ≡ false

pub evaluate_append : (k : ℕ → Name → Result ℤ Fault) (ws vs : Words) (c : Evaluation) → evaluate k c (ws ++ vs) ≡ evaluate k (evaluate k c ws) vs
evaluate_append k [] vs c = refl
evaluate_append k (w ∷ ws) vs c = evaluate_append k ws vs (evaluates k c w)

none_of_both : (ws vs : Words) → list_any ends_item ws ≡ false → list_any ends_item vs ≡ false → list_any ends_item (ws ++ vs) ≡ false
none_of_both [] vs h k = k
none_of_both (w ∷ ws) vs h k = go (ends_item w) h (λ e. none_of_both ws vs e k)
  where
    go : (b : Bool) → (b || list_any ends_item ws) ≡ false → (list_any ends_item ws ≡ false → list_any ends_item (ws ++ vs) ≡ false)
        → (b || list_any ends_item (ws ++ vs)) ≡ false
    go true e later = e
    go false e later = later e

none_of_one : (b : Bool) → b ≡ false → (b || false) ≡ false
none_of_one b e = rw e refl

pub none_outer : (k : ℕ → Name → Result ℤ Fault) (ws vs : Words) (c : Evaluation) → ends_outer k c ws ≡ false → ends_outer k (evaluate k c ws) vs ≡ false
    → ends_outer k c (ws ++ vs) ≡ false
none_outer k [] vs c h j = j
none_outer k (w ∷ ws) vs c h j = go (ends_measure w && c.depth == 1) h (λ e. none_outer k ws vs (evaluates k c w) e j)
  where
    go : (b : Bool) → (b || ends_outer k (evaluates k c w) ws) ≡ false
        → (ends_outer k (evaluates k c w) ws ≡ false → ends_outer k (evaluates k c w) (ws ++ vs) ≡ false)
        → (b || ends_outer k (evaluates k c w) (ws ++ vs)) ≡ false
    go true e later = e
    go false e later = later e

different : (b : Bool) → b ≡ not b → ⊥
different true e = cc
different false e = cc

-- a word that is passed over by who looks ahead is no call
no_call : (w : Word Name) → ((later : ℕ → Bool) (d : ℕ) → word_ahead w d later ≡ later d) → ends_measure w ≡ false
no_call (word.Core (core_word.Call at strict f)) h = absurd (different strict (h (λ n. not strict) 0))
no_call w h = refl

silent : (w : Word Name) → ends_measure w ≡ false → (k : ℕ → Name → Result ℤ Fault) (c : Evaluation) → ends_outer k c (w ∷ []) ≡ false
silent w e k c = rw e refl

pub one : (n : ℕ) (w : Word Name) → ((k : ℕ → Name → Result ℤ Fault) (c : Evaluation) → outline (evaluates k c w) ≡ outline c)
    → ((later : ℕ → Bool) (d : ℕ) → word_ahead w d later ≡ later d) → ends_item w ≡ false → Balanced n (w ∷ [])
one n w s a i = record {
  still = λ k c d. s k c;
  ahead = λ rest d. a (strict_ahead rest) d;
  inner = none_of_one (ends_item w) i;
  inside = λ k c d. silent w (no_call w a) k c;
}

same_depth : (c e : Evaluation) → outline c ≡ outline e → c.depth ≡ e.depth
same_depth c e h = ap (λ (x : Evaluation). x.depth) h

as_deep : (n : ℕ) (c e : Evaluation) → outline c ≡ outline e → n ≤ e.depth → n ≤ c.depth
as_deep n c e h d = subst (λ m. n ≤ m) (sym (same_depth c e h)) d

pub joined : {n : ℕ} {ws vs : Words} → Balanced n ws → Balanced n vs → Balanced n (ws ++ vs)
joined {n} {ws} {vs} a b = record {
  still = λ k c d. ap outline (evaluate_append k ws vs c)
      ∙ b.still k (evaluate k c ws) (as_deep n (evaluate k c ws) c (a.still k c d) d) ∙ a.still k c d;
  ahead = λ rest d. ap (λ us. strict_ahead us d) (append_assoc ws vs rest) ∙ a.ahead (vs ++ rest) d ∙ b.ahead rest d;
  inner = none_of_both ws vs a.inner b.inner;
  inside = λ k c d. none_outer k ws vs c (a.inside k c d) (b.inside k (evaluate k c ws) (as_deep n (evaluate k c ws) c (a.still k c d) d));
}

pub lifted : {ws : Words} → Balanced 1 ws → Balanced 2 ws
lifted {ws} a = record { still = λ k c d. a.still k c (omega (arith, d)); ahead = a.ahead; inner = a.inner; inside = λ k c d. a.inside k c (omega (arith, d)) }

not_one : (n : ℕ) → 2 ≤ n → (n == 1) ≡ false
not_one n h = go (n == 1) refl
  where
    go : (b : Bool) → (n == 1) ≡ b → b ≡ false
    go false e = refl
    go true e = let x : n ≡ 1 = eqb-true n 1 e in absurd (omega (arith, x, h))

part_still : (c : Evaluation) → 2 ≤ c.depth → outline (part_ends c) ≡ outline c
part_still c h = rw (not_one c.depth h) refl

pub one_part : Balanced 2 (of_core core_word.Part ∷ [])
one_part = record { still = λ k c d. part_still c d; ahead = λ rest d. refl; inner = refl; inside = λ k c d. refl }

up_and_down : (n : ℕ) → (n + 1) - 1 ≡ n
up_and_down n = omega arith

down_again : (c : Evaluation) → list_ends (list_begins (outline c)) ≡ outline c
down_again c = ap (λ n. record (outline c) { depth = n }) (up_and_down c.depth)

deeper : (c : Evaluation) → 1 ≤ c.depth → 2 ≤ (list_begins c).depth
deeper c h = omega (arith, h)

list_still : (ws : Words) (w : Word Name) → Balanced 2 ws
    → ((k : ℕ → Name → Result ℤ Fault) (c : Evaluation) → outline (evaluates k c w) ≡ list_ends (outline c))
    → (k : ℕ → Name → Result ℤ Fault) (c : Evaluation) → 1 ≤ c.depth → outline (evaluate k (list_begins c) (ws ++ w ∷ [])) ≡ outline c
list_still ws w b s k c d = ap outline (evaluate_append k ws (w ∷ []) (list_begins c)) ∙ s k (evaluate k (list_begins c) ws)
    ∙ ap list_ends (b.still k (list_begins c) (deeper c d)) ∙ down_again c

-- a list, with the word that ends it
pub listed : {ws : Words} (w : Word Name) → ((k : ℕ → Name → Result ℤ Fault) (c : Evaluation) → outline (evaluates k c w) ≡ list_ends (outline c))
    → ((later : ℕ → Bool) (d : ℕ) → word_ahead w d later ≡ later d) → ends_item w ≡ false → Balanced 2 ws
    → Balanced 1 ((of_core core_word.List ∷ ws) ++ w ∷ [])
listed {ws} w s a i b = record {
  still = λ k c d. list_still ws w b s k c d;
  ahead = λ rest d. ap (λ us. strict_ahead us d) (append_assoc ws (w ∷ []) rest) ∙ b.ahead (w ∷ rest) d ∙ a (strict_ahead rest) d;
  inner = none_of_both ws (w ∷ []) b.inner (none_of_one (ends_item w) i);
  inside = λ k c d. none_outer k ws (w ∷ []) (list_begins c) (b.inside k (list_begins c) (deeper c d)) (silent w (no_call w a) k (evaluate k (list_begins c) ws));
}

pub called : {ws : Words} (at : ℕ) (f : Name) (strict : Bool) → Balanced 2 ws
    → Balanced 1 ((of_core (core_word.Callee at f) ∷ of_core core_word.List ∷ ws) ++ of_core (core_word.Call at strict f) ∷ [])
called {ws} at f strict b = record {
  still = λ k c d. list_still ws (of_core (core_word.Call at strict f)) b (λ k c. refl) k c d;
  ahead = λ rest d. ap (λ us. strict_ahead us (suc d)) (append_assoc ws (of_core (core_word.Call at strict f) ∷ []) rest)
      ∙ b.ahead (of_core (core_word.Call at strict f) ∷ rest) (suc d);
  inner = none_of_both ws (of_core (core_word.Call at strict f) ∷ []) b.inner refl;
  inside = λ k c d. none_outer k ws (of_core (core_word.Call at strict f) ∷ []) (list_begins c) (b.inside k (list_begins c) (deeper c d)) (none_of_one
      ((evaluate k (list_begins c) ws).depth == 1) (not_one (evaluate k (list_begins c) ws).depth (as_deep 2 (evaluate k (list_begins c) ws) (list_begins c) (b.still
      k (list_begins c) (deeper c d)) (deeper c d))));
}

-- an operator on two parts
abbrev open_left : Evaluation → Evaluation
open_left c = record c { lefts = c.last.value ∷ c.lefts }

closes : (c : Evaluation) (at : ℕ) (sign : InfixSign) (v : Result ℤ Fault) (ls : List (Result ℤ Fault)) → c.lefts ≡ v ∷ ls
    → outline (infixed c at sign c.lefts) ≡ record (outline c) { lefts = ls }
closes c at sign v ls h = rw h refl

operator_still : (ls rs : Words) (at : ℕ) (sign : InfixSign) → Balanced 1 ls → Balanced 1 rs → (k : ℕ → Name → Result ℤ Fault) (c : Evaluation) → 1 ≤ c.depth
    → outline (evaluate k c ((ls ++ of_core core_word.Left ∷ rs) ++ of_core (core_word.Infix at sign) ∷ [])) ≡ outline c
operator_still ls rs at sign a b k c d =
    let c1 : Evaluation = evaluate k c ls in
    let c2 : Evaluation = evaluate k (open_left c1) rs in
    let e1 : outline c1 ≡ outline c = a.still k c d in
    let e2 : outline c2 ≡ outline (open_left c1) = b.still k (open_left c1) (as_deep 1 c1 c e1 d) in
    let all : evaluate k c ((ls ++ of_core core_word.Left ∷ rs) ++ of_core (core_word.Infix at sign) ∷ []) ≡ infixed c2 at sign c2.lefts =
    evaluate_append k (ls ++ of_core core_word.Left ∷ rs) (of_core (core_word.Infix at sign) ∷ []) c
    ∙ ap (λ (x : Evaluation). infixed x at sign x.lefts) (evaluate_append k ls (of_core core_word.Left ∷ rs) c) in
    ap outline all ∙ closes c2 at sign c1.last.value c1.lefts (ap (λ (x : Evaluation). x.lefts) e2)
    ∙ ap (λ (x : Evaluation). record x { lefts = c1.lefts }) e2 ∙ e1

pub operator : {ls rs : Words} (at : ℕ) (sign : InfixSign) → Balanced 1 ls → Balanced 1 rs
    → Balanced 1 ((ls ++ of_core core_word.Left ∷ rs) ++ of_core (core_word.Infix at sign) ∷ [])
operator {ls} {rs} at sign a b = record {
  still = λ k c d. operator_still ls rs at sign a b k c d;
  ahead = λ rest d. ap (λ us. strict_ahead us d) (append_assoc (ls ++ of_core core_word.Left ∷ rs) (of_core (core_word.Infix at sign) ∷ []) rest
      ∙ append_assoc ls (of_core core_word.Left ∷ rs) (of_core (core_word.Infix at sign) ∷ rest))
      ∙ a.ahead (of_core core_word.Left ∷ (rs ++ of_core (core_word.Infix at sign) ∷ rest)) d ∙ b.ahead (of_core (core_word.Infix at sign) ∷ rest) d;
  inner = none_of_both (ls ++ of_core core_word.Left ∷ rs) (of_core (core_word.Infix at sign) ∷ []) (none_of_both ls (of_core core_word.Left ∷ rs) a.inner
      b.inner) refl;
  inside = λ k c d. none_outer k (ls ++ of_core core_word.Left ∷ rs) (of_core (core_word.Infix at sign) ∷ []) c (none_outer k ls (of_core core_word.Left ∷ rs) c
      (a.inside k c d) (b.inside k (open_left (evaluate k c ls)) (as_deep 1 (evaluate k c ls) c (a.still k c d) d))) refl;
}

turned_to : {n : ℕ} {ws vs : Words} → ws ≡ vs → Balanced n ws → Balanced n vs
turned_to {n} {ws} {vs} e b = subst (λ us. Balanced n us) e b

targets_balanced : (targets : List Target) → Balanced 1 (map target_word targets)
targets_balanced [] = record { still = λ k c d. refl; ahead = λ rest d. refl; inner = refl; inside = λ k c d. refl }
targets_balanced (Bind x ∷ targets) = joined (one 1 (of_core (core_word.Bind x.at x.name)) (λ k c. refl) (λ later d. refl) refl) (targets_balanced targets)
targets_balanced (Drop ∷ targets) = joined (one 1 (of_core core_word.Drop) (λ k c. refl) (λ later d. refl) refl) (targets_balanced targets)

start_balanced : (xs : List NameAt) → Balanced 1 (start_words xs)
start_balanced [] = record { still = λ k c d. refl; ahead = λ rest d. refl; inner = refl; inside = λ k c d. refl }
start_balanced (x ∷ xs) = (one 1 (of_core (core_word.Start x.at x.name)) (λ k c. refl) (λ later d. refl) refl)

bound_balanced : (bound : Count) → Balanced 1 (bound_word bound ∷ [])
bound_balanced (Written at n) = (one 1 (of_core (core_word.Bound at n)) (λ k c. refl) (λ later d. refl) refl)
bound_balanced (Constant at x) = (one 1 (word.ConstantBound at x) (λ k c. refl) (λ later d. refl) refl)

bounds_balanced : (bound : Option Count) → Balanced 1 (bound_words bound)
bounds_balanced None = record { still = λ k c d. refl; ahead = λ rest d. refl; inner = refl; inside = λ k c d. refl }
bounds_balanced (Some bound) = bound_balanced bound

end_balanced : (at : ℕ) (bound : Count) → Balanced 1 (end_loop at bound ∷ [])
end_balanced at (Written bound_at n) = (one 1 (of_core (core_word.EndLoop at n)) (λ k c. refl) (λ later d. refl) refl)
end_balanced at (Constant bound_at x) = (one 1 (word.EndConstantLoop at x) (λ k c. refl) (λ later d. refl) refl)

mutual
  pub balanced : (e : Expr) → Balanced 1 (words e)
  balanced (Number at n) = (one 1 (of_core (core_word.Number at n)) (λ k c. refl) (λ later d. refl) refl)
  balanced (Named at x) = (one 1 (of_core (core_word.Name at x)) (λ k c. refl) (λ later d. refl) refl)
  balanced (Bracket e) = joined (balanced e) (one 1 (of_core core_word.Bracket) (λ k c. refl) (λ later d. refl) refl)
  balanced (Prefix at op e) = joined (balanced e) (one 1 (of_core (core_word.Prefix at op)) (λ k c. refl) (λ later d. refl) refl)
  balanced (Infix at sign l r) = operator at sign (balanced l) (balanced r)
  balanced (And at l r) = joined (joined (balanced l) (joined (one 1 (word.AndThen) (λ k c. refl) (λ later d. refl) refl) (balanced r))) (one 1 (word.EndAnd at) (λ k c. refl) (λ later d. refl) refl)
  balanced (Or at l r) = joined (joined (balanced l) (joined (one 1 (word.OrElse) (λ k c. refl) (λ later d. refl) refl) (balanced r))) (one 1 (word.EndOr at) (λ k c. refl) (λ later d. refl) refl)
  balanced (Not at e) = joined (balanced e) (one 1 (word.Not at) (λ k c. refl) (λ later d. refl) refl)
  balanced (Fetch at x es) = joined (joined (one 1 (of_core (core_word.Cell at x)) (λ k c. refl) (λ later d. refl) refl) (indexes_balanced es)) (one 1 (of_core (core_word.Fetch at x)) (λ k c. refl) (λ later d. refl) refl)
  balanced (Store at x es v) = joined (joined (joined (one 1 (of_core (core_word.Cell at x)) (λ k c. refl) (λ later d. refl) refl) (indexes_balanced es)) (joined (one 1 (of_core core_word.Index) (λ k c. refl) (λ later d. refl) refl) (balanced v))) (one 1 (of_core (core_word.Store at x)) (λ k c. refl) (λ later d. refl) refl)
  balanced (Call at strict f es) = called at f strict (parts_balanced es)
  balanced (If at q l r) = joined (joined (joined (balanced q) (joined (one 1 (of_core core_word.Then) (λ k c. refl) (λ later d. refl) refl) (body_balanced l))) (joined (one 1 (of_core core_word.Else) (λ k c. refl) (λ later d. refl) refl) (body_balanced r))) (one 1 (of_core (core_word.EndIf at)) (λ k c. refl) (λ later d. refl) refl)
  balanced (Loop at bound firsts turn) = joined (joined (joined (one 1 (of_core (core_word.Loop at)) (λ k c. refl) (λ later d. refl) refl) (joined (bound_balanced bound) (firsts_balanced (names_of turn) firsts)))
      (turn_balanced turn)) (end_balanced at bound)
  balanced (For at bound i first end carried body) = joined (joined (joined (joined (joined (joined (one 1 (word.For at) (λ k c. refl) (λ later d. refl) refl) (bounds_balanced bound))
      (joined (one 1 (word.Counter i.at i.name) (λ k c. refl) (λ later d. refl) refl) (balanced first))) (joined (one 1 (word.Range) (λ k c. refl) (λ later d. refl) refl) (balanced end))) (joined (one 1 (word.EndRange) (λ k c. refl) (λ later d. refl) refl) (carried_balanced carried)))
      (joined (one 1 (word.Turns) (λ k c. refl) (λ later d. refl) refl) (body_balanced body))) (one 1 (word.EndFor at) (λ k c. refl) (λ later d. refl) refl)

  pub parts_balanced : (es : Exprs) → Balanced 2 (part_words es)
  parts_balanced (One e) = joined (lifted (balanced e)) one_part
  parts_balanced (More e es) = joined (lifted (balanced e)) (joined one_part (parts_balanced es))

  indexes_balanced : (es : Exprs) → Balanced 1 (index_words es)
  indexes_balanced (One e) = balanced e
  indexes_balanced (More e es) = joined (balanced e) (joined (one 1 (word.NextIndex) (λ k c. refl) (λ later d. refl) refl) (indexes_balanced es))

  firsts_balanced : (xs : List NameAt) (es : Exprs) → Balanced 1 (first_words xs es)
  firsts_balanced xs (One e) = joined (joined (start_balanced xs) (balanced e)) (one 1 (of_core core_word.First) (λ k c. refl) (λ later d. refl) refl)
  firsts_balanced xs (More e es) = joined (joined (start_balanced xs) (balanced e)) (joined (one 1 (of_core core_word.First) (λ k c. refl) (λ later d. refl) refl) (firsts_balanced (others xs) es))

  pub body_balanced : (b : Body) → Balanced 1 (body_words b)
  body_balanced (Let at targets es rest) =
      turned_to (sym (append_assoc (of_core (core_word.Let at) ∷ map target_word targets) (of_core core_word.List ∷ part_words es) (of_core
      (core_word.EndLet at) ∷ body_words rest)))
      (joined (joined (one 1 (of_core (core_word.Let at)) (λ k c. refl) (λ later d. refl) refl) (targets_balanced targets)) (turned_to (append_assoc (of_core core_word.List ∷ part_words es) (of_core
      (core_word.EndLet at) ∷ []) (body_words rest)) (joined (listed (of_core (core_word.EndLet at)) (λ k c. refl) (λ later d. refl) refl (parts_balanced es))
      (body_balanced rest))))
  body_balanced (Do es rest) = turned_to (append_assoc (of_core core_word.List ∷ part_words es) (of_core core_word.Do ∷ []) (body_words rest))
      (joined (listed (of_core core_word.Do) (λ k c. refl) (λ later d. refl) refl (parts_balanced es)) (body_balanced rest))
  body_balanced (When tests rest) = turned_to (append_assoc (of_core core_word.List ∷ tests_words tests) (word.When ∷ []) (body_words rest))
      (joined (listed word.When (λ k c. refl) (λ later d. refl) refl (lifted (tests_balanced tests))) (body_balanced rest))
  body_balanced (Give es) = listed (of_core core_word.Give) (λ k c. refl) (λ later d. refl) refl (parts_balanced es)
  body_balanced (Chain e) = joined (balanced e) (one 1 (of_core core_word.Chain) (λ k c. refl) (λ later d. refl) refl)

  tests_balanced : (tests : Tests) → Balanced 1 (tests_words tests)
  tests_balanced (Last at q arm) = joined (joined (balanced q) (joined (one 1 (of_core core_word.Then) (λ k c. refl) (λ later d. refl) refl) (body_balanced arm))) (one 1 (word.EndWhen at) (λ k c. refl) (λ later d. refl) refl)
  tests_balanced (Else at q arm more) = joined (joined (joined (balanced q) (joined (one 1 (of_core core_word.Then) (λ k c. refl) (λ later d. refl) refl) (body_balanced arm))) (joined (one 1 (of_core core_word.Else) (λ k c. refl) (λ later d. refl) refl)
      (tests_balanced more))) (one 1 (word.EndWhen at) (λ k c. refl) (λ later d. refl) refl)

  turn_balanced : (turn : Turn) → Balanced 1 (turn_words turn)
  turn_balanced (Before xs q b) = joined (joined (one 1 (of_core core_word.TestFirst) (λ k c. refl) (λ later d. refl) refl) (balanced q)) (joined (one 1 (of_core core_word.While) (λ k c. refl) (λ later d. refl) refl) (body_balanced b))
  turn_balanced (After xs b q) = joined (joined (one 1 (of_core core_word.BodyFirst) (λ k c. refl) (λ later d. refl) refl) (body_balanced b)) (joined (one 1 (of_core core_word.Until) (λ k c. refl) (λ later d. refl) refl) (balanced q))

  carried_balanced : (carried : Carried) → Balanced 1 (carried_words carried)
  carried_balanced Nothing = record { still = λ k c d. refl; ahead = λ rest d. refl; inner = refl; inside = λ k c d. refl }
  carried_balanced (With xs firsts) = firsts_balanced xs firsts
