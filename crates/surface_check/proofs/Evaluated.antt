-- Constants are evaluated as the definition says.
use Rattle.std.specs.Prelude.{◌≡◌, refl, ℕ, ◌≤◌, ◌⊎◌, ℤ, pos, List, [], ◌∷◌, ◌++◌, Option, None, Some, Result, Ok}
use Rattle.std.proofs.Common.{◌∙◌, ap, sym, arith, append_assoc, inl, inr}
use Rattle.std.proofs.lemmas.Bool.{le-leb}
use Rattle.operators.specs.declared.Unary.{Unary}
use Rattle.operators.specs.declared.Unary.TheVariants as unary
use Rattle.source.specs.declared.word.Word.TheVariants as core_word
use Rattle.source.specs.Tree.{Name}
use Rattle.source.specs.Fits.{Small}
use Rattle.surface.specs.declared.fault.Fault.{Fault}
use Rattle.surface.specs.declared.fault.FaultKind.TheVariants.{BadConst}
use Rattle.surface.specs.declared.word.Word.{Word}
use Rattle.surface.specs.declared.word.Word.TheVariants as word
use Rattle.surface.specs.Tree.{Written, Constant, Expr, Number, Named, Bracket, Prefix, Infix, And, Or, Not, Fetch, Store, Call, If, Loop, For}
use Rattle.surface.specs.Tree.{Exprs, One, More, names_of}
use Rattle.surface.specs.Fits.{IsLeast, Fits, FitsAll}
use Rattle.surface.specs.Words.{Words, of_core, bound_word, bound_words, words, part_words, index_words, first_words, body_words, turn_words, carried_words}
use Rattle.surface.specs.First.{◌>>=◌, refused}
use Rattle.surface.specs.Known.{Known}
use Rattle.surface.specs.Constants.{place_of, inverted, constant_named, constant}
use Rattle.surface_check.specs.declared.evaluation.Part.{Part}
use Rattle.surface_check.specs.Evaluates.{Evaluation, part_at, evaluated, no_constant, written, prefixed_value, combined_value, infixed, part_ends}
use Rattle.surface_check.specs.Evaluates.{evaluates, evaluate}
use Rattle.surface_check.proofs.Balanced.{outline, Balanced, evaluate_append, balanced}

-- the number that an expression is
abbrev pub numbered : Expr → Option ℕ
numbered (Number at n) = Some n
numbered e = None

-- what is kept of an expression: of a number whether 64 bits hold it
abbrev pub raw : Known → Expr → Result ℤ Fault
raw known (Number at n) = written at n
raw known e = constant known e

small : (at n : ℕ) → Small n → written at n ≡ Ok (pos n)
small at n h = rw (le-leb n 9223372036854775807 (omega (arith, h))) refl

pub settled : (known : Known) (e : Expr) → Fits e → raw known e ≡ constant known e
settled known (Number at n) f = small at n f
settled known e f = refl

prefix_is : (known : Known) (at : ℕ) (op : Unary) (e : Expr) → Fits e ⊎ IsLeast op e
    → prefixed_value at op (raw known e) (numbered e) ≡ (constant known e >>= λ z. inverted at op z)
prefix_is known at unary.Neg (Number m n) h = refl
prefix_is known at unary.Not (Number m n) (inl f) = rw (small m n f) refl
prefix_is known at unary.Not (Number m n) (inr h) = absurd h
prefix_is known at unary.Neg e h = refl
prefix_is known at unary.Not e h = refl

abbrev pub EvaluatesTo : (ℕ → Name → Result ℤ Fault) → Known → Expr → Type 0
EvaluatesTo k known e = (c : Evaluation) → 1 ≤ c.depth → evaluate k c (words e) ≡ evaluated c (place_of e) (raw known e) (numbered e)

ends_as : (r c : Evaluation) (at : ℕ) → outline r ≡ outline c → r.last ≡ part_at at (refused BadConst at) → r.number ≡ None → r ≡ no_constant c at
ends_as r c at h l n = ap (λ (o : Evaluation). record o { last = r.last; number = r.number }) h
    ∙ ap (λ (p : Part). record c { last = p; number = r.number }) l
    ∙ ap (λ (m : Option ℕ). record c { last = part_at at (refused BadConst at); number = m }) n

by_end : (k : ℕ → Name → Result ℤ Fault) (c : Evaluation) (ws : Words) (w : Word Name) (at : ℕ) → Balanced 1 (ws ++ w ∷ []) → 1 ≤ c.depth
    → ((x : Evaluation) → (evaluates k x w).last ≡ part_at at (refused BadConst at)) → ((x : Evaluation) → (evaluates k x w).number ≡ None)
    → evaluate k c (ws ++ w ∷ []) ≡ no_constant c at
by_end k c ws w at b d l n =
    let e : evaluate k c (ws ++ w ∷ []) ≡ evaluates k (evaluate k c ws) w = evaluate_append k ws (w ∷ []) c in
    ends_as (evaluate k c (ws ++ w ∷ [])) c at (b.still k c d) (ap (λ (x : Evaluation). x.last) e ∙ l (evaluate k c ws)) (ap
    (λ (x : Evaluation). x.number) e ∙ n (evaluate k c ws))

least_over : (k : ℕ → Name → Result ℤ Fault) (known : Known) (op : Unary) (e : Expr) → IsLeast op e → EvaluatesTo k known e
least_over k known unary.Neg (Number at n) h = λ c d. refl
least_over k known op e h = absurd h

either : {A B C : Type 0} → (A → C) → (B → C) → A ⊎ B → C
either f g (inl x) = f x
either f g (inr y) = g y

abbrev open_left : Evaluation → Evaluation
open_left c = record c { lefts = c.last.value ∷ c.lefts }

both_settled : (known : Known) (at : ℕ) (l r : Expr) (x y : Result ℤ Fault) (f : Result ℤ Fault → Result ℤ Fault → Result ℤ Fault)
    → raw known l ≡ x → raw known r ≡ y → f (raw known l) (raw known r) ≡ f x y
both_settled known at l r x y f p q = rw (p, q) refl

pub evaluated_to : (k : ℕ → Name → Result ℤ Fault) (known : Known) → ((at : ℕ) (x : Name) → k at x ≡ constant_named known at x)
    → (e : Expr) → Fits e → EvaluatesTo k known e
evaluated_to k known h (Number at n) f = λ c d. refl
evaluated_to k known h (Named at x) f = λ c d. ap (λ (v : Result ℤ Fault). evaluated c at v None) (h at x)
evaluated_to k known h (Bracket e) f = λ c d. evaluate_append k (words e) (of_core core_word.Bracket ∷ []) c
    ∙ ap (λ (x : Evaluation). record x { number = None }) (evaluated_to k known h e f c d)
    ∙ ap (λ (v : Result ℤ Fault). evaluated c (place_of e) v None) (settled known e f)
evaluated_to k known h (Prefix at op e) f = λ c d. evaluate_append k (words e) (of_core (core_word.Prefix at op) ∷ []) c
    ∙ ap (λ (x : Evaluation). evaluated x at (prefixed_value at op x.last.value x.number) None)
    (either (λ g. evaluated_to k known h e g) (λ g. least_over k known op e g) f.1 c d)
    ∙ ap (λ (v : Result ℤ Fault). evaluated c at v None) (prefix_is known at op e f.1)
evaluated_to k known h (Infix at sign l r) f = λ c d.
    evaluate_append k (words l ++ of_core core_word.Left ∷ words r) (of_core (core_word.Infix at sign) ∷ []) c
    ∙ ap (λ (x : Evaluation). infixed x at sign x.lefts) (evaluate_append k (words l) (of_core core_word.Left ∷ words r) c
    ∙ ap (λ (x : Evaluation). evaluate k (open_left x) (words r)) (evaluated_to k known h l f.0 c d)
    ∙ evaluated_to k known h r f.2 (open_left (evaluated c (place_of l) (raw known l) (numbered l))) d)
    ∙ ap (λ (v : Result ℤ Fault). evaluated c at v None) (both_settled known at l r (constant known l) (constant known r) (combined_value at sign)
    (settled known l f.0) (settled known r f.2))
evaluated_to k known h (And at l r) f = λ c d. by_end k c (words l ++ word.AndThen ∷ words r) (word.EndAnd at) at (balanced (And at l r)) d
    (λ x. refl) (λ x. refl)
evaluated_to k known h (Or at l r) f = λ c d. by_end k c (words l ++ word.OrElse ∷ words r) (word.EndOr at) at (balanced (Or at l r)) d
    (λ x. refl) (λ x. refl)
evaluated_to k known h (Not at e) f = λ c d. by_end k c (words e) (word.Not at) at (balanced (Not at e)) d (λ x. refl) (λ x. refl)
evaluated_to k known h (Fetch at a es) f = λ c d. by_end k c (of_core (core_word.Cell at a) ∷ index_words es) (of_core (core_word.Fetch at a)) at (balanced
    (Fetch at a es)) d (λ x. refl) (λ x. refl)
evaluated_to k known h (Store at a es v) f = λ c d. by_end k c ((of_core (core_word.Cell at a) ∷ index_words es) ++ of_core core_word.Index ∷ words v) (of_core
    (core_word.Store at a)) at (balanced (Store at a es v)) d (λ x. refl) (λ x. refl)
evaluated_to k known h (Call at strict g es) f = λ c d. by_end k c (of_core (core_word.Callee at g) ∷ of_core core_word.List ∷ part_words es) (of_core
    (core_word.Call at strict g)) at (balanced (Call at strict g es)) d (λ x. refl) (λ x. refl)
evaluated_to k known h (If at q l r) f = λ c d. by_end k c ((words q ++ of_core core_word.Then ∷ body_words l) ++ of_core core_word.Else ∷ body_words r) (of_core
    (core_word.EndIf at)) at (balanced (If at q l r)) d (λ x. refl) (λ x. refl)
evaluated_to k known h (Loop at (Written m n) firsts turn) f = λ c d. by_end k c ((of_core (core_word.Loop at) ∷ bound_word (Written m n) ∷ first_words
    (names_of turn) firsts) ++ turn_words turn) (of_core (core_word.EndLoop at n)) at (balanced (Loop at (Written m n) firsts turn)) d (λ x. refl) (λ x. refl)
evaluated_to k known h (Loop at (Constant m n) firsts turn) f = λ c d. by_end k c ((of_core (core_word.Loop at) ∷ bound_word (Constant m n) ∷ first_words
    (names_of turn) firsts) ++ turn_words turn) (word.EndConstantLoop at n) at (balanced (Loop at (Constant m n) firsts turn)) d (λ x. refl) (λ x. refl)
evaluated_to k known h (For at bound i first end carried body) f = λ c d. by_end k c (((((word.For at ∷ bound_words bound) ++ word.Counter i.at i.name ∷ words
    first) ++ word.Range ∷ words end) ++ word.EndRange ∷ carried_words carried) ++ word.Turns ∷ body_words body) (word.EndFor at) at (balanced
    (For at bound i first end carried body)) d (λ x. refl) (λ x. refl)

-- LISTS
abbrev pub parts_of : Known → Exprs → List Part
parts_of known (One e) = part_at (place_of e) (constant known e) ∷ []
parts_of known (More e es) = part_at (place_of e) (constant known e) ∷ parts_of known es

abbrev in_list : Evaluation → Evaluation
in_list c = record c { depth = 1 }

-- the list with one more part
abbrev with_part : Evaluation → ℕ → Result ℤ Fault → Option ℕ → Evaluation
with_part c at value number = record c { parts = c.parts ++ part_at at value ∷ []; last = part_at at value; number = number }

one_more : (k : ℕ → Name → Result ℤ Fault) (known : Known) → ((at : ℕ) (x : Name) → k at x ≡ constant_named known at x) → (e : Expr) → Fits e
    → (c : Evaluation) → evaluate k (in_list c) (words e ++ of_core core_word.Part ∷ []) ≡ in_list (with_part c (place_of e) (constant known e) (numbered e))
one_more k known h e f c = evaluate_append k (words e) (of_core core_word.Part ∷ []) (in_list c)
    ∙ ap part_ends (evaluated_to k known h e f (in_list c) (omega arith))
    ∙ ap (λ (v : Result ℤ Fault). in_list (with_part c (place_of e) v (numbered e))) (settled known e f)

pub parts_are : (k : ℕ → Name → Result ℤ Fault) (known : Known) → ((at : ℕ) (x : Name) → k at x ≡ constant_named known at x) → (es : Exprs) → FitsAll es
    → (c : Evaluation) → (evaluate k (in_list c) (part_words es)).parts ≡ c.parts ++ parts_of known es
parts_are k known h (One e) f c = ap (λ (x : Evaluation). x.parts) (one_more k known h e f c)
parts_are k known h (More e es) f c =
    ap (λ (us : Words). (evaluate k (in_list c) us).parts) (sym (append_assoc (words e) (of_core core_word.Part ∷ []) (part_words es)))
    ∙ ap (λ (x : Evaluation). x.parts) (evaluate_append k (words e ++ of_core core_word.Part ∷ []) (part_words es) (in_list c))
    ∙ ap (λ (x : Evaluation). (evaluate k x (part_words es)).parts) (one_more k known h e f.0 c)
    ∙ parts_are k known h es f.1 (with_part c (place_of e) (constant known e) (numbered e))
    ∙ append_assoc c.parts (part_at (place_of e) (constant known e) ∷ []) (parts_of known es)
