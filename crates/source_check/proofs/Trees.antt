-- WHAT STEPS LEAVE OF A PROGRAM: by induction on trees.
use Rattle.std.specs.Prelude.{◌≡◌, refl, ℕ, ◌+◌, ◌==◌, ◌⊎◌, Bool, true, false, List, [], ◌∷◌, ◌++◌, length, map, Option, None, Some, Ok, ⊤}
use Rattle.std.proofs.Common.{◌∙◌, arith, append_assoc, inl, inr}
use Rattle.std.proofs.lemmas.List.{append-nil}
use Rattle.source.specs.declared.fault.FaultKind.TheVariants.{Arity}
use Rattle.source.specs.declared.word.Word.{Word}
use Rattle.source.specs.declared.word.Word.TheVariants as word
use Rattle.operators.specs.declared.Unary.{Unary}
use Rattle.operators.specs.declared.Unary.TheVariants.{Neg}
use Rattle.source.specs.Tree.{Name, NameAt, NumberAt, Expr, Number, Named, Bracket, Prefix, Infix, Fetch, Store, Call, If, Loop, Exprs, One, More}
use Rattle.source.specs.Tree.{Body, Let, Do, Give, Chain, Turn, Before, After, Function, Item, Cells, Defines, Program}
use Rattle.source.specs.Fits.{Fits, FitsAll, FitsBody, FitsTurn, FitsProgram, IsLeast}
use Rattle.source.specs.Words.{body_words, result_words, item_words, program_words}
use Rattle.source.specs.Outside.{bare}
use Rattle.source.specs.First.{◌>>=◌, must}
use Rattle.source.specs.Rules.{written_or_one, new_names, body_values, function_checked, functions_checked}
use Rattle.source_check.specs.declared.frame.Entry.{Entry}
use Rattle.source_check.specs.declared.frame.Frame.TheVariants as frame
use Rattle.source_check.specs.Steps.{State, begun, onto, ended, body, steps, step}
use Rattle.source_check.proofs.Runs.{mapped, in_turn}
use Rattle.source_check.proofs.Stacks.{since-append, back-append, onto-onto}
use Rattle.source_check.proofs.Noted.{by_bytes}
use Rattle.source_check.proofs.Over.{Knows, naming, Over, OverList, OverFirsts, OverBody, over_name, over_bracket, over_prefix, over_infix}
use Rattle.source_check.proofs.Over.{over_fetch, over_store}
use Rattle.source_check.proofs.Listed.{over_one, over_more, over_call, over_params, over_first_one, over_first_more}
use Rattle.source_check.proofs.Bodies.{over_give, over_chain, over_do, over_let, over_if}
use Rattle.source_check.proofs.Loops.{OverTurn, over_before, over_after, over_loop}

over_number : (item : Name → Option Entry) (p : Program) (at n : ℕ) → Over item p (Number at n)
over_number item p at n s d = refl

-- the least number is allowed only under `-`
over_least : (item : Name → Option Entry) (p : Program) (op : Unary) (e : Expr) → IsLeast op e → Over item p e
over_least item p Neg (Number at n) h = over_number item p at n
over_least item p op e h = absurd h

either : {A B C : Type 0} → (A → C) → (B → C) → A ⊎ B → C
either f g (inl x) = f x
either f g (inr y) = g y

mutual
  over : (item : Name → Option Entry) (p : Program) → Knows item p → (e : Expr) → Fits e → Over item p e
  over item p k (Number at n) f = over_number item p at n
  over item p k (Named at x) f = over_name item p at x
  over item p k (Bracket e) f = over_bracket item p e (over item p k e f)
  over item p k (Prefix at op e) f = over_prefix item p at op e (either (λ h. over item p k e h) (λ h. over_least item p op e h) f.1)
  over item p k (Infix at sign l r) f = over_infix item p at sign l r (over item p k l f.0) (over item p k r f.2)
  over item p k (Fetch at a e) f = over_fetch item p k at a e (over item p k e f)
  over item p k (Store at a e v) f = over_store item p k at a e v (over item p k e f.0) (over item p k v f.1)
  over item p k (Call at strict g es) f = over_call item p k at strict g es (over_list item p k es f)
  over item p k (If at q l r) f = over_if item p at q l r (over item p k q f.0) (over_body item p k l _ f.1) (over_body item p k r _ f.2)
  over item p k (Loop at bound firsts turn) f = over_loop item p at bound firsts turn (over_firsts item p k firsts f.1) f.2
      (over_turn item p k at bound.number turn f.3)

  over_list : (item : Name → Option Entry) (p : Program) → Knows item p → (es : Exprs) → FitsAll es → OverList item p es
  over_list item p k (One e) f = over_one item p e (over item p k e f)
  over_list item p k (More e es) f = over_more item p e es (over item p k e f.0) (over_list item p k es f.1)

  over_firsts : (item : Name → Option Entry) (p : Program) → Knows item p → (es : Exprs) → FitsAll es → OverFirsts item p es
  over_firsts item p k (One e) f = over_first_one item p k e (over item p k e f)
  over_firsts item p k (More e es) f = over_first_more item p k e es (over item p k e f.0) (over_firsts item p k es f.1)

  over_body : (item : Name → Option Entry) (p : Program) → Knows item p → (b : Body) → (behind_else : Bool) → FitsBody behind_else b → OverBody item p b
  over_body item p k (Let at targets es rest) t f = over_let item p k at targets es rest (over_list item p k es f.1) (over_body item p k rest _ f.2)
  over_body item p k (Do es rest) t f = over_do item p es rest (over_list item p k es f.0) (over_body item p k rest _ f.1)
  over_body item p k (Give es) t f = over_give item p es (over_list item p k es f)
  over_body item p k (Chain e) t f = over_chain item p e (over item p k e f.2)

  over_turn : (item : Name → Option Entry) (p : Program) → Knows item p → (at bound : ℕ) (turn : Turn) → FitsTurn turn → OverTurn item p at bound turn
  over_turn item p k at bound (Before xs q b) f = over_before item p at bound xs q b (over item p k q f.0) (over_body item p k b _ f.1)
  over_turn item p k at bound (After xs b q) f = over_after item p at bound xs b q (over_body item p k b _ f.0) (over item p k q f.1)

-- FUNCTIONS
abbrev result_at : ℕ → Option NumberAt → ℕ
result_at at None = at
result_at at (Some n) = n.at

over_results : (item : Name → Option Entry) (s : State Name) (at : ℕ) (results : Option NumberAt) (ws : List (Word Name))
    → steps (by_bytes item) (ended s 1 at) (result_words results ++ ws) ≡ steps (by_bytes item) (ended s (written_or_one results) (result_at at results)) ws
over_results item s at None ws = refl
over_results item s at (Some n) ws = refl

-- a function's body, with so many results
abbrev in_body : List Name → ℕ → ℕ → ℕ → State Name
in_body scope results at where_results = record begun {
  scope = scope;
  frames = frame.Body results at ∷ [];
  last = record {
    count = results;
    at =
        where_results;
  };
}

over_entry : (item : Name → Option Entry) (xs : List NameAt) (results m at from : ℕ) (ws : List (Word Name))
    → (body (record begun { pending = onto (bare xs) [] ++ []; last = record { count = results; at = from } }) at (Some (frame.Names 0 m)) >>= λ u. steps
    (by_bytes item) u ws)
    ≡ steps (by_bytes item) (in_body (bare xs) results at from) ws
over_entry item xs results m at from ws = rw (
  since-append (onto (bare xs) []) [],
  back-append (onto (bare xs) []) [],
  onto-onto
      (bare xs) [] [],
  append-nil (bare xs),
) refl

last_test : (b : Bool) (at : ℕ) (s : State Name) → ((must b Arity at >>= λ all. Ok s) >>= λ u. Ok u) ≡ mapped (λ (u : ⊤). s) (must b Arity at)
last_test true at s = refl
last_test false at s = refl

over_function : (item : Name → Option Entry) (p : Program) → Knows item p → (f : Function) → FitsBody false f.body
    → steps (by_bytes item) begun (item_words (Defines f)) ≡ mapped (λ (u : ⊤). begun) (function_checked p f)
over_function item p k f fits =
    let at : ℕ = f.name.at in
    let params : List (Word Name) = map (λ (x : NameAt). word.Parameter x.at x.name) f.params in
    let ending : List (Word Name) = word.EndFunction ∷ [] in
    let rest : List (Word Name) = word.Body f.body_at ∷ (body_words f.body ++ ending) in
    let results : ℕ = written_or_one f.results in
    let i0 : State Name = in_body (bare f.params) results f.body_at (result_at at f.results) in
    rw (append_assoc (params ++ result_words f.results) (word.Body f.body_at ∷ body_words f.body) ending, append_assoc params (result_words f.results) rest)
    (in_turn (step (by_bytes item)) (naming (ended begun 1 at) [] 0) params (result_words f.results ++ rest) (new_names p [] f.params) _ _ _
    (over_params item p k f.params (ended begun 1 at) [] 0)
    (λ u. over_results item (naming begun (onto (bare f.params) []) (0 + length f.params)) at f.results rest
    ∙ over_entry item f.params results (0 + length f.params) f.body_at (result_at at f.results) (body_words f.body ++ ending)
    ∙ in_turn (step (by_bytes item)) i0 (body_words f.body) ending (body_values p (bare f.params) f.body) _ _ _ (over_body item p k f.body false fits i0
    (record { scope = omega arith; used = omega arith }))
    (λ n. last_test (n == results) f.body_at begun)))

pub over_functions : (item : Name → Option Entry) (p : Program) → Knows item p → (items : List Item) → FitsProgram items
    → steps (by_bytes item) begun (program_words items) ≡ mapped (λ (u : ⊤). begun) (functions_checked p items)
over_functions item p k [] fits = refl
over_functions item p k (Cells x len ∷ items) fits = over_functions item p k items fits.1
over_functions item p k (Defines f ∷ items) fits = in_turn (step (by_bytes item)) begun (item_words (Defines f)) (program_words items)
    (function_checked p f) _ _ _ (over_function item p k f fits.0.2) (λ u. over_functions item p k items fits.1)
