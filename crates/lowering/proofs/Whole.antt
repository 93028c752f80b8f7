-- The machine on whole programs: over the words of a program, with its plans, it makes the program's blocks.
use Rattle.std.proofs.Common.{◌≡◌, false, List, [], ◌∷◌, ◌++◌, Option, None, Some, length, map, refl, sym, ◌∙◌, ap, arith, append_assoc, append-nil}
use Rattle.source.specs.declared.word.Word.TheVariants as word
use Rattle.source.specs.Tree.{Name, NameAt, NumberAt, Expr, Number, Named, Bracket, Prefix, Infix, Fetch, Store, Call, If, Loop, Exprs, One, More}
use Rattle.source.specs.Tree.{Body, Let, Do, Give, Chain, Turn, Before, After, Function, Item, Cells, Defines, Program, names_of}
use Rattle.source.specs.Words.{Words, body_words, item_words, program_words, result_words}
use Rattle.source.specs.Fits.{count}
use Rattle.source.specs.Lowered.{MadeBlock, function_blocks, function_scope, turn_site}
use Rattle.lowering.specs.Counts.{Counted, ListCounted, BodyCounted, TurnCounted, ItemsCounted}
use Rattle.lowering.specs.Plans.{Plan, body_plans, program_plans}
use Rattle.lowering.specs.State.{State, Frame, Header}
use Rattle.lowering.specs.Functions.{between, of_function}
use Rattle.lowering.specs.Machine.{run}
use Rattle.lowering.specs.Blocks.{named_blocks}
use Rattle.lowering.proofs.Algebra.{and_then, both_plans}
use Rattle.lowering.proofs.Says.{Says, SaysAll, SaysBody, SaysFirsts}
use Rattle.lowering.proofs.Operators.{number_says, name_says, bracket_says, prefix_says, fetch_says, infix_says, store_says}
use Rattle.lowering.proofs.ListsSaid.{one_says, more_says, call_says, do_says, give_says, chain_says, let_says, one_first_says, more_first_says}
use Rattle.lowering.proofs.ArmsSaid.{if_says}
use Rattle.lowering.proofs.TurnsSaid.{SaysTurn, before_says, after_says, loop_says}

mutual
  pub says : (p : Program) (e : Expr) → Counted p e → Says p e
  says p (Number at n) c = number_says p at n
  says p (Named at x) c = name_says p at x
  says p (Bracket e) c = bracket_says p e (says p e c)
  says p (Prefix at op e) c = prefix_says p at op e (says p e c.0) c.0 c.1
  says p (Infix at s l r) c = infix_says p at s l r (says p l c.0) c.0 c.1 (says p r c.2) c.2 c.3
  says p (Fetch at a e) c = fetch_says p at a e (says p e c.0) c.0 c.1
  says p (Store at a e d) c = store_says p at a e d (says p e c.0) c.0 c.1 (says p d c.2) c.2 c.3
  says p (Call at strict f es) c = call_says p at strict f es (says_all p es c)
  says p (If at q l r) c = if_says p at q l r (says p q c.0) c.0 c.1 (says_body p l c.2) (says_body p r c.3)
  says p (Loop at bound firsts turn) c = loop_says p at bound firsts turn (says_firsts p (names_of turn) firsts c.0 c.1) (says_turn p turn c.2)

  pub says_all : (p : Program) (es : Exprs) → ListCounted p es → SaysAll p es
  says_all p (One e) c = one_says p e (says p e c)
  says_all p (More e es) c = more_says p e es (says p e c.0) (says_all p es c.1)

  pub says_firsts : (p : Program) (xs : List NameAt) (es : Exprs) → ListCounted p es → count es ≡ length xs → SaysFirsts p xs es
  says_firsts p [] (One e) c same = cc
  says_firsts p (x ∷ []) (One e) c same = one_first_says p x e (says p e c)
  says_firsts p (x ∷ y ∷ xs) (One e) c same = cc
  says_firsts p [] (More e es) c same = cc
  says_firsts p (x ∷ xs) (More e es) c same = more_first_says p x xs e es (says p e c.0) (says_firsts p xs es c.1 (omega arith))

  pub says_body : (p : Program) (b : Body) → BodyCounted p b → SaysBody p b
  says_body p (Let at targets es rest) c = let_says p at targets es rest (says_all p es c.0) (says_body p rest c.1)
  says_body p (Do es rest) c = do_says p es rest (says_all p es c.0) (says_body p rest c.1)
  says_body p (Give es) c = give_says p es (says_all p es c)
  says_body p (Chain e) c = chain_says p e (says p e c)

  pub says_turn : (p : Program) (turn : Turn) → TurnCounted p turn → SaysTurn p turn
  says_turn p (Before xs q body) c = before_says p xs q body (says p q c.0) c.0 c.1 (says_body p body c.2)
  says_turn p (After xs body q) c = after_says p xs q body (says p q c.0) (says_body p body c.2)

-- the parameters of a function
params_say : (p : Program) (s : State) (f : NameAt) (params xs : List NameAt) (fs : List Frame)
    → run p (record s { frames = Header f params ∷ fs; number = false }) (map (λ (x : NameAt). word.Parameter x.at x.name) xs)
    ≡ record s { frames = Header f (params ++ xs) ∷ fs; number = false }
params_say p s f params [] fs = ap (λ (ys : List NameAt). record s { frames = Header f ys ∷ fs; number = false }) (sym (append-nil params))
params_say p s f params (x ∷ xs) fs = params_say p s f (params ++ x ∷ []) xs fs
    ∙ ap (λ (ys : List NameAt). record s { frames = Header f ys ∷ fs; number = false }) (append_assoc params (x ∷ []) xs)

results_say : (p : Program) (s : State) (r : Option NumberAt) → run p (record s { number = false }) (result_words r) ≡ record s { number = false }
results_say p s None = refl
results_say p s (Some n) = refl

function_says : (p : Program) (f : Function) (ps : List Plan) (done : List (Name × MadeBlock)) → BodyCounted p f.body
    → run p (between (body_plans f.body ++ ps) done) (item_words (Defines f)) ≡ between ps (done ++ of_function f.name.name (function_blocks p f))
function_says p f ps done c =
    let start : State = between (body_plans f.body ++ ps) done in
    let s : State = record start { frames = Header f.name f.params ∷ [] } in
    let t : State = record s {
      site = turn_site f.name.name;
      spot = record { next = length f.params; loops = 0 };
      scope = function_scope f;
    } in
    let body = says_body p f.body c t ps in
    let head : Words = word.Function f.name.at f.name.name ∷ map (λ (x : NameAt). word.Parameter x.at x.name) f.params in
    and_then p start _ _ (head ++ result_words f.results ++ word.Body f.body_at ∷ body_words f.body) (word.EndFunction ∷ [])
    (and_then p start s _ (head ++ result_words f.results) (word.Body f.body_at ∷ body_words f.body)
    (and_then p start s s head (result_words f.results) (params_say p start f.name [] f.params []) (results_say p s f.results))
    body.1)
    refl

pub items_say : (p : Program) (items : List Item) (ps : List Plan) (done : List (Name × MadeBlock)) → ItemsCounted p items
    → run p (between (program_plans items ++ ps) done) (program_words items) ≡ between ps (done ++ named_blocks p items)
items_say p [] ps done c = ap (between ps) (sym (append-nil done))
items_say p (Cells x len ∷ items) ps done c = items_say p items ps done c
items_say p (Defines f ∷ items) ps done c =
    both_plans p (between [] done) _ (body_plans f.body) (program_plans items) ps (program_words (Defines f ∷ items))
    (and_then p (between (body_plans f.body ++ (program_plans items ++ ps)) done) _ _ (item_words (Defines f)) (program_words items)
    (function_says p f (program_plans items ++ ps) done c.0)
    (items_say p items ps (done ++ of_function f.name.name (function_blocks p f)) c.1)
    ∙ ap (between ps) (append_assoc done (of_function f.name.name (function_blocks p f)) (named_blocks p items)))
