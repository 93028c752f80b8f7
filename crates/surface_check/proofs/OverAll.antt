-- All trees that fit the grammar.
use Rattle.std.specs.Prelude.{◌⊎◌, Bool, true, false}
use Rattle.std.proofs.Common.{inl, inr}
use Rattle.operators.specs.declared.Unary.{Unary}
use Rattle.operators.specs.declared.Unary.TheVariants as unary
use Rattle.surface.specs.Tree.{Expr, Number, Named, Bracket, Prefix, Infix, And, Or, Not, Fetch, Store, Call, If, Loop, For}
use Rattle.surface.specs.Tree.{Exprs, One, More, Body, Let, Do, When, Give, Chain, Tests, Last, Else, Turn, Before, After, Carried, Nothing, With}
use Rattle.surface.specs.Fits.{IsLeast, Fits, FitsAll, FitsBody, FitsTests, FitsTurn, FitsCarried}
use Rattle.surface_check.proofs.Over.{Setting, Over, over_number, over_name, over_bracket, over_prefix, over_infix, over_and, over_or, over_not}
use Rattle.surface_check.proofs.OverLists.{OverList, OverIndexes, over_one, over_more, over_last_index, over_next_index, over_fetch, over_store}
use Rattle.surface_check.proofs.OverBodies.{OverBody, OverTests, over_give, over_chain, over_do, over_when, over_last, over_else, over_if}
use Rattle.surface_check.proofs.OverLets.{over_let}
use Rattle.surface_check.proofs.OverArguments.{OverArguments, over_one_argument, over_more_arguments}
use Rattle.surface_check.proofs.OverWholeCalls.{over_call}
use Rattle.surface_check.proofs.OverMeasured.{over_len}
use Rattle.surface_check.proofs.OverLoops.{OverFirsts, OverTurn, over_one_first, over_more_firsts, over_before, over_after, over_loop}
use Rattle.surface_check.proofs.OverFors.{AsMany, OverCarried, over_nothing, over_with, over_for}

either : {A B C : Type 0} → (A → C) → (B → C) → A ⊎ B → C
either f g (inl x) = f x
either f g (inr y) = g y

over_least : (g : Setting) (op : Unary) (e : Expr) → IsLeast op e → Over g e
over_least g unary.Neg (Number at n) h = over_number g at n
over_least g op e h = absurd h

many : (carried : Carried) → FitsCarried carried → AsMany carried
many Nothing f = tt
many (With xs firsts) f = f.1

mutual
  pub over : (g : Setting) (e : Expr) → Fits e → Over g e
  over g (Number at n) f = over_number g at n
  over g (Named at x) f = over_name g at x
  over g (Bracket e) f = over_bracket g e (over g e f)
  over g (Prefix at op e) f = over_prefix g at op e (either (λ h. over g e h) (λ h. over_least g op e h) f.1)
  over g (Infix at sign l r) f = over_infix g at sign l r (over g l f.0) (over g r f.2)
  over g (And at l r) f = over_and g at l r (over g l f.0) (over g r f.2)
  over g (Or at l r) f = over_or g at l r (over g l f.0) (over g r f.2)
  over g (Not at e) f = over_not g at e (over g e f.0)
  over g (Fetch at x es) f = over_fetch g at x es (over_indexes g es f)
  over g (Store at x es v) f = over_store g at x es v (over_indexes g es f.0) (over g v f.1)
  over g (Call at strict h es) f = over_call g at strict h es (over_list g es f) (over_arguments g es f) (over_len g es f)
  over g (If at q l r) f = over_if g at q l r (over g q f.0) (over_body g l false f.1) (over_body g r true f.2)
  over g (Loop at bound firsts turn) f = over_loop g at bound firsts turn (over_firsts g firsts f.1) f.2 (over_turn g turn f.3)
  over g (For at bound i first end carried body) f = over_for g at bound i first end carried body (over g first f.1) (over g end f.2) (over_carried g carried f.3)
      (many carried f.3) (over_body g body false f.4)

  pub over_list : (g : Setting) (es : Exprs) → FitsAll es → OverList g es
  over_list g (One e) f = over_one g e (over g e f)
  over_list g (More e es) f = over_more g e es (over g e f.0) (over_list g es f.1)

  over_indexes : (g : Setting) (es : Exprs) → FitsAll es → OverIndexes g es
  over_indexes g (One e) f = over_last_index g e (over g e f)
  over_indexes g (More e es) f = over_next_index g e es (over g e f.0) (over_indexes g es f.1)

  over_arguments : (g : Setting) (es : Exprs) → FitsAll es → OverArguments g es
  over_arguments g (One e) f = over_one_argument g e (over g e f)
  over_arguments g (More e es) f = over_more_arguments g e es (over g e f.0) (over_arguments g es f.1)

  over_firsts : (g : Setting) (es : Exprs) → FitsAll es → OverFirsts g es
  over_firsts g (One e) f = over_one_first g e (over g e f)
  over_firsts g (More e es) f = over_more_firsts g e es (over g e f.0) (over_firsts g es f.1)

  over_carried : (g : Setting) (carried : Carried) → FitsCarried carried → OverCarried g carried
  over_carried g Nothing f = over_nothing g
  over_carried g (With xs firsts) f = over_with g xs firsts (over_firsts g firsts f.0) f.1

  pub over_body : (g : Setting) (b : Body) (behind_else : Bool) → FitsBody behind_else b → OverBody g b
  over_body g (Let at targets es rest) behind f = over_let g at targets es rest (over_list g es f.1) (over_body g rest false f.2)
  over_body g (Do es rest) behind f = over_do g es rest (over_list g es f.0) (over_body g rest false f.1)
  over_body g (When tests rest) behind f = over_when g tests rest (over_tests g tests f.0) (over_body g rest false f.1)
  over_body g (Give es) behind f = over_give g es (over_list g es f)
  over_body g (Chain e) behind f = over_chain g e (over g e f.2)

  over_tests : (g : Setting) (tests : Tests) → FitsTests tests → OverTests g tests
  over_tests g (Last at q arm) f = over_last g at q arm (over g q f.0) (over_body g arm false f.1)
  over_tests g (Else at q arm more) f = over_else g at q arm more (over g q f.0) (over_body g arm false f.1) (over_tests g more f.2)

  over_turn : (g : Setting) (turn : Turn) → FitsTurn turn → OverTurn g turn
  over_turn g (Before xs q body) f = over_before g xs q body (over g q f.0) (over_body g body false f.1)
  over_turn g (After xs body q) f = over_after g xs body q (over_body g body false f.0) (over g q f.1)
