-- EACH PART MEANS WHAT IT IS LOWERED TO: by induction on how much deeper an invocation can lie, and then on the part.
use Rattle.std.proofs.Common.{ℕ, zero, suc, ◌+◌, ◌<◌, ◌≤◌, length, arith}
use Rattle.semantics.specs.Meaning.{Context}
use Rattle.law_confluence.specs.EquationsContexts.{depth}
use Rattle.law_confluence.proofs.Equations.{runs_at_rest, store_indexes, due_shallow}
use Rattle.source.specs.Tree.{Expr, Number, Named, Bracket, Prefix, Infix, Fetch, Store, Call, If, Loop, Exprs, One, More, Body, Let, Do, Give, Chain, Turn}
use Rattle.source.specs.Tree.{Before, After}
use Rattle.law_language.specs.Means.{MeansStep}
use Rattle.law_language.specs.MeansTheorem.{PartsFromPlaces}
use Rattle.law_language.proofs.MeansMainActive.{graph_is, each_function_good}
use Rattle.law_language.proofs.MeansLeaves.{means_number, means_named, means_bracket}
use Rattle.law_language.proofs.MeansOperators.{means_prefix, means_infix}
use Rattle.law_language.proofs.MeansCells.{two, means_fetch}
use Rattle.law_language.proofs.MeansStore.{means_store}
use Rattle.law_language.proofs.MeansBodies.{means_one, means_more, means_let, means_do, means_give, means_chain}
use Rattle.law_language.proofs.MeansCalls.{means_call}
use Rattle.law_language.proofs.MeansIf.{means_if}
use Rattle.law_language.proofs.MeansTurn.{means_before, means_after}
use Rattle.law_language.proofs.MeansLoop.{means_loop}
use Rattle.law_language.proofs.MeansScene.{Scene, DueIn, ExprIn, ListIn, BodyIn, TurnIn, AllIn}

-- IN ONE INVOCATION, from those that lie deeper
module _ (z : Scene) (c : Context) (deeper : (d : Context) → depth c < depth d → AllIn z d) where
  mutual
    expr : (e : Expr) → ExprIn z c e
    expr (Number at n) = means_number z.program z.graph z.origin z.inputs z.run z.state z.is_run z.settled c at n
    expr (Named at x) = means_named z.program z.graph z.origin z.inputs z.run z.state z.is_run z.settled c at x
    expr (Bracket e) = means_bracket z.program z.graph z.origin z.inputs z.run z.state z.is_run z.settled c e (expr e)
    expr (Prefix at op e) =
        means_prefix z.program z.graph z.origin z.inputs z.run z.state z.is_run z.settled (two z.program z.graph z.origin z.inputs z.run z.state z.is_run
        z.settled z.is_graph c) c at op e (expr e)
    expr (Infix at sign l r) =
        means_infix z.program z.graph z.origin z.inputs z.run z.state z.is_run z.settled (two z.program z.graph z.origin z.inputs z.run z.state z.is_run
        z.settled z.is_graph c) c at sign l r (expr l) (expr r)
    expr (Fetch at a e) = means_fetch z.program z.graph z.origin z.inputs z.run z.state z.is_run z.settled z.is_graph c at a e (expr e)
    expr (Store at a e d) = means_store z.program z.graph z.origin z.inputs z.run z.state z.is_run z.settled z.is_graph c (z.indexes c) at a e d (expr e)
        (expr d)
    expr (Call at strict f es) = means_call z c at strict f es deeper (list es)
    expr (If at q l r) = means_if z c at q l r (expr q) (body l) (body r)
    expr (Loop at bound firsts turn) = means_loop z c at bound firsts turn deeper (list firsts)

    list : (es : Exprs) → ListIn z c es
    list (One e) = means_one z.program z.graph z.origin z.inputs z.run z.state z.is_run c e (expr e)
    list (More e es) = means_more z.program z.graph z.origin z.inputs z.run z.state z.is_run c e es (expr e) (list es)

    body : (b : Body) → BodyIn z c b
    body (Let at targets es rest) = means_let z.program z.graph z.origin z.inputs z.run z.state z.is_run c at targets es rest (list es) (body rest)
    body (Do es rest) = means_do z.program z.graph z.origin z.inputs z.run z.state z.is_run c es rest (list es) (body rest)
    body (Give es) = means_give z.program z.graph z.origin z.inputs z.run z.state z.is_run c es (list es)
    body (Chain e) = means_chain z.program z.graph z.origin z.inputs z.run z.state z.is_run c e (expr e)

  turn_in : (turn : Turn) → TurnIn z c turn
  turn_in (Before xs q b) = means_before z c xs q b (expr q) (body b)
  turn_in (After xs b q) = means_after z c xs b q (body b) (expr q)

  all_of : AllIn z c
  all_of = record { expr = λ e. expr e; list = λ es. list es; body = λ b. body b; turn = λ turn. turn_in turn }

means_step : (z : Scene) → MeansStep z.program z.graph z.origin z.inputs z.run z.state z.is_run
means_step z c deeper = all_of z c deeper

-- In an invocation that is not due nothing is active.
none_stands : (z : Scene) (c : Context) → (DueIn z c → ⊥) → AllIn z c
none_stands z c none = record {
  expr = λ e site spot scope env names n fits rule h known. absurd (none h.due);
  list = λ es site spot scope env names n fits rule h known. absurd (none h.due);
  body = λ b site spot scope env names n behind_else fits rule h known. absurd (none h.due);
  turn = λ turn f spot at scope env names vs some fits rule h have known. absurd (none h.due);
}

-- IN EACH, since none that is due lies deeper than the run is long
all_from : (z : Scene) → ((c : Context) → DueIn z c → depth c ≤ length z.run) → (k : ℕ) (c : Context) → length z.run < depth c + k → AllIn z c
all_from z shallow zero c far = none_stands z c (λ due. let low = shallow c due in absurd (omega (arith, low, far)))
all_from z shallow (suc k) c far = means_step z c (λ d low. all_from z shallow k d (omega (arith, low, far)))

pub parts_from_places : PartsFromPlaces
parts_from_places placed p g origin low well inputs count run s r rests quiet none c =
    let z : Scene =
    record {
      program = p;
      graph = g;
      origin = origin;
      inputs = inputs;
      run = run;
      state = s;
      is_run = r;
      settled = runs_at_rest g inputs well count run s r rests quiet none;
      is_graph = graph_is p g low.lowered.graph;
      well = well;
      indexes = λ c n a line x el ek ex w h ec en. store_indexes g inputs well count run s r rests quiet none c n line a x el ek ex w h ec en;
      good = each_function_good p low.lowered.good;
      placed = λ f h e. placed p g origin low well f h e;
    } in
    all_from z (λ c due. due_shallow g inputs well count run s r rests quiet none c due) (suc (length run)) c (omega arith)
