-- A RUN IN ORDER REACHES EACH PART: by induction on the evaluation.
use Rattle.std.proofs.Common.{List, ◌++◌}
use Rattle.tags.specs.declared.value.Value.{Value}
use Rattle.semantics.specs.Meaning.{Context}
use Rattle.source.specs.Tree.{Expr, Exprs, Body, Turn, Before, After}
use Rattle.source.specs.Evaluates as eval
use Rattle.source.specs.Evaluates.{Env, Stores, Evaluates, EvaluatesAll, Runs, number, named, bracket, prefix, infix_, fetch, store, call, if_true}
use Rattle.source.specs.Evaluates.{if_false, loop, one, more, lets, does, gives, chain, leaves, goes, ends, again}
use Rattle.law_ordered_runs.specs.InOrder.{touches, body_touches, turn_touches}
use Rattle.law_ordered_runs.proofs.Memory.{fills, body_fills, fills_both}
use Rattle.law_ordered_runs.proofs.Reaching.{Land, world_of, ExprReaches, ListReaches, BodyReaches}
use Rattle.law_ordered_runs.proofs.ReachingParts.{reaches_number, reaches_named, reaches_bracket, reaches_prefix, reaches_one, reaches_more, reaches_give}
use Rattle.law_ordered_runs.proofs.ReachingParts.{reaches_chain, reaches_do, reaches_let}
use Rattle.law_ordered_runs.proofs.ReachingCells.{reaches_infix, reaches_fetch, reaches_store}
use Rattle.law_ordered_runs.proofs.ReachingArms.{reaches_if_true, reaches_if_false}
use Rattle.law_ordered_runs.proofs.ReachingCalls.{reaches_call}
use Rattle.law_ordered_runs.proofs.ReachingTurns.{iterates_stays, iterates_moves, iterates_after}
use Rattle.law_ordered_runs.proofs.ReachingLoops.{Looping, LoopReaches, last_reached, more_reached, reaches_loop}

module _ (z : Land) where
  mutual
    expr : {env : Env} {e : Expr} {vs : List Value} {ss : Stores} (d : Evaluates (world_of z) env e vs ss) (c : Context) → ExprReaches z c d
    expr {env = env} number c = reaches_number z c {env = env} number
    expr (named b) c = reaches_named z c (named b)
    expr (bracket d) c = reaches_bracket z c d (expr d c)
    expr (prefix {t = t} {op = op} {e = e} d) c = reaches_prefix z c t op e d (expr d c)
    expr (infix_ {t = t} {sign = sign} {l = l} {r = r} d g) c = reaches_infix z c t sign l r d g (expr d c) (expr g c)
    expr (fetch {t = t} {a = a} {e = e} {v = v} d r) c = reaches_fetch z c v t a e d r (expr d c)
    expr (store {t = t} {a = a} {e = e} {d = f} d g) c = reaches_store z c t a e f d g (expr d c) (expr g c)
    expr (call {t = t} {strict = strict} {f = f} {es = es} {g = h} d found g) c =
        reaches_call z c t strict f es h d found g (list d c) (λ c. body g c)
    expr (if_true {t = t} {p = p} {l = l} {r = r} d e g) c = reaches_if_true z c t p l r d e g (expr d c) (body g c)
    expr (if_false {t = t} {p = p} {l = l} {r = r} d e g) c = reaches_if_false z c t p l r d e g (expr d c) (body g c)
    expr (loop {t = t} {k = k} {firsts = firsts} {turn = turn} d g) c = reaches_loop z c t k firsts turn d g (list d c) (λ l. turns g c l)

    list : {env : Env} {es : Exprs} {vs : List Value} {ss : Stores} (d : EvaluatesAll (world_of z) env es vs ss) (c : Context) → ListReaches z c d
    list (one d) c = reaches_one z c d (expr d c)
    list (more {e = e} {es = es} d g) c = reaches_more z c e es d g (expr d c) (list g c)

    pub body : {env : Env} {b : Body} {vs : List Value} {ss : Stores} (d : Runs (world_of z) env b vs ss) (c : Context) → BodyReaches z c d
    body (lets {t = t} {targets = targets} {es = es} {rest = rest} d g) c = reaches_let z c t targets es rest d g (list d c) (body g c)
    body (does {es = es} {rest = rest} d g) c = reaches_do z c es rest d g (list d c) (body g c)
    body (gives d) c = reaches_give z c d (list d c)
    body (chain d) c = reaches_chain z c d (expr d c)

    turns : {env : Env} {turn : Turn} {us rs : List Value} {qs : Stores} (d : eval.Turns (world_of z) env turn us rs qs) (c : Context)
        (l : Looping z c turn env) → LoopReaches z c turn env l us rs qs (turn_touches d)
    turns (leaves {env = env} {xs = xs} {p = q} {body = b} {b = v} {vs = vs} {ss = ss} d t) c l =
        last_reached z c (Before xs q b) env l v vs vs ss (touches d) (λ e. iterates_stays z e xs q b env vs d t (expr d e)) t
    turns (goes {env = env} {xs = xs} {p = q} {body = b} {b = v} {vs = vs} {us = us} {rs = rs} {ss = ss} {ts = ts} {qs = qs} d t g next) c l =
        more_reached z c (Before xs q b) env l v vs us rs (ss ++ ts) qs (touches d ++ body_touches g) (turn_touches next)
        (λ e. iterates_moves z e xs q b env vs d t g (expr d e) (body g e)) t (fills_both (touches d) (body_touches g) ss ts (fills d) (body_fills g))
        (turns next c l)
    turns (ends {env = env} {xs = xs} {p = q} {body = b} {b = v} {vs = vs} {us = us} {ts = ts} {ss = ss} g d t) c l =
        last_reached z c (After xs b q) env l v vs us (ts ++ ss) (body_touches g ++ touches d)
        (λ e. iterates_after z e env vs us xs b q g d (body g e) (expr d e)) t
    turns (again {env = env} {xs = xs} {p = q} {body = b} {b = v} {vs = vs} {us = us} {rs = rs} {ts = ts} {ss = ss} {qs = qs} g d t next) c l =
        more_reached z c (After xs b q) env l v vs us rs (ts ++ ss) qs (body_touches g ++ touches d) (turn_touches next)
        (λ e. iterates_after z e env vs us xs b q g d (body g e) (expr d e)) t (fills_both (body_touches g) (touches d) ts ss (body_fills g) (fills d))
        (turns next c l)
