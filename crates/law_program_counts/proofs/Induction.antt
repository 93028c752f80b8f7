-- EACH EVALUATION COUNTS THE INVOCATIONS of its part: by induction on the evaluation.
use Rattle.std.proofs.Common.{List}
use Rattle.tags.specs.declared.value.Value.{Value}
use Rattle.semantics.specs.Meaning.{Context}
use Rattle.source.specs.Tree.{Expr, Exprs, Body, Turn}
use Rattle.source.specs.Evaluates.{Env, Stores, Evaluates, EvaluatesAll, Runs, Turns, number, named, bracket, prefix, infix_, fetch, store, call, if_true}
use Rattle.source.specs.Evaluates.{if_false, loop, one, more, lets, does, gives, chain, leaves, goes, ends, again}
use Rattle.source.specs.Once.{OneAnswer}
use Rattle.law_language.proofs.MeansScene.{Scene, world_of, AllIn}
use Rattle.law_program_counts.proofs.Parts.{ExprCounts, ListCounts, BodyCounts}
use Rattle.law_program_counts.proofs.Operators.{counts_number, counts_named, counts_bracket, counts_prefix, counts_infix, counts_fetch, counts_store}
use Rattle.law_program_counts.proofs.Bodies.{counts_one, counts_more, counts_give, counts_chain, counts_do, counts_let}
use Rattle.law_program_counts.proofs.Calls.{counts_call}
use Rattle.law_program_counts.proofs.Conditionals.{counts_if_true, counts_if_false}
use Rattle.law_program_counts.proofs.Loops.{Looping, TurnsCount, counts_leaves, counts_goes, counts_ends, counts_again, counts_loop}

module _ (z : Scene) (one_answer : OneAnswer) (all : (c : Context) → AllIn z c) where
  mutual
    expr : {env : Env} {e : Expr} {vs : List Value} {ss : Stores} (d : Evaluates (world_of z) env e vs ss) (c : Context) → ExprCounts z c d
    expr {env = env} number c = counts_number z c {env = env} number
    expr (named b) c = counts_named z c (named b)
    expr (bracket d) c = counts_bracket z c d (expr d c)
    expr (prefix {t = t} {op = op} {e = e} d) c = counts_prefix z c t op e d (expr d c)
    expr (infix_ {t = t} {sign = sign} {l = l} {r = r} d g) c = counts_infix z c t sign l r d g (expr d c) (expr g c)
    expr (fetch {t = t} {a = a} {e = e} {v = v} d r) c = counts_fetch z c v t a e d r (expr d c)
    expr (store {t = t} {a = a} {e = e} {d = f} d g) c = counts_store z c t a e f d g (expr d c) (expr g c)
    expr (call {t = t} {strict = strict} {f = f} {es = es} {g = h} d found g) c =
        counts_call z c one_answer (all c) t strict f es h d found g (list d c) (λ c. body g c)
    expr (if_true {t = t} {p = p} {l = l} {r = r} d e g) c = counts_if_true z c one_answer (all c) t p l r d e g (expr d c) (body g c)
    expr (if_false {t = t} {p = p} {l = l} {r = r} d e g) c = counts_if_false z c one_answer (all c) t p l r d e g (expr d c) (body g c)
    expr (loop {env = env} {t = t} {k = k} {firsts = firsts} {turn = turn} {vs = vs} d g) c =
        counts_loop z c one_answer all t k firsts turn d g (list d c) (λ l. turns g c vs l)

    list : {env : Env} {es : Exprs} {vs : List Value} {ss : Stores} (d : EvaluatesAll (world_of z) env es vs ss) (c : Context) → ListCounts z c d
    list (one d) c = counts_one z c d (expr d c)
    list (more {e = e} {es = es} d g) c = counts_more z c e es d g (expr d c) (list g c)

    pub body : {env : Env} {b : Body} {vs : List Value} {ss : Stores} (d : Runs (world_of z) env b vs ss) (c : Context) → BodyCounts z c d
    body (lets {t = t} {targets = targets} {es = es} {rest = rest} d g) c = counts_let z c one_answer (all c) t targets es rest d g (list d c) (body g c)
    body (does {es = es} {rest = rest} d g) c = counts_do z c es rest d g (list d c) (body g c)
    body (gives d) c = counts_give z c d (list d c)
    body (chain d) c = counts_chain z c d (expr d c)

    turns : {env : Env} {turn : Turn} {us rs : List Value} {qs : Stores} (d : Turns (world_of z) env turn us rs qs) (c : Context)
        (firsts : List Value) (l : Looping z c turn env firsts) → TurnsCount z c turn env firsts l all d
    turns (leaves {env = env} {xs = xs} {p = q} {body = b} {vs = us} d t) c firsts l = counts_leaves z c one_answer all env firsts xs q b l us d t (λ c. expr d c)
    turns (goes {env = env} {xs = xs} {p = q} {body = b} {vs = us} d t g next) c firsts l =
        counts_goes z c one_answer all env firsts xs q b l us d t g next (λ c. expr d c) (λ c. body g c) (turns next c firsts l)
    turns (ends {env = env} {xs = xs} {p = q} {body = b} {vs = us} g d t) c firsts l =
        counts_ends z c one_answer all env firsts xs q b l us g d t (λ c. body g c) (λ c. expr d c)
    turns (again {env = env} {xs = xs} {p = q} {body = b} {vs = us} g d t next) c firsts l =
        counts_again z c one_answer all env firsts xs q b l us g d t next (λ c. body g c) (λ c. expr d c) (turns next c firsts l)
