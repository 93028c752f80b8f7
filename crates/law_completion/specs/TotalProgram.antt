-- WHAT A PROGRAM'S EVALUATION MAKES: its calls, and the iterations of its loops.
use Rattle.std.specs.Prelude.{ℕ, ◌+◌, ℤ, List}
use Rattle.tags.specs.declared.value.Value.{Value}
use Rattle.tags.specs.declared.value.Origin.{Origin}
use Rattle.semantics.specs.Meaning as Meaning
use Rattle.source.specs.Tree.{Expr, Exprs, Body, Turn, Program}
use Rattle.source.specs.Evaluates.{World, Env, Stores, Evaluates, EvaluatesAll, Runs, Turns, number, named, bracket, prefix, infix_}
use Rattle.source.specs.Evaluates.{fetch, store, call, if_true, if_false, loop, one, more, lets, does, gives, chain, leaves, goes, ends, again}
use Rattle.source.specs.Theorem.{Computes}

-- HOW MANY CALLS an evaluation makes, and how many iterations of loops. One that only tests counts, too.
pub record Count : Type 0 where
  pub calls : ℕ
  pub turns : ℕ

abbrev pub none : Count
none = record { calls = 0; turns = 0 }

abbrev pub a_call : Count → Count
a_call x = record { calls = x.calls + 1; turns = x.turns }

abbrev pub a_turn : Count → Count
a_turn x = record { calls = x.calls; turns = x.turns + 1 }

abbrev pub both : Count → Count → Count
both x y = record { calls = x.calls + y.calls; turns = x.turns + y.turns }

abbrev mutual
  pub counted : {w : World} {env : Env} {e : Expr} {vs : List Value} {ss : Stores} → Evaluates w env e vs ss → Count
  counted number = none
  counted (named b) = none
  counted (bracket d) = counted d
  counted (prefix d) = counted d
  counted (infix_ d c) = both (counted d) (counted c)
  counted (fetch d r) = counted d
  counted (store d c) = both (counted d) (counted c)
  counted (call d found c) = both (list_counted d) (a_call (body_counted c))
  counted (if_true d test c) = both (counted d) (body_counted c)
  counted (if_false d test c) = both (counted d) (body_counted c)
  counted (loop d c) = both (list_counted d) (turns_counted c)

  pub list_counted : {w : World} {env : Env} {es : Exprs} {vs : List Value} {ss : Stores} → EvaluatesAll w env es vs ss → Count
  list_counted (one d) = counted d
  list_counted (more d c) = both (counted d) (list_counted c)

  pub body_counted : {w : World} {env : Env} {b : Body} {vs : List Value} {ss : Stores} → Runs w env b vs ss → Count
  body_counted (lets d c) = both (list_counted d) (body_counted c)
  body_counted (does d c) = both (list_counted d) (body_counted c)
  body_counted (gives d) = list_counted d
  body_counted (chain d) = counted d

  pub turns_counted : {w : World} {env : Env} {t : Turn} {vs rs : List Value} {ss : Stores} → Turns w env t vs rs ss → Count
  turns_counted (leaves d test) = a_turn (counted d)
  turns_counted (goes d test c next) = both (a_turn (both (counted d) (body_counted c))) (turns_counted next)
  turns_counted (ends c d test) = a_turn (both (body_counted c) (counted d))
  turns_counted (again c d test next) = both (a_turn (both (body_counted c) (counted d))) (turns_counted next)

-- of main
abbrev pub count_of : (p : Program) (origin : ℕ → Origin) (inputs : List ℤ) (m : Meaning.Memory) → Computes p origin inputs m → Count
count_of p origin inputs m k = body_counted k.main.runs
