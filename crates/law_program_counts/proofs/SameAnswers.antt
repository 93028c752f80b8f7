-- A list and a body have one answer each, as an expression has; and what a part is evaluated to are the values of its sources.
use Rattle.std.proofs.Common.{◌≡◌, Bool, true, false, List, refl}
use Rattle.tags.specs.declared.value.Value.{Value}
use Rattle.tags.specs.declared.value.Value.TheVariants.{Int}
use Rattle.operators.specs.Values.{truth}
use Rattle.source.specs.Tree.{Expr, Number, If, Exprs, Body, Give}
use Rattle.source.specs.Evaluates.{World, Env, Stores, Evaluates, EvaluatesAll, Runs, number, if_true, if_false, gives, signed}
use Rattle.source.specs.Once.{OneAnswer}

pub same_values : OneAnswer → (w : World) (env : Env) (e : Expr) (vs us : List Value) (ss qs : Stores) → Evaluates w env e vs ss → Evaluates w env e us qs → vs ≡ us
same_values one w env e vs us ss qs d c = (one w env e vs us ss qs d c).0

-- a body is the arm of a conditional
pub same_results : OneAnswer → (w : World) (env : Env) (b : Body) (vs us : List Value) (ss qs : Stores) → Runs w env b vs ss → Runs w env b us qs → vs ≡ us
same_results one w env b vs us ss qs d c = go (truth (Int (signed 0))) refl
  where
    go : (t : Bool) → truth (Int (signed 0)) ≡ t → vs ≡ us
    go true e = same_values one w env (If 0 (Number 0 0) b b) vs us _ _ (if_true (number {t = 0} {n = 0}) e d) (if_true (number {t = 0} {n = 0}) e c)
    go false e = same_values one w env (If 0 (Number 0 0) b b) vs us _ _ (if_false (number {t = 0} {n = 0}) e d) (if_false (number {t = 0} {n = 0}) e c)

-- and a list is what a body gives
pub same_list : OneAnswer → (w : World) (env : Env) (es : Exprs) (vs us : List Value) (ss qs : Stores) → EvaluatesAll w env es vs ss → EvaluatesAll w env es us qs
    → vs ≡ us
same_list one w env es vs us ss qs d c = same_results one w env (Give es) vs us ss qs (gives d) (gives c)
