-- WHAT IS SHOWN OF EACH PART: where it is active, and its names agree, the invocations that are made at its nodes are as many as each evaluation of it
-- counts.
use Rattle.std.proofs.Common.{◌≡◌, ℕ, ◌+◌, Bool, List, length, Ok}
use Rattle.tags.specs.declared.value.Value.{Value}
use Rattle.semantics.specs.Meaning.{Context}
use Rattle.source.specs.Tree.{Name, Expr, Exprs, Body}
use Rattle.source.specs.Fits.{Fits, FitsAll, FitsBody}
use Rattle.source.specs.Outside.{uses, list_uses, body_uses}
use Rattle.source.specs.Rules.{values, list_values, body_values}
use Rattle.source.specs.Evaluates.{Env, Stores, Evaluates, EvaluatesAll, Runs}
use Rattle.source.specs.Lowered.{Lowered, Site, Spot, Scope, lower, lower_list, lower_body}
use Rattle.law_completion.specs.TotalProgram.{Count, counted, list_counted, body_counted}
use Rattle.law_language.proofs.MeansScene.{Scene, world_of, KnownIn, ActiveIn}
use Rattle.law_program_counts.proofs.Lists.{Lists}

abbrev pub ListsOf : Scene → Context → Spot → Lowered → Count → Type 0
ListsOf z c spot l x = Lists z c spot.next (spot.next + length l.nodes) x

abbrev pub ExprCounts : (z : Scene) (c : Context) {env : Env} {e : Expr} {vs : List Value} {ss : Stores} → Evaluates (world_of z) env e vs ss → Type 0
ExprCounts z c {env = env} {e = e} d = (site : Site) (spot : Spot) (scope : Scope) (names : List Name) (n : ℕ)
    → Fits e → values z.program names e ≡ Ok n
    → ActiveIn z c site spot (lower z.program site spot scope e) → KnownIn z c scope env (uses e)
    → ListsOf z c spot (lower z.program site spot scope e) (counted d)

abbrev pub ListCounts : (z : Scene) (c : Context) {env : Env} {es : Exprs} {vs : List Value} {ss : Stores} → EvaluatesAll (world_of z) env es vs ss → Type 0
ListCounts z c {env = env} {es = es} d = (site : Site) (spot : Spot) (scope : Scope) (names : List Name) (n : ℕ)
    → FitsAll es → list_values z.program names es ≡ Ok n
    → ActiveIn z c site spot (lower_list z.program site spot scope es) → KnownIn z c scope env (list_uses es)
    → ListsOf z c spot (lower_list z.program site spot scope es) (list_counted d)

abbrev pub BodyCounts : (z : Scene) (c : Context) {env : Env} {body : Body} {vs : List Value} {ss : Stores} → Runs (world_of z) env body vs ss → Type 0
BodyCounts z c {env = env} {body = body} d = (site : Site) (spot : Spot) (scope : Scope) (names : List Name) (n : ℕ) (behind_else : Bool)
    → FitsBody behind_else body → body_values z.program names body ≡ Ok n
    → ActiveIn z c site spot (lower_body z.program site spot scope body) → KnownIn z c scope env (body_uses body)
    → ListsOf z c spot (lower_body z.program site spot scope body) (body_counted d)
